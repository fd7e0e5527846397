-- Laws that the proofs of a rim use.
pub mod TurningBack
pub mod Tracing
pub mod Writing
pub mod Finding
