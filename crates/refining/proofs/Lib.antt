-- Laws that the proofs of refines use.
pub mod Refusing
pub mod Telling
pub mod Locking
pub mod Batching
pub mod Fitting
