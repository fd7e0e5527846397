-- Laws that the proofs of soundness use.
pub mod Answers
pub mod Pairs
pub mod Triangles
pub mod Parts
pub mod Standing
