-- Laws that the proofs of the pass use, and those of rooms and soundness.
pub mod Corners
pub mod Starts
