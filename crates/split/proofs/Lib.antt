-- Laws of splits, flips and chains that the proofs of functions cite.
pub mod Steps
pub mod Bounds
pub mod Walk
