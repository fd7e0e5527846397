-- Laws that several proofs of the code cite.
pub mod Sizes
pub mod Written
