-- Laws that several proofs of the code cite.
pub mod Stamps
pub mod Pairs
pub mod Links
