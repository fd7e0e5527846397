-- Laws that several proofs of the code cite.
pub mod Sides
pub mod Refusals
