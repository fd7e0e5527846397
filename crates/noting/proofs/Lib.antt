-- Laws that the proofs of a refine with a note use.
pub mod Inserting
pub mod Passing
pub mod Listing
pub mod Writing
pub mod Noted
