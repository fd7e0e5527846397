-- Laws that the proofs of boxes use.
pub mod Marking
pub mod Turn
pub mod Begins
pub mod Told
