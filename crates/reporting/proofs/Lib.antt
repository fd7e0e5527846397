-- Laws that the proofs of reports use.
pub mod Telling
pub mod Turns
