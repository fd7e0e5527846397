-- Laws that the proofs of the test of fans cite.
pub mod Fits
pub mod Counted
