-- What the proofs of the calls that work in spare tables share.
pub mod InSpares
pub mod Reporting
pub mod Seen
