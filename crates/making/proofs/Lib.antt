-- What the proofs of the calls of records share.
pub mod Calling
