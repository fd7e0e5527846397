-- What the proofs of boxes share.
pub mod Seen
