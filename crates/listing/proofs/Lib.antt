-- What the proofs of lists share.
pub mod Seen
