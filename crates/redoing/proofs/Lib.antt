-- What the proofs of a replay share.
pub mod Going
