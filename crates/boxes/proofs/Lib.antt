-- What the proofs of the calls that refine a box share.
pub mod BoxCalls
