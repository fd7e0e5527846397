-- Laws of requests that the proofs cite.
pub mod Parts
