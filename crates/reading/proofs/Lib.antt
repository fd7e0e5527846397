-- What the proofs of the calls that read share.
pub mod FindRing
pub mod Refusing
