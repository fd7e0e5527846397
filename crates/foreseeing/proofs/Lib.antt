-- What the proofs of previews share.
pub mod Foreseeing
