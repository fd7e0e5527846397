-- What the contracts of the crate cite beside the rules.
pub mod Traced
