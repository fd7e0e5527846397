-- What the contracts of reports cite beside the rules.
pub mod Told
