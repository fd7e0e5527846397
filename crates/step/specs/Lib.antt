-- What the contracts of step cite beside the rules.
pub mod Stepped
