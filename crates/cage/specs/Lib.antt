-- What the contracts of cage cite beside the rules.
pub mod Sides
