-- What the contracts of sides cite beside the rules.
pub mod Parts
pub mod Starts
