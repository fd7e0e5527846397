-- What the contracts of moving cite beside the rules.
pub mod Moves
