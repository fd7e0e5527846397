-- What the contracts of marks cite beside the rules.
pub mod Marks
