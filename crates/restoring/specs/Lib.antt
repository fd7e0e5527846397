-- What the contracts of notes that are read cite beside the rules.
pub mod Fitting
pub mod Putting
