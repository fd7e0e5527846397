-- What the contracts of refines cite beside the rules.
pub mod Locked
pub mod Batches
pub mod Finding
