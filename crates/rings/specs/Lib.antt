-- What the contracts of rings cite beside the rules.
pub mod Rings
pub mod Sums
pub mod Walks
