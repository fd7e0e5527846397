-- What the contracts of a refine with a note cite beside the rules.
pub mod Rising
pub mod Changed
pub mod Noting
