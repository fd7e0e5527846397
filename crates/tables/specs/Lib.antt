-- What the contracts of tables, and of the crates above it, cite beside the rules.
pub mod Lent
pub mod Answers
pub mod Standing
pub mod Refusals
