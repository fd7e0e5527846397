-- What the contracts of taking back cite beside the rules.
pub mod Trying
