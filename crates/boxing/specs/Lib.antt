-- What the contracts of boxes cite beside the rules.
pub mod Boxing
