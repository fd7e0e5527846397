-- What the contracts of rooms cite beside the rules.
pub mod Within
