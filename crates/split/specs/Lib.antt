-- What the contracts of split cite beside the rules.
pub mod Made
