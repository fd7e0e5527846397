-- What the contracts of the calls that read cite beside the rules.
pub mod Answers
