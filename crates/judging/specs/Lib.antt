-- What the contracts of judging cite beside the rules.
pub mod Loading
pub mod Answers
