-- What the contracts of the program cite beside the rules.
pub mod Requests
