-- What contracts of the code cite beside the definitions of journals.
pub mod Replaying
