-- What a viewer is given.
pub mod View
