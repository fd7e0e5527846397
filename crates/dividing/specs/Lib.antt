-- What the contracts of dividing cite beside the rules.
pub mod Children
