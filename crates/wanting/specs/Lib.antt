-- What the contracts of wanted triangles cite beside the rules.
pub mod Wanting
