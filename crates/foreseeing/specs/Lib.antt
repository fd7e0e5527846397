-- What the contracts of previews cite beside the rules.
pub mod Foreseen
