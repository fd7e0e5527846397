-- What the contracts of soundness cite beside the rules.
pub mod Parts
