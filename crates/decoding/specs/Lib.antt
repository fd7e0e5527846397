-- What the contracts of decoding cite beside the rules.
pub mod Decoded
