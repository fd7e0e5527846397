-- Examples computed from the rules, beside those in `rules`.
pub mod Refusals
pub mod Readings
pub mod LongChains
