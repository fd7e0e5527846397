-- The test of fans.
pub mod Told
