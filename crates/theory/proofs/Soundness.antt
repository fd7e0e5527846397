-- The five kinds are levels, and the test of soundness says yes exactly for sound tables.
pub mod FiveKinds
pub mod Relaxed
pub mod SoundTest
