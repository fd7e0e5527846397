-- What the tests of a sound mesh tell its callers.
pub mod Deciding
