-- The theory of the rules in chapters, and what is proved in all (Results).
pub mod Numbers
pub mod Links
pub mod Splits
pub mod Chains
pub mod Rings
pub mod Rims
pub mod Soundness
pub mod Loads
pub mod Steps
pub mod Calls
pub mod Spares
pub mod Notes
pub mod Lists
pub mod Boxes
pub mod Locks
pub mod Mirrors
pub mod Results
