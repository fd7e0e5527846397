-- What the proofs of taking back share.
pub mod CutTables
pub mod Shorter
pub mod AcceptedCut
pub mod Trials
pub mod TakingBack
