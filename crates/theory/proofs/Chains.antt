-- The base chain falls and its count is exact; refine raises its triangle, writes and relinks slots known before the
-- work, 25 old ones at most, flips once for each split after the first, goes on wherever it may begin, and is Kobbelt's
-- procedure; and no run of splits raises a triangle with fewer.
pub mod Runs
pub mod Chain
pub mod Remembered
pub mod Raise
pub mod Refine
pub mod RefineLoop
pub mod Altering
pub mod Altered
pub mod Flipping
pub mod Noted
pub mod Listed
pub mod Kobbelt
pub mod Going
pub mod Least
