-- A split and its flips: they keep links, levels and fans; what they count, report, unlock and leave alone; and that
-- links follow the sides that they name.
pub mod Parts
pub mod PartsKeep
pub mod SplitKeeps
pub mod RimKeeps
pub mod FlipRead
pub mod FlipKeeps
pub mod Bases
pub mod Edges
pub mod Settling
pub mod Settled
pub mod Told
pub mod After
pub mod Cut
pub mod PartsCut
pub mod Reported
pub mod Flipped
pub mod Unlocking
pub mod Following
pub mod Places
pub mod Odds
pub mod Splitting
