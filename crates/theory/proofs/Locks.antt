-- Locked triangles: which ones a refine would alter, that each stands after every call but a load, and that its links
-- follow, or go back with a refine taken back.
pub mod Standing
pub mod LeftAlone
pub mod LockedFaces
