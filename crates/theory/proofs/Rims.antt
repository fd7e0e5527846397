-- The rim from a vertex on closes and has each of its vertices once, and what its curve is.
pub mod RimWalk
pub mod Smoothing
pub mod Curve
