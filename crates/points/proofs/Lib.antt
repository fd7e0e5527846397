-- Laws of machine numbers and of points that several proofs cite.
pub mod Signed
pub mod Axes
pub mod Means
