-- Laws of ring sums.
pub mod Zeros
pub mod Sides
