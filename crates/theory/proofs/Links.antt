-- Sides and links: what holds of tables in which every link has its partner, and of slots past the counts.
pub mod Sides
pub mod Rows
pub mod Manifold
pub mod Past
pub mod Renaming
