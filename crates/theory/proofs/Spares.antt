-- Work in other tables, of whatever sizes: what it counts, and that it comes out as in the mesh whose content they hold.
pub mod Adds
pub mod Growing
pub mod Copies
pub mod CopiedCuts
pub mod CopiedWork
pub mod OverSpares
pub mod CopiedBack
