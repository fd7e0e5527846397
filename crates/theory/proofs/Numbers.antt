-- Lists, sums, counting and rounding, of which the other chapters make use; nothing here knows a mesh.
pub mod Decide
pub mod Answers
pub mod Differences
pub mod Rounding
pub mod Sums
pub mod Entries
pub mod Fill
pub mod Those
pub mod Take
pub mod Pigeonhole
