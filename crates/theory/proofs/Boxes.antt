-- A box: what its turns fail with or make, that they end with none left, that work in spare tables gives the same, and
-- that what a refine does not write is wanted as it was.
pub mod Wanting
pub mod TurnByTurn
pub mod BoxCall
pub mod InSpares
pub mod Staying
