-- A list: what its entries fail with or make, that the call is all or nothing, what the spare tables hold, that work in
-- them gives the same, and the list foreseen.
pub mod AllOrNothing
pub mod Entries
pub mod ListCall
pub mod OneEntry
pub mod EveryList
pub mod Holding
pub mod InSpares
pub mod Preview
