-- What a journal is: its records, how they are read, what a replay of them does, and what a history leaves in it; then
-- what contracts of the code cite beside these.
pub mod Journal
pub mod Records
pub mod Replay
pub mod Recording
pub mod Appending
pub mod Kinds
pub mod Stops
