-- The checksum of the journal.
pub mod Bytes
pub mod Crc
pub mod Table
