-- What is proved of checksums.
pub mod Bytes
pub mod Bits
pub mod Table
pub mod Changed
