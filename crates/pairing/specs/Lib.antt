-- What the contracts of pairing cite beside the rules.
pub mod Pairing
pub mod Fans
pub mod Threaded
