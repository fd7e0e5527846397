-- Laws that proofs of the crates above cite.
pub mod Standing
pub mod Refusing
pub mod Lending
