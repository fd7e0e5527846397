-- What refuses a whole step and a lock.
pub mod Refusing
