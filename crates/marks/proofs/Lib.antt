-- Laws of bits and of tables of marks.
pub mod Bits
pub mod Tables
