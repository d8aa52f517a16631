-- Rows of bits in lent words.
pub mod Bits
pub mod Steps
