-- SHA-256 as FIPS 180-4 has it, section by section, and the one definition that the crates above know.
pub mod Word
pub mod Block
pub mod Rows
pub mod Message
pub mod Sha256
