pub mod Bytes
pub mod Limits
pub mod Place
pub mod Options
pub mod Read
pub mod Layout
pub mod Steps
