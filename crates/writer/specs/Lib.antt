pub mod Bytes
pub mod Message
pub mod Add
pub mod Lists
pub mod Writer
pub mod Steps
