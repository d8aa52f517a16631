pub mod Room
pub mod Integrity
pub mod Rooms
pub mod Steps
