-- The replay program's lines (01, "The replay program").
pub mod Hex
pub mod Lines
pub mod Buffers
pub mod Frames
pub mod Answers
pub mod Steps
