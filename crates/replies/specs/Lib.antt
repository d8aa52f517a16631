pub mod Replies
pub mod Steps
