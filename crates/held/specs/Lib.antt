pub mod Held
pub mod Interval
