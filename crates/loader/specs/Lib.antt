pub mod Order
pub mod Message
