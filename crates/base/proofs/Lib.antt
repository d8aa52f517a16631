-- What the crates above may cite.
pub mod PickLaws
pub mod SameLaws
pub mod AmongLaws
pub mod OutLaws
