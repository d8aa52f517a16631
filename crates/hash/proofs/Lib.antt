-- What the proofs of several functions cite.
mod Cells
mod BytesLaws
mod SameLaws
mod Rotation
mod Choice
mod ScheduleLaws
mod RoundLaws
mod BlockLaws
mod MessageLaws
mod EndLaws
pub mod Promise
mod Examples
