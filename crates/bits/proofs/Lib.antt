-- What the proofs of several functions cite.
mod WordLaws
mod MaskLaws
mod RowLaws
mod RunLaws
mod FillLaws
mod PartLaws
mod CountLaws
mod WordCountLaws
mod HeldLaws
mod OnesLaws
mod BlockLaws
pub mod Promise
