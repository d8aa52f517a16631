-- What the proofs of several functions cite.
pub mod CellLaws
pub mod RowLaws
pub mod RowWordLaws
pub mod OrderLaws
pub mod AnswerLaws
pub mod NumberLaws
pub mod Promise
