-- What the proofs of several functions cite.
pub mod AskLaws
pub mod NumberLaws
pub mod IntervalLaws
pub mod SearchLaws
pub mod Promise
