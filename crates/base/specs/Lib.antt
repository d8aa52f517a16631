-- What is said in more than one crate.
pub mod Pick
pub mod Same
pub mod Among
pub mod Refusal
pub mod Out
