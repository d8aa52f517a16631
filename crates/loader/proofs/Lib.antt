-- What the proofs of several functions cite, and what is known of the interface.
pub mod CallLaws
pub mod MessageLaws
pub mod Promise
