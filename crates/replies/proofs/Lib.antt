-- What the proofs of several functions cite.
pub mod DatagramLaws
pub mod HashLaws
pub mod SendingLaws
pub mod ReplyLaws
pub mod ReadLaws
pub mod Promise
