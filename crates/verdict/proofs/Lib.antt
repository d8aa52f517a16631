-- What the proofs of several functions cite.
pub mod RoomLaws
pub mod IntegrityLaws
pub mod LoopLaws
pub mod VerdictLaws
pub mod ClimbLaws
