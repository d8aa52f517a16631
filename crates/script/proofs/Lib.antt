-- What the proofs of several functions cite.
pub mod HexLaws
pub mod FrameLaws
pub mod LineLaws
pub mod RoomLaws
pub mod Promise
