-- What the proofs of several functions cite.
pub mod RoomLaws
pub mod AcceptLaws
pub mod OpenLaws
pub mod HandshakeLaws
pub mod TakeLaws
pub mod DataLaws
pub mod StartLaws
pub mod WriteLaws
pub mod KeepLaws
pub mod RefusedLaws
pub mod ReplyLaws
pub mod ShorterLaws
pub mod NumberLaws
pub mod NameLaws
pub mod AckLaws
pub mod ReadBackLaws
pub mod Promise
