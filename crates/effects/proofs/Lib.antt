-- What the proofs of several functions cite.
pub mod SurveyLaws
pub mod EffectLaws
pub mod LengthLaws
pub mod Promise
