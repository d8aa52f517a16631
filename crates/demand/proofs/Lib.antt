-- A list of calls, and what holds of a store after it.
pub mod StepLaws
pub mod RunLaws
pub mod DemandLaws
pub mod SufficeLaws
pub mod Promise
