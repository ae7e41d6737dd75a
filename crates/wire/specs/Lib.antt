pub mod Limits
pub mod Parties
pub mod Hex
pub mod Ids
pub mod Fronts
pub mod FrontLaws
