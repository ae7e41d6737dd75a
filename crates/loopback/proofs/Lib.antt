pub mod Openings
pub mod Acceptances
pub mod Returns
