pub mod Ids
pub mod Slots
pub mod Changes
pub mod Rules
