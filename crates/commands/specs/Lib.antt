pub mod Commands
pub mod Requests
