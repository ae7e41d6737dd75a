pub mod Asked
pub mod Digits
pub mod Lines
pub mod Pieces
pub mod Requests
pub mod Words
