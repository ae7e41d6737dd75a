pub mod Ciphers
pub mod Keysets
