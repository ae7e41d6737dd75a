pub mod Ciphering
