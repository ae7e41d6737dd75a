pub mod Cmac
pub mod Counter
pub mod Texts
