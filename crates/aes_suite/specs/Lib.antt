pub mod Suites
pub mod Sizes
