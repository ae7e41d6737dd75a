pub mod Cipher
pub mod Field
pub mod FieldLaws
pub mod Words
