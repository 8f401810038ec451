pub mod Laws
pub mod Chars
