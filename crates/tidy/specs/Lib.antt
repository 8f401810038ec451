pub mod Tidy
pub mod Call
pub mod Scan
pub mod Numbers
pub mod Cases
pub mod Laws
