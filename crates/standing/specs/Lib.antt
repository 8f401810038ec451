pub mod Stood
pub mod Sets
