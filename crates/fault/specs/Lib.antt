pub mod Firsts
pub mod Far
