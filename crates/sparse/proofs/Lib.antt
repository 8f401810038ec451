pub mod Rows
pub mod Falls
pub mod Toward
pub mod Coded
pub mod Empty
pub mod Column
