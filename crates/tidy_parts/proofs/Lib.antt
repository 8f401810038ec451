pub mod Parts
mod Signs
