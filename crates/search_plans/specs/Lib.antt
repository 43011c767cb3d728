pub mod Pages
pub mod Asking
