pub mod Halls
