pub mod Unions
