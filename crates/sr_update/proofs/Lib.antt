pub mod Bits
pub mod Dues
pub mod Rows
pub mod States
