pub mod Alu
pub mod Unary
pub mod Shift
pub mod Multiply
pub mod Decimal
pub mod Bit
pub mod Exchange
pub mod Rows
