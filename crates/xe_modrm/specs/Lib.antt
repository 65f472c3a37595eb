pub mod Reader
pub mod Prefix
pub mod Register
pub mod Operand
pub mod OperandLaw
pub mod Address
pub mod Valid
