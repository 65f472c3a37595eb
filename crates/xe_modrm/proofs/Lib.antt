pub mod PrefixLaws
pub mod ReaderLaws
pub mod PartLaws
pub mod ValidLaws
pub mod OperandLaws
pub mod RegisterLaws
