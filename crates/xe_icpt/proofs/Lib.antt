pub mod SvmRows
pub mod PortLaws
