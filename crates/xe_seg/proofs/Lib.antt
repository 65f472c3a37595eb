pub mod EachLaws
pub mod CanonicalLaws
pub mod PassingLaws
pub mod LoadLaws
pub mod DescriptorLaws
pub mod LoadingLaws
