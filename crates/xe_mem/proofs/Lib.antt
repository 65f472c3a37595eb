pub mod LayoutLaws
pub mod FlatLaws
pub mod MoveLaws
pub mod SearchLaws
