pub mod Image
pub mod Ring
