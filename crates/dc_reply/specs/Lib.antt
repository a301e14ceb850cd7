pub mod Bodies
pub mod Draft
pub mod Pages
pub mod Put
