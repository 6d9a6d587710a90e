pub mod Next
pub mod Field
