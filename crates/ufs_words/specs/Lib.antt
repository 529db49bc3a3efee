pub mod Numbers
pub mod Grammar
pub mod Commands
pub mod Values
