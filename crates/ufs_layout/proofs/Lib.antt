pub mod Compared
pub mod Spelled
pub mod HeadForms
pub mod Extents
pub mod InodeForms
pub mod DentryForms
pub mod Ranges
mod SpelledOnce
mod Vectors
pub mod RecordForms
pub mod RecordsRead
pub mod Leading
pub mod RecordList
