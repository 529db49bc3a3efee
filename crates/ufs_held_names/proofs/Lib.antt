mod Files
mod Drawing
mod After
mod Alone
mod With
mod Committed
mod Reclaimed
mod Lending
mod Tried
mod Lives
mod Answering
pub mod Faultless
pub mod SyncedAll
mod AnsweringAll
mod Looking
mod Births
mod Answered
pub mod Untold
pub mod Refusing
