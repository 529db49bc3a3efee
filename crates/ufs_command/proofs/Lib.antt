mod TranscriptLemmas
pub mod AnswerLemmas
pub mod UnscheduledLemmas
pub mod StatusLemmas
pub mod ServingLemmas
pub mod LeavingLemmas
pub mod PlayLemmas
pub mod MkfsLemmas
pub mod ResponseLemmas
pub mod ProperLemmas
pub mod AuditLemmas
pub mod TreeLemmas
pub mod CheckLemmas
pub mod RecoveryLemmas
pub mod ToldLemmas
mod LackedLemmas
mod LeftLemmas
pub mod UnreadLemmas
pub mod BenchLemmas
pub mod FormattedLemmas
