-- What is cited of `ufs_gathered` by way of this crate.
pub use Rattle.ufs_gathered.specs.Ended as ended
pub use Rattle.ufs_gathered.specs.Ended.{AnswerAll, AreExplainedAlong, HasEnded}
pub use Rattle.ufs_gathered.specs.Finished.{ClosesBy, EndsBy, HasFinished}
