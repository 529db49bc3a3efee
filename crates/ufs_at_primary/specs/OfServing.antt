-- What is cited of `ufs_serving` by way of this crate.
pub use Rattle.ufs_serving.specs.Pools.{most_at_rest}
pub use Rattle.ufs_serving.specs.Posts.{all_said, AnswersGo, IsFullFor, IsSaid, Said, said, said_code}
pub use Rattle.ufs_serving.specs.Sending.{AllWent, AreLeft, GoInOrder}
