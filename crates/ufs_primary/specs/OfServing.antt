-- What is cited of `ufs_serving` by way of this crate.
pub use Rattle.ufs_at_primary.specs.OfServing.{AllWent, AnswersGo, AreLeft, GoInOrder, IsFullFor, IsSaid, most_at_rest, Said, said}
