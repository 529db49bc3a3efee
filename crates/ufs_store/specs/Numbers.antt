-- How far the epoch and the commit numbers of a store go on.
use Rattle.std.specs.Prelude.{ℕ, ◌≤◌, ◌+◌}
use Rattle.ufs_store.specs.State.{StoreState}

-- The epoch is greater by no more than the one number, and the next commit number by no more than the other; neither is lower.
pub record HasRaised (epochs commits : ℕ) (old new : StoreState) : Type 0 where
  pub epoch : old.superblock.epoch ≤ new.superblock.epoch
  pub epoch_most : new.superblock.epoch ≤ old.superblock.epoch + epochs
  pub number : old.journal.number ≤ new.journal.number
  pub number_most : new.journal.number ≤ old.journal.number + commits
