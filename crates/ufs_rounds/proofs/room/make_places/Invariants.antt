use Rattle.std.proofs.Common.{ℕ, ◌≡◌, ◌<◌, slice_get, None, Some}
use Rattle.std.specs.FinMap as fin
use Rattle.ufs_primary.specs.OfHome.{file_here}
use Rattle.ufs_primary.specs.OfNoted.{KnownFile}
use Rattle.ufs_rounds.proofs.room.make_places.Given as goal

abbrev pub invariant-loop-known : goal.invariant-loop-known
invariant-loop-known g l = record {
  places : (i : ℕ) (k : KnownFile) → i < l.known-index → slice_get l.files i ≡ Some k → fin.get l.home.places k.hand.file ≡ Some None;
  empty : (f : ℕ) → file_here l.home.places f ≡ None;
  owners : l.home.owners ≡ fin.empty;
}
