-- What opening the two legs gives, at each moment of a command over the mirror that they are.
use Rattle.std.specs.Prelude.{ℕ, ◌≡◌, ◌⊎◌, ◌≤◌, ◌<◌, ◌+◌, ◌&&◌, Bool, IsTrue, List, [], ◌∷◌, ◌++◌, length, drop, take, Option, Some, None, ⊤}
use Rattle.std.specs.List.{AllByRecursion}
use Rattle.ufs_base.specs.Images.{Image}
use Rattle.ufs_bench.specs.Workload.{bench_geometry}
use Rattle.ufs_disk.specs.Disk.{IsImage}
use Rattle.ufs_disk.specs.Moments.{reads}
use Rattle.ufs_brink.specs.Begins.{BeginsWith}
use Rattle.ufs_command.specs.Left.{MayPlay}
use Rattle.ufs_image.specs.Proper.{IsProperImage}
use Rattle.ufs_ledger.specs.Kept.{OpensExplained}
use Rattle.ufs_mirror.specs.Opens.{OpensOnly}
use Rattle.ufs_mirror.specs.Pairs.{Pair, Pairs, all_pairs}
use Rattle.ufs_model.specs.History.{joined}
use Rattle.ufs_model.specs.PosixTree.{PosixTree, root_alone}
use Rattle.ufs_model.specs.declared.data.Entry.{Entry}
use Rattle.ufs_recover.specs.Stopped.{IsNew, IsStopped}
use Rattle.ufs_recovery.specs.Home.{OpensAlike}
use Rattle.ufs_recovery.specs.Recovered.{IsProperDisk}
use Rattle.ufs_promise_laws.specs.OnDisk.{IsExplainedImage}
use Rattle.ufs_command.specs.declared.words.Command.{Command}
use Rattle.ufs_command.specs.declared.words.Command.TheVariants as command
use Rattle.ufs_process.specs.Views.{Kind, View, moments_in, pairs_in}

-- the moments of the pair from the one to the other, both included
abbrev pub since : Pairs → Pairs → List Pair
since old new = drop (length old.earlier) (all_pairs new)

-- At each moment from the one to the other, whatever pair of images the legs may have left: where it opens, it opens to an
-- image that has P. Of legs of which one keeps no moments this is known of the last one alone.
pub record OpensThroughout (keeps : Bool) (size : ℕ) (P : Image → Type 0) (old new : Pairs) : Type 0 where
  pub after : OpensOnly size P new.now
  pub each : IsTrue keeps → AllByRecursion (OpensOnly size P) (since old new)

-- So it is from one of these moments of the pair to another, both included: from the `from`-th to the `to`-th.
pub record OpensFromTo (size : ℕ) (P : Image → Type 0) (from to : ℕ) (pairs : List Pair) : Type 0 where
  pub rises : from ≤ to
  pub within : to < length pairs
  pub each : AllByRecursion (OpensOnly size P) (drop from (take (to + 1) pairs))

-- These entries are answered behind those, from a moment of the pair on, the `from`-th of all. At each moment what the legs
-- may have left opens, where it opens, to an image that has P of the entries that were answered by then.
abbrev pub OpensAsAnswered : ℕ → (List Entry → Image → Type 0) → (before told : List Entry) → ℕ → List Pair → Type 0
OpensAsAnswered size P before [] from pairs = AllByRecursion (OpensOnly size (P before)) (drop from pairs)
OpensAsAnswered size P before (entry ∷ told) from pairs =
    (to : ℕ) × OpensFromTo size (P before) from to pairs × OpensAsAnswered size P (before ++ entry ∷ []) told to pairs

-- `play`, of which the transcripts are these, over a mirror whose image a session may begin with
pub record OpensPlayed {A B : Type 0} (one : Kind A) (other : Kind B) (told : List (List Entry)) (before after : View A B) : Type 0 where
  -- Whatever the status, what the legs leave opens to a tree that the whole history explains, among its changes each that an
  -- acknowledged `fsync` or `sync` waited for;
  pub crash : MayPlay (one.visible && other.visible) before.sectors (moments_in one other before).state → (start : PosixTree) → BeginsWith before.sectors (reads (moments_in one other before)) start
      → OpensOnly after.sectors (OpensExplained before.sectors start (joined told)) (pairs_in one other after).now
  pub proper : MayPlay (one.visible && other.visible) before.sectors (moments_in one other before).state → OpensOnly after.sectors (IsProperImage before.sectors) (pairs_in one other after).now
  -- so it does at each moment before, by the entries that were answered by then.
  pub always : IsTrue (one.keeps && other.keeps) → MayPlay (one.visible && other.visible) before.sectors (moments_in one other before).state → (start : PosixTree) → BeginsWith before.sectors (reads (moments_in one other before)) start
      → OpensAsAnswered after.sectors (IsExplainedImage before.sectors start) [] (joined told) (length (pairs_in one other before).earlier) (all_pairs (pairs_in one other after))

-- `bench` over a mirror, of which nothing was served: as `mkfs` of its geometry.
abbrev pub OpensUnserved : {A B : Type 0} → Kind A → Kind B → List (List Entry) → View A B → View A B → Type 0
OpensUnserved one other told before after =
    (told ≡ []) × OpensThroughout (one.keeps && other.keeps) after.sectors (IsStopped bench_geometry before.sectors (moments_in one other before).state) (pairs_in one other before) (pairs_in one other after)

-- `bench`, of which the transcripts are these, over a mirror that it formatted and on which it played its workload
pub record OpensBenched {A B : Type 0} (one : Kind A) (other : Kind B) (told : List (List Entry)) (before after : View A B) : Type 0 where
  -- Whatever the status, what the legs leave opens to a tree that the whole history explains from the root alone on, as by `play`;
  pub crash : OpensOnly after.sectors (OpensExplained before.sectors root_alone (joined told)) (pairs_in one other after).now
  pub proper : OpensOnly after.sectors (IsProperImage before.sectors) (pairs_in one other after).now
  -- up to some moment it does as by `mkfs`, at that moment to a new image, and from there on by the entries that were answered
  -- by then.
  pub always : IsTrue (one.keeps && other.keeps) → (made : ℕ)
      × OpensFromTo after.sectors (IsStopped bench_geometry before.sectors (moments_in one other before).state) (length (pairs_in one other before).earlier) made (all_pairs (pairs_in one other after))
      × OpensFromTo after.sectors (IsNew bench_geometry before.sectors) made made (all_pairs (pairs_in one other after))
      × OpensAsAnswered after.sectors (IsExplainedImage before.sectors root_alone) [] (joined told) made (all_pairs (pairs_in one other after))

-- For each command, at each moment, whatever pair of images the legs may have left: where it opens, it opens to an image that
-- the command allows a crash to leave there.
abbrev pub OpensOn : {A B : Type 0} → Kind A → Kind B → Option Command → List (List Entry) → View A B → View A B → Type 0
OpensOn one other (Some (command.Mkfs blocks inodes journal)) told before after =
    OpensThroughout (one.keeps && other.keeps) after.sectors (IsStopped (record { blocks = blocks; inodes = inodes; journal = journal }) before.sectors (moments_in one other before).state) (pairs_in one other before) (pairs_in one other after)
OpensOn one other (Some command.Tree) told before after = OpensThroughout (one.keeps && other.keeps) after.sectors (IsImage (moments_in one other before).state) (pairs_in one other before) (pairs_in one other after)
OpensOn one other (Some command.Check) told before after = OpensThroughout (one.keeps && other.keeps) after.sectors (IsImage (moments_in one other before).state) (pairs_in one other before) (pairs_in one other after)
OpensOn one other (Some command.Audit) told before after = OpensThroughout (one.keeps && other.keeps) after.sectors (IsImage (moments_in one other before).state) (pairs_in one other before) (pairs_in one other after)
OpensOn one other (Some command.Recover) told before after = IsProperDisk before.sectors (moments_in one other before).state
    → OpensThroughout (one.keeps && other.keeps) after.sectors (OpensAlike before.sectors (reads (moments_in one other before))) (pairs_in one other before) (pairs_in one other after)
OpensOn one other (Some (command.Play trace)) told before after = OpensPlayed one other told before after
OpensOn one other (Some (command.Bench seed)) told before after = OpensUnserved one other told before after ⊎ OpensBenched one other told before after
OpensOn one other (Some command.NotBuilt) told before after = ⊤
OpensOn one other None told before after = ⊤
