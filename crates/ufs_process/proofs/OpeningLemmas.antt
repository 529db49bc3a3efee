-- What opening the legs gives while a command goes on over the mirror.
use Rattle.std.proofs.Common.{◌⊎◌, inl, inr, ℕ, Bool, true, false, IsTrue, List, [], Option, Some, None, length, refl, sym, subst}
use Rattle.std.specs.Prelude.{◌&&◌}
use Rattle.std.proofs.lemmas.List.{length-map}
use Rattle.ufs_bench.specs.Workload.{bench_geometry}
use Rattle.ufs_brink.specs.Begins.{BeginsWith}
use Rattle.ufs_command.specs.Left.{MayPlay}
use Rattle.ufs_mirror.specs.Opens.{OpenRight}
use Rattle.ufs_mirror.specs.Pairs.{all_pairs, state_of}
use Rattle.ufs_model.specs.History.{joined}
use Rattle.ufs_model.specs.PosixTree.{root_alone}
use Rattle.ufs_model.specs.declared.data.Entry.{Entry}
use Rattle.ufs_image.specs.Proper.{IsProperImage}
use Rattle.ufs_ledger.specs.Kept.{OpensExplained}
use Rattle.ufs_disk.specs.Disk.{IsImage, Leaves, State}
use Rattle.ufs_disk.specs.Moments.{LeavesOnly, Moments, reads}
use Rattle.ufs_disk.proofs.Runs.{started}
use Rattle.ufs_recover.specs.Stopped.{IsNew, IsNewDisk, IsStopped}
use Rattle.ufs_recovery.specs.Home.{OpensAlike}
use Rattle.ufs_told.specs.Throughout.{IsExplainedThroughout}
use Rattle.ufs_promise_laws.specs.OnDisk.{IsExplainedImage}
use Rattle.ufs_command.specs.Bench.{IsOnceFormatted}
use Rattle.ufs_command.specs.Left.{ActsOn, FormatsAndPlays, LeavesUnserved, Plays}
use Rattle.ufs_command.specs.Seen.{Formatting}
use Rattle.ufs_command.proofs.BenchLemmas.{begins, may}
use Rattle.ufs_command.specs.declared.words.Command.{Command}
use Rattle.ufs_command.specs.declared.words.Command.TheVariants as command
use Rattle.ufs_process.specs.Throughout.{OpensAsAnswered, OpensBenched, OpensFromTo, OpensOn, OpensPlayed, OpensUnserved}
use Rattle.ufs_process.specs.Views.{Kind, View, course_of, moments_in, pairs_in}
use Rattle.ufs_process.proofs.ThroughoutLemmas.{opens_as_answered, opens_from_to, opens_only, opens_throughout, right_each, throughout_passes}

pub both_true : (one other : Bool) → IsTrue one → IsTrue other → IsTrue (one && other)
both_true true other one_is other_is = other_is
both_true false other one_is other_is = one_is

-- ---- a new image

new_left : (sectors : ℕ) (state : State) → IsNewDisk bench_geometry sectors state → Leaves (IsNew bench_geometry sectors) state
new_left sectors state new = λ image left. subst (IsNew bench_geometry sectors) (sym (new.settled image left)) new.new

module _ (visible : Bool) (sectors : ℕ) (between : Moments) (known : IsTrue visible) (new : IsNewDisk bench_geometry sectors between.state) where
  abbrev seen_then : Formatting
  seen_then = record { visible = visible; sectors = sectors; state = between.state; image = reads between; read = refl; before = 0; now = 0 }

  once : IsOnceFormatted seen_then seen_then
  once = record { visible = refl; sectors = refl; before = refl; now = refl; made = λ _. new }

  may_play : MayPlay visible sectors between.state
  may_play = may seen_then seen_then once known

  begins_alone : BeginsWith sectors (reads between) root_alone
  begins_alone = begins seen_then seen_then once known

-- ---- each command

module _ {A B : Type 0} (one : Kind A) (other : Kind B) (before after : View A B) (right : OpenRight (one.keeps && other.keeps) after.sectors (pairs_in one other after)) where
  opens_played : (told : List (List Entry)) (status : ℕ) → Plays told status (course_of one other before after) → OpensPlayed one other told before after
  opens_played told status p = record {
    crash = λ may start begins. opens_only after.sectors (OpensExplained before.sectors start (joined told)) (pairs_in one other after).now right.now (p.crash may start begins);
    proper = λ may. opens_only after.sectors (IsProperImage before.sectors) (pairs_in one other after).now right.now (p.proper may);
    always = λ kept may start begins.
        subst (λ n. OpensAsAnswered after.sectors (IsExplainedImage before.sectors start) [] (joined told) n (all_pairs (pairs_in one other after))) (length-map (pairs_in one other before).earlier (state_of before.sectors))
        (opens_as_answered (one.keeps && other.keeps) before.sectors after.sectors start [] (joined told) (moments_in one other before) (pairs_in one other after)
        (right_each (one.keeps && other.keeps) after.sectors (pairs_in one other after) right kept) kept (p.always may start begins));
  }

  -- on the way through a new image
  benched_always : (told : List (List Entry)) (status : ℕ) (mid : View A B) (between : Moments) → IsTrue (one.keeps && other.keeps) → IsNewDisk bench_geometry before.sectors between.state
      → LeavesOnly (one.keeps && other.keeps) (IsStopped bench_geometry before.sectors (moments_in one other before).state) (moments_in one other before) between
      → IsExplainedThroughout (one.keeps && other.keeps) before.sectors root_alone [] (joined told) between (moments_in one other after) → (made : ℕ)
      × OpensFromTo after.sectors (IsStopped bench_geometry before.sectors (moments_in one other before).state) (length (pairs_in one other before).earlier) made (all_pairs (pairs_in one other after))
      × OpensFromTo after.sectors (IsNew bench_geometry before.sectors) made made (all_pairs (pairs_in one other after))
      × OpensAsAnswered after.sectors (IsExplainedImage before.sectors root_alone) [] (joined told) made (all_pairs (pairs_in one other after))
  benched_always told status mid between kept new formats plays =
      let keeps = one.keeps && other.keeps in
      let each = right_each keeps after.sectors (pairs_in one other after) right kept in
      let rest = throughout_passes keeps before.sectors root_alone [] (joined told) between (moments_in one other after) plays kept in
      let stopped = IsStopped bench_geometry before.sectors (moments_in one other before).state in (
        length between.earlier,
        subst (λ n. OpensFromTo after.sectors stopped n (length between.earlier) (all_pairs (pairs_in one other after))) (length-map (pairs_in one other before).earlier (state_of before.sectors))
            (opens_from_to keeps after.sectors stopped (moments_in one other before) between (pairs_in one other after) each kept formats rest.0 rest.1),
        opens_from_to keeps after.sectors (IsNew bench_geometry before.sectors) between between (pairs_in one other after) each kept (started keeps (IsNew bench_geometry before.sectors) between (new_left before.sectors between.state new)) rest.0 rest.1,
        opens_as_answered keeps before.sectors after.sectors root_alone [] (joined told) between (pairs_in one other after) each kept plays,
      )

  opens_benched : (told : List (List Entry)) (status : ℕ) → IsTrue (one.visible && other.visible) → FormatsAndPlays told status (course_of one other before after) → OpensBenched one other told before after
  opens_benched told status known x =
      let between = x.1 in
      let formats = x.2 in
      let plays = x.3 in
      let new = formats.formatted known refl in
      let may = may_play (one.visible && other.visible) before.sectors between known new in
      let begins = begins_alone (one.visible && other.visible) before.sectors between known new in
      record {
        crash = opens_only after.sectors (OpensExplained before.sectors root_alone (joined told)) (pairs_in one other after).now right.now (plays.crash may root_alone begins);
        proper = opens_only after.sectors (IsProperImage before.sectors) (pairs_in one other after).now right.now (plays.proper may);
        always = λ kept. benched_always told status x.0 between kept new (formats.crash known) (plays.always may root_alone begins);
      }

  opens_measured : (told : List (List Entry)) (status : ℕ) → IsTrue (one.visible && other.visible) → LeavesUnserved told status (course_of one other before after) ⊎ FormatsAndPlays told status (course_of one other before after)
      → OpensUnserved one other told before after ⊎ OpensBenched one other told before after
  opens_measured told status known (inl x) =
      inl (x.0, opens_throughout (one.keeps && other.keeps) before.sectors after.sectors (IsStopped bench_geometry before.sectors (moments_in one other before).state) (pairs_in one other before) (pairs_in one other after) right (x.1.crash known))
  opens_measured told status known (inr x) = inr (opens_benched told status known x)

  pub opens_on : (words : Option Command) (told : List (List Entry)) (status : ℕ) → IsTrue one.visible → IsTrue other.visible → ActsOn words told status (course_of one other before after) → OpensOn one other words told before after
  opens_on None told status va vb acts = tt
  opens_on (Some command.NotBuilt) told status va vb acts = tt
  opens_on (Some (command.Mkfs blocks inodes journal)) told status va vb acts =
      opens_throughout (one.keeps && other.keeps) before.sectors after.sectors (IsStopped (record { blocks = blocks; inodes = inodes; journal = journal }) before.sectors (moments_in one other before).state) (pairs_in one other before) (pairs_in one other after) right (acts.crash (both_true one.visible other.visible va vb))
  opens_on (Some command.Tree) told status va vb acts =
      opens_throughout (one.keeps && other.keeps) before.sectors after.sectors (IsImage (moments_in one other before).state) (pairs_in one other before) (pairs_in one other after) right (acts (both_true one.visible other.visible va vb)).crash
  opens_on (Some command.Check) told status va vb acts =
      opens_throughout (one.keeps && other.keeps) before.sectors after.sectors (IsImage (moments_in one other before).state) (pairs_in one other before) (pairs_in one other after) right (acts (both_true one.visible other.visible va vb)).crash
  opens_on (Some command.Audit) told status va vb acts =
      opens_throughout (one.keeps && other.keeps) before.sectors after.sectors (IsImage (moments_in one other before).state) (pairs_in one other before) (pairs_in one other after) right (acts (both_true one.visible other.visible va vb)).crash
  opens_on (Some command.Recover) told status va vb acts =
      λ proper. opens_throughout (one.keeps && other.keeps) before.sectors after.sectors (OpensAlike before.sectors (reads (moments_in one other before))) (pairs_in one other before) (pairs_in one other after) right ((acts (both_true one.visible other.visible va vb)).tree proper)
  opens_on (Some (command.Play trace)) told status va vb acts = opens_played told status acts
  opens_on (Some (command.Bench seed)) told status va vb acts = opens_measured told status (both_true one.visible other.visible va vb) acts.steps
