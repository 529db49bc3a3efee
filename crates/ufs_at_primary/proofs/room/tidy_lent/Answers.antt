use Rattle.std.proofs.Common.{◌≤◌, ◌<◌, ◌^◌, List, length, arith, sym, subst, ◌∙◌}
use Rattle.std.proofs.lemmas.List.{with_items_is}
use Rattle.ufs_held_names.specs.SyncAll.{AreAllLive}
use Rattle.ufs_joint.specs.Cells.{FileCell}
use Rattle.ufs_joint.specs.FirstHand.{pool_of}
use Rattle.ufs_hand_laws.specs.Owned.{Has}
use Rattle.ufs_at_primary.specs.Room.{AreAllTidied}
use Rattle.ufs_at_primary.proofs.AllTold.{same_length}
use Rattle.ufs_at_primary.proofs.Seen.{apart_here, pool_still}
use Rattle.ufs_at_primary.proofs.room.tidy_lent.Goals as goal

pub see_files-requires : goal.see_files-requires
see_files-requires g c =
    let p = c.requires.pool in
    let is = sym c.as_mut_slice-slice.ensures.value in
    record {
      apart = apart_here p.0 c.args.right.now c.args.names.now.value c.as_mut_slice-slice.result.now p.1 (subst (AreAllLive c.args.names.now.value) is c.requires.all)
          (subst (λ (cs : List FileCell). (x : FileCell) → Has x cs → x.value.file.file < 2 ^ 31) is c.requires.low);
    }

pub tidy_all-requires-clause-pool : goal.tidy_all-requires-clause-pool
tidy_all-requires-clause-pool g c = let p = c.requires.pool in (p.0, pool_still (pool_of 0) p.0 c.args.right.now c.see_files.new.hand p.1 c.see_files.ensures.still)

pub tidy_all-requires-clause-all : goal.tidy_all-requires-clause-all
tidy_all-requires-clause-all g c = subst (AreAllLive c.args.names.now.value) (sym (c.see_files.ensures.files ∙ c.as_mut_slice-slice.ensures.value)) c.requires.all

pub tidy_all-requires-clause-low : goal.tidy_all-requires-clause-low
tidy_all-requires-clause-low g c = subst (λ (cs : List FileCell). (x : FileCell) → Has x cs → x.value.file.file < 2 ^ 31) (sym (c.see_files.ensures.files ∙ c.as_mut_slice-slice.ensures.value)) c.requires.low

pub returns-clause-pool : goal.returns-clause-pool
returns-clause-pool g c = λ pool mine. c.tidy_all.ensures.pool pool (pool_still (pool_of 0) pool c.args.right.now c.see_files.new.hand mine c.see_files.ensures.still)

pub returns-clause-tidied : goal.returns-clause-tidied
returns-clause-tidied g c =
    let nows = c.tidy_all.new.files in
    let done = c.tidy_all.ensures.tidied in
    let same = c.see_files.ensures.files in
    let whole = with_items_is c.args.files.now nows (same_length c.see_files.new.files nows done.numbers ∙ (λ i. length (same i)) ∙ c.as_mut_slice-slice.ensures.len) in
    subst (λ (p : List FileCell × List FileCell). AreAllTidied g.N.Naming.start.is_visible (g.T.Turns.tells c.args.door.now) (g.T.Turns.tells c.tidy_all.new.door) c.args.names.now c.tidy_all.new.names p.0 p.1)
    (λ i. ((same ∙ c.as_mut_slice-slice.ensures.value) i, sym whole i)) done

pub returns-clause-few : goal.returns-clause-few
returns-clause-few g c =
    let few = c.see_files.ensures.few in
    subst (λ (cs : List FileCell). length cs ≤ g.N.Naming.start.geometry.inodes) c.as_mut_slice-slice.ensures.value (omega (arith, few))
