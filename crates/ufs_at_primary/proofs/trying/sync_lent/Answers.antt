use Rattle.std.proofs.Common.{◌≡◌, ◌≤◌, ◌<◌, ◌^◌, List, length, arith, sym, subst, ◌∙◌}
use Rattle.std.proofs.lemmas.List.{with_items_is}
use Rattle.ufs_held_names.specs.SyncAll.{AreAllLive}
use Rattle.ufs_joint.specs.Cells.{FileCell}
use Rattle.ufs_joint.specs.FirstHand.{pool_of}
use Rattle.ufs_msg.specs.Answers.{Told}
use Rattle.ufs_msg.specs.declared.answer.Answer.TheVariants as says
use Rattle.ufs_hand_laws.specs.Owned.{Has}
use Rattle.ufs_at_primary.specs.All.{IsAllSynced}
use Rattle.ufs_at_primary.proofs.AllTold.{same_length}
use Rattle.ufs_at_primary.proofs.Seen.{apart_here, pool_still}
use Rattle.ufs_at_primary.proofs.trying.sync_lent.Goals as goal

pub see_files-requires : goal.see_files-requires
see_files-requires g c =
    let p = c.requires.pool in
    let is = sym c.as_mut_slice-slice.ensures.value in
    record {
      apart = apart_here p.0 c.args.right.now c.args.names.now.value c.as_mut_slice-slice.result.now p.1 (subst (AreAllLive c.args.names.now.value) is c.requires.all)
          (subst (λ (cs : List FileCell). (x : FileCell) → Has x cs → x.value.file.file < 2 ^ 31) is c.requires.low);
    }

pub serve_sync_all-requires-clause-pool : goal.serve_sync_all-requires-clause-pool
serve_sync_all-requires-clause-pool g c = let p = c.requires.pool in (p.0, pool_still (pool_of 0) p.0 c.args.right.now c.see_files.new.hand p.1 c.see_files.ensures.still)

pub serve_sync_all-requires-clause-all : goal.serve_sync_all-requires-clause-all
serve_sync_all-requires-clause-all g c = subst (AreAllLive c.args.names.now.value) (sym (c.see_files.ensures.files ∙ c.as_mut_slice-slice.ensures.value)) c.requires.all

pub serve_sync_all-requires-clause-low : goal.serve_sync_all-requires-clause-low
serve_sync_all-requires-clause-low g c = subst (λ (cs : List FileCell). (x : FileCell) → Has x cs → x.value.file.file < 2 ^ 31) (sym (c.see_files.ensures.files ∙ c.as_mut_slice-slice.ensures.value)) c.requires.low

pub returns-clause-pool : goal.returns-clause-pool
returns-clause-pool g c = λ pool mine. c.serve_sync_all.ensures.pool pool (pool_still (pool_of 0) pool c.args.right.now c.see_files.new.hand mine c.see_files.ensures.still)

pub returns-clause-served : goal.returns-clause-served
returns-clause-served g c =
    let nows = c.serve_sync_all.new.files in
    let s = c.serve_sync_all.ensures.served in
    let done = s.2 in
    let same = c.see_files.ensures.files in
    let whole = with_items_is c.args.files.now nows (same_length c.see_files.new.files nows done.numbers ∙ (λ i. length (same i)) ∙ c.as_mut_slice-slice.ensures.len) in
    subst (λ (p : List FileCell × List FileCell). (told : Told) × (c.serve_sync_all.result ≡ says.Served told) × IsAllSynced g.N.Naming.start.is_visible (g.T.Turns.tells c.args.door.now) (g.T.Turns.tells c.serve_sync_all.new.door) c.args.names.now c.serve_sync_all.new.names p.0 p.1 c.args.request.ask told)
    (λ i. ((same ∙ c.as_mut_slice-slice.ensures.value) i, sym whole i)) s

pub returns-clause-few : goal.returns-clause-few
returns-clause-few g c =
    let few = c.see_files.ensures.few in
    subst (λ (cs : List FileCell). length cs ≤ g.N.Naming.start.geometry.inodes) c.as_mut_slice-slice.ensures.value (omega (arith, few))
