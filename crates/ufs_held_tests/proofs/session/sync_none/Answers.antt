use Rattle.std.proofs.Common.{◌≡◌, eqb, List, [], length, refl, ap, sym, subst, ◌∙◌, arith}
use Rattle.ufs_hand_laws.specs.Owned.{count}
use Rattle.ufs_joint.specs.Cells.{FileCell}
use Rattle.ufs_held.specs.Together.{under_numbers}
use Rattle.ufs_held_names.specs.SyncAll.{AreAllLive}
use Rattle.ufs_held_tests.proofs.Gathering.{none_live, synced_held}
use Rattle.ufs_held_tests.proofs.session.sync_none.Goals as goal

pub sync-requires-clause-guest : goal.sync-requires-clause-guest
sync-requires-clause-guest g c =
    let f = c.requires.guest in
    let none : c.as_mut_slice.result.now ≡ [] = c.as_mut_slice.ensures.value ∙ c.new-files.ensures.items in
    (f.0, f.1, f.2, f.3, record { low = omega arith; asked = f.4; seq = sym (ap length f.5); op_is = refl; needs = λ t same. refl }, ap (λ (cs : List FileCell). count eqb f.1 (under_numbers cs)) none)

pub sync-requires-clause-all : goal.sync-requires-clause-all
sync-requires-clause-all g c =
    let none : c.as_mut_slice.result.now ≡ [] = c.as_mut_slice.ensures.value ∙ c.new-files.ensures.items in
    subst (AreAllLive c.args.names.now.value) (sym none) (none_live c.args.names.now.value c.requires.none)

pub returns-clause-held : goal.returns-clause-held
returns-clause-held g c =
    let s = c.sync.ensures in
    synced_held g.N.Naming.start.is_visible c.args.names.now c.sync.new.self _ _ _ _ c.sync.result.entry.reply s.replied s.names s.short
