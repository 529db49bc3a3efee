use Rattle.std.proofs.Common.{◌≡◌, ◌++◌, [], ℕ, List, ap, sym, subst, ◌∙◌}
use Rattle.std.proofs.lemmas.List.{append-nil}
use Rattle.ufs_joint.specs.Cells.{NamesCell, View, both_of, given_of, kept_of}
use Rattle.ufs_model.specs.declared.data.PartName.TheVariants.{Names}
use Rattle.ufs_store.specs.Refusals.{fault_in}
use Rattle.ufs_turns.specs.Lent.{IsBare, IsBeside}
use Rattle.ufs_turns.specs.NamesLent.{LendsNames}
use Rattle.ufs_turns.specs.Told.{fault_told, told_list}
use Rattle.ufs_turns.proofs.Hands.{beside_both}
use Rattle.ufs_noted.specs.Noted.{Noted}
use Rattle.ufs_held_names.specs.HeldNames.{AreCommitted, HoldsNames, first_names}
use Rattle.ufs_held_names.proofs.After.{first_held}
use Rattle.ufs_held_names.proofs.Committed.{back_bare, back_beside, back_held, back_names, gone, lends, lent_beside, on_err, on_ok}
use Rattle.ufs_held_names.proofs.commits.commit_told.Goals as goal

pub commit-done-requires : goal.commit-done-requires
commit-done-requires g c =
    let held = c.requires.held in
    let joined = c.join.ensures ∙ ap (both_of c.args.guest.now) c.split-own.ensures.given in
    record { lent = (held.cell, subst (LendsNames held.cell) (sym joined) (lends c.args.right.now c.args.guest.now c.args.noted.now held c.requires.bare), ap (λ (n : Noted). n.names) held.value, ap (λ (n : Noted). n.fresh) held.value) }

pub returns : goal.returns
returns g c =
    let held = c.requires.held in
    let own = c.args.right.now in
    let guest = c.args.guest.now in
    let x = c.args.noted.now in
    let y = c.commit-done.new.self in
    let m = c.commit-done.new.hand in
    let t = c.commit-done.ensures in
    let r = c.commit-done.result in
    let visible = g.N.Naming.start.is_visible in
    let joined = c.join.ensures ∙ ap (both_of guest) c.split-own.ensures.given in
    let went = gone visible r held.cell x y c.join.new.self m held.value (subst (LendsNames held.cell) (sym joined) (lends own guest x held c.requires.bare)) t.ok t.err t.committed t.kept in
    let left = c.split-own-2.ensures.kept in
    let back = c.join-2.ensures ∙ (λ i. both_of (c.split-own.ensures.kept i) (c.split-own-2.ensures.given i)) in
    let first = ap (λ (v : View). first_names y v.names) back ∙ ap (first_names y) (back_names own m x held went.cell went.names) in
    record {
      held = subst (HoldsNames y) (sym back) (back_held own m x held went.cell went.names y went.value);
      calm = ap (λ (v : View). v.faults) back ∙ ap (λ (fs : List ℕ). fs ++ []) c.requires.calm;
      bare = subst IsBare (sym left) (back_bare own m x held went.cell went.names t.away);
      beside = subst (IsBeside guest) (sym left)
          (beside_both guest m (kept_of Names m) (beside_both guest c.join.new.self m (subst (IsBeside guest) (sym joined) (lent_beside own guest x held c.requires.bare)) t.beside) (back_beside own m x held went.cell went.names));
      ok = on_ok r (λ a. subst (λ (q : NamesCell × NamesCell). AreCommitted visible q.0 q.1) (λ i. (sym (first_held x own held) i, sym first i)) a) went.ok;
      err = on_err r (λ a. first ∙ a ∙ sym (first_held x own held)) went.err;
      faults = ap (λ (v : View). v.faults) left ∙ t.faults ∙ ap (λ (fs : List ℕ). told_list (fault_told (fault_in r)) ++ fs) (ap (λ (v : View). v.faults) joined ∙ append-nil guest.faults);
      stop = λ fault is. ap (λ (v : View). v.stop) left ∙ t.stop fault is;
      stops = λ fault told. ap (λ (v : View). v.stop) left ∙ t.stops fault told;
      free = t.free;
      telling = t.telling;
      halts = t.halts;
      ran = t.ran;
      halted = t.halted;
      stopped = t.stopped;
      refused = t.refused;
    }
