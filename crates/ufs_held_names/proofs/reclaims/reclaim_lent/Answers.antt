use Rattle.std.proofs.Common.{◌≡◌, ◌++◌, [], ℕ, List, ap, sym, subst, ◌∙◌}
use Rattle.std.proofs.lemmas.List.{append-nil}
use Rattle.std.specs.FinSet as set
use Rattle.ufs_bitmap.specs.Blocks.{BlockSet}
use Rattle.ufs_held.specs.Together.{AreApartFrom}
use Rattle.ufs_joint.specs.Cells.{NamesCell, View, both_of, kept_of}
use Rattle.ufs_model.specs.declared.data.PartName.TheVariants.{Names}
use Rattle.ufs_store.specs.Refusals.{fault_in}
use Rattle.ufs_turns.specs.Lent.{AreTold, IsBare, IsBeside}
use Rattle.ufs_turns.specs.NamesLent.{LendsNames}
use Rattle.ufs_turns.specs.Told.{fault_told, told_list}
use Rattle.ufs_turns.proofs.Hands.{beside_both}
use Rattle.ufs_noted.specs.Noted.{Noted}
use Rattle.ufs_held_names.specs.HeldNames.{HoldsNames, first_names}
use Rattle.ufs_held_names.specs.Reclaims.{IsReclaimed, MayReclaim}
use Rattle.ufs_held_names.proofs.After.{first_held, kept_noted}
use Rattle.ufs_held_names.proofs.Committed.{back_bare, back_beside, back_held, back_names, lends, lent_beside, on_err, on_ok}
use Rattle.ufs_held_names.proofs.Reclaimed.{apart_lent, come_back, lends_all}
use Rattle.ufs_held_names.proofs.reclaims.reclaim_lent.Goals as goal

pub reclaim-made-requires : goal.reclaim-made-requires
reclaim-made-requires g c =
    let held = c.requires.held in
    let own = c.args.right.now in
    let guest = c.args.guest.now in
    let x = c.args.noted.now in
    let joined = c.join.ensures ∙ ap (both_of guest) c.split-own.ensures.given in
    let lent = subst (LendsNames held.cell) (sym joined) (lends own guest x held c.requires.bare) in
    record {
      apart = subst (λ (v : View). AreApartFrom v c.args.files.now) (sym joined) (apart_lent own guest x held c.requires.bare c.args.files.now c.requires.apart);
      lent = λ v too. (held.cell, lends_all own guest x held c.requires.bare c.args.files.now c.join.new.self v lent (subst (λ (names : NamesCell). MayReclaim names c.args.files.now) (first_held x own held) c.requires.may) too, ap (λ (n : Noted). n.dropped) held.value);
      away = lent.away;
    }

pub returns : goal.returns
returns g c =
    let held = c.requires.held in
    let own = c.args.right.now in
    let guest = c.args.guest.now in
    let x = c.args.noted.now in
    let y = c.reclaim-made.new.self in
    let m = c.reclaim-made.new.hand in
    let t = c.reclaim-made.ensures in
    let r = c.reclaim-made.result in
    let tells = g.T.Turns.tells c.args.door.now in
    let told = g.T.Turns.tells c.reclaim-made.new.door in
    let joined = c.join.ensures ∙ ap (both_of guest) c.split-own.ensures.given in
    let came = come_back r held.cell x y c.join.new.self m held.value (subst (LendsNames held.cell) (sym joined) (lends own guest x held c.requires.bare)) t.own t.ok t.err in
    let left = c.split-own-2.ensures.kept in
    let back = c.join-2.ensures ∙ (λ i. both_of (c.split-own.ensures.kept i) (c.split-own-2.ensures.given i)) in
    let first = ap (λ (v : View). first_names y v.names) back ∙ ap (first_names y) (back_names own m x held came.cell came.names) in
    record {
      held = subst (HoldsNames y) (sym back) (back_held own m x held came.cell came.names y came.value);
      calm = ap (λ (v : View). v.faults) back ∙ ap (λ (fs : List ℕ). fs ++ []) c.requires.calm;
      bare = subst IsBare (sym left) (back_bare own m x held came.cell came.names t.away);
      beside = subst (IsBeside guest) (sym left)
          (beside_both guest m (kept_of Names m) (beside_both guest c.join.new.self m (subst (IsBeside guest) (sym joined) (lent_beside own guest x held c.requires.bare)) t.beside) (back_beside own m x held came.cell came.names));
      files = t.files;
      ok = on_ok r (λ a. subst (λ (q : NamesCell × NamesCell). IsReclaimed q.0 q.1) (λ i. (sym (first_held x own held) i, sym first i)) a) came.ok;
      err = on_err r (λ a. first ∙ a ∙ sym (first_held x own held)) came.err;
      back = on_ok r (λ a. subst (λ (s : BlockSet). AreTold tells told (λ had has. has ≡ set.union had s)) (ap (λ (n : Noted). n.dropped) (kept_noted x own held)) a) t.back;
      kept = t.kept;
      ran = t.ran;
      telling = t.telling;
      faults = ap (λ (v : View). v.faults) left ∙ t.faults ∙ ap (λ (fs : List ℕ). told_list (fault_told (fault_in r)) ++ fs) (ap (λ (v : View). v.faults) joined ∙ append-nil guest.faults);
      stop = λ fault is. ap (λ (v : View). v.stop) left ∙ t.stop fault is;
      halts = t.halts;
      halted = t.halted;
      stopped = t.stopped;
      refused = t.refused;
    }
