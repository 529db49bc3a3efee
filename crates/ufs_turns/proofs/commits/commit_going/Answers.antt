use Rattle.std.proofs.Common.{◌≡◌, inr, ℕ, true, false, refl, List, Option, None, Some, Ok, Err, Result, ap, sym, subst, ◌∙◌}
use Rattle.std.specs.Prelude.{IsTrue}
use Rattle.ufs_bitmap.specs.Taking.{has}
use Rattle.ufs_names.specs.Notes.{with_notes}
use Rattle.ufs_store.specs.Refusals.{IsTold, fault_in, fault_of, is_no_space, is_own, stop_after}
use Rattle.ufs_store.specs.declared.fault.StoreFault.{StoreFault}
use Rattle.ufs_store.specs.declared.fault.StoreFault.TheVariants as refusal
use Rattle.ufs_turns.specs.NamesLent.{HaveNotPassed}
use Rattle.ufs_turns.proofs.commits.commit_going.Goals as goal

abbrev refused_by : StoreFault → Result (Unit {0}) StoreFault
refused_by fault = Err fault

same_refusal : (a b : StoreFault) → refused_by a ≡ refused_by b → a ≡ b
same_refusal a b e = cc

pub commit_notes-committed-requires-clause-stamped : goal.commit_notes-committed-requires-clause-stamped
commit_notes-committed-requires-clause-stamped g c stamps = absurd (c.requires.plain stamps)

pub commit_notes-committed-requires-clause-there : goal.commit_notes-committed-requires-clause-there
commit_notes-committed-requires-clause-there g c block is = c.requires.there block (ap (λ (l : List ℕ). has l block) (sym c.as_slice.ensures.value) ∙ is)

pub returns-in-Ok-clause-ok : goal.returns-in-Ok-clause-ok
returns-in-Ok-clause-ok g c =
    let s = g.D.Door.store c.args.store.now in
    let t = g.D.Door.store c.commit_notes-committed.new.door in
    let noted = c.take_notes-notes.ensures.notes in
    record {
      going = c.requires.going;
      committed = λ visible start history p known have on.
          c.in-Ok.ensures.known visible start history p known (have.blocks ∙ sym c.as_slice.ensures.value) (have.records ∙ sym noted) have.table on;
      tried = record {
        moments = λ visible start history p have on. c.commit_notes-committed.ensures.moments visible start history p (have.blocks ∙ sym c.as_slice.ensures.value) (have.records ∙ sym noted) have.table on;
        unassigned = c.commit_notes-committed.ensures.unassigned;
        geometry = c.commit_notes-committed.ensures.geometry;
        sectors = c.commit_notes-committed.ensures.sectors;
        cause = subst (IsTold s.faults t.faults) (ap fault_in c.in-Ok.is) c.commit_notes-committed.ensures.cause;
        stop = c.commit_notes-committed.ensures.stop ∙ ap fault_in c.in-Ok.is ∙ ap (λ (q : Option ℕ). stop_after q None) (sym c.requires.going);
      };
    }

pub returns-in-Err-clause-err : goal.returns-in-Err-clause-err
returns-in-Err-clause-err g c fault same =
    let s = g.D.Door.store c.args.store.now in
    let t = g.D.Door.store c.commit_notes-committed.new.door in
    let noted = c.take_notes-notes.ensures.notes in
    subst (λ (f : StoreFault). HaveNotPassed g.D.Door.visible g.D.Door.keeps s t c.args.fresh.now.items c.args.names.now.tree.noted (fault_of f)) (same_refusal c.in-Err.fault fault same) (record {
      failed = λ visible. inr (c.requires.going, λ start history p known have on. c.in-Err.ensures.still_known visible start history p known (have.blocks ∙ sym c.as_slice.ensures.value) (have.records ∙ sym noted) have.table on);
      tried = record {
        moments = λ visible start history p have on. c.commit_notes-committed.ensures.moments visible start history p (have.blocks ∙ sym c.as_slice.ensures.value) (have.records ∙ sym noted) have.table on;
        unassigned = c.commit_notes-committed.ensures.unassigned;
        geometry = c.commit_notes-committed.ensures.geometry;
        sectors = c.commit_notes-committed.ensures.sectors;
        cause = subst (IsTold s.faults t.faults) (ap fault_in c.in-Err.is) c.commit_notes-committed.ensures.cause;
        stop = c.commit_notes-committed.ensures.stop ∙ ap fault_in c.in-Err.is ∙ ap (λ (q : Option ℕ). stop_after q (fault_of c.in-Err.fault)) (sym c.requires.going);
      };
    })

pub returns-in-Ok-clause-halts : goal.returns-in-Ok-clause-halts
returns-in-Ok-clause-halts g c = c.commit_notes-committed.ensures.stop ∙ ap fault_in c.in-Ok.is ∙ ap (λ (q : Option ℕ). stop_after q None) (sym c.requires.going)

pub returns-in-Err-clause-halts : goal.returns-in-Err-clause-halts
returns-in-Err-clause-halts g c = c.commit_notes-committed.ensures.stop ∙ ap fault_in c.in-Err.is ∙ ap (λ (q : Option ℕ). stop_after q (fault_of c.in-Err.fault)) (sym c.requires.going)

none_some : (stop : Option ℕ) (n : ℕ) → stop ≡ Some n → stop ≡ None → ⊥
none_some stop n a b = let e : Some n ≡ None = sym a ∙ b in cc

pub returns-in-Ok-clause-halted : goal.returns-in-Ok-clause-halted
returns-in-Ok-clause-halted g c fault is = absurd (none_some (g.D.Door.store c.args.store.now).stop fault is c.requires.going)

pub returns-in-Err-clause-halted : goal.returns-in-Err-clause-halted
returns-in-Err-clause-halted g c fault is = absurd (none_some (g.D.Door.store c.args.store.now).stop fault is c.requires.going)

pub returns-in-Ok-clause-committed : goal.returns-in-Ok-clause-committed
returns-in-Ok-clause-committed g c = c.put_notes.ensures ∙ (λ i. with_notes (c.in-Ok.ensures.emptied i) (c.take_notes-notes.ensures.rest i))

pub returns-in-Err-clause-kept : goal.returns-in-Err-clause-kept
returns-in-Err-clause-kept g c = c.put_notes.ensures ∙ (λ i. with_notes ((c.in-Err.ensures.kept ∙ c.take_notes-notes.ensures.notes) i) (c.take_notes-notes.ensures.rest i))

pub returns-in-Ok-clause-spent : goal.returns-in-Ok-clause-spent
returns-in-Ok-clause-spent g c = c.clear.ensures.items

pub returns-in-Err-clause-stopped : goal.returns-in-Err-clause-stopped
returns-in-Err-clause-stopped g c fault same =
    let no : IsTrue (is_own (refusal.Stopped fault)) = subst (λ (f : StoreFault). IsTrue (is_own f)) (same_refusal c.in-Err.fault (refusal.Stopped fault) same) c.in-Err.ensures.refused in
    absurd cc

own_is : (f : StoreFault) → IsTrue (is_own f) → is_no_space f ≡ false
own_is (refusal.Device n) e = refl
own_is (refusal.Stopped n) e = refl
own_is (refusal.NoSpace need had) e = absurd (let no : false ≡ true = e in cc)
own_is (refusal.Lack w) e = refl

pub returns-in-Err-clause-refused : goal.returns-in-Err-clause-refused
returns-in-Err-clause-refused g c = own_is c.in-Err.fault c.in-Err.ensures.refused

pub returns-in-Ok-clause-ran : goal.returns-in-Ok-clause-ran
returns-in-Ok-clause-ran g c =
    let s = g.D.Door.store c.args.store.now in
    let t = g.D.Door.store c.commit_notes-committed.new.door in
    record { count = subst (IsTold s.faults t.faults) (ap fault_in c.in-Ok.is) c.commit_notes-committed.ensures.cause; raised = c.commit_notes-committed.ensures.raised }

pub returns-in-Err-clause-ran : goal.returns-in-Err-clause-ran
returns-in-Err-clause-ran g c =
    let s = g.D.Door.store c.args.store.now in
    let t = g.D.Door.store c.commit_notes-committed.new.door in
    record { count = subst (IsTold s.faults t.faults) (ap fault_in c.in-Err.is) c.commit_notes-committed.ensures.cause; raised = c.commit_notes-committed.ensures.raised }
