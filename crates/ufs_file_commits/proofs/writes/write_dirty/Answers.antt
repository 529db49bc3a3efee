use Rattle.std.proofs.Common.{◌≡◌, ◌∙◌, ◌<◌, ℕ, List, [], length, ap, arith, refl, subst, sym}
use Rattle.std.specs.Prelude.{OnErr}
use Rattle.std.proofs.lemmas.Result.{err_from_is_err_and}
use Rattle.ufs_ledger.specs.Ledger.{Ledger}
use Rattle.ufs_store.specs.Ledgers.{HasLedger}
use Rattle.ufs_store.specs.State.{StoreState}
use Rattle.ufs_file_commits.specs.Writes.{BlockWrite, HasTriedOne, MayWriteAll, with_writes, write_at, writes_before, writes_of}
use Rattle.ufs_file_commits.proofs.Behind.{run_begins}
use Rattle.ufs_file_commits.proofs.Places.{all_by_end, before_next, none_before}
use Rattle.ufs_file_commits.proofs.Stamping.{writes_here}
use Rattle.ufs_file_commits.proofs.Turns.{both_none, may_here, next_here, none_here, run_here, tried_here}
use Rattle.ufs_file_commits.proofs.writes.write_dirty.Goals as goal

pub loop-place-init : goal.loop-place-init
loop-place-init g c =
    let s = g.D.Door.store c.args.door.now in
    let f = c.args.hand.now in
    let dirty = c.dirty_places-dirty.result in
    let none : writes_before f dirty.start ≡ [] = none_before f dirty.start dirty.end c.dirty_places-dirty.ensures.dirty in
    record {
      passed = refl;
      crash = λ visible m has may. run_begins s.sectors g.D.Door.keeps (writes_of c.args.hand.now) m s.moments has.by.is;
      has = λ visible m has may. subst (λ (ws : List BlockWrite). HasLedger s (with_writes ws m)) (sym none) has;
      nothing = λ none. refl;
      still = λ fault is. refl;
    }

pub returns-in_err-write_place-clause-crash : goal.returns-in_err-write_place-clause-crash
returns-in_err-write_place-clause-crash g c visible l has may =
    let f = c.args.hand.now in
    let k : ℕ = c.loop-place.place in
    let i = c.loop-place.invariant in
    let s0 = g.D.Door.store c.args.door.now in
    let s1 = g.D.Door.store c.loop-place.door in
    let s2 = g.D.Door.store c.write_place.new.door in
    let less : k < length f.content.dirty = omega (arith, c.loop-place-test.true, c.dirty_places-dirty.ensures.marks) in
    run_here f k less l g.D.Door.keeps s0 s1 s2.moments (ap (λ (s : StoreState). s.sectors) i.passed) (i.crash visible l has may)
    (c.write_place.ensures.crash visible (with_writes (writes_before f k) l) (i.has visible l has may) (may_here f k less l may))

pub returns-in_err-write_place-clause-err : goal.returns-in_err-write_place-clause-err
returns-in_err-write_place-clause-err g c visible =
    let f = c.args.hand.now in
    let k : ℕ = c.loop-place.place in
    let i = c.loop-place.invariant in
    let s0 = g.D.Door.store c.args.door.now in
    let s2 = g.D.Door.store c.write_place.new.door in
    let less : k < length f.content.dirty = omega (arith, c.loop-place-test.true, c.dirty_places-dirty.ensures.marks) in
    let tried : (l : Ledger) → HasLedger s0 l → MayWriteAll l (writes_of f) → HasTriedOne s2 (writes_of f) l =
    λ l has may. tried_here f k less l s2 (c.in_err-write_place.ensures.err visible (with_writes (writes_before f k) l) (i.has visible l has may) (may_here f k less l may)) in
    let p = err_from_is_err_and c.from_residual.result c.from_residual.ensures.1 in
    subst (λ r. OnErr r ((l : Ledger) → HasLedger s0 l → MayWriteAll l (writes_of f) → HasTriedOne s2 (writes_of f) l)) (sym p.1) tried

pub returns-in_err-write_place-clause-nothing : goal.returns-in_err-write_place-clause-nothing
returns-in_err-write_place-clause-nothing g c none =
    let f = c.args.hand.now in
    let k : ℕ = c.loop-place.place in
    let less : k < length f.content.dirty = omega (arith, c.loop-place-test.true, c.dirty_places-dirty.ensures.marks) in
    let parts = none_here f k less none in
    c.write_place.ensures.nothing parts.1 ∙ c.loop-place.invariant.nothing parts.0

pub loop-place-preserved : goal.loop-place-preserved
loop-place-preserved g c =
    let f = c.args.hand.now in
    let k : ℕ = c.loop-place.place in
    let i = c.loop-place.invariant in
    let s0 = g.D.Door.store c.args.door.now in
    let s1 = g.D.Door.store c.loop-place.door in
    let s2 = g.D.Door.store c.write_place.new.door in
    let less : k < length f.content.dirty = omega (arith, c.loop-place-test.true, c.dirty_places-dirty.ensures.marks) in
    record {
      passed = c.in_ok-write_place.ensures.passed ∙ ap (λ (s : StoreState). record s { moments = s2.moments; unsettled = s2.unsettled }) i.passed;
      crash = λ visible l has may.
          run_here f k less l g.D.Door.keeps s0 s1 s2.moments (ap (λ (s : StoreState). s.sectors) i.passed) (i.crash visible l has may)
          (c.write_place.ensures.crash visible (with_writes (writes_before f k) l) (i.has visible l has may) (may_here f k less l may));
      has = λ visible l has may. next_here f k less l s2 (c.in_ok-write_place.ensures.ok visible (with_writes (writes_before f k) l) (i.has visible l has may) (may_here f k less l may));
      nothing = λ none. let parts = both_none (writes_before f k) (write_at f k) (sym (before_next f k) ∙ none) in c.write_place.ensures.nothing parts.1 ∙ i.nothing parts.0;
      still = λ fault is. c.write_place.ensures.still fault (ap (λ (s : StoreState). s.stop) i.passed ∙ is) ∙ i.still fault is;
    }

pub returns-clause-ok : goal.returns-clause-ok
returns-clause-ok g c visible =
    let f = c.args.hand.now in
    let dirty = c.dirty_places-dirty in
    let end : c.loop-place.place ≡ dirty.result.end = omega (arith, c.loop-place-test.false, c.loop-place.auto.place-end, dirty.ensures.ordered) in
    let whole : writes_before f c.loop-place.place ≡ writes_of f = ap (writes_before f) end ∙ all_by_end f dirty.result.start dirty.result.end dirty.ensures.dirty dirty.ensures.marks in
    λ l has may. subst (λ (ws : List BlockWrite). HasLedger (g.D.Door.store c.loop-place.door) (with_writes ws l)) whole (c.loop-place.invariant.has visible l has may)

pub returns-clause-nothing : goal.returns-clause-nothing
returns-clause-nothing g c none =
    let f = c.args.hand.now in
    let dirty = c.dirty_places-dirty in
    let end : c.loop-place.place ≡ dirty.result.end = omega (arith, c.loop-place-test.false, c.loop-place.auto.place-end, dirty.ensures.ordered) in
    let whole : writes_before f c.loop-place.place ≡ writes_of f = ap (writes_before f) end ∙ all_by_end f dirty.result.start dirty.result.end dirty.ensures.dirty dirty.ensures.marks in
    c.loop-place.invariant.nothing (whole ∙ none)

pub write_place-requires-clause-stamped : goal.write_place-requires-clause-stamped
write_place-requires-clause-stamped g c stamped going =
    let f = c.args.hand.now in
    let k : ℕ = c.loop-place.place in
    let i = c.loop-place.invariant in
    let s0 = g.D.Door.store c.args.door.now in
    let s1 = g.D.Door.store c.loop-place.door in
    let less : k < length f.content.dirty = omega (arith, c.loop-place-test.true, c.dirty_places-dirty.ensures.marks) in
    let leaves = c.requires.stamped stamped (sym (ap (λ (s : StoreState). s.stop) i.passed) ∙ going) in
    writes_here g.D.Door.allows f k less s0 s1 (ap (λ (s : StoreState). s.sectors) i.passed) leaves (i.has (g.met.D.Door.sees stamped) leaves.ledger leaves.knows leaves.may)
