use Rattle.std.proofs.Common.{◌∙◌, ◌≡◌, ◌<◌, ◌+◌, ℕ, suc, List, [], ap, arith, refl, subst, sym, take, length}
use Rattle.std.specs.Prelude.{OnErr, Some, slice_get, slice_index_or}
use Rattle.std.proofs.lemmas.Option.{slice_get-get_or}
use Rattle.std.proofs.lemmas.Result.{err_from_is_err_and}
use Rattle.ufs_bitmap.specs.Taking.{has}
use Rattle.ufs_file_commits.proofs.Served.{has_at}
use Rattle.ufs_layout.specs.declared.geometry.Geometry.{Geometry}
use Rattle.ufs_ledger.specs.Ledger.{IsDataBlock}
use Rattle.ufs_model.specs.PosixTree.{PosixTree}
use Rattle.ufs_model.specs.declared.data.Entry.{Entry}
use Rattle.ufs_model.proofs.Facts.Histories.{take-push}
use Rattle.ufs_store.specs.State.{StoreState, geometry_of_store}
use Rattle.ufs_promise_laws.specs.Known.{IsKeptStopped, Known, nothing_known}
use Rattle.ufs_promise_laws.specs.Parts.{Parts}
use Rattle.ufs_promise_laws.proofs.Stamping.{allowed_on}
use Rattle.ufs_promise_laws.proofs.Stretches.{explained_joined}
use Rattle.ufs_names_commit.specs.Ready.{HasZeros}
use Rattle.ufs_names_commit.proofs.zeros.write_zeros.Goals as goal

pub loop-place-init : goal.loop-place-init
loop-place-init g c = record {
  passed = refl;
  moments = λ visible start history p known is z. c.zeros_law.ensures.rest g.D.Door.keeps (g.D.Door.store c.args.door.now) start history p known [] (sym c.geometry-geometry.ensures.is) z;
  zero = λ visible start history p known is z. z;
}

pub write_zero-requires-clause-there : goal.write_zero-requires-clause-there
write_zero-requires-clause-there g c =
    let fresh = c.args.fresh.now in
    let k : ℕ = c.loop-place.place in
    let less : k < length fresh = omega (arith, c.loop-place-test.true) in
    let block : ℕ = slice_index_or fresh k 0 in
    subst (λ (h : Geometry). IsDataBlock h block) (sym (ap geometry_of_store c.loop-place.invariant.passed)) (c.requires.there block (has_at fresh k block (slice_get-get_or fresh k 0 less)))

pub write_zero-requires-clause-stamped : goal.write_zero-requires-clause-stamped
write_zero-requires-clause-stamped g c stamps =
    let fresh = c.args.fresh.now in
    let k : ℕ = c.loop-place.place in
    let i = c.loop-place.invariant in
    let less : k < length fresh = omega (arith, c.loop-place-test.true) in
    let block : ℕ = slice_index_or fresh k 0 in
    let at : slice_get fresh k ≡ Some block = slice_get-get_or fresh k 0 less in
    let told = c.requires.stamped stamps in
    let e = told.2 in (
      told.0,
      take k fresh,
      ap (λ (xs : List ℕ). has xs block) told.1 ∙ has_at fresh k block at,
      record {
        start = e.start;
        history = e.history;
        zeroed = i.zero (g.met.D.Door.sees stamps) e.start e.history told.0 nothing_known told.1 e.zeroed;
        allowed = allowed_on g.D.Door.allows e.start e.history (g.D.Door.store c.args.door.now).sectors (g.D.Door.store c.loop-place.door).sectors (ap (λ (s : StoreState). s.sectors) i.passed) e.allowed;
      },
    )

pub returns-in_err-write_zero-clause-err : goal.returns-in_err-write_zero-clause-err
returns-in_err-write_zero-clause-err g c visible =
    let fresh = c.args.fresh.now in
    let k : ℕ = c.loop-place.place in
    let i = c.loop-place.invariant in
    let less : k < length fresh = omega (arith, c.loop-place-test.true) in
    let block : ℕ = slice_index_or fresh k 0 in
    let at : slice_get fresh k ≡ Some block = slice_get-get_or fresh k 0 less in
    let old = g.D.Door.store c.args.door.now in
    let new = g.D.Door.store c.write_zero.new.door in
    let stops : (start : PosixTree) (history : List Entry) (p : Parts) (known : Known) → p.fresh ≡ fresh → HasZeros old start history p known [] → IsKeptStopped new start history p known =
    λ start history p known same z. c.in_err-write_zero.ensures.err visible start history p known (take k fresh) (ap (λ (xs : List ℕ). has xs block) same ∙ has_at fresh k block at) (i.zero visible start history p known same z) in
    let p = err_from_is_err_and c.from_residual.result c.from_residual.ensures.1 in
    subst (λ r. OnErr r ((start : PosixTree) (history : List Entry) (p : Parts) (known : Known) → p.fresh ≡ fresh → HasZeros old start history p known [] → IsKeptStopped new start history p known)) (sym p.1) stops

pub loop-place-preserved : goal.loop-place-preserved
loop-place-preserved g c =
    let fresh = c.args.fresh.now in
    let k : ℕ = c.loop-place.place in
    let i = c.loop-place.invariant in
    let less : k < length fresh = omega (arith, c.loop-place-test.true) in
    let block : ℕ = slice_index_or fresh k 0 in
    let at : slice_get fresh k ≡ Some block = slice_get-get_or fresh k 0 less in
    let new = g.D.Door.store c.write_zero.new.door in
    let next : suc k ≡ k + 1 = omega arith in
    record {
      passed = c.in_ok-write_zero.ensures.passed ∙ ap (λ (s : StoreState). record s { moments = new.moments; unsettled = new.unsettled }) i.passed;
      moments = λ visible start history p known same z. explained_joined g.D.Door.keeps start history (g.D.Door.store c.args.door.now).sectors (g.D.Door.store c.args.door.now).moments (g.D.Door.store c.loop-place.door) new.moments
          (ap (λ (s : StoreState). s.sectors) i.passed) (i.moments visible start history p known same z)
          (c.write_zero.ensures.moments visible start history p known (take k fresh) (ap (λ (xs : List ℕ). has xs block) same ∙ has_at fresh k block at) (i.zero visible start history p known same z));
      zero = λ visible start history p known same z. subst (HasZeros new start history p known) (sym (take-push fresh k block at) ∙ ap (λ (n : ℕ). take n fresh) next)
          (c.in_ok-write_zero.ensures.ok visible start history p known (take k fresh) (ap (λ (xs : List ℕ). has xs block) same ∙ has_at fresh k block at) (i.zero visible start history p known same z));
    }

pub returns-in_err-write_zero-clause-moments : goal.returns-in_err-write_zero-clause-moments
returns-in_err-write_zero-clause-moments g c visible start history p known same z =
    let fresh = c.args.fresh.now in
    let k : ℕ = c.loop-place.place in
    let i = c.loop-place.invariant in
    let less : k < length fresh = omega (arith, c.loop-place-test.true) in
    let block : ℕ = slice_index_or fresh k 0 in
    let at : slice_get fresh k ≡ Some block = slice_get-get_or fresh k 0 less in
    explained_joined g.D.Door.keeps start history (g.D.Door.store c.args.door.now).sectors (g.D.Door.store c.args.door.now).moments (g.D.Door.store c.loop-place.door) (g.D.Door.store c.write_zero.new.door).moments
    (ap (λ (s : StoreState). s.sectors) i.passed) (i.moments visible start history p known same z)
    (c.write_zero.ensures.moments visible start history p known (take k fresh) (ap (λ (xs : List ℕ). has xs block) same ∙ has_at fresh k block at) (i.zero visible start history p known same z))

pub returns-clause-moments : goal.returns-clause-moments
returns-clause-moments g c visible start history p known same z = c.loop-place.invariant.moments visible start history p known same z
