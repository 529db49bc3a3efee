use Rattle.std.proofs.Common.{◌≡◌, ◌∙◌, ◌+◌, ◌≤◌, ◌<◌, ◌⊎◌, ℕ, Some, Ok, Err, ap, arith, inl, inr, length, subst, sym, true}
use Rattle.std.specs.Prelude.{slice_get}
use Rattle.std.proofs.lemmas.Bool.{cases_lt}
use Rattle.ufs_file.specs.Hand.{FileState, IsNeeded}
use Rattle.ufs_file_commits.proofs.Fetched.{fetched_then, noted_fetched}
use Rattle.ufs_file_commits.proofs.fetching.fetch.Goals as goal

pub returns-in_err-fetch_needed-clause-read : goal.returns-in_err-fetch_needed-clause-read
returns-in_err-fetch_needed-clause-read g c =
    (fetched_then g.D.Door.visible g.D.Door.keeps (g.D.Door.store c.args.door.now) (g.D.Door.store c.loop-place.door) (g.D.Door.store c.fetch_needed.new.door) c.args.hand.now c.loop-place.hand c.fetch_needed.new.hand
    c.loop-place.invariant.fetched c.fetch_needed.ensures.fetched).read

pub returns-in_err-fetch_needed-clause-crash : goal.returns-in_err-fetch_needed-clause-crash
returns-in_err-fetch_needed-clause-crash g c =
    (fetched_then g.D.Door.visible g.D.Door.keeps (g.D.Door.store c.args.door.now) (g.D.Door.store c.loop-place.door) (g.D.Door.store c.fetch_needed.new.door) c.args.hand.now c.loop-place.hand c.fetch_needed.new.hand
    c.loop-place.invariant.fetched c.fetch_needed.ensures.fetched).crash

pub returns-in_err-fetch_needed-clause-on_disk : goal.returns-in_err-fetch_needed-clause-on_disk
returns-in_err-fetch_needed-clause-on_disk g c =
    (fetched_then g.D.Door.visible g.D.Door.keeps (g.D.Door.store c.args.door.now) (g.D.Door.store c.loop-place.door) (g.D.Door.store c.fetch_needed.new.door) c.args.hand.now c.loop-place.hand c.fetch_needed.new.hand
    c.loop-place.invariant.fetched c.fetch_needed.ensures.fetched).on_disk

pub returns-in_err-fetch_needed-clause-noted : goal.returns-in_err-fetch_needed-clause-noted
returns-in_err-fetch_needed-clause-noted g c =
    noted_fetched g.D.Door.visible g.D.Door.keeps (g.D.Door.store c.args.door.now) (g.D.Door.store c.fetch_needed.new.door) c.args.hand.now c.fetch_needed.new.hand
    (fetched_then g.D.Door.visible g.D.Door.keeps (g.D.Door.store c.args.door.now) (g.D.Door.store c.loop-place.door) (g.D.Door.store c.fetch_needed.new.door) c.args.hand.now c.loop-place.hand c.fetch_needed.new.hand
    c.loop-place.invariant.fetched c.fetch_needed.ensures.fetched)

pub returns-clause-noted : goal.returns-clause-noted
returns-clause-noted g c =
    noted_fetched g.D.Door.visible g.D.Door.keeps (g.D.Door.store c.args.door.now) (g.D.Door.store c.loop-place.door) c.args.hand.now c.loop-place.hand c.loop-place.invariant.fetched

pub loop-place-preserved : goal.loop-place-preserved
loop-place-preserved g c =
    let i = c.loop-place.invariant in
    let k : ℕ = c.loop-place.place in
    let f = c.args.hand.now in
    let now = c.fetch_needed.new.hand in
    let step = c.fetch_needed.ensures.fetched in
    let long : length c.loop-place.hand.content.bytes ≡ length f.content.bytes = i.fetched.still in
    let moved : (n : ℕ) → IsNeeded (length f.content.bytes) c.args.desc c.args.op.now n → IsNeeded (length c.loop-place.hand.content.bytes) c.args.desc c.args.op.now n =
    λ n needed. subst (λ (size : ℕ). IsNeeded size c.args.desc c.args.op.now n) (sym long) needed in
    let there : (place : ℕ) → IsNeeded (length f.content.bytes) c.args.desc c.args.op.now place → place < k + 1 → (place < k) ⊎ (k ≤ place) → slice_get now.content.there place ≡ Some true =
    λ place needed less side. elim side [
      | inl before ↦ step.kept place (i.there place needed before)
      | inr behind ↦ (let e : place ≡ k = omega (arith, less, behind) in
          ap (slice_get now.content.there) e ∙ c.in_ok-fetch_needed.ensures.there (moved k (subst (IsNeeded (length f.content.bytes) c.args.desc c.args.op.now) e needed)))
    ] in
    record {
      fetched = fetched_then g.D.Door.visible g.D.Door.keeps (g.D.Door.store c.args.door.now) (g.D.Door.store c.loop-place.door) (g.D.Door.store c.fetch_needed.new.door) f c.loop-place.hand now i.fetched step;
      there = λ place needed less. there place needed less (cases_lt place k);
      faults = c.in_ok-fetch_needed.ensures.cause ∙ i.faults;
      nothing = λ all.
          let was = i.nothing all in
          let here : IsNeeded (length c.loop-place.hand.content.bytes) c.args.desc c.args.op.now k → slice_get c.loop-place.hand.content.there k ≡ Some true =
          λ needed. ap (λ (x : FileState). slice_get x.content.there k) was.0 ∙ all k (subst (λ (size : ℕ). IsNeeded size c.args.desc c.args.op.now k) long needed) in
          let same = c.fetch_needed.ensures.nothing here in
          (same.0 ∙ was.0, same.1 ∙ was.1);
    }

-- where all that it needs is there no call of the disk fails, since none is made
pub returns-in_err-fetch_needed-clause-nothing : goal.returns-in_err-fetch_needed-clause-nothing
returns-in_err-fetch_needed-clause-nothing g c all =
    let i = c.loop-place.invariant in
    let k : ℕ = c.loop-place.place in
    let long : length c.loop-place.hand.content.bytes ≡ length c.args.hand.now.content.bytes = i.fetched.still in
    let here : IsNeeded (length c.loop-place.hand.content.bytes) c.args.desc c.args.op.now k → slice_get c.loop-place.hand.content.there k ≡ Some true =
    λ needed. ap (λ (x : FileState). slice_get x.content.there k) (i.nothing all).0 ∙ all k (subst (λ (size : ℕ). IsNeeded size c.args.desc c.args.op.now k) long needed) in
    let same = c.fetch_needed.ensures.nothing here in
    absurd (let both : Ok tt ≡ Err c.in_err-fetch_needed.field-0.0 = sym same.2 ∙ c.in_err-fetch_needed.was in cc)
