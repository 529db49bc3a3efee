-- A file that may be synced.
use Rattle.std.proofs.Common.{◌≡◌, ℕ, ◌-◌, List, [], ◌∷◌, ◌++◌, ◌||◌, Bool, true, false, eqb, ap, refl, ◌∙◌, arith}
use Rattle.std.specs.Prelude.{All}
use Rattle.std.specs.List.{AllByRecursion}
use Rattle.std.specs.FinSet as set
use Rattle.std.proofs.lemmas.Bool.Decides.{nat_tests}
use Rattle.std.proofs.lemmas.List.Elements.{All-cons, All-head, All-nil, All-tail}
use Rattle.ufs_bitmap.specs.Space.{IsInside, Space}
use Rattle.ufs_bitmap.specs.Taking.{has}
use Rattle.ufs_bitmap.proofs.SetLemmas.{has-insert}
use Rattle.ufs_bitmap.proofs.TakingLemmas.{distinct_back, has-append, in_run}
use Rattle.ufs_extent.specs.declared.Run.{Run}
use Rattle.ufs_extent.specs.Runs.{IsRun, blocks_in, blocks_of, end_of}
use Rattle.ufs_layout.specs.declared.geometry.Geometry.{Geometry}
use Rattle.ufs_ledger.specs.Ledger.{IsDataBlock}
use Rattle.ufs_store.specs.State.{geometry_of_store}
use Rattle.ufs_promise_laws.specs.Parts.{FileOwns, OneFile, Unassigned, durable_in}
use Rattle.ufs_promise_laws.specs.Syncs.{IsSpaceOf, SyncsMayBegin}

or_true : (b : Bool) → (b || true) ≡ true
or_true true = refl
or_true false = refl

in_front : (xs ys : List ℕ) (b : ℕ) → has xs b ≡ true → has (xs ++ ys) b ≡ true
in_front xs ys b is = has-append xs ys b ∙ ap (λ (x : Bool). x || has ys b) is

in_back : (xs ys : List ℕ) (b : ℕ) → has ys b ≡ true → has (xs ++ ys) b ≡ true
in_back xs ys b is = has-append xs ys b ∙ ap (λ (x : Bool). has xs b || x) is ∙ or_true (has xs b)

data_blocks : (g : Geometry) (xs : List ℕ) → ((b : ℕ) → has xs b ≡ true → IsDataBlock g b) → AllByRecursion (IsDataBlock g) xs
data_blocks g [] here = tt
data_blocks g (x ∷ xs) here =
    let self : eqb x x ≡ true = grind (arith, nat_tests) in (
      here x (has-insert (set.from_list xs) x x ∙ ap (λ (t : Bool). t || has xs x) self),
      data_blocks g xs (λ b is. here b (has-insert (set.from_list xs) x b ∙ ap (λ (t : Bool). eqb b x || t) is ∙ or_true (eqb b x))),
    )

inside_all : (g : Geometry) (s : Space) (runs : List Run) → IsSpaceOf g s → All IsRun runs → ((b : ℕ) → has (blocks_of runs) b ≡ true → IsDataBlock g b) → All (IsInside s) runs
inside_all g s [] space valid here = All-nil (IsInside s)
inside_all g s (r ∷ rs) space valid here =
    let is : IsRun r = All-head IsRun r rs valid in
    let some = is.0 in
    let low = here r.start (in_front (blocks_in r) (blocks_of rs) r.start (in_run r r.start (omega arith) (omega (arith, some)))) in
    let high = here (end_of r - 1) (in_front (blocks_in r) (blocks_of rs) (end_of r - 1) (in_run r (end_of r - 1) (omega (arith, some)) (omega (arith, some)))) in
    let from = low.from in
    let under = high.under in
    let first = space.first in
    let last = space.blocks in
    All-cons (IsInside s) r rs (omega (arith, first, from), omega (arith, last, under, some))
    (inside_all g s rs space (All-tail IsRun r rs valid) (λ b there. here b (in_back (blocks_in r) (blocks_of rs) b there)))

pub syncs_may_begin : SyncsMayBegin
syncs_may_begin s p f space at valid sound = record {
  blocks = data_blocks (geometry_of_store s) (blocks_of f.extents) (λ b is. sound.inside (OneFile f.file) b (own b is));
  dropped = record {
    inside = inside_all (geometry_of_store s) s.unassigned (durable_in p.commits f).dropped space valid (λ b is. sound.inside (OneFile f.file) b (gone b is));
    apart = record {
      absent = λ b is. by b is (set.contains s.unassigned.free b) refl;
      once = distinct_back (blocks_of f.extents) (blocks_of (durable_in p.commits f).dropped) (sound.each f.file f at).once;
    };
  };
}
  where
    own : (b : ℕ) → has (blocks_of f.extents) b ≡ true → FileOwns p f.file b
    own b is = record { hand = f; here = at; held = in_front (blocks_of f.extents) (blocks_of (durable_in p.commits f).dropped) b is }

    gone : (b : ℕ) → has (blocks_of (durable_in p.commits f).dropped) b ≡ true → FileOwns p f.file b
    gone b is = record { hand = f; here = at; held = in_back (blocks_of f.extents) (blocks_of (durable_in p.commits f).dropped) b is }

    by : (b : ℕ) → has (blocks_of (durable_in p.commits f).dropped) b ≡ true → (c : Bool) → set.contains s.unassigned.free b ≡ c → set.contains s.unassigned.free b ≡ false
    by b is false e = e
    by b is true e = (let clash = sound.apart (OneFile f.file) Unassigned b (gone b is) e in absurd cc)
