-- Blocks that come to a pool.
use Rattle.std.proofs.Common.{◌≡◌, ℕ, zero, suc, ◌+◌, ◌-◌, ◌<◌, ◌≤◌, ◌⊎◌, inl, inr, List, [], ◌∷◌, Bool, true, false, ◌||◌, ◌&&◌, not, eqb, ap, sym, refl, ◌∙◌, arith}
use Rattle.std.specs.FinSet as set
use Rattle.std.specs.Ordering.{nat_cmp}
use Rattle.std.proofs.lemmas.Bool.{eqb-true}
use Rattle.ufs_bitmap.specs.Blocks.{BlockSet, HoldsAll, run_set}
use Rattle.ufs_bitmap.proofs.SetLemmas.{empty_union, has-difference, has-empty, has-insert, has-run_set, has-union, len-difference_run, same_blocks, union_more, union_none}
use Rattle.ufs_extent.specs.declared.Run.{Run}
use Rattle.ufs_extent.specs.Runs.{IsRun, blocks_from}

-- a block that is there
pub insert_there : (s : BlockSet) (b : ℕ) → set.contains s b ≡ true → s ≡ set.insert s b
insert_there s b has = same_blocks s (set.insert s b) (λ q. by q (eqb q b) refl ∙ sym (has-insert s b q))
  where
    by : (q : ℕ) (v : Bool) → eqb q b ≡ v → set.contains s q ≡ (eqb q b || set.contains s q)
    by q true is = ap (set.contains s) (eqb-true q b is) ∙ has ∙ ap (λ (v : Bool). v || set.contains s q) (sym is)
    by q false is = ap (λ (v : Bool). v || set.contains s q) (sym is)

-- one that comes as a run
pub insert_run : (s : BlockSet) (b : ℕ) → set.union s (run_set (record { start = b; length = 1 })) ≡ set.insert s b
insert_run s b =
    let end : b + 0 ≡ b = omega arith in
    union_more s b 0 ∙ ap (λ (t : BlockSet). set.insert t (b + 0)) (sym (union_none s b)) ∙ ap (set.insert s) end

-- the blocks of a run up to one, and that
pub union_next : (s : BlockSet) (first b : ℕ) → first ≤ b → set.insert (set.union s (set.from_list {R = nat_cmp} (blocks_from first (b - first)))) b ≡ set.union s (set.from_list {R = nat_cmp} (blocks_from first (b + 1 - first)))
union_next s first b from =
    let e : first + (b - first) ≡ b = omega (arith, from) in
    let f : b - first + 1 ≡ b + 1 - first = omega (arith, from) in
    sym (union_more s first (b - first) ∙ ap (set.insert (set.union s (set.from_list (blocks_from first (b - first))))) e) ∙ ap (λ (n : ℕ). set.union s (set.from_list (blocks_from first n))) f

-- ---- pools

pub union_nothing : (s t : BlockSet) → t ≡ set.empty → set.union s t ≡ s
union_nothing s t none = same_blocks (set.union s t) s (λ q. has-union s t q ∙ ap (λ (v : Bool). set.contains s q || v) (ap (λ (x : BlockSet). set.contains x q) none ∙ has-empty q) ∙ or_none (set.contains s q))
  where
    or_none : (v : Bool) → (v || false) ≡ v
    or_none true = refl
    or_none false = refl

pub none_left : (s : BlockSet) → set.len s ≤ 0 → s ≡ set.empty
none_left s few = set.empty_of_len s (omega (arith, few))

-- a run that goes from one to the other
pub poured : (into from : BlockSet) (r : Run) → HoldsAll from r → set.union (set.union into (run_set r)) (set.difference from (run_set r)) ≡ set.union into from
poured into from r all = same_blocks _ _ (λ q.
    has-union (set.union into (run_set r)) (set.difference from (run_set r)) q
    ∙ (λ i. has-union into (run_set r) q i || has-difference from (run_set r) q i)
    ∙ by (set.contains into q) (set.contains (run_set r) q) (set.contains from q) (λ in_run. let at = has-run_set r q in_run in all q at.0 at.1)
    ∙ sym (has-union into from q))
  where
    by : (i r f : Bool) → (r ≡ true → f ≡ true) → ((i || r) || (f && not r)) ≡ (i || f)
    by true r f holds = refl
    by false true f holds = sym (holds refl)
    by false false true holds = refl
    by false false false holds = refl

pub fewer : (from : BlockSet) (r : Run) → HoldsAll from r → IsRun r → set.len (set.difference from (run_set r)) ≤ set.len from - 1
fewer from r all run = let less = len-difference_run from r all in let some = run.0 in omega (arith, less, some)

-- ---- blocks that are lent

pub difference_nothing : (s t : BlockSet) → t ≡ set.empty → s ≡ set.difference s t
difference_nothing s t none = same_blocks s (set.difference s t) (λ q. and_on (set.contains s q) ∙ ap (λ (v : Bool). set.contains s q && not v) (sym (ap (λ (x : BlockSet). set.contains x q) none ∙ has-empty q)) ∙ sym (has-difference s t q))
  where
    and_on : (v : Bool) → v ≡ (v && true)
    and_on true = refl
    and_on false = refl

pub none_in : (s : BlockSet) (b : ℕ) → s ≡ set.empty → set.contains s b ≡ true → ⊥
none_in s b none is = let clash = sym is ∙ ap (λ (x : BlockSet). set.contains x b) none ∙ has-empty b in cc

-- a run of one block
pub one_run : (s : BlockSet) (r : Run) → s ≡ set.empty → IsRun r → r.length ≤ 1 → set.union s (run_set r) ≡ set.from_list {R = nat_cmp} (r.start ∷ [])
one_run s r none run few =
    let some = run.0 in
    let one : r.length ≡ 1 = omega (arith, some, few) in
    ap (λ (t : BlockSet). set.union t (run_set r)) none ∙ empty_union (run_set r) ∙ ap (λ (n : ℕ). set.from_list (blocks_from r.start n)) one
