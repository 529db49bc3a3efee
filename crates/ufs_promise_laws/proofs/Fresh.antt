-- With more blocks of zeros the same steps may be made, and lead to the same directories.
use Rattle.std.proofs.Common.{◌≡◌, ◌≤◌, ℕ, List, [], ◌∷◌, ◌++◌, Bool, true, false, length, ap, sym, ◌∙◌, subst}
use Rattle.std.specs.Prelude.{◌==◌, if◌then◌else◌}
use Rattle.std.specs.FinSet as sets
use Rattle.ufs_layout.specs.declared.geometry.Geometry.{Geometry}
use Rattle.ufs_dir_tree.specs.DirTable.{DirTable, blocks_at, dir_at}
use Rattle.ufs_dir_tree.specs.Space.{extents_of}
use Rattle.ufs_dir_tree.specs.Steps.{DirState, Step, Born, Grown, Put, Freed, after, after_all}
use Rattle.ufs_dirs.specs.Changes.{IsSlot}
use Rattle.ufs_image.proofs.Empty.{apart_false}
use Rattle.ufs_promise_laws.specs.Held.{MayStep, MaySteps}

-- The second state has the first one's directories and inodes, and more blocks of zeros: these among them, which the first one hasn't.
pub record HasMore (lent : ℕ → Bool) (s more : DirState) : Type 0 where
  pub table : more.table ≡ s.table
  pub kinds : more.kinds ≡ s.kinds
  pub zeroed : (b : ℕ) → s.zeroed b ≡ true → more.zeroed b ≡ true
  pub lent_off : (b : ℕ) → lent b ≡ true → s.zeroed b ≡ false
  pub lent_on : (b : ℕ) → lent b ≡ true → more.zeroed b ≡ true

module _ (g : Geometry) (lent : ℕ → Bool) where
  may_more : (s more : DirState) (x : Step) → HasMore lent s more → MayStep g s x → MayStep g more x
  may_more s more (Born i kind) has may = record { in_range = may.in_range; free = ap (λ (t : DirTable). sets.contains t.free i) has.table ∙ may.free; known = may.known }
  may_more s more (Grown i block) has may = record {
    in_range = may.in_range;
    is_dir = ap (λ (k : ℕ → ℕ). k i) has.kinds ∙ may.is_dir;
    zeroed = has.zeroed block may.zeroed;
    extents = subst (λ (t : DirTable). length (extents_of (blocks_at t i ++ block ∷ [])) ≤ 56) (sym has.table) may.extents;
  }
  may_more s more (Put i slot d) has may = record { in_range = may.in_range; in_dir = subst (λ (t : DirTable). IsSlot (dir_at t i) slot) (sym has.table) may.in_dir; form = may.form }
  may_more s more (Freed i) has may = record { in_range = may.in_range; no_root = may.no_root }

  after_more : (s more : DirState) (x : Step) → HasMore lent s more → MayStep g s x → HasMore lent (after x s) (after x more)
  after_more s more (Born i kind) has may = record {
    table = ap (λ (t : DirTable). (after (Born i kind) (record s { table = t })).table) has.table;
    kinds = ap (λ (k : ℕ → ℕ). (after (Born i kind) (record s { kinds = k })).kinds) has.kinds;
    zeroed = has.zeroed;
    lent_off = has.lent_off;
    lent_on = has.lent_on;
  }
  after_more s more (Grown i block) has may = record {
    table = ap (λ (t : DirTable). (after (Grown i block) (record s { table = t })).table) has.table;
    kinds = has.kinds;
    zeroed = λ b on. on_still b (b == block) on;
    lent_off = λ b is. ap (λ (v : Bool). if v then false else s.zeroed b) (apart b is) ∙ has.lent_off b is;
    lent_on = λ b is. ap (λ (v : Bool). if v then false else more.zeroed b) (apart b is) ∙ has.lent_on b is;
  }
    where
      on_still : (b : ℕ) (v : Bool) → (if v then false else s.zeroed b) ≡ true → (if v then false else more.zeroed b) ≡ true
      on_still b true on = absurd cc
      on_still b false on = has.zeroed b on

      apart : (b : ℕ) → lent b ≡ true → (b == block) ≡ false
      apart b is = apart_false b block (λ same. let clash = sym may.zeroed ∙ ap s.zeroed (sym same) ∙ has.lent_off b is in cc)
  after_more s more (Put i slot d) has may = record {
    table = ap (λ (t : DirTable). (after (Put i slot d) (record s { table = t })).table) has.table;
    kinds = has.kinds;
    zeroed = has.zeroed;
    lent_off = has.lent_off;
    lent_on = has.lent_on;
  }
  after_more s more (Freed i) has may = record {
    table = ap (λ (t : DirTable). (after (Freed i) (record s { table = t })).table) has.table;
    kinds = ap (λ (k : ℕ → ℕ). (after (Freed i) (record s { kinds = k })).kinds) has.kinds;
    zeroed = has.zeroed;
    lent_off = has.lent_off;
    lent_on = has.lent_on;
  }

  pub may_more_all : (s more : DirState) (xs : List Step) → HasMore lent s more → MaySteps g s xs → MaySteps g more xs
  may_more_all s more [] has may = tt
  may_more_all s more (x ∷ xs) has may = (may_more s more x has may.0, may_more_all (after x s) (after x more) xs (after_more s more x has may.0) may.1)

  pub after_more_all : (s more : DirState) (xs : List Step) → HasMore lent s more → MaySteps g s xs → HasMore lent (after_all xs s) (after_all xs more)
  after_more_all s more [] has may = has
  after_more_all s more (x ∷ xs) has may = after_more_all (after x s) (after x more) xs (after_more s more x has may.0) may.1
