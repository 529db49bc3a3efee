-- Records folded one inode at a time.
use Rattle.std.proofs.Common.{◌≡◌, inl, inr, ℕ, ◌+◌, ◌-◌, ◌<◌, List, [], ◌∷◌, ◌++◌, Bool, true, false, ◌&&◌, Option, Some, None, length, get_or, set, refl, ap, sym, ◌∙◌, arith}
use Rattle.std.specs.Prelude.{if◌then◌else◌, ◌==◌, min, nat_lt, nat_le}
use Rattle.std.proofs.lemmas.Bool.{cases_Bool, eq-eqb, eqb-true, and_parts, leb-true}
use Rattle.std.proofs.lemmas.List.{get_or-set_same, length-set}
use Rattle.ufs_layout.specs.Areas.{is_inode_number}
use Rattle.ufs_image.specs.Journal.{PlacedRecord}
use Rattle.ufs_layout.specs.declared.geometry.Geometry.{Geometry}
use Rattle.ufs_layout.specs.declared.records.LogRecord.{LogRecord}
use Rattle.ufs_layout.specs.declared.records.LogRecord.TheVariants.{Delta, Place, Free}
use Rattle.ufs_found.specs.Off.{lower, lowest_of}
use Rattle.ufs_scan.specs.Edits.{Effect, after, edited, outkept}
use Rattle.ufs_scan.specs.Standings.{standing_at, no_standing, changed, stepped, outkeeps, behind, out_in}
use Rattle.ufs_scan.specs.declared.standing.Standing.{Standing}
use Rattle.ufs_scan.proofs.Lowest.{lower_assoc, lowest_append}
use Rattle.ufs_scan.proofs.Names.{names, kept_stepped}

-- ---- the lower of two

abbrev pub Below : Option ℕ → Option ℕ → Type 0
Below o p = lower o p ≡ o

pub lower_comm : (a b : Option ℕ) → lower a b ≡ lower b a
lower_comm None None = refl
lower_comm None (Some t) = refl
lower_comm (Some s) None = refl
lower_comm (Some s) (Some t) = let same : min s t ≡ min t s = omega arith in ap Some same

pub below_itself : (a : Option ℕ) → Below a a
below_itself None = refl
below_itself (Some s) = let same : min s s ≡ s = omega arith in ap Some same

pub below_none : (a : Option ℕ) → Below a None
below_none None = refl
below_none (Some s) = refl

pub below_left : (a b c : Option ℕ) → Below a c → Below (lower a b) c
below_left a b c is = lower_assoc a b c ∙ ap (lower a) (lower_comm b c) ∙ sym (lower_assoc a c b) ∙ ap (λ o. lower o b) is

pub below_right : (a b c : Option ℕ) → Below b c → Below (lower a b) c
below_right a b c is = lower_assoc a b c ∙ ap (lower a) is

pub below_both : (p a b : Option ℕ) → Below p a → Below p b → Below p (lower a b)
below_both p a b one two = sym (lower_assoc p a b) ∙ ap (λ o. lower o b) one ∙ two

pub below_trans : (a b c : Option ℕ) → Below a b → Below b c → Below a c
below_trans a b c one two = ap (λ o. lower o c) (sym one) ∙ lower_assoc a b c ∙ ap (lower a) two ∙ one

pub below_back : (a b : Option ℕ) → Below a b → Below b a → a ≡ b
below_back a b one two = sym one ∙ lower_comm a b ∙ two

pub below_front : (p : Option ℕ) (xs ys : List ℕ) → Below p (lowest_of (xs ++ ys)) → Below p (lowest_of xs)
below_front p xs ys is = below_trans p (lowest_of (xs ++ ys)) (lowest_of xs) is (ap (λ o. lower o (lowest_of xs)) (lowest_append xs ys) ∙ below_left (lowest_of xs) (lowest_of ys) (lowest_of xs) (below_itself (lowest_of xs)) ∙ sym (lowest_append xs ys))

pub below_end : (p : Option ℕ) (xs ys : List ℕ) → Below p (lowest_of (xs ++ ys)) → Below p (lowest_of ys)
below_end p xs ys is = below_trans p (lowest_of (xs ++ ys)) (lowest_of ys) is (ap (λ o. lower o (lowest_of ys)) (lowest_append xs ys) ∙ below_right (lowest_of xs) (lowest_of ys) (lowest_of ys) (below_itself (lowest_of ys)) ∙ sym (lowest_append xs ys))

pub below_append : (p : Option ℕ) (xs ys : List ℕ) → Below p (lowest_of xs) → Below p (lowest_of ys) → Below p (lowest_of (xs ++ ys))
below_append p xs ys one two = ap (lower p) (lowest_append xs ys) ∙ below_both p (lowest_of xs) (lowest_of ys) one two

-- ---- one inode

abbrev pub keep_of : LogRecord → ℕ
keep_of (Delta inode kind size keep extents) = keep
keep_of (Place sector slot dentry) = 0
keep_of (Free inode) = 0

abbrev pub added_of : LogRecord → ℕ
added_of (Delta inode kind size keep extents) = length extents
added_of (Place sector slot dentry) = 0
added_of (Free inode) = 0

abbrev pub effect_of : ℕ → LogRecord → Effect
effect_of s r = record { sector = s; keep = keep_of r; added = added_of r }

-- what a record does to it, one after the other
abbrev pub advanced : ℕ → List Effect → Standing → Standing
advanced n [] s = s
advanced n (e ∷ es) s = advanced n es (changed n (after s.count e) s)

abbrev pub outs : ℕ → List Effect → Standing → List ℕ
outs n es s = if nat_lt s.before n then outkept es s.count else []

pub advanced_old : (n : ℕ) (es : List Effect) (s : Standing) → nat_lt s.before n ≡ false → advanced n es s ≡ s
advanced_old n [] s old = refl
advanced_old n (e ∷ es) s old = (λ i. advanced n es (if old i then record { before = s.before; number = n; count = after s.count e } else s)) ∙ advanced_old n es s old

pub advanced_newer : (n : ℕ) (e : Effect) (es : List Effect) (s : Standing) → nat_lt s.before n ≡ true → advanced n (e ∷ es) s ≡ record { before = s.before; number = n; count = edited (e ∷ es) s.count }
advanced_newer n e [] s newer = λ i. if newer i then record { before = s.before; number = n; count = after s.count e } else s
advanced_newer n e (f ∷ es) s newer =
    (λ i. advanced n (f ∷ es) (if newer i then record { before = s.before; number = n; count = after s.count e } else s))
    ∙ advanced_newer n f es (record { before = s.before; number = n; count = after s.count e }) newer

module _ (g : Geometry) (k : ℕ) where
  abbrev pub doing : PlacedRecord → List Effect
  doing p = if names g k p.1 then effect_of p.0 p.1 ∷ [] else []

  abbrev pub doings : List PlacedRecord → List Effect
  doings [] = []
  doings (p ∷ ps) = doing p ++ doings ps

  at_inode : (inode : ℕ) (all : List Standing) → (is_inode_number g inode && inode - 1 == k) ≡ true → standing_at all inode ≡ get_or all k no_standing
  at_inode inode all is = ap (λ n. get_or all n no_standing) (eqb-true (inode - 1) k (and_parts (is_inode_number g inode) (inode - 1 == k) is).1)

  set_here : (inode : ℕ) (f : Standing → Standing) (all : List Standing) → (is_inode_number g inode && inode - 1 == k) ≡ true → k < length all
      → get_or (if is_inode_number g inode then set all (inode - 1) (f (standing_at all inode)) else all) k no_standing ≡ f (get_or all k no_standing)
  set_here inode f all is lt =
      let parts = and_parts (is_inode_number g inode) (inode - 1 == k) is in
      let same : inode - 1 ≡ k = eqb-true (inode - 1) k parts.1 in
      (λ i. get_or (if parts.0 i then set all (same i) (f (get_or all (same i) no_standing)) else all) k no_standing) ∙ get_or-set_same all k (f (get_or all k no_standing)) no_standing lt

  here_stepped : (n : ℕ) (s : ℕ) (r : LogRecord) (all : List Standing) → names g k r ≡ true → k < length all
      → get_or (stepped g n r all) k no_standing ≡ changed n (after (get_or all k no_standing).count (effect_of s r)) (get_or all k no_standing)
  here_stepped n s (Delta inode kind size keep extents) all is lt = set_here inode (λ one. changed n (min keep one.count + length extents) one) all is lt
  here_stepped n s (Place sector slot dentry) all is lt = grind (arith, is)
  here_stepped n s (Free inode) all is lt =
      let none : 0 ≡ min 0 (get_or all k no_standing).count + 0 = omega arith in
      set_here inode (changed n 0) all is lt ∙ ap (λ c. changed n c (get_or all k no_standing)) none

  here_outkeeps : (n : ℕ) (r : LogRecord) (all : List Standing) → names g k r ≡ true → outkeeps g n r all ≡ (nat_lt (get_or all k no_standing).before n && nat_lt (get_or all k no_standing).count (keep_of r))
  here_outkeeps n (Delta inode kind size keep extents) all is =
      (λ i. (and_parts (is_inode_number g inode) (inode - 1 == k) is).0 i && (nat_lt (at_inode inode all is i).before n && nat_lt (at_inode inode all is i).count keep))
  here_outkeeps n (Place sector slot dentry) all is = grind (arith, is)
  here_outkeeps n (Free inode) all is = by (nat_lt (get_or all k no_standing).before n) (nat_lt (get_or all k no_standing).count 0) (Rattle.std.proofs.lemmas.Bool.le-ltb _ 0 (omega arith))
    where
      by : (a b : Bool) → b ≡ false → false ≡ (a && b)
      by true b is = sym is
      by false b is = refl

  pub long_stepped : (n : ℕ) (r : LogRecord) (all : List Standing) → length (stepped g n r all) ≡ length all
  long_stepped n (Delta inode kind size keep extents) all = long_if (is_inode_number g inode) _
    where
      long_if : (b : Bool) (one : Standing) → length (if b then set all (inode - 1) one else all) ≡ length all
      long_if true one = length-set all (inode - 1) one
      long_if false one = refl
  long_stepped n (Place sector slot dentry) all = refl
  long_stepped n (Free inode) all = long_if (is_inode_number g inode) _
    where
      long_if : (b : Bool) (one : Standing) → length (if b then set all (inode - 1) one else all) ≡ length all
      long_if true one = length-set all (inode - 1) one
      long_if false one = refl

  pub behind_at : (n : ℕ) (ps : List PlacedRecord) (all : List Standing) → k < length all → get_or (behind g n ps all) k no_standing ≡ advanced n (doings ps) (get_or all k no_standing)
  behind_at n [] all lt = refl
  behind_at n (p ∷ ps) all lt = behind_at n ps (stepped g n p.1 all) (omega (arith, lt, long_stepped n p.1 all)) ∙ by (names g k p.1) refl
    where
      by : (b : Bool) → names g k p.1 ≡ b → advanced n (doings ps) (get_or (stepped g n p.1 all) k no_standing) ≡ advanced n ((if b then effect_of p.0 p.1 ∷ [] else []) ++ doings ps) (get_or all k no_standing)
      by true is = ap (advanced n (doings ps)) (here_stepped n p.0 p.1 all is lt)
      by false is = ap (advanced n (doings ps)) (kept_stepped g k n p.1 all no_standing is)

  -- the first record, and the others behind it
  pub outs_split : (n : ℕ) (p : PlacedRecord) (ps : List PlacedRecord) (all : List Standing) → k < length all
      → outs n (doings (p ∷ ps)) (get_or all k no_standing) ≡ (if names g k p.1 && outkeeps g n p.1 all then p.0 ∷ [] else []) ++ outs n (doings ps) (get_or (stepped g n p.1 all) k no_standing)
  outs_split n p ps all lt = by (names g k p.1) refl
    where
      one : Standing
      one = get_or all k no_standing

      new : Standing
      new = record { before = one.before; number = n; count = after one.count (effect_of p.0 p.1) }

      step : (a : Bool) → nat_lt one.before n ≡ a → (if nat_lt one.before n then outkept (effect_of p.0 p.1 ∷ doings ps) one.count else [])
          ≡ (if nat_lt one.before n && nat_lt one.count (keep_of p.1) then p.0 ∷ [] else []) ++ outs n (doings ps) (changed n (after one.count (effect_of p.0 p.1)) one)
      step true is =
          (λ i. if is i then outkept (effect_of p.0 p.1 ∷ doings ps) one.count else [])
          ∙ sym ((λ i. (if is i && nat_lt one.count (keep_of p.1) then p.0 ∷ [] else []) ++ outs n (doings ps) (if is i then new else one))
          ∙ (λ i. (if nat_lt one.count (keep_of p.1) then p.0 ∷ [] else []) ++ (if is i then outkept (doings ps) (after one.count (effect_of p.0 p.1)) else [])))
      step false is =
          (λ i. if is i then outkept (effect_of p.0 p.1 ∷ doings ps) one.count else [])
          ∙ sym ((λ i. (if is i && nat_lt one.count (keep_of p.1) then p.0 ∷ [] else []) ++ outs n (doings ps) (if is i then new else one))
          ∙ (λ i. if is i then outkept (doings ps) one.count else []))

      by : (b : Bool) → names g k p.1 ≡ b → outs n ((if b then effect_of p.0 p.1 ∷ [] else []) ++ doings ps) (get_or all k no_standing)
          ≡ (if b && outkeeps g n p.1 all then p.0 ∷ [] else []) ++ outs n (doings ps) (get_or (stepped g n p.1 all) k no_standing)
      by true is = step (nat_lt one.before n) refl
          ∙ sym (λ i. (if here_outkeeps n p.1 all is i then p.0 ∷ [] else []) ++ outs n (doings ps) (here_stepped n p.0 p.1 all is lt i))
      by false is = sym (ap (outs n (doings ps)) (kept_stepped g k n p.1 all no_standing is))

  -- What an inode's records keep too many of stands among what all keep too many of.
  pub among : (n : ℕ) (ps : List PlacedRecord) (all : List Standing) → k < length all → Below (lowest_of (out_in g n ps all)) (lowest_of (outs n (doings ps) (get_or all k no_standing)))
  among n [] all lt = by (nat_lt (get_or all k no_standing).before n)
    where
      by : (b : Bool) → Below None (lowest_of (if b then [] else []))
      by true = refl
      by false = refl
  among n (p ∷ ps) all lt =
      ap (λ l. lower (lowest_of (out_in g n (p ∷ ps) all)) (lowest_of l)) (outs_split n p ps all lt)
      ∙ by (names g k p.1) (outkeeps g n p.1 all) (among n ps (stepped g n p.1 all) (omega (arith, lt, long_stepped n p.1 all)))
    where
      rest : List ℕ
      rest = out_in g n ps (stepped g n p.1 all)

      mine : List ℕ
      mine = outs n (doings ps) (get_or (stepped g n p.1 all) k no_standing)

      by : (a b : Bool) → Below (lowest_of rest) (lowest_of mine) → Below (lowest_of ((if b then p.0 ∷ [] else []) ++ rest)) (lowest_of ((if a && b then p.0 ∷ [] else []) ++ mine))
      by true true is = below_both (lower (Some p.0) (lowest_of rest)) (Some p.0) (lowest_of mine) (below_left (Some p.0) (lowest_of rest) (Some p.0) (below_itself (Some p.0))) (below_right (Some p.0) (lowest_of rest) (lowest_of mine) is)
      by true false is = is
      by false true is = below_right (Some p.0) (lowest_of rest) (lowest_of mine) is
      by false false is = is

pub long_behind : (g : Geometry) (n : ℕ) (ps : List PlacedRecord) (all : List Standing) → length (behind g n ps all) ≡ length all
long_behind g n [] all = refl
long_behind g n (p ∷ ps) all = long_behind g n ps (stepped g n p.1 all) ∙ long_stepped g 0 n p.1 all

-- And what is below each inode's is below all.
pub below_all : (g : Geometry) (n : ℕ) (low : Option ℕ) (ps : List PlacedRecord) (all : List Standing) → length all ≡ g.inodes
    → ((k : ℕ) → k < length all → Below low (lowest_of (outs n (doings g k ps) (get_or all k no_standing)))) → Below low (lowest_of (out_in g n ps all))
below_all g n low [] all sized each = below_none low
below_all g n low (p ∷ ps) all sized each =
    below_append low (if outkeeps g n p.1 all then p.0 ∷ [] else []) (out_in g n ps (stepped g n p.1 all)) (first p.1 refl)
    (below_all g n low ps (stepped g n p.1 all) (long_stepped g 0 n p.1 all ∙ sized)
    (λ k lt. let less : k < length all = omega (arith, lt, long_stepped g 0 n p.1 all) in
    below_end low (if names g k p.1 && outkeeps g n p.1 all then p.0 ∷ [] else []) (outs n (doings g k ps) (get_or (stepped g n p.1 all) k no_standing)) (ap (λ l. lower low (lowest_of l)) (sym (outs_split g k n p ps all less)) ∙ each k less)))
  where
    at : (k : ℕ) → k < length all → names g k p.1 ≡ true → Below low (lowest_of (if outkeeps g n p.1 all then p.0 ∷ [] else []))
    at k lt is =
        ap (λ b. lower low (lowest_of (if b && outkeeps g n p.1 all then p.0 ∷ [] else []))) (sym is)
        ∙ below_front low (if names g k p.1 && outkeeps g n p.1 all then p.0 ∷ [] else []) (outs n (doings g k ps) (get_or (stepped g n p.1 all) k no_standing)) (ap (λ l. lower low (lowest_of l)) (sym (outs_split g k n p ps all lt)) ∙ each k lt)

    first : (r : LogRecord) → p.1 ≡ r → Below low (lowest_of (if outkeeps g n p.1 all then p.0 ∷ [] else []))
    first (Delta inode kind size keep extents) is = elim (cases_Bool (is_inode_number g inode)) [
      | inl it ↦ (let parts = and_parts (nat_le 1 inode) (nat_le inode g.inodes) it in
          let low_ = leb-true 1 inode parts.0 in
          let high = leb-true inode g.inodes parts.1 in
          at (inode - 1) (omega (arith, low_, high, sized)) (ap (names g (inode - 1)) is ∙ (λ i. it i && eq-eqb (inode - 1) (inode - 1) refl i)))
      | inr out ↦ ap (λ b. lower low (lowest_of (if b then p.0 ∷ [] else []))) (ap (λ r. outkeeps g n r all) is ∙ (λ i. out i && (nat_lt (standing_at all inode).before n && nat_lt (standing_at all inode).count keep))) ∙ below_none low
    ]
    first (Place sector slot dentry) is = ap (λ b. lower low (lowest_of (if b then p.0 ∷ [] else []))) (ap (λ r. outkeeps g n r all) is) ∙ below_none low
    first (Free inode) is = ap (λ b. lower low (lowest_of (if b then p.0 ∷ [] else []))) (ap (λ r. outkeeps g n r all) is) ∙ below_none low
