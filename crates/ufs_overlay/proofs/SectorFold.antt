-- The fold of transactions at one sector: it depends on what this sector had before, and on the records of it alone.
use Rattle.std.proofs.Common.{◌≡◌, ◌≢◌, inl, inr, ℕ, ◌<◌, ◌≤◌, List, [], ◌∷◌, ◌++◌, Bool, true, false, ◌&&◌, refl, ap, sym, ◌∙◌, subst, arith}
use Rattle.std.specs.Prelude.{if◌then◌else◌, ◌==◌, nat_lt, map, filter}
use Rattle.std.proofs.lemmas.Bool.{cases_eq, eq-eqb, ne_eqb, and_parts, ltb-true, lt-ltb}
use Rattle.ufs_base.specs.Images.{Image}
use Rattle.ufs_layout.specs.Areas.{sector_of_inode}
use Rattle.ufs_image.specs.Images.{with_sector}
use Rattle.ufs_image.specs.Fold.{is_in_range, is_newer, with_record, with_valid, with_records, with_committed, folded}
use Rattle.ufs_overlay.specs.declared.lists.Numbered.{Numbered}
use Rattle.ufs_overlay.specs.Steps.{form_of, stepped, stepped_all}
use Rattle.ufs_overlay.specs.Over.{sector_of_record, is_of, records_of, rise_above}
use Rattle.ufs_layout.specs.declared.geometry.Geometry.{Geometry}
use Rattle.ufs_layout.specs.declared.records.LogRecord.{LogRecord}
use Rattle.ufs_layout.specs.declared.records.LogRecord.TheVariants.{Delta, Place, Free}
use Rattle.ufs_layout.specs.declared.records.Committed.{Committed}

-- ---- one sector that is put

put_elsewhere : (c : Bool) (sector : ℕ) (bytes : List ℕ) (now : Image) (s : ℕ) → sector ≢ s → (if c then with_sector sector bytes now else now) s ≡ now s
put_elsewhere true sector bytes now s ne = ap (λ b. if b then bytes else now s) (ne_eqb s sector (λ e. ne (sym e)))
put_elsewhere false sector bytes now s ne = refl

put_there : (c : Bool) (sector : ℕ) (bytes : List ℕ) (now : Image) → (if c then with_sector sector bytes now else now) sector ≡ (if c then bytes else now sector)
put_there true sector bytes now = ap (λ b. if b then bytes else now sector) (eq-eqb sector sector refl)
put_there false sector bytes now = refl

module _ (g : Geometry) (number : ℕ) (before : Image) where
  -- ---- one record

  -- a record of another sector
  other_record : (r : LogRecord) (now : Image) (s : ℕ) → sector_of_record g r ≢ s → with_record g number before r now s ≡ now s
  other_record (Delta inode kind size keep extents) now s ne = put_elsewhere (is_newer g number before inode) (sector_of_inode g inode) _ now s ne
  other_record (Place sector slot dentry) now s ne = put_elsewhere true sector _ now s ne
  other_record (Free inode) now s ne = put_elsewhere (is_newer g number before inode) (sector_of_inode g inode) _ now s ne

  -- one of this sector
  own_record : (r : LogRecord) (now : Image) → with_record g number before r now (sector_of_record g r) ≡ stepped (nat_lt (form_of (before (sector_of_record g r))).number number) number r (now (sector_of_record g r))
  own_record (Delta inode kind size keep extents) now = put_there (is_newer g number before inode) (sector_of_inode g inode) _ now
  own_record (Place sector slot dentry) now = put_there true sector _ now
  own_record (Free inode) now = put_there (is_newer g number before inode) (sector_of_inode g inode) _ now

  pub valid_at : (r : LogRecord) (now : Image) (s : ℕ) → with_valid g number before r now s ≡ (if is_of g s r then stepped (nat_lt (form_of (before s)).number number) number r (now s) else now s)
  valid_at r now s = by (is_in_range g r)
    where
      inside : with_record g number before r now s ≡ (if sector_of_record g r == s then stepped (nat_lt (form_of (before s)).number number) number r (now s) else now s)
      inside = elim (cases_eq (sector_of_record g r) s) [
        | inl here ↦ subst (λ (t : ℕ). with_record g number before r now t ≡ stepped (nat_lt (form_of (before t)).number number) number r (now t)) here (own_record r now)
            ∙ sym (ap (λ b. if b then stepped (nat_lt (form_of (before s)).number number) number r (now s) else now s) (eq-eqb (sector_of_record g r) s here))
        | inr ne ↦ other_record r now s ne ∙ sym (ap (λ b. if b then stepped (nat_lt (form_of (before s)).number number) number r (now s) else now s) (ne_eqb (sector_of_record g r) s ne))
      ]

      by : (c : Bool) → (if c then with_record g number before r now else now) s ≡ (if c && sector_of_record g r == s then stepped (nat_lt (form_of (before s)).number number) number r (now s) else now s)
      by true = inside
      by false = refl

  -- ---- the records of one transaction

  abbrev of_sector : ℕ → List LogRecord → List Numbered
  of_sector s rs = map (λ r. record { number = number; change = r }) (filter (is_of g s) rs)

  -- the first was met already
  same_txn : (s : ℕ) (rs : List LogRecord) (rest : List Numbered) (now : Image)
      → stepped_all number (nat_lt (form_of (before s)).number number) (of_sector s rs ++ rest) (now s) ≡ stepped_all number (nat_lt (form_of (before s)).number number) rest (with_records g number before rs now s)
  same_txn s [] rest now = refl
  same_txn s (r ∷ rs) rest now = by (is_of g s r) (valid_at r now s) (same_txn s rs rest (with_valid g number before r now))
    where
      newer : Bool
      newer = nat_lt (form_of (before s)).number number

      by : (c : Bool) → with_valid g number before r now s ≡ (if c then stepped newer number r (now s) else now s)
          → stepped_all number newer (of_sector s rs ++ rest) (with_valid g number before r now s) ≡ stepped_all number newer rest (with_records g number before rs (with_valid g number before r now) s)
          → stepped_all number newer (map (λ (r : LogRecord). record { number = number; change = r }) (if c then r ∷ filter (is_of g s) rs else filter (is_of g s) rs) ++ rest) (now s) ≡ stepped_all number newer rest (with_records g number before rs (with_valid g number before r now) s)
      by true at more =
          ap (λ b. stepped_all number (if b then newer else nat_lt (form_of (now s)).number number) (of_sector s rs ++ rest) (stepped (if b then newer else nat_lt (form_of (now s)).number number) number r (now s))) (eq-eqb number number refl)
          ∙ ap (stepped_all number newer (of_sector s rs ++ rest)) (sym at) ∙ more
      by false at more = ap (stepped_all number newer (of_sector s rs ++ rest)) (sym at) ∙ more

  -- what goes on behind the records of a transaction: its number was met, or none of them was of the sector
  record GoesOn (start : List ℕ) (rest : List Numbered) (after : List ℕ) : Type 0 where
    pub met : ℕ
    pub asked : Bool
    pub most : met ≤ number
    pub is : start ≡ stepped_all met asked rest after

  goes_on : (last : ℕ) (newer : Bool) (s : ℕ) (rs : List LogRecord) (rest : List Numbered) (now : Image) → last < number → now s ≡ before s
      → GoesOn (stepped_all last newer (of_sector s rs ++ rest) (now s)) rest (with_records g number before rs now s)
  goes_on last newer s [] rest now below same = record { met = last; asked = newer; most = omega arith; is = refl }
  goes_on last newer s (r ∷ rs) rest now below same = by (is_of g s r) (valid_at r now s) (λ kept. goes_on last newer s rs rest (with_valid g number before r now) below (kept ∙ same))
    where
      fresh : Bool
      fresh = nat_lt (form_of (before s)).number number

      asked_is : (if number == last then newer else nat_lt (form_of (now s)).number number) ≡ fresh
      asked_is = ap (λ b. if b then newer else nat_lt (form_of (now s)).number number) (ne_eqb number last (λ e. absurd (omega arith))) ∙ ap (λ x. nat_lt (form_of x).number number) same

      by : (c : Bool) → with_valid g number before r now s ≡ (if c then stepped fresh number r (now s) else now s)
          → (with_valid g number before r now s ≡ now s → GoesOn (stepped_all last newer (of_sector s rs ++ rest) (with_valid g number before r now s)) rest (with_records g number before rs (with_valid g number before r now) s))
          → GoesOn (stepped_all last newer (map (λ (r : LogRecord). record { number = number; change = r }) (if c then r ∷ filter (is_of g s) rs else filter (is_of g s) rs) ++ rest) (now s)) rest (with_records g number before rs (with_valid g number before r now) s)
      by true at more = record {
        met = number;
        asked = fresh;
        most = omega arith;
        is = ap (λ b. stepped_all number b (of_sector s rs ++ rest) (stepped b number r (now s))) asked_is ∙ ap (stepped_all number fresh (of_sector s rs ++ rest)) (sym at) ∙ same_txn s rs rest (with_valid g number before r now);
      }
      by false at more = let w = more at in record {
        met = w.met;
        asked = w.asked;
        most = w.most;
        is = ap (stepped_all last newer (of_sector s rs ++ rest)) (sym at) ∙ w.is;
      }

-- ---- all transactions

rise_weaker : (low high : ℕ) (cs : List Committed) → low ≤ high → rise_above high cs ≡ true → rise_above low cs ≡ true
rise_weaker low high [] le rises = refl
rise_weaker low high (c ∷ cs) le rises =
    let parts = and_parts (nat_lt high c.number) (rise_above c.number cs) rises in
    let lt : high < c.number = ltb-true high c.number parts.0 in
    λ i. lt-ltb low c.number (omega arith) i && parts.1 i

-- the records of the sector, one after the other, leave what folding leaves
pub fold_at : (g : Geometry) (s : ℕ) (cs : List Committed) (last : ℕ) (newer : Bool) (d : Image) → rise_above last cs ≡ true → stepped_all last newer (records_of g s cs) (d s) ≡ folded g cs d s
fold_at g s [] last newer d rises = refl
fold_at g s (c ∷ cs) last newer d rises =
    let parts = and_parts (nat_lt last c.number) (rise_above c.number cs) rises in
    let w = goes_on g c.number d last newer s c.records (records_of g s cs) d (ltb-true last c.number parts.0) refl in
    w.is ∙ fold_at g s cs w.met w.asked (with_committed g c d) (rise_weaker w.met c.number cs w.most parts.1)

-- two images that have the same in a sector fold to the same there
pub local_folded : (g : Geometry) (s : ℕ) (cs : List Committed) (d e : Image) → rise_above 0 cs ≡ true → d s ≡ e s → folded g cs d s ≡ folded g cs e s
local_folded g s cs d e rises same = sym (fold_at g s cs 0 false d rises) ∙ ap (stepped_all 0 false (records_of g s cs)) same ∙ fold_at g s cs 0 false e rises

-- a sector with no record stays
pub untouched_folded : (g : Geometry) (s : ℕ) (cs : List Committed) (d : Image) → rise_above 0 cs ≡ true → records_of g s cs ≡ [] → folded g cs d s ≡ d s
untouched_folded g s cs d rises none = sym (fold_at g s cs 0 false d rises) ∙ ap (λ ns. stepped_all 0 false ns (d s)) none
