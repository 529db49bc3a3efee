-- The records of some steps may be committed.
use Rattle.std.proofs.Common.{◌≡◌, ℕ, ◌+◌, ◌^◌, ◌<◌, ◌≤◌, ◌⊎◌, inl, inr, List, [], ◌∷◌, ◌++◌, Bool, true, false, length, ap, refl, ◌∙◌, arith}
use Rattle.std.specs.Prelude.{◌&&◌, ◌||◌, nat_lt, nat_le, IsTrue, if◌then◌else◌}
use Rattle.std.specs.List.{list_all}
use Rattle.std.proofs.lemmas.Bool.{and_parts}
use Rattle.std.proofs.lemmas.Bool.Decides.{nat_tests}
use Rattle.ufs_layout.specs.Areas.{IsGeometry}
use Rattle.ufs_layout.specs.InodeForm.{InodeForm, is_extent, free_inode}
use Rattle.ufs_layout.specs.DentryForm.{is_dentry}
use Rattle.ufs_layout.specs.Records.{is_record, FitsRecord}
use Rattle.ufs_layout.specs.declared.geometry.Geometry.{Geometry}
use Rattle.ufs_layout.specs.declared.records.LogRecord.{LogRecord}
use Rattle.ufs_layout.specs.declared.records.LogRecord.TheVariants.{Delta, Place, Free}
use Rattle.ufs_image.specs.Fold.{is_in_range, after_delta}
use Rattle.ufs_image.specs.Catalog.{Catalog, IsInode}
use Rattle.ufs_image.specs.Folding.{with_form, is_newer_in, with_record_in, with_valid_in, with_records_in, AreSpelled}
use Rattle.ufs_dir_tree.specs.DirTable.{blocks_at}
use Rattle.ufs_dir_tree.specs.Space.{extents_of}
use Rattle.ufs_ilog.specs.Deltas as log
use Rattle.ufs_ledger.specs.Changes.{keeps_too_many_in, keeps_more_in}
use Rattle.ufs_dir_tree.specs.Steps.{DirState, Step, Born, Grown, Put, Freed, after}
use Rattle.ufs_promise_laws.specs.Steps.{record_of, records_of}
use Rattle.ufs_promise_laws.specs.Held.{HasState, MayStep, MaySteps}
use Rattle.ufs_promise_laws.specs.ChangeLaws.{AreOlder}
use Rattle.ufs_promise_laws.proofs.Extents.{extents_fit, extents_spelled, length_told, few_blocks}
use Rattle.ufs_promise_laws.proofs.Forms.{each_form}
use Rattle.ufs_promise_laws.proofs.Growing.{lie}
use Rattle.ufs_promise_laws.proofs.Putting.{lies}
use Rattle.ufs_promise_laws.proofs.RecordsTold.{told}

-- ---- no record keeps an extent

and_false : (a b : Bool) → b ≡ false → (a && b) ≡ false
and_false true b e = e
and_false false b e = refl

none_below : (n : ℕ) → nat_lt n 0 ≡ false
none_below n = grind (arith, nat_tests)

keeps_none : (number : ℕ) (before c : Catalog) (s : DirState) (x : Step) → keeps_too_many_in number before c (record_of s x) ≡ false
keeps_none number before c s (Born i kind) = and_false (is_newer_in number before i) _ (none_below (length (c.forms i).extents))
keeps_none number before c s (Grown i block) = and_false (is_newer_in number before i) _ (none_below (length (c.forms i).extents))
keeps_none number before c s (Put i slot d) = refl
keeps_none number before c s (Freed i) = refl

pub keeps_no_more : (g : Geometry) (number : ℕ) (before : Catalog) (s : DirState) (xs : List Step) (c : Catalog) → keeps_more_in g number before (records_of s xs) c ≡ false
keeps_no_more g number before s [] c = refl
keeps_no_more g number before s (x ∷ xs) c =
    ap (λ b. b || keeps_more_in g number before (records_of (after x s) xs) (with_valid_in g number before (record_of s x) c)) (and_false (is_in_range g (record_of s x)) _ (keeps_none number before c s x))
    ∙ keeps_no_more g number before (after x s) xs (with_valid_in g number before (record_of s x) c)

-- ---- the numbers

module _ (g : Geometry) (number : ℕ) (before : Catalog) where
  abbrev AreMost : Catalog → Type 0
  AreMost c = (inode : ℕ) → IsInode g inode → (c.forms inode).number ≤ number

  reformed_most : (c : Catalog) (i : ℕ) (form : InodeForm) → form.number ≡ number → AreMost c → AreMost (with_form i form c)
  reformed_most c i form same most k inside = each_form c i form (λ n f. f.number ≤ number) (omega (arith, same)) k (most k inside)

  chosen : (b : Bool) (c d : Catalog) → AreMost c → AreMost d → AreMost (if b then c else d)
  chosen true c d first other = first
  chosen false c d first other = other

  most_after : (r : LogRecord) (c : Catalog) → AreMost c → AreMost (with_record_in number before r c)
  most_after (Delta i kind size keep extents) c most = chosen (is_newer_in number before i) (with_form i (after_delta (c.forms i) number kind size keep extents) c) c (reformed_most c i (after_delta (c.forms i) number kind size keep extents) refl most) most
  most_after (Place sector slot d) c most = most
  most_after (Free i) c most = chosen (is_newer_in number before i) (with_form i (free_inode number) c) c (reformed_most c i (free_inode number) refl most) most

  pub most_all : (rs : List LogRecord) (c : Catalog) → AreMost c → AreMost (with_records_in g number before rs c)
  most_all [] c most = most
  most_all (r ∷ rs) c most = most_all rs (with_valid_in g number before r c) (chosen (is_in_range g r) (with_record_in number before r c) c (most_after r c most) most)

-- ---- each record has a spelling

module _ (g : Geometry) (is : IsGeometry g) where
  small : (i : ℕ) → IsInode g i → i < 2 ^ 32
  small i inside = let most = inside.within in let all = is.most_inodes in omega (arith, most, all)

  kind_ok : (kind : ℕ) → (kind ≡ 1) ⊎ (kind ≡ 2) → ((nat_le 1 kind && nat_le kind 2) && (nat_le 0 56 && true)) ≡ true
  kind_ok kind (inl e) = ap (λ k. (nat_le 1 k && nat_le k 2) && (nat_le 0 56 && true)) e
  kind_ok kind (inr e) = ap (λ k. (nat_le 1 k && nat_le k 2) && (nat_le 0 56 && true)) e

  spelled : (c : Catalog) (s : DirState) (x : Step) → HasState g c s → MayStep g s x → IsTrue (is_record (record_of s x)) × FitsRecord (record_of s x)
  spelled c s (Born i kind) has may = (kind_ok kind may.known, (small i may.in_range, omega arith, tt))
  spelled c s (Grown i block) has may =
      let more : List ℕ = blocks_at s.table i ++ block ∷ [] in
      let few = may.extents in
      let told = length_told (extents_of more) in
      let count : nat_le (0 + length (log.extents_of (extents_of more))) 56 ≡ true = grind (arith, nat_tests, few, told) in
      let size = few_blocks g more (lie g c s has i block 0 may) is in
      (ap (λ b. b && list_all is_extent (log.extents_of (extents_of more))) count ∙ extents_spelled g more (lie g c s has i block 0 may), (small i may.in_range, omega (arith, size, few), extents_fit g more (lie g c s has i block 0 may) is))
  spelled c s (Put i slot d) has may =
      let at = lies g c s has i slot d may in
      let under = at.under in let most = is.most_blocks in
      let low = may.in_dir.in_sector in
      let first : nat_lt slot.slot 8 ≡ true = grind (arith, nat_tests, low) in
      let short = (and_parts (nat_le (length d.name) 58) _ may.form.spelled).0 in
      (ap (λ b. b && is_dentry d) first ∙ may.form.spelled, (omega (arith, under, most), may.form.inode, grind (arith, nat_tests, short)))
  spelled c s (Freed i) has may = (refl, small i may.in_range)

  pub spelled_all : (number : ℕ) (before : Catalog) → AreOlder g before number → (c : Catalog) (s : DirState) (xs : List Step) → HasState g c s → MaySteps g s xs → AreSpelled (records_of s xs)
  spelled_all number before older c s [] has may = tt
  spelled_all number before older c s (x ∷ xs) has may =
      (spelled c s x has may.0, spelled_all number before older (with_valid_in g number before (record_of s x) c) (after x s) xs (told g number before older c s x has may.0) may.1)
