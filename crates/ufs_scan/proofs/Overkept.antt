-- What keeps too many, by how inodes stand.
use Rattle.std.proofs.Common.{◌≡◌, ℕ, zero, suc, ◌+◌, ◌^◌, ◌<◌, List, [], ◌∷◌, ◌++◌, true, ◌&&◌, refl, ap, ◌∙◌}
use Rattle.std.specs.Prelude.{if◌then◌else◌, map}
use Rattle.std.specs.List.{list_all, range_with_len, AllByRecursion}
use Rattle.std.proofs.lemmas.Bool.{and_parts}
use Rattle.ufs_layout.specs.Areas.{IsGeometry}
use Rattle.ufs_base.specs.Images.{Image}
use Rattle.ufs_layout.specs.Records.{is_record, FitsRecord}
use Rattle.ufs_image.specs.Journal.{PlacedRecord, Transaction, committed_of}
use Rattle.ufs_image.specs.Fold.{is_in_range, with_valid, with_records, with_committed}
use Rattle.ufs_image.specs.BadSectors.{keeps_too_many, overkept_in, overkept}
use Rattle.ufs_layout.specs.declared.geometry.Geometry.{Geometry}
use Rattle.ufs_journal.specs.Fits.{FitsCommitted}
use Rattle.ufs_scan.specs.Standings.{standing_of, standings, out_in, behind, rested, out_of}
use Rattle.ufs_scan.proofs.Standings.{step, keeps}

module _ (g : Geometry) (taken : IsGeometry g) where
  out_one : (number : ℕ) → number < 2 ^ 64 → (before : Image) (ps : List PlacedRecord) (now : Image) → list_all is_record (map (λ (p : PlacedRecord). p.1) ps) ≡ true → AllByRecursion FitsRecord (map (λ (p : PlacedRecord). p.1) ps)
      → out_in g number ps (standings g before now) ≡ overkept_in g number before ps now
  out_one number small before [] now form fits = refl
  out_one number small before (p ∷ ps) now form fits =
      let parts = and_parts (is_record p.1) (list_all is_record (map (λ (q : PlacedRecord). q.1) ps)) form in
      (λ i. (if keeps g taken number small before now p.1 i then p.0 ∷ [] else []) ++ out_in g number ps (step g taken number small before now p.1 parts.0 fits.0 i))
      ∙ ap (λ l. (if is_in_range g p.1 && keeps_too_many g number before now p.1 then p.0 ∷ [] else []) ++ l) (out_one number small before ps (with_valid g number before p.1 now) parts.1 fits.1)

  behind_one : (number : ℕ) → number < 2 ^ 64 → (before : Image) (ps : List PlacedRecord) (now : Image) → list_all is_record (map (λ (p : PlacedRecord). p.1) ps) ≡ true → AllByRecursion FitsRecord (map (λ (p : PlacedRecord). p.1) ps)
      → behind g number ps (standings g before now) ≡ standings g before (with_records g number before (map (λ (p : PlacedRecord). p.1) ps) now)
  behind_one number small before [] now form fits = refl
  behind_one number small before (p ∷ ps) now form fits =
      let parts = and_parts (is_record p.1) (list_all is_record (map (λ (q : PlacedRecord). q.1) ps)) form in
      ap (behind g number ps) (step g taken number small before now p.1 parts.0 fits.0) ∙ behind_one number small before ps (with_valid g number before p.1 now) parts.1 fits.1

  rest_map : (before now : Image) (a n : ℕ) → map rested (map (standing_of g before now) (range_with_len a n)) ≡ map (standing_of g now now) (range_with_len a n)
  rest_map before now a zero = refl
  rest_map before now a (suc n) = ap (λ l. standing_of g now now a ∷ l) (rest_map before now (a + 1) n)

  pub out_is : (ts : List Transaction) (before now : Image) → AllByRecursion (λ (t : Transaction). FitsCommitted (committed_of t)) ts → out_of g ts (standings g before now) ≡ overkept g ts now
  out_is [] before now every = refl
  out_is (t ∷ ts) before now every =
      (λ i. out_in g t.number t.records (rest_map before now 1 g.inodes i) ++ out_of g ts (behind g t.number t.records (rest_map before now 1 g.inodes i)))
      ∙ (λ i. out_one t.number every.0.small now t.records now every.0.form every.0.fits i ++ out_of g ts (behind_one t.number every.0.small now t.records now every.0.form every.0.fits i))
      ∙ ap (λ l. overkept_in g t.number now t.records now ++ l) (out_is ts now (with_committed g (committed_of t) now) every.1)
