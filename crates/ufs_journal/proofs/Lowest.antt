-- The lowest sector that is off, where the journal gets one sector more that isn't.
use Rattle.std.proofs.Common.{◌≡◌, ℕ, List, ◌∷◌, ◌++◌, Bool, false, ◌||◌, ◌&&◌, Some, refl, ap, sym, ◌∙◌}
use Rattle.std.specs.Prelude.{◌==◌}
use Rattle.std.specs.List.{list_any, find}
use Rattle.std.specs.Option.{option_map}
use Rattle.std.proofs.lemmas.Bool.{and_right}
use Rattle.std.proofs.lemmas.List.Elements.{filter_map-append}
use Rattle.ufs_layout.specs.Areas.{journal_sectors}
use Rattle.ufs_base.specs.Images.{Image}
use Rattle.ufs_image.specs.Journal.{ReadSector, FoundSector, well_spelled, transactions}
use Rattle.ufs_layout.specs.JournalSector.{JournalSector}
use Rattle.ufs_image.specs.BadSectors.{is_misspelled, is_off, overkept, first_bad}
use Rattle.ufs_layout.specs.declared.geometry.Geometry.{Geometry}
use Rattle.ufs_journal.proofs.Inserted.{any_skip, any_agree, find_agree}

-- what is told of one sector
abbrev pub is_bad_at : Geometry → ℕ → List ReadSector → List FoundSector → List ℕ → ℕ → Bool
is_bad_at g next read all over sector =
    list_any (λ (r : ReadSector). r.0 == sector && is_misspelled r) read
    || list_any (λ (f : FoundSector). f.0 == sector && is_off g next all f) all
    || list_any (λ o. o == sector) over

pub spelled_with : (place : ℕ) (j : JournalSector) (front behind : List ReadSector) → well_spelled (front ++ (place, Some j) ∷ behind) ≡ well_spelled front ++ (place, j) ∷ well_spelled behind
spelled_with place j front behind = filter_map-append (λ (r : ReadSector). option_map {U = FoundSector} (λ j. (r.0, j)) r.1) front ((place, Some j) ∷ behind)

pub spelled_without : (front behind : List ReadSector) → well_spelled (front ++ behind) ≡ well_spelled front ++ well_spelled behind
spelled_without front behind = filter_map-append (λ (r : ReadSector). option_map {U = FoundSector} (λ j. (r.0, j)) r.1) front behind

-- The others are off as before, the new one isn't, and the same records keep too many.
pub same_lowest : (g : Geometry) (next place : ℕ) (j : JournalSector) (front behind : List ReadSector) (d e : Image) (q : FoundSector → Bool)
    → (let xs = well_spelled front in let ys = well_spelled behind in
    ((f : FoundSector) → q f ≡ false → is_off g next (xs ++ (place, j) ∷ ys) f ≡ is_off g next (xs ++ ys) f)
    → list_any q (xs ++ ys) ≡ false
    → is_off g next (xs ++ (place, j) ∷ ys) (place, j) ≡ false
    → overkept g (transactions (xs ++ (place, j) ∷ ys)) e ≡ overkept g (transactions (xs ++ ys)) d
    → first_bad g next e (front ++ (place, Some j) ∷ behind) ≡ first_bad g next d (front ++ behind))
same_lowest g next place j front behind d e q others quiet new over =
    ap (λ (all : List FoundSector). find (is_bad_at g next (front ++ (place, Some j) ∷ behind) all (overkept g (transactions all) e)) (journal_sectors g)) (spelled_with place j front behind)
    ∙ ap (λ (o : List ℕ). find (is_bad_at g next (front ++ (place, Some j) ∷ behind) (well_spelled front ++ (place, j) ∷ well_spelled behind) o) (journal_sectors g)) over
    ∙ find_agree _ _ at (journal_sectors g)
    ∙ sym (ap (λ (all : List FoundSector). find (is_bad_at g next (front ++ behind) all (overkept g (transactions all) d)) (journal_sectors g)) (spelled_without front behind))
  where
    at : (sector : ℕ) → is_bad_at g next (front ++ (place, Some j) ∷ behind) (well_spelled front ++ (place, j) ∷ well_spelled behind) (overkept g (transactions (well_spelled front ++ well_spelled behind)) d) sector
        ≡ is_bad_at g next (front ++ behind) (well_spelled front ++ well_spelled behind) (overkept g (transactions (well_spelled front ++ well_spelled behind)) d) sector
    at sector = λ i.
        any_skip (λ (r : ReadSector). r.0 == sector && is_misspelled r) (place, Some j) front behind (and_right (place == sector) false refl) i
        || (any_skip (λ (f : FoundSector). f.0 == sector && is_off g next (well_spelled front ++ (place, j) ∷ well_spelled behind) f) (place, j) (well_spelled front) (well_spelled behind) (and_right (place == sector) _ new)
        ∙ any_agree q _ _ (λ f other. ap (λ b. f.0 == sector && b) (others f other)) (well_spelled front ++ well_spelled behind) quiet) i
        || list_any (λ o. o == sector) (overkept g (transactions (well_spelled front ++ well_spelled behind)) d)
