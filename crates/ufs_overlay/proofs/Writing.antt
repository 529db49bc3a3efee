-- Sectors that are written home one after the other.
use Rattle.std.proofs.Common.{◌≡◌, inl, inr, ⊎_elim, ◌/◌, ℕ, List, [], Bool, true, length, refl, ap, sym, ◌∙◌, arith}
use Rattle.std.specs.Prelude.{if◌then◌else◌, ◌==◌, ◌+◌, ◌<◌, ◌≤◌, nat_lt}
use Rattle.std.specs.List.{AllByRecursion}
use Rattle.ufs_layout.specs.Areas.{sector_count}
use Rattle.ufs_disk.specs.Disk.{State, IsWhole}
use Rattle.ufs_image.specs.Folding.{FitsCommitted}
use Rattle.ufs_image.specs.CatalogLaws.{FoldsMixes}
use Rattle.ufs_overlay.specs.Over.{FoldsAlike}
use Rattle.std.proofs.lemmas.Bool.{cases_eq, cases_lt, eq-eqb, ne_eqb, lt-ltb, le-ltb}
use Rattle.std.proofs.lemmas.List.{take_all}
use Rattle.ufs_base.specs.Images.{Image}
use Rattle.ufs_disk.specs.Disk.{IsImage, IsPartlyWritten, overwritten, put_all, pieces}
use Rattle.ufs_disk.specs.Moments.{Moments, LeavesOnly, reads}
use Rattle.ufs_disk.proofs.Runs.{goes_on, weaker, started}
use Rattle.ufs_image.specs.Fold.{folded}
use Rattle.ufs_overlay.specs.Over.{rise_above, records_of, IsTouched, IsHomeSettled, IsHomeWritten, IsStepWritten}
use Rattle.ufs_overlay.proofs.SectorFold.{local_folded, untouched_folded}
use Rattle.ufs_layout.specs.declared.geometry.Geometry.{Geometry}
use Rattle.ufs_layout.specs.declared.records.Committed.{Committed}

-- one sector that is put
pub put_one : (sector : ℕ) (bytes : List ℕ) (d : Image) (k : ℕ) → length bytes ≡ 512 → overwritten sector bytes d k ≡ (if k == sector then bytes else d k)
put_one sector bytes d k sized =
    ap (λ n. put_all sector (pieces (n / 512) bytes) d k) sized ∙ ap (λ (b : List ℕ). if k == sector then b else d k) (take_all 512 bytes (omega (arith, sized)))

module _ (keeps : Bool) (g : Geometry) (cs : List Committed) where
  -- a sector that no record changes
  pub step_quiet : (sector : ℕ) (old new : Moments) → LeavesOnly keeps (IsImage old.state) old new → LeavesOnly keeps (IsStepWritten g cs sector old.state) old new
  step_quiet sector old new call = weaker keeps (IsImage old.state) (IsStepWritten g cs sector old.state) (λ image left. record { before = image; left = left; each = λ k. inl refl }) old new call

  -- a sector that is read and written
  pub step_written : (sector : ℕ) (bytes : List ℕ) (old mid new : Moments) → length bytes ≡ 512 → IsTouched g cs sector → bytes ≡ folded g cs (reads old) sector
      → LeavesOnly keeps (IsImage old.state) old mid → LeavesOnly keeps (IsPartlyWritten sector bytes mid.state) mid new → LeavesOnly keeps (IsStepWritten g cs sector old.state) old new
  step_written sector bytes old mid new sized touched is read write =
      goes_on keeps (IsStepWritten g cs sector old.state) (IsPartlyWritten sector bytes mid.state) old mid new (step_quiet sector old mid read) write
      (λ image w. record {
        before = w.before;
        left = read.after w.before w.left;
        each = λ k. ⊎_elim (λ same. inl same)
            (λ written. elim (cases_eq k sector) [
              | inl here ↦ inr (here, (touched, ap image (sym here) ∙ written ∙ put_one sector bytes w.before k sized ∙ ap (λ b. if b then bytes else w.before k) (eq-eqb k sector here) ∙ is))
              | inr ne ↦ inl (written ∙ put_one sector bytes w.before k sized ∙ ap (λ b. if b then bytes else w.before k) (ne_eqb k sector ne))
            ])
            (w.mixed k);
      })

  module _ (rises : rise_above 0 cs ≡ true) (first : Moments) where
    -- one sector more
    pub turn : (sector : ℕ) (old new : Moments) → IsHomeSettled g cs first.state → reads old sector ≡ reads first sector
        → LeavesOnly keeps (IsHomeWritten g cs first.state) first old → LeavesOnly keeps (IsStepWritten g cs sector old.state) old new → LeavesOnly keeps (IsHomeWritten g cs first.state) first new
    turn sector old new settled same so_far call =
        goes_on keeps (IsHomeWritten g cs first.state) (IsStepWritten g cs sector old.state) first old new so_far call
        (λ image w. let p = so_far.after w.before w.left in record {
          before = p.before;
          left = p.left;
          mixed = λ k. ⊎_elim
              (λ stays. ⊎_elim (λ a. inl (stays ∙ a)) (λ b. inr (stays ∙ b)) (p.mixed k))
              (λ at. inr (ap image at.0 ∙ at.1.1 ∙ local_folded g sector cs (reads old) p.before rises (same ∙ sym (settled p.before p.left sector at.1.0)) ∙ ap (folded g cs p.before) (sym at.0)))
              (w.each k);
        })

    pub begun : LeavesOnly keeps (IsHomeWritten g cs first.state) first first
    begun = started keeps (IsHomeWritten g cs first.state) first (λ image left. record { before = image; left = left; mixed = λ k. inl refl })

-- ---- what is read

module _ (g : Geometry) (cs : List Committed) where
  pub quiet_put : rise_above 0 cs ≡ true → (sector : ℕ) (d : Image) (k : ℕ) → records_of g sector cs ≡ [] → d k ≡ (if k == sector then folded g cs d k else d k)
  quiet_put rises sector d k none = elim (cases_eq k sector) [
    | inl here ↦ sym (untouched_folded g k cs d rises (ap (λ s. records_of g s cs) here ∙ none)) ∙ sym (ap (λ b. if b then folded g cs d k else d k) (eq-eqb k sector here))
    | inr ne ↦ sym (ap (λ b. if b then folded g cs d k else d k) (ne_eqb k sector ne))
  ]

  pub write_reads : (sector : ℕ) (bytes : List ℕ) (old mid new : Image) → length bytes ≡ 512 → bytes ≡ folded g cs old sector → mid ≡ old → new ≡ overwritten sector bytes mid → (k : ℕ) → new k ≡ (if k == sector then folded g cs old k else old k)
  write_reads sector bytes old mid new sized is same written k = ap (λ (d : Image). d k) written ∙ put_one sector bytes mid k sized ∙ elim (cases_eq k sector) [
    | inl here ↦ ap (λ b. if b then bytes else mid k) (eq-eqb k sector here) ∙ is ∙ ap (folded g cs old) (sym here) ∙ sym (ap (λ b. if b then folded g cs old k else old k) (eq-eqb k sector here))
    | inr ne ↦ ap (λ b. if b then bytes else mid k) (ne_eqb k sector ne) ∙ ap (λ (d : Image). d k) same ∙ sym (ap (λ b. if b then folded g cs old k else old k) (ne_eqb k sector ne))
  ]

  -- each sector below this one is as the transactions leave it
  abbrev pub AreBelow : ℕ → Image → Image → Type 0
  AreBelow sector first now = (k : ℕ) → now k ≡ (if nat_lt k sector then folded g cs first k else first k)

  pub read_turn : rise_above 0 cs ≡ true → (sector : ℕ) (first mid new : Image) → AreBelow sector first mid → ((k : ℕ) → new k ≡ (if k == sector then folded g cs mid k else mid k)) → AreBelow (sector + 1) first new
  read_turn rises sector first mid new below written k = written k ∙ elim (cases_eq k sector) [
    | inl here ↦ ap (λ b. if b then folded g cs mid k else mid k) (eq-eqb k sector here)
        ∙ local_folded g k cs mid first rises (below k ∙ ap (λ b. if b then folded g cs first k else first k) (le-ltb k sector (omega (arith, here))))
        ∙ sym (ap (λ b. if b then folded g cs first k else first k) (lt-ltb k (sector + 1) (omega (arith, here))))
    | inr ne ↦ ap (λ b. if b then folded g cs mid k else mid k) (ne_eqb k sector ne) ∙ below k ∙ elim (cases_lt k sector) [
      | inl lt ↦ ap (λ b. if b then folded g cs first k else first k) (lt-ltb k sector lt) ∙ sym (ap (λ b. if b then folded g cs first k else first k) (lt-ltb k (sector + 1) (omega arith)))
      | inr ge ↦ ap (λ b. if b then folded g cs first k else first k) (le-ltb k sector ge) ∙ sym (ap (λ b. if b then folded g cs first k else first k) (le-ltb k (sector + 1) (omega (arith, ne, ge))))
    ]
  ]

  -- sectors that no record changes
  pub read_skip : rise_above 0 cs ≡ true → (at sector : ℕ) (first now : Image) → at ≤ sector → ((k : ℕ) → at ≤ k → k < sector → records_of g k cs ≡ []) → AreBelow at first now → AreBelow sector first now
  read_skip rises at sector first now from quiet below k = below k ∙ elim (cases_lt k at) [
    | inl lt ↦ ap (λ b. if b then folded g cs first k else first k) (lt-ltb k at lt) ∙ sym (ap (λ b. if b then folded g cs first k else first k) (lt-ltb k sector (omega arith)))
    | inr ge ↦ ap (λ b. if b then folded g cs first k else first k) (le-ltb k at ge) ∙ elim (cases_lt k sector) [
      | inl lt ↦ sym (untouched_folded g k cs first rises (quiet k ge lt)) ∙ sym (ap (λ b. if b then folded g cs first k else first k) (lt-ltb k sector lt))
      | inr above ↦ sym (ap (λ b. if b then folded g cs first k else first k) (le-ltb k sector above))
    ]
  ]

  pub read_all : rise_above 0 cs ≡ true → (sector : ℕ) (first now : Image) → AreBelow sector first now → (k : ℕ) → (sector ≤ k → records_of g k cs ≡ []) → now k ≡ folded g cs first k
  read_all rises sector first now below k beyond = below k ∙ elim (cases_lt k sector) [
    | inl lt ↦ ap (λ b. if b then folded g cs first k else first k) (lt-ltb k sector lt)
    | inr ge ↦ ap (λ b. if b then folded g cs first k else first k) (le-ltb k sector ge) ∙ sym (untouched_folded g k cs first rises (beyond ge))
  ]

-- ---- what is partly written home folds to what it folded to

pub folds_alike : (g : Geometry) (cs : List Committed) (size : ℕ) (state : State) → FoldsMixes g → sector_count g ≤ size → IsWhole size state → AllByRecursion FitsCommitted cs
    → (image : Image) → IsHomeWritten g cs state image → FoldsAlike g cs state image
folds_alike g cs size state mixes large whole fits image written = record {
  before = written.before;
  left = written.left;
  alike = λ sector. mixes size written.before image cs large (λ k less. whole.within k less _ (written.left k)) fits sector (written.mixed sector);
}
