-- For want of what a commit of names is refused.
use Rattle.std.proofs.Common.{◌≡◌, ℕ, List, Bool, true, false, Result, Err, inl, inr, ap, sym, ◌∙◌}
use Rattle.ufs_base.specs.declared.lack.Lack.{Lack}
use Rattle.ufs_base.specs.declared.lack.Lack.TheVariants.{Memory, AtEnd, Unsound, Told}
use Rattle.ufs_layout.specs.declared.geometry.Geometry.{Geometry}
use Rattle.ufs_layout.specs.declared.records.LogRecord.{LogRecord}
use Rattle.ufs_store.specs.Ends.{IsLackOf}
use Rattle.ufs_store.specs.State.{StoreState}
use Rattle.ufs_store.specs.declared.fault.StoreFault.{StoreFault}
use Rattle.ufs_store.specs.declared.fault.StoreFault.TheVariants as refusal
use Rattle.ufs_names_commit.specs.Fits.{IsLackOfCommit, fit}

abbrev fault_or : {T : Type 0} → Result T StoreFault → StoreFault → StoreFault
fault_or (Err fault) other = fault
fault_or _ other = other

-- a refusal
abbrev pub refused : (T : Type 0) → StoreFault → Result T StoreFault
refused T fault = Err fault

pub fault_is : (T : Type 0) (x y : StoreFault) → refused T x ≡ refused T y → x ≡ y
fault_is T x y e = ap (λ r. fault_or r x) e

abbrev lack_or : {T : Type 0} → Result T StoreFault → Lack → Lack
lack_or (Err (refusal.Lack lack)) other = lack
lack_or _ other = other

pub lack_is : (T : Type 0) (v w : Lack) → refused T (refusal.Lack v) ≡ refused T (refusal.Lack w) → v ≡ w
lack_is T v w e = ap (λ r. lack_or r v) e

-- what the store lacks then, it lacked before blocks were written
pub lacks_commit : (s mid : StoreState) (records : List LogRecord) (w : Lack) → mid.journal.number ≡ s.journal.number → mid.superblock.epoch ≡ s.superblock.epoch → IsLackOf mid w → IsLackOfCommit s records w
lacks_commit s mid records (Memory refused) number epoch is = tt
lacks_commit s mid records AtEnd number epoch is = inl (elim is [ inl ended ↦ inl (sym number ∙ ended) | inr ended ↦ inr (sym epoch ∙ ended) ])
lacks_commit s mid records Unsound number epoch is = is
lacks_commit s mid records Told number epoch is = is

-- Records that fit aren't refused since they don't.
pub unfit_clash : (g form : Geometry) (records : List LogRecord) (b : Bool) → form ≡ g → b ≡ fit form records → b ≡ true → fit g records ≡ false → ⊥
unfit_clash g form records b same is on off = (let clash = sym off ∙ ap (λ (x : Geometry). fit x records) (sym same) ∙ sym is ∙ on in cc)
