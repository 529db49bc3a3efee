-- Folding is local: what a sector has afterwards depends on what it had before, and on no other sector.
use Rattle.std.proofs.Common.{◌≡◌, ◌≢◌, ◌⊎◌, inl, inr, ⊎_elim, ℕ, ◌+◌, ◌-◌, ◌*◌, ◌<◌, ◌≤◌, List, [], ◌∷◌, ◌++◌, Bool, true, false, ◌&&◌, refl, ap, sym, ◌∙◌, arith}
use Rattle.std.specs.Prelude.{if◌then◌else◌, nat_lt, unwrap_or}
use Rattle.std.proofs.lemmas.Bool.{cases_eq, eq-eqb, ne_eqb}
use Rattle.ufs_layout.specs.Areas.{sector_of_inode}
use Rattle.ufs_base.specs.Images.{Image}
use Rattle.ufs_image.specs.Images.{with_sector, with_slot, form_at}
use Rattle.ufs_layout.specs.InodeForm.{InodeForm, inode_of, inode_bytes, free_inode}
use Rattle.ufs_layout.specs.DentryForm.{dentry_bytes}
use Rattle.ufs_image.specs.Fold.{is_in_range, is_newer, after_delta, with_record, with_valid, with_records, with_committed, folded}
use Rattle.ufs_layout.specs.declared.geometry.Geometry.{Geometry}
use Rattle.ufs_layout.specs.declared.records.LogRecord.{LogRecord}
use Rattle.ufs_layout.specs.declared.records.LogRecord.TheVariants.{Delta, Place, Free}
use Rattle.ufs_layout.specs.declared.records.Committed.{Committed}

-- an image that is one of two
pub if_at : (c : Bool) (d e : Image) (s : ℕ) → (if c then d else e) s ≡ (if c then d s else e s)
if_at true d e s = refl
if_at false d e s = refl

-- another sector than the one that is put
pub put_elsewhere : (c : Bool) (sector : ℕ) (bytes : List ℕ) (now : Image) (s : ℕ) → s ≢ sector → (if c then with_sector sector bytes now else now) s ≡ now s
put_elsewhere true sector bytes now s ne = ap (λ b. if b then bytes else now s) (ne_eqb s sector ne)
put_elsewhere false sector bytes now s ne = refl

-- the sector that is put
pub put_there : (c : Bool) (sector : ℕ) (bytes : List ℕ) (now : Image) → (if c then with_sector sector bytes now else now) sector ≡ (if c then bytes else now sector)
put_there true sector bytes now = ap (λ b. if b then bytes else now sector) (eq-eqb sector sector refl)
put_there false sector bytes now = refl

module _ (g : Geometry) (number s : ℕ) where
  -- an inode's sector
  local_inode : (inode : ℕ) (change : InodeForm → InodeForm) (b b' d d' : Image) → b s ≡ b' s → d s ≡ d' s
      → (if is_newer g number b inode then with_sector (sector_of_inode g inode) (inode_bytes (change (form_at g d inode))) d else d) s
      ≡ (if is_newer g number b' inode then with_sector (sector_of_inode g inode) (inode_bytes (change (form_at g d' inode))) d' else d') s
  local_inode inode change b b' d d' same_b same_d = elim (cases_eq (sector_of_inode g inode) s) [
    | inl here ↦ Rattle.std.proofs.Common.subst (λ (t : ℕ). b t ≡ b' t → d t ≡ d' t
        → (if is_newer g number b inode then with_sector (sector_of_inode g inode) (inode_bytes (change (form_at g d inode))) d else d) t
        ≡ (if is_newer g number b' inode then with_sector (sector_of_inode g inode) (inode_bytes (change (form_at g d' inode))) d' else d') t) here
        (λ bs ds. put_there (is_newer g number b inode) (sector_of_inode g inode) _ d
        ∙ (λ i. if nat_lt (unwrap_or (inode_of (bs i)) (free_inode 0)).number number then inode_bytes (change (unwrap_or (inode_of (ds i)) (free_inode 0))) else ds i)
        ∙ sym (put_there (is_newer g number b' inode) (sector_of_inode g inode) _ d'))
        same_b same_d
    | inr ne ↦ put_elsewhere (is_newer g number b inode) (sector_of_inode g inode) _ d s (λ e. ne (sym e)) ∙ same_d ∙ sym (put_elsewhere (is_newer g number b' inode) (sector_of_inode g inode) _ d' s (λ e. ne (sym e)))
  ]

  local_record : (r : LogRecord) (b b' d d' : Image) → b s ≡ b' s → d s ≡ d' s → with_record g number b r d s ≡ with_record g number b' r d' s
  local_record (Delta inode kind size keep extents) b b' d d' same_b same_d = local_inode inode (λ form. after_delta form number kind size keep extents) b b' d d' same_b same_d
  local_record (Place sector slot dentry) b b' d d' same_b same_d = elim (cases_eq s sector) [
    | inl here ↦ (λ i. if eq-eqb s sector here i then with_slot slot (dentry_bytes dentry) (d (sym here i)) else d s) ∙ ap (with_slot slot (dentry_bytes dentry)) same_d
        ∙ sym (λ i. if eq-eqb s sector here i then with_slot slot (dentry_bytes dentry) (d' (sym here i)) else d' s)
    | inr ne ↦ ap (λ b. if b then with_slot slot (dentry_bytes dentry) (d sector) else d s) (ne_eqb s sector ne) ∙ same_d ∙ sym (ap (λ b. if b then with_slot slot (dentry_bytes dentry) (d' sector) else d' s) (ne_eqb s sector ne))
  ]
  local_record (Free inode) b b' d d' same_b same_d = local_inode inode (λ form. free_inode number) b b' d d' same_b same_d

  pub local_valid : (r : LogRecord) (b b' d d' : Image) → b s ≡ b' s → d s ≡ d' s → with_valid g number b r d s ≡ with_valid g number b' r d' s
  local_valid r b b' d d' same_b same_d = by (is_in_range g r)
    where
      by : (c : Bool) → (if c then with_record g number b r d else d) s ≡ (if c then with_record g number b' r d' else d') s
      by true = local_record r b b' d d' same_b same_d
      by false = same_d

  pub local_records : (rs : List LogRecord) (b b' d d' : Image) → b s ≡ b' s → d s ≡ d' s → with_records g number b rs d s ≡ with_records g number b' rs d' s
  local_records [] b b' d d' same_b same_d = same_d
  local_records (r ∷ rs) b b' d d' same_b same_d = local_records rs b b' (with_valid g number b r d) (with_valid g number b' r d') same_b (local_valid r b b' d d' same_b same_d)

-- two images that have the same in a sector
pub local_folded : (g : Geometry) (s : ℕ) (cs : List Committed) (d e : Image) → d s ≡ e s → folded g cs d s ≡ folded g cs e s
local_folded g s [] d e same = same
local_folded g s (c ∷ cs) d e same = local_folded g s cs (with_committed g c d) (with_committed g c e) (local_records g c.number s c.records d e d e same same)
