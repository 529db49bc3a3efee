-- Images that agree on a set of sectors with the inode table in it still do once the same records are folded.
use Rattle.std.proofs.Common.{◌≡◌, ℕ, List, [], ◌∷◌, Bool, true, false, unwrap_or, ap, refl, ◌∙◌, subst, arith}
use Rattle.std.specs.Prelude.{◌==◌, nat_lt, if◌then◌else◌}
use Rattle.std.proofs.lemmas.Bool.Decides.{nat_tests}
use Rattle.ufs_layout.specs.Areas.{sector_of_inode, is_inode_number, is_data_sector}
use Rattle.ufs_layout.specs.InodeForm.{InodeForm, inode_of, inode_bytes, free_inode}
use Rattle.ufs_layout.specs.DentryForm.{DentryForm, dentry_bytes}
use Rattle.ufs_base.specs.Images.{Image}
use Rattle.ufs_image.specs.Images.{with_sector, with_slot, form_at}
use Rattle.ufs_image.specs.Fold.{is_newer, with_inode, after_delta, with_record, with_valid, with_records, with_committed, folded}
use Rattle.ufs_layout.specs.declared.geometry.Geometry.{Geometry}
use Rattle.ufs_layout.specs.declared.records.LogRecord.{LogRecord}
use Rattle.ufs_layout.specs.declared.records.LogRecord.TheVariants.{Delta, Place, Free}
use Rattle.ufs_layout.specs.declared.records.Committed.{Committed}
use Rattle.ufs_image.specs.Agree.{AgreeOn}

module _ (g : Geometry) (these : ℕ → Type 0) (table : (inode : ℕ) → is_inode_number g inode ≡ true → these (sector_of_inode g inode)) where
  pub form_agrees : (image other : Image) → AgreeOn these image other → (inode : ℕ) → is_inode_number g inode ≡ true → form_at g image inode ≡ form_at g other inode
  form_agrees image other agree inode is = ap (λ bytes. unwrap_or (inode_of bytes) (free_inode 0)) (agree (sector_of_inode g inode) (table inode is))

  pub newer_agrees : (image other : Image) → AgreeOn these image other → (number inode : ℕ) → is_inode_number g inode ≡ true → is_newer g number image inode ≡ is_newer g number other inode
  newer_agrees image other agree number inode is = ap (λ (f : InodeForm). nat_lt f.number number) (form_agrees image other agree inode is)

  -- one inode gets another form, or not
  form_set : (newer : Bool) (sector : ℕ) (form to : InodeForm) (now then' : Image) → form ≡ to → AgreeOn these now then'
      → AgreeOn these (if newer then with_sector sector (inode_bytes form) now else now) (if newer then with_sector sector (inode_bytes to) then' else then')
  form_set true sector form to now then' same agree s in_these = λ i. if s == sector then inode_bytes (same i) else agree s in_these i
  form_set false sector form to now then' same agree s in_these = agree s in_these

  dentry_set : (sector slot : ℕ) (d : DentryForm) (now then' : Image) → AgreeOn these now then'
      → AgreeOn these (with_sector sector (with_slot slot (dentry_bytes d) (now sector)) now) (with_sector sector (with_slot slot (dentry_bytes d) (then' sector)) then')
  dentry_set sector slot d now then' agree s in_these = by (s == sector) refl
    where
      by : (b : Bool) → (s == sector) ≡ b → (if b then with_slot slot (dentry_bytes d) (now sector) else now s) ≡ (if b then with_slot slot (dentry_bytes d) (then' sector) else then' s)
      by true e = let same : s ≡ sector = grind (arith, nat_tests, e) in ap (with_slot slot (dentry_bytes d)) (agree sector (subst these same in_these))
      by false e = agree s in_these

  pub record_agrees : (number : ℕ) (before sooner now then' : Image) (r : LogRecord) → AgreeOn these before sooner → AgreeOn these now then'
      → AgreeOn these (with_valid g number before r now) (with_valid g number sooner r then')
  record_agrees number before sooner now then' (Delta inode kind size keep extents) first agree = by (is_inode_number g inode) refl
    where
      by : (b : Bool) → is_inode_number g inode ≡ b
          → AgreeOn these (if b then with_record g number before (Delta inode kind size keep extents) now else now) (if b then with_record g number sooner (Delta inode kind size keep extents) then' else then')
      by false e = agree
      by true e =
          let newer = newer_agrees before sooner first number inode e in
          let forms = ap (λ form. after_delta form number kind size keep extents) (form_agrees now then' agree inode e) in
          let step = form_set (is_newer g number before inode) (sector_of_inode g inode) (after_delta (form_at g now inode) number kind size keep extents) (after_delta (form_at g then' inode) number kind size keep extents) now then' forms agree in
          λ s in_these. step s in_these ∙ ap (λ t. (if t then with_inode g inode (after_delta (form_at g then' inode) number kind size keep extents) then' else then') s) newer
  record_agrees number before sooner now then' (Place sector slot dentry) first agree = by (is_data_sector g sector)
    where
      by : (b : Bool) → AgreeOn these (if b then with_record g number before (Place sector slot dentry) now else now) (if b then with_record g number sooner (Place sector slot dentry) then' else then')
      by false = agree
      by true = dentry_set sector slot dentry now then' agree
  record_agrees number before sooner now then' (Free inode) first agree = by (is_inode_number g inode) refl
    where
      by : (b : Bool) → is_inode_number g inode ≡ b → AgreeOn these (if b then with_record g number before (Free inode) now else now) (if b then with_record g number sooner (Free inode) then' else then')
      by false e = agree
      by true e =
          let newer = newer_agrees before sooner first number inode e in
          let step = form_set (is_newer g number before inode) (sector_of_inode g inode) (free_inode number) (free_inode number) now then' refl agree in
          λ s in_these. step s in_these ∙ ap (λ t. (if t then with_inode g inode (free_inode number) then' else then') s) newer

  pub records_agree : (number : ℕ) (before sooner now then' : Image) (rs : List LogRecord) → AgreeOn these before sooner → AgreeOn these now then'
      → AgreeOn these (with_records g number before rs now) (with_records g number sooner rs then')
  records_agree number before sooner now then' [] first agree = agree
  records_agree number before sooner now then' (r ∷ rs) first agree =
      records_agree number before sooner (with_valid g number before r now) (with_valid g number sooner r then') rs first (record_agrees number before sooner now then' r first agree)

  pub committed_agrees : (c : Committed) (image other : Image) → AgreeOn these image other → AgreeOn these (with_committed g c image) (with_committed g c other)
  committed_agrees c image other agree = records_agree c.number image other image other c.records agree agree

  -- Images that agree still do once the same is folded.
  pub folded_agrees : (cs : List Committed) (image other : Image) → AgreeOn these image other → AgreeOn these (folded g cs image) (folded g cs other)
  folded_agrees [] image other agree = agree
  folded_agrees (c ∷ cs) image other agree = folded_agrees cs (with_committed g c image) (with_committed g c other) (committed_agrees c image other agree)
