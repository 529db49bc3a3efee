-- Images that agree but for the journal fold alike.
use Rattle.std.proofs.Common.{◌≡◌, inl, inr, ⊎_elim, ℕ, ◌*◌, ◌<◌, ◌≤◌, List, [], ◌∷◌, ◌++◌, Bool, true, false, ◌&&◌, refl, ap, sym, ◌∙◌, arith}
use Rattle.std.specs.Prelude.{if◌then◌else◌, ◌==◌, nat_le, nat_lt, length, unwrap_or}
use Rattle.std.proofs.lemmas.Bool.{cases_Bool, and_parts, leb-true}
use Rattle.ufs_disk.specs.Disk.{put}
use Rattle.ufs_disk.proofs.Images.{put_other}
use Rattle.ufs_layout.specs.Areas.{first_of_data, sector_of_inode, is_inode_number, is_data_sector}
use Rattle.ufs_base.specs.Images.{Image}
use Rattle.ufs_image.specs.Images.{with_sector, with_slot, form_at}
use Rattle.ufs_layout.specs.InodeForm.{InodeForm, inode_of, inode_bytes, free_inode}
use Rattle.ufs_layout.specs.DentryForm.{dentry_bytes}
use Rattle.ufs_image.specs.Fold.{is_in_range, is_newer, after_delta, with_record, with_valid, with_records, with_committed, folded}
use Rattle.ufs_image.specs.Journal.{PlacedRecord, Transaction, committed_of}
use Rattle.ufs_image.specs.BadSectors.{keeps_too_many, overkept_in, overkept}
use Rattle.ufs_layout.specs.declared.geometry.Geometry.{Geometry}
use Rattle.ufs_layout.specs.declared.records.LogRecord.{LogRecord}
use Rattle.ufs_layout.specs.declared.records.LogRecord.TheVariants.{Delta, Place, Free}
use Rattle.ufs_layout.specs.declared.records.Committed.{Committed}
use Rattle.ufs_journal.specs.Found.{journal_sector, IsOffJournal, AgreeOffJournal}

module _ (g : Geometry) where
  -- an inode's sector, and one of the data area, lie off the journal
  pub inode_off : (inode : ℕ) → is_inode_number g inode ≡ true → IsOffJournal g (sector_of_inode g inode)
  inode_off inode is =
      let parts = and_parts (nat_le 1 inode) (nat_le inode g.inodes) is in
      let low : 1 ≤ inode = leb-true 1 inode parts.0 in
      let high : inode ≤ g.inodes = leb-true inode g.inodes parts.1 in
      inl (omega arith)

  pub data_off : (sector : ℕ) → is_data_sector g sector ≡ true → IsOffJournal g sector
  data_off sector is =
      let parts = and_parts (nat_le (8 * first_of_data g) sector) (nat_lt sector (8 * g.blocks)) is in
      let low : 8 * first_of_data g ≤ sector = leb-true (8 * first_of_data g) sector parts.0 in
      inr (omega arith)

  -- so the inodes of such images are the same
  pub form_agree : (inode : ℕ) (d e : Image) → is_inode_number g inode ≡ true → AgreeOffJournal g d e → form_at g d inode ≡ form_at g e inode
  form_agree inode d e is agree = ap (λ bytes. unwrap_or (inode_of bytes) (free_inode 0)) (agree (sector_of_inode g inode) (inode_off inode is))

  -- with the same in one sector more
  with_agree : (sector : ℕ) (xs ys : List ℕ) (d e : Image) → xs ≡ ys → AgreeOffJournal g d e → AgreeOffJournal g (with_sector sector xs d) (with_sector sector ys e)
  with_agree sector xs ys d e same agree k off = λ i. if k == sector then same i else agree k off i

  if_agree : (b c : Bool) (d e d' e' : Image) → b ≡ c → AgreeOffJournal g d e → AgreeOffJournal g d' e' → AgreeOffJournal g (if b then d else d') (if c then e else e')
  if_agree b c d e d' e' same one other k off = λ i. (elim (cases_Bool b) as (λ _. (if b then d else d') k ≡ (if c then e else e') k) [
    | inl is ↦ ap (λ (t : Bool). (if t then d else d') k) is ∙ one k off ∙ sym (ap (λ (t : Bool). (if t then e else e') k) (sym same ∙ is))
    | inr is ↦ ap (λ (t : Bool). (if t then d else d') k) is ∙ other k off ∙ sym (ap (λ (t : Bool). (if t then e else e') k) (sym same ∙ is))
  ]) i

  module _ (number : ℕ) (before before' : Image) (agree_before : AgreeOffJournal g before before') where
    newer_agree : (inode : ℕ) → is_inode_number g inode ≡ true → is_newer g number before inode ≡ is_newer g number before' inode
    newer_agree inode is = ap (λ (f : InodeForm). nat_lt f.number number) (form_agree inode before before' is agree_before)

    record_agree : (r : LogRecord) (d e : Image) → is_in_range g r ≡ true → AgreeOffJournal g d e → AgreeOffJournal g (with_record g number before r d) (with_record g number before' r e)
    record_agree (Delta inode kind size keep extents) d e is agree = if_agree (is_newer g number before inode) (is_newer g number before' inode) _ _ d e (newer_agree inode is)
        (with_agree (sector_of_inode g inode) _ _ d e (ap (λ (f : InodeForm). inode_bytes (after_delta f number kind size keep extents)) (form_agree inode d e is agree)) agree) agree
    record_agree (Place sector slot dentry) d e is agree = with_agree sector _ _ d e (ap (with_slot slot (dentry_bytes dentry)) (agree sector (data_off sector is))) agree
    record_agree (Free inode) d e is agree = if_agree (is_newer g number before inode) (is_newer g number before' inode) _ _ d e (newer_agree inode is)
        (with_agree (sector_of_inode g inode) (inode_bytes (free_inode number)) (inode_bytes (free_inode number)) d e refl agree) agree

    pub valid_agree : (r : LogRecord) (d e : Image) → AgreeOffJournal g d e → AgreeOffJournal g (with_valid g number before r d) (with_valid g number before' r e)
    valid_agree r d e agree = by (is_in_range g r) refl
      where
        by : (b : Bool) → is_in_range g r ≡ b → AgreeOffJournal g (if b then with_record g number before r d else d) (if b then with_record g number before' r e else e)
        by true is = record_agree r d e is agree
        by false is = agree

    pub records_agree : (rs : List LogRecord) (d e : Image) → AgreeOffJournal g d e → AgreeOffJournal g (with_records g number before rs d) (with_records g number before' rs e)
    records_agree [] d e agree = agree
    records_agree (r ∷ rs) d e agree = records_agree rs (with_valid g number before r d) (with_valid g number before' r e) (valid_agree r d e agree)

    keeps_agree : (r : LogRecord) (d e : Image) → is_in_range g r ≡ true → AgreeOffJournal g d e → keeps_too_many g number before d r ≡ keeps_too_many g number before' e r
    keeps_agree (Delta inode kind size keep extents) d e is agree = λ i. newer_agree inode is i && nat_lt (length (form_agree inode d e is agree i).extents) keep
    keeps_agree (Place sector slot dentry) d e is agree = refl
    keeps_agree (Free inode) d e is agree = refl

    keeps_valid : (r : LogRecord) (d e : Image) → AgreeOffJournal g d e → is_in_range g r && keeps_too_many g number before d r ≡ is_in_range g r && keeps_too_many g number before' e r
    keeps_valid r d e agree = by (is_in_range g r) refl
      where
        by : (b : Bool) → is_in_range g r ≡ b → b && keeps_too_many g number before d r ≡ b && keeps_too_many g number before' e r
        by true is = keeps_agree r d e is agree
        by false is = refl

    pub overkept_in_agree : (ps : List PlacedRecord) (d e : Image) → AgreeOffJournal g d e → overkept_in g number before ps d ≡ overkept_in g number before' ps e
    overkept_in_agree [] d e agree = refl
    overkept_in_agree (p ∷ ps) d e agree = λ i.
        (if keeps_valid p.1 d e agree i then p.0 ∷ [] else [])
        ++ overkept_in_agree ps (with_valid g number before p.1 d) (with_valid g number before' p.1 e) (valid_agree p.1 d e agree) i

  pub committed_agree : (c : Committed) (d e : Image) → AgreeOffJournal g d e → AgreeOffJournal g (with_committed g c d) (with_committed g c e)
  committed_agree c d e agree = records_agree c.number d e agree c.records d e agree

  -- folding keeps the agreement
  pub folded_agree : (cs : List Committed) (d e : Image) → AgreeOffJournal g d e → AgreeOffJournal g (folded g cs d) (folded g cs e)
  folded_agree [] d e agree = agree
  folded_agree (c ∷ cs) d e agree = folded_agree cs (with_committed g c d) (with_committed g c e) (committed_agree c d e agree)

  -- and the same records keep too many extents
  pub overkept_agree : (ts : List Transaction) (d e : Image) → AgreeOffJournal g d e → overkept g ts d ≡ overkept g ts e
  overkept_agree [] d e agree = refl
  overkept_agree (t ∷ ts) d e agree = λ i.
      overkept_in_agree t.number d e agree t.records d e agree i
      ++ overkept_agree ts (with_committed g (committed_of t) d) (with_committed g (committed_of t) e) (committed_agree (committed_of t) d e agree) i

  -- an image with another content in one sector of the journal
  pub put_agree : (place : ℕ) (bytes : List ℕ) (d : Image) → place < g.journal → AgreeOffJournal g (put (journal_sector g place) bytes d) d
  put_agree place bytes d within k off = put_other (journal_sector g place) k bytes d (λ same. ⊎_elim (λ (low : k < journal_sector g 0). omega arith) (λ (high : journal_sector g g.journal ≤ k). omega arith) off)
