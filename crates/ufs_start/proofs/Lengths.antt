-- Transactions leave sectors of the data area alike in length.
use Rattle.std.proofs.Common.{◌≡◌, ◌≢◌, ℕ, ◌+◌, ◌*◌, ◌-◌, inl, inr, List, [], ◌∷◌, ◌++◌, Bool, true, false, length, min, take, drop, refl, ap, sym, ◌∙◌, subst, arith, length-append, length-drop}
use Rattle.std.specs.Prelude.{nat_le, nat_lt, if◌then◌else◌}
use Rattle.std.proofs.lemmas.Bool.{and_parts, cases_eq, eq-eqb, ne_eqb, leb-true}
use Rattle.std.proofs.lemmas.List.{length-take}
use Rattle.ufs_base.specs.Images.{Image}
use Rattle.ufs_layout.specs.Areas.{first_of_data, is_data_sector, is_inode_number, sector_count, sector_of_inode}
use Rattle.ufs_layout.specs.DentryForm.{dentry_bytes}
use Rattle.ufs_layout.specs.declared.geometry.Geometry.{Geometry}
use Rattle.ufs_layout.specs.declared.records.Committed.{Committed}
use Rattle.ufs_layout.specs.declared.records.LogRecord.{LogRecord}
use Rattle.ufs_layout.specs.declared.records.LogRecord.TheVariants.{Delta, Place, Free}
use Rattle.ufs_image.specs.Images.{with_sector, with_slot}
use Rattle.ufs_image.specs.Fold.{is_newer, with_record, with_valid, with_records, with_committed, folded}
use Rattle.ufs_image.proofs.Mixed.{table_end}

slot_length : (slot : ℕ) (bytes sector : List ℕ) → length (with_slot slot bytes sector) ≡ min (64 * slot) (length sector) + (length bytes + (length sector - (64 * slot + 64)))
slot_length slot bytes sector =
    let front : List ℕ = take (64 * slot) sector in
    let rest : List ℕ = drop (64 * slot + 64) sector in
    let all : length (with_slot slot bytes sector) ≡ length (front ++ bytes) + length rest = length-append (front ++ bytes) rest in
    let before = length-append front bytes in
    let one = length-take (64 * slot) sector in
    let two = length-drop (64 * slot + 64) sector in
    omega (arith, all, before, one, two)

slot_alike : (slot : ℕ) (bytes one other : List ℕ) → length one ≡ length other → length (with_slot slot bytes one) ≡ length (with_slot slot bytes other)
slot_alike slot bytes one other same = slot_length slot bytes one ∙ ap (λ n. min (64 * slot) n + (length bytes + (n - (64 * slot + 64)))) same ∙ sym (slot_length slot bytes other)

module _ (g : Geometry) (s : ℕ) (within : is_data_sector g s ≡ true) where
  apart : (inode : ℕ) → is_inode_number g inode ≡ true → s ≢ sector_of_inode g inode
  apart inode in_range same =
      let from = leb-true (8 * first_of_data g) s (and_parts (nat_le (8 * first_of_data g) s) (nat_lt s (sector_count g)) within).0 in
      let end = table_end g inode in_range in
      omega (arith, from, end, same)

  left : (b : Bool) (sector : ℕ) (bytes : List ℕ) (now : Image) → s ≢ sector → (if b then with_sector sector bytes now else now) s ≡ now s
  left true sector bytes now other = ap (λ t. if t then bytes else now s) (ne_eqb s sector other)
  left false sector bytes now other = refl

  put_alike : (sector : ℕ) (b c : List ℕ) (now next : Image) → (s ≡ sector → length b ≡ length c) → length (now s) ≡ length (next s) → length (with_sector sector b now s) ≡ length (with_sector sector c next s)
  put_alike sector b c now next put same = elim (cases_eq s sector) [
    | inl here ↦ ap (λ t. length (if t then b else now s)) (eq-eqb s sector here) ∙ put here ∙ sym (ap (λ t. length (if t then c else next s)) (eq-eqb s sector here))
    | inr other ↦ ap (λ t. length (if t then b else now s)) (ne_eqb s sector other) ∙ same ∙ sym (ap (λ t. length (if t then c else next s)) (ne_eqb s sector other))
  ]

  record_alike : (number : ℕ) (before sooner now next : Image) (r : LogRecord) → length (now s) ≡ length (next s) → length (with_valid g number before r now s) ≡ length (with_valid g number sooner r next s)
  record_alike number before sooner now next (Delta inode kind size keep extents) same = by (is_inode_number g inode) refl
    where
      by : (b : Bool) → is_inode_number g inode ≡ b → length ((if b then with_record g number before (Delta inode kind size keep extents) now else now) s) ≡ length ((if b then with_record g number sooner (Delta inode kind size keep extents) next else next) s)
      by true in_range = ap length (left (is_newer g number before inode) (sector_of_inode g inode) _ now (apart inode in_range)) ∙ same ∙ sym (ap length (left (is_newer g number sooner inode) (sector_of_inode g inode) _ next (apart inode in_range)))
      by false in_range = same
  record_alike number before sooner now next (Place sector slot dentry) same = by (is_data_sector g sector)
    where
      by : (b : Bool) → length ((if b then with_record g number before (Place sector slot dentry) now else now) s) ≡ length ((if b then with_record g number sooner (Place sector slot dentry) next else next) s)
      by true = put_alike sector (with_slot slot (dentry_bytes dentry) (now sector)) (with_slot slot (dentry_bytes dentry) (next sector)) now next (λ here. slot_alike slot (dentry_bytes dentry) (now sector) (next sector) (subst (λ k. length (now k) ≡ length (next k)) here same)) same
      by false = same
  record_alike number before sooner now next (Free inode) same = by (is_inode_number g inode) refl
    where
      by : (b : Bool) → is_inode_number g inode ≡ b → length ((if b then with_record g number before (Free inode) now else now) s) ≡ length ((if b then with_record g number sooner (Free inode) next else next) s)
      by true in_range = ap length (left (is_newer g number before inode) (sector_of_inode g inode) _ now (apart inode in_range)) ∙ same ∙ sym (ap length (left (is_newer g number sooner inode) (sector_of_inode g inode) _ next (apart inode in_range)))
      by false in_range = same

  records_alike : (number : ℕ) (before sooner now next : Image) (rs : List LogRecord) → length (now s) ≡ length (next s) → length (with_records g number before rs now s) ≡ length (with_records g number sooner rs next s)
  records_alike number before sooner now next [] same = same
  records_alike number before sooner now next (r ∷ rs) same = records_alike number before sooner (with_valid g number before r now) (with_valid g number sooner r next) rs (record_alike number before sooner now next r same)

  pub folded_alike : (cs : List Committed) (one other : Image) → length (one s) ≡ length (other s) → length (folded g cs one s) ≡ length (folded g cs other s)
  folded_alike [] one other same = same
  folded_alike (c ∷ cs) one other same = folded_alike cs (with_committed g c one) (with_committed g c other) (records_alike c.number one other one other c.records same)
