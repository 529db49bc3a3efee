-- What a journal with no sector that is off has.
use Rattle.std.proofs.Common.{◌≡◌, ℕ, List, Bool, true, false, Some, None, ap, sym, refl, ◌∙◌, subst}
use Rattle.std.specs.Prelude.{filter, ◌==◌, ◌&&◌, ◌||◌, not}
use Rattle.std.specs.List.{list_any, list_all}
use Rattle.std.specs.Str.{bytes_eq}
use Rattle.std.specs.Option.{option_map}
use Rattle.std.proofs.lemmas.Bool.{and_parts, eq-eqb}
use Rattle.ufs_base.specs.Images.{Image}
use Rattle.ufs_layout.specs.Areas.{journal_sectors}
use Rattle.ufs_layout.specs.Records.{is_record}
use Rattle.ufs_layout.specs.JournalHead.{is_header}
use Rattle.ufs_layout.specs.JournalSector.{SectorContent, HasRecords, HasCommit, JournalSector, journal_of, journal_fields, journal_bytes, is_journal_sector, is_content, head_in}
use Rattle.ufs_layout.specs.declared.geometry.Geometry.{Geometry}
use Rattle.ufs_layout.specs.declared.superblock.Super.{Super}
use Rattle.ufs_layout.specs.declared.records.LogRecord.{LogRecord}
use Rattle.ufs_layout.proofs.Spelled.{some_if-some}
use Rattle.ufs_image.specs.Fold.{is_in_range}
use Rattle.ufs_image.specs.Journal.{ReadSector, FoundSector, epoch_in, sectors_of_epoch, well_spelled, records_in, transactions}
use Rattle.ufs_image.specs.BadSectors.{is_misspelled, is_off, is_repeated, lacks_records, is_behind_commit, is_old, shares_number, leaves_range, overkept, bad_sector}
use Rattle.ufs_image.proofs.Lists.{IsIn, from_filter, from_map, from_filter_map}
use Rattle.ufs_image.proofs.Found.{option_map-some}
use Rattle.ufs_image.proofs.Empty.{list_any_false}
use Rattle.ufs_image.proofs.Blamed.{find_none}

none_of : (a b : Bool) → (a || b) ≡ false → (a ≡ false) × (b ≡ false)
none_of true b is = absurd (let no = is in cc)
none_of false b is = (refl, is)

middle_of : (a b c : Bool) → (a || b || c) ≡ false → b ≡ false
middle_of a b c is = (none_of a b (none_of (a || b) c is).0).1

last_of : (a b c d e f : Bool) → (a || b || c || d || e || f) ≡ false → (d ≡ false) × (e ≡ false) × (f ≡ false)
last_of a b c d e f is =
    let five = none_of (a || b || c || d || e) f is in
    let four = none_of (a || b || c || d) e five.0 in
    ((none_of (a || b || c) d four.0).1, four.1, five.1)

and_first : (a b : Bool) → (a && b) ≡ false → a ≡ true → b ≡ false
and_first true b is yes_ = is
and_first false b is yes_ = absurd (let no = yes_ in cc)

not_false : (b : Bool) → not b ≡ false → b ≡ true
not_false true is = refl
not_false false is = absurd (let no = is in cc)

-- where a sector of an epoch stands, and what it is the spelling of
pub record IsReadAt (g : Geometry) (image : Image) (f : FoundSector) : Type 0 where
  pub there : IsIn f.0 (journal_sectors g)
  pub spelled : journal_of (image f.0) ≡ Some f.1

pub read_at : (g : Geometry) (epoch : ℕ) (image : Image) (f : FoundSector) → IsIn f (well_spelled (sectors_of_epoch g epoch image)) → IsReadAt g image f
read_at g epoch image f inside =
    let from = from_filter_map (λ (r : ReadSector). option_map {U = FoundSector} (λ j. (r.0, j)) r.1) (sectors_of_epoch g epoch image) f inside in
    let read = from_map {Y = ReadSector} (λ s. (s, journal_of (image s))) (filter (λ s. epoch_in (image s) == epoch) (journal_sectors g)) from.0 from.1 in
    let there = (from_filter (λ s. epoch_in (image s) == epoch) (journal_sectors g) read.0 read.1).0 in
    let made = option_map-some {B = FoundSector} (λ j. (from.0.0, j)) from.0.1 f from.2 in
    let spelled : journal_of (image read.0) ≡ Some made.0 = sym (ap (λ (r : ReadSector). r.1) read.2) ∙ made.1 in
    let at : from.0.0 ≡ read.0 = ap (λ (r : ReadSector). r.0) read.2 in
    subst (IsReadAt g image) made.2 (record {
      there = subst (λ s. IsIn s (journal_sectors g)) (sym at) there;
      spelled = ap (λ s. journal_of (image s)) at ∙ spelled;
    })

-- a sector that is on its form has records on theirs
pub content_form : (bytes : List ℕ) (j : JournalSector) → journal_of bytes ≡ Some j → list_all is_record (records_in j.content) ≡ true
content_form bytes j e =
    let parts = some_if-some (is_journal_sector (journal_fields bytes) && bytes_eq (journal_bytes (journal_fields bytes)) bytes) (journal_fields bytes) j e in
    let form = (and_parts (is_header (head_in (journal_fields bytes))) (is_content (journal_fields bytes).content) (and_parts (is_journal_sector (journal_fields bytes)) _ parts.0).0).1 in
    subst (λ (x : JournalSector). list_all is_record (records_in x.content) ≡ true) parts.1 (by (journal_fields bytes).content form)
  where
    by : (content : SectorContent) → is_content content ≡ true → list_all is_record (records_in content) ≡ true
    by (HasRecords records) is = is
    by (HasCommit number) is = refl

-- none of its sectors is off
pub record IsNotOff (g : Geometry) (next : ℕ) (all : List FoundSector) (f : FoundSector) : Type 0 where
  pub new_enough : is_old next f ≡ false
  pub alone : shares_number all f ≡ false
  pub inside : leaves_range g f ≡ false

module _ (g : Geometry) (s : Super) (image : Image) (none : bad_sector g s image ≡ None) where
  abbrev read : List ReadSector
  read = sectors_of_epoch g s.epoch image

  abbrev all : List FoundSector
  all = well_spelled (sectors_of_epoch g s.epoch image)

  pub not_off : (f : FoundSector) → IsIn f (well_spelled (sectors_of_epoch g s.epoch image)) → IsNotOff g s.next (well_spelled (sectors_of_epoch g s.epoch image)) f
  not_off f inside =
      let at = read_at g s.epoch image f inside in
      let this = middle_of (list_any (λ (r : ReadSector). r.0 == f.0 && is_misspelled r) read) (list_any (λ (o : FoundSector). o.0 == f.0 && is_off g s.next all o) all) (list_any (λ o. o == f.0) (overkept g (transactions all) image))
      (find_none (λ sector. list_any (λ (r : ReadSector). r.0 == sector && is_misspelled r) read || list_any (λ (o : FoundSector). o.0 == sector && is_off g s.next all o) all || list_any (λ o. o == sector) (overkept g (transactions all) image)) (journal_sectors g) none f.0 at.there) in
      let off : is_off g s.next all f ≡ false = and_first (f.0 == f.0) (is_off g s.next all f) (list_any_false (λ (o : FoundSector). o.0 == f.0 && is_off g s.next all o) all this f inside) (eq-eqb f.0 f.0 refl) in
      let last = last_of (is_repeated all f) (lacks_records all f) (is_behind_commit all f) (is_old s.next f) (shares_number all f) (leaves_range g f) off in
      record { new_enough = last.0; alone = last.1; inside = last.2 }

pub ranged : (g : Geometry) (f : FoundSector) → leaves_range g f ≡ false → (r : LogRecord) → IsIn r (records_in f.1.content) → is_in_range g r ≡ true
ranged g f none r inside = not_false (is_in_range g r) (list_any_false (λ r. not (is_in_range g r)) (records_in f.1.content) none r inside)
