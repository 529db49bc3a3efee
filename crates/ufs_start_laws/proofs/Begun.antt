-- A server begins with what its disk has.
use Rattle.std.proofs.Common.{◌≡◌, ℕ, ◌<◌, inl, inr, [], true, false, Option, Some, None, ap, sym, refl, ◌∙◌, subst, arith}
use Rattle.std.specs.Prelude.{IsSome, is_some}
use Rattle.std.specs.Ordering.{nat_cmp}
use Rattle.std.specs.Option.{option_map}
use Rattle.std.specs.FinMap as map
use Rattle.std.specs.FinSet as set
use Rattle.std.proofs.lemmas.Bool.Decides.{nat_tests}
use Rattle.ufs_base.specs.Images.{Image}
use Rattle.ufs_bitmap.specs.Blocks.{BlockSet}
use Rattle.ufs_bitmap.proofs.SetLemmas.{has-empty}
use Rattle.ufs_disk.specs.Disk.{seen}
use Rattle.ufs_disk.proofs.Images.{seen_is_image}
use Rattle.ufs_files.specs.Files.{Files}
use Rattle.ufs_image.specs.Fold.{folded}
use Rattle.ufs_image.specs.Images.{IsImageOf}
use Rattle.ufs_image.specs.Journal.{committed}
use Rattle.ufs_image.specs.Volume.{Volume}
use Rattle.ufs_image.proofs.Journals.{taken}
use Rattle.ufs_journal.specs.Found.{IsFreeFrom}
use Rattle.ufs_journal.specs.Kept.{HasEarlier}
use Rattle.ufs_layout.specs.Superblock.{geometry_of}
use Rattle.ufs_layout.specs.declared.geometry.Geometry.{Geometry}
use Rattle.ufs_layout.specs.declared.superblock.Super.{Super}
use Rattle.ufs_ledger.specs.Changes.{opening_ledger}
use Rattle.ufs_ledger.specs.Kept.{Counts, Numbers}
use Rattle.ufs_ledger.specs.Ledger.{Ledger}
use Rattle.ufs_model.specs.PosixTree.{PosixTree}
use Rattle.ufs_model.proofs.Facts.Lookups.{same_some}
use Rattle.ufs_ledger.proofs.SuperblockPut.{none_committed}
use Rattle.ufs_promise_laws.specs.ChangeLaws.{SoundHasState, SpelledHaveSlots}
use Rattle.ufs_promise_laws.specs.Numbers.{NamesNumberPaths}
use Rattle.ufs_name_tree.specs.NameTable.{file_at}
use Rattle.ufs_names.specs.NamesPart.{NamesPart}
use Rattle.ufs_names.specs.declared.holding.Holding.{Holding}
use Rattle.ufs_names.proofs.NotedLemmas.{beside}
use Rattle.ufs_promise_laws.specs.PathNumbers.{PartsHaveNumbers, PartsTellPaths, UnbornHaveNone, numbers_of}
use Rattle.ufs_store.specs.Mounting.{in_use}
use Rattle.ufs_promise_laws.specs.Parts.{Parts}
use Rattle.ufs_promise_laws.specs.Sound.{IsSoundServer}
use Rattle.ufs_promise_laws.specs.Stored.{AreCounted, AreNamesNoted, ArePartsOf, IsStored}
use Rattle.ufs_start_laws.specs.Laws.{BeginsOnDisk, BeginsStored, WholeHaveNone}
use Rattle.ufs_start_laws.specs.Parts.{AreOrphaned, IsOpened, IsOrphaned, begun_counts, begun_parts, catalog_of, start_in}
use Rattle.ufs_start_laws.proofs.Facts as facts
use Rattle.ufs_start_laws.proofs.Facts.{Begins, file_by, some_is}
use Rattle.ufs_start_laws.proofs.Kept as kept
use Rattle.ufs_start_laws.proofs.Owned as owned

module _ (sectors : ℕ) (disk : Image) (superblock : Super) (n : NamesPart) (files : Files) (free orphaned : BlockSet) (image : Image) (b : Begins sectors disk superblock n files free orphaned image (geometry_of superblock))
    (state : SoundHasState (geometry_of superblock)) (slots : SpelledHaveSlots (geometry_of superblock)) (number_paths : NamesNumberPaths (geometry_of superblock)) (tells : PartsTellPaths) (have : PartsHaveNumbers) (unborn : UnbornHaveNone) (whole : IsImageOf sectors image) where
  abbrev g : Geometry
  g = geometry_of superblock

  abbrev t : PosixTree
  t = start_in (record { superblock = superblock; geometry = g; image = image })

  abbrev p : Parts
  p = begun_parts n files orphaned

  abbrev l : Ledger
  l = opening_ledger (in_use superblock) image

  abbrev m : Numbers
  m = numbers_of n

  abbrev k : Counts
  k = record { names = 0; files = λ _. 0; numbers = m }

  parts : ArePartsOf p t
  parts = record {
    names = (beside n (Some [])).part t b.opened.names;
    files = b.opened.parts;
    inodes = b.opened.inodes;
    here = λ file there. let h = some_is (map.get n.held file) there in b.opened.here h.0.inode file (b.opened.names.inodes.inode file h.0 h.1);
  }

  names : ((block : ℕ) → set.contains orphaned block ≡ true → ⊥) → AreNamesNoted l m [] p.names
  names none =
      let kinds = facts.kinds sectors disk superblock n files free orphaned image b in
      let sound = kept.sound_names sectors disk superblock n files free orphaned image b state slots number_paths tells have unborn whole in
      let dirs = kept.has_dirs sectors disk superblock n files free orphaned image b state slots number_paths tells have unborn whole in
      record {
        committed = kept.dirs sectors disk superblock n files free orphaned image b state slots number_paths tells have unborn whole;
        steps = [];
        has = record { forms = dirs.forms; table = dirs.table; kinds = dirs.kinds; sized = dirs.sized; zeroed = dirs.zeroed };
        noted = refl;
        may = tt;
        dirs = refl;
        kinds = record { dir = kinds.dir; file = kinds.file; free = kinds.free };
        sound = record {
          fit = λ dir place d at. let fit = sound.fit dir place d (record { in_range = at.in_range; there = at.there; named = at.named }) in
              record { plain = fit.plain; in_range = fit.in_range; kind = fit.kind; used = fit.used; no_root = fit.no_root };
          names_once = λ dir q r d e at too. sound.names_once dir q r d e (record { in_range = at.in_range; there = at.there; named = at.named }) (record { in_range = too.in_range; there = too.there; named = too.named });
          inodes_once = λ dir other q r d e at too. sound.inodes_once dir other q r d e (record { in_range = at.in_range; there = at.there; named = at.named }) (record { in_range = too.in_range; there = too.there; named = too.named });
        };
        live = λ file there. inl (refl, λ inode at. refl);
        known = owned.known_block sectors disk superblock n files free orphaned image b none;
      }

  counted : AreCounted t [] k
  counted = record {
    born = λ file there. by file (map.get n.held file) refl there;
    alone = λ file other inode at too.
        same_some other file (sym (kept.number_at sectors disk superblock n files free orphaned image b other inode too) ∙ kept.number_at sectors disk superblock n files free orphaned image b file inode at);
    made = λ file. omega arith;
  }
    where
      by : (file : ℕ) (o : Option Holding) → map.get n.held file ≡ o → IsSome (option_map (λ (h : Holding). h.inode) o) → file < t.next
      by file None e is = (let wrong = is in absurd cc)
      by file (Some h) e is = b.opened.names.tree.numbered file (sym (b.opened.names.told file) ∙ ap is_some e)

  pub stored : ((block : ℕ) → set.contains orphaned block ≡ true → ⊥) → IsStored l free t [] k p
  stored none = record {
    tree = b.opened.names.tree;
    legal = record { entries = tt; faults = tt };
    kept = kept.kept sectors disk superblock n files free orphaned image b state slots number_paths tells have unborn whole;
    parts = parts;
    names = inr (names none);
    counted = counted;
    noted = λ file f at. owned.file_noted sectors disk superblock n files free orphaned image b file f at;
    each = λ file f at. owned.file_whole sectors disk superblock n files free orphaned image b file f at whole;
    spaced = owned.spaced sectors disk superblock n files free orphaned image b;
  }

-- ---- of an image

module _ (sectors : ℕ) (disk : Image) (v : Volume) (n : NamesPart) (files : Files) (free orphaned : BlockSet) (is : IsOpened sectors disk v n files free) (are : AreOrphaned v n orphaned) where
  same : v.geometry ≡ geometry_of v.superblock
  same = let is = taken sectors disk v is.standing.taken in ap (λ (v : Volume). v.geometry) is.same ∙ ap geometry_of (sym (ap (λ (v : Volume). v.superblock) is.same))

  begins : Begins sectors disk v.superblock n files free orphaned v.image (geometry_of v.superblock)
  begins = subst (Begins sectors disk v.superblock n files free orphaned v.image) same (record { opened = is; orphans = are })

  pub begins_sound : IsSoundServer v.geometry free (begun_parts n files orphaned)
  begins_sound = subst (λ (g : Geometry). IsSoundServer g free (begun_parts n files orphaned)) (sym same) (owned.sound sectors disk v.superblock n files free orphaned v.image begins)

  module _ (state : SoundHasState v.geometry) (slots : SpelledHaveSlots v.geometry) (number_paths : NamesNumberPaths v.geometry) (tells : PartsTellPaths) (have : PartsHaveNumbers) (unborn : UnbornHaveNone) (whole : IsImageOf sectors disk) (earlier : HasEarlier v.geometry v.superblock.epoch disk) where
    free_from : IsFreeFrom v.geometry v.superblock.epoch 0 disk
    free_from place from under = let less = earlier place under in grind (arith, nat_tests, less)

    -- nothing is folded
    unfolded : v.image ≡ disk
    unfolded =
        let is = taken sectors disk v is.standing.taken in
        ap (λ (v : Volume). v.image) is.same
        ∙ ap (λ (h : Super). folded (geometry_of h) (committed (geometry_of h) h.epoch disk) disk) (sym (ap (λ (v : Volume). v.superblock) is.same))
        ∙ ap (λ g. folded g (committed g v.superblock.epoch disk) disk) (sym same)
        ∙ ap (λ log. folded v.geometry log disk) (none_committed v.geometry v.superblock.epoch disk free_from)

    pub begins_stored : ((block : ℕ) → set.contains orphaned block ≡ true → ⊥) → IsStored (opening_ledger (in_use v.superblock) disk) free (start_in v) [] (begun_counts n) (begun_parts n files orphaned)
    begins_stored none =
        subst (λ (x : Image). IsStored (opening_ledger (in_use v.superblock) x) free (start_in v) [] (begun_counts n) (begun_parts n files orphaned)) unfolded
        (subst (λ (g : Geometry). IsStored (opening_ledger (in_use v.superblock) v.image) free (start_in (record { superblock = v.superblock; geometry = g; image = v.image })) [] (begun_counts n) (begun_parts n files orphaned)) (sym same)
        (stored sectors disk v.superblock n files free orphaned v.image begins (subst SoundHasState same state) (subst SpelledHaveSlots same slots) (subst NamesNumberPaths same number_paths) tells have unborn (subst (IsImageOf sectors) (sym unfolded) whole) none))

none_in : (block : ℕ) → set.contains (set.empty {R = nat_cmp}) block ≡ true → ⊥
none_in block there = (let clash : false ≡ true = sym (has-empty block) ∙ there in cc)

pub begins_on_disk : (g : Geometry) → SoundHasState g → SpelledHaveSlots g → NamesNumberPaths g → PartsTellPaths → PartsHaveNumbers → UnbornHaveNone → BeginsOnDisk g
begins_on_disk g state slots number_paths tells have unborn sectors disk v n files store geometry whole mountable has formed is are =
    let at_superblock = same sectors (seen disk) v n files store.unassigned.free set.empty is are in
    record {
      ledger = opening_ledger (in_use v.superblock) (seen disk);
      counts = begun_counts n;
      has = has;
      formed = sym at_superblock ∙ sym formed;
      stored = begins_stored sectors (seen disk) v n files store.unassigned.free set.empty is are
          (subst SoundHasState (sym geometry) state) (subst SpelledHaveSlots (sym geometry) slots) (subst NamesNumberPaths (sym geometry) number_paths) tells have unborn
          (whole (seen disk) (seen_is_image disk)) (subst (λ (g : Geometry). HasEarlier g v.superblock.epoch (seen disk)) (sym at_superblock) mountable.earlier) none_in;
    }

pub begins_there : (g : Geometry) → SoundHasState g → SpelledHaveSlots g → NamesNumberPaths g → PartsTellPaths → PartsHaveNumbers → UnbornHaveNone → BeginsStored g
begins_there g state slots number_paths tells have unborn sectors disk v n files free geometry whole is are earlier =
    begins_stored sectors disk v n files free set.empty is are
    (subst SoundHasState (sym geometry) state) (subst SpelledHaveSlots (sym geometry) slots) (subst NamesNumberPaths (sym geometry) number_paths) tells have unborn whole earlier none_in

pub whole_have_none : WholeHaveNone
whole_have_none sectors disk v n files free is all block = (λ there. (let clash : false ≡ true = sym (has-empty block) ∙ there in absurd cc), none)
  where
    none : IsOrphaned v n block → set.contains (set.empty {R = nat_cmp}) block ≡ true
    none o =
        let file = file_by v.geometry v.image (catalog_of v) is.standing.catalog o.inode o.place block o.has o.no_dir in
        let at = some_is (file_at n.tree o.inode) (all o.inode o.has.in_range file) in
        let clash = sym o.unnamed ∙ at.1 in
        cc
