-- The ledger of a mounted disk is kept from what a server begins with.
use Rattle.std.proofs.Common.{◌≡◌, ℕ, zero, suc, ◌<◌, ◌≤◌, ◌⊎◌, inl, inr, List, [], true, false, length, Option, Some, None, ap, sym, refl, ◌∙◌, subst, arith}
use Rattle.std.specs.Prelude.{◌%◌, flat_map, unwrap_or}
use Rattle.std.specs.Option.{option_map}
use Rattle.std.specs.FinMap as map
use Rattle.ufs_base.specs.Images.{Image}
use Rattle.ufs_bitmap.specs.Blocks.{BlockSet}
use Rattle.ufs_dir_tree.specs.Steps.{DirState}
use Rattle.ufs_file.specs.Hand.{FileState}
use Rattle.ufs_files.specs.Files.{Files}
use Rattle.ufs_image.specs.Catalog.{Catalog, HasBlock, HasSlots, IsInode, catalog_at}
use Rattle.ufs_image.specs.Folding.{Spells}
use Rattle.ufs_image.specs.Images.{IsImageOf, block_at}
use Rattle.ufs_image.specs.Nodes.{blocks_of}
use Rattle.ufs_image.specs.Opens.{file_bytes}
use Rattle.ufs_image.proofs.Blocks.{block_length}
use Rattle.ufs_image.proofs.Fits.{spells}
use Rattle.ufs_image.proofs.Holders.{block_in_data}
use Rattle.ufs_image.proofs.Listed.{in_at_place, place_of_in}
use Rattle.ufs_image.proofs.Lists.{IsIn}
use Rattle.ufs_image.proofs.Opening.{sizes}
use Rattle.ufs_layout.specs.Superblock.{geometry_of}
use Rattle.ufs_layout.specs.declared.geometry.Geometry.{Geometry}
use Rattle.ufs_layout.specs.declared.superblock.Super.{Super}
use Rattle.ufs_ledger.specs.Changes.{dir_blocks, opening_ledger}
use Rattle.ufs_ledger.specs.Kept.{AlwaysShows, Counts, IsLedgerKept, IsNumberedBy, MayHave, Numbers, shape_of}
use Rattle.ufs_ledger.specs.Ledger.{IsDataBlock, Ledger}
use Rattle.ufs_ledger.proofs.Mixing.{byte_taken}
use Rattle.ufs_ledger.proofs.Mounting.{dirs_cover, of_dir}
use Rattle.ufs_ledger.proofs.Shapes.{at_place, blocks_length}
use Rattle.ufs_model.specs.FileBytes.{bytes_of}
use Rattle.ufs_model.specs.PosixTree.{PosixTree}
use Rattle.ufs_model.proofs.Facts.Live.{held_has}
use Rattle.ufs_model.proofs.Facts.Lookups.{same_some}
use Rattle.ufs_promise_laws.specs.Held.{HasSoundNames, HasState}
use Rattle.ufs_promise_laws.specs.ChangeLaws.{SoundHasState, SpelledHaveSlots, state_of}
use Rattle.ufs_promise_laws.specs.Numbers.{NamesNumberPaths}
use Rattle.ufs_name_tree.specs.NameTable.{file_at}
use Rattle.ufs_names.specs.NamesPart.{NamesPart}
use Rattle.ufs_names.specs.declared.holding.Holding.{Holding}
use Rattle.ufs_promise_laws.proofs.Filed.{has_bytes}
use Rattle.ufs_promise_laws.specs.PathNumbers.{PartsHaveNumbers, PartsTellPaths, UnbornHaveNone, numbers_of}
use Rattle.ufs_crash_laws.specs.Changes.{changes_of, file_synced, name_changes, names_after, names_synced}
use Rattle.ufs_crash_laws.specs.FileChanges.{byte_at}
use Rattle.ufs_crash_laws.specs.Stored.{IsNamed}
use Rattle.ufs_store.specs.Mounting.{in_use}
use Rattle.ufs_start_laws.specs.Parts.{start_in}
use Rattle.ufs_start_laws.proofs.Facts as facts
use Rattle.ufs_start_laws.proofs.Facts.{Begins, some_is}

module _ (sectors : ℕ) (disk : Image) (superblock : Super) (n : NamesPart) (files : Files) (free orphaned : BlockSet) (image : Image) (b : Begins sectors disk superblock n files free orphaned image (geometry_of superblock)) where
  abbrev g : Geometry
  g = geometry_of superblock

  abbrev c : Catalog
  c = catalog_at g image

  abbrev t : PosixTree
  t = start_in (record { superblock = superblock; geometry = g; image = image })

  abbrev pub m : Numbers
  m = numbers_of n

  abbrev pub l : Ledger
  l = opening_ledger (in_use superblock) image

  abbrev pub k : Counts
  k = record { names = 0; files = λ _. 0; numbers = m }

  -- ---- which inode a file has

  pub number_at : (file inode : ℕ) → m.inode file ≡ Some inode → file_at n.tree inode ≡ Some file
  number_at file inode at = by (map.get n.held file) refl at
    where
      by : (o : Option Holding) → map.get n.held file ≡ o → option_map (λ (h : Holding). h.inode) o ≡ Some inode → file_at n.tree inode ≡ Some file
      by None e none = cc
      by (Some h) e same = let is : h.inode ≡ inode = cc in ap (file_at n.tree) (sym is) ∙ b.opened.names.inodes.inode file h e

  pub has_number : (inode file : ℕ) → file_at n.tree inode ≡ Some file → m.inode file ≡ Some inode
  has_number inode file e = ap (option_map (λ (h : Holding). h.inode)) (b.opened.table.closed.each inode file e)

  pub hand_at : (inode file : ℕ) → file_at n.tree inode ≡ Some file → (s : FileState) × (map.get files file ≡ Some s) × (s.inode ≡ inode)
  hand_at inode file e =
      let at = some_is (map.get files file) (b.opened.here inode file e) in
      (at.0, at.1, (facts.named sectors disk superblock n files free orphaned image b).once at.0.inode inode file (b.opened.read file at.0 at.1).inode e)

  -- the tree has what the image has for a file
  pub bytes_are : (file : ℕ) (s : FileState) → map.get files file ≡ Some s → bytes_of t.bytes file ≡ file_bytes image (c.forms s.inode)
  bytes_are file s at = ap (λ (o : Option (List ℕ)). unwrap_or o [])
      (has_bytes sectors disk (record { superblock = superblock; geometry = g; image = image }) c t n files b.opened.standing (facts.contents sectors disk superblock n files free orphaned image b) b.opened.table b.opened.read file s at)

  -- ---- blocks

  pub in_data : (inode place block : ℕ) → HasBlock g c inode place block → IsDataBlock g block
  in_data inode place block has =
      let within = block_in_data g (c.forms inode).extents block (b.opened.standing.sound.in_data inode has.in_range) (in_at_place block (blocks_of (c.forms inode)) place has.there) in
      record { from = within.0; under = within.1 }

  module _ (whole : IsImageOf sectors image) where
    long : (inode : ℕ) → IsInode g inode → (block : ℕ) → IsIn block (blocks_of (c.forms inode)) → length (block_at image block) ≡ 4096
    long inode inside block is =
        let at = place_of_in block (blocks_of (c.forms inode)) is in
        let lies = in_data inode at.0 block (record { in_range = inside; there = at.1 }) in
        let under = lies.under in
        let room = (facts.formed sectors disk superblock n files free orphaned image b).1 in
        block_length image sectors whole block (omega (arith, under, room))

    pub size_is : (inode : ℕ) → IsInode g inode → length (file_bytes image (c.forms inode)) ≡ (c.forms inode).size
    size_is inode inside = sizes sectors image g c inode whole (facts.formed sectors disk superblock n files free orphaned image b).1 b.opened.standing.sound inside

  -- ---- the names

  module _ (state : SoundHasState g) (slots : SpelledHaveSlots g) (number_paths : NamesNumberPaths g) (tells : PartsTellPaths) (have : PartsHaveNumbers) (unborn : UnbornHaveNone) (whole : IsImageOf sectors image) where
    spelled : Spells g true (dir_blocks g c) image c
    spelled =
        let formed = facts.formed sectors disk superblock n files free orphaned image b in
        spells g sectors image formed.0 formed.1 whole c (dir_blocks g c) b.opened.standing.catalog
        (λ block its.
        let of = of_dir g c block its in
        let lies = in_data of.inode of.place block of.has in
        (lies.from, lies.under, b.opened.standing.catalog.slots block of))

    abbrev pub dirs : DirState
    dirs = state_of c n.tree.dirs (λ _. false)

    sized : (dir : ℕ) → (c.forms dir).kind ≡ 2 → HasSlots g c dir
    sized dir is block place has = slots true (dir_blocks g c) image c spelled (dirs_cover g c) dir is block place has

    both : HasState g c dirs × HasSoundNames g dirs
    both = state c n.tree.dirs (λ _. false) b.opened.standing.sound b.opened.table.dirs sized (λ block e. (let wrong : false ≡ true = e in absurd cc))

    pub has_dirs : HasState g c dirs
    has_dirs = both.0

    pub sound_names : HasSoundNames g dirs
    sound_names = both.1

    paths : IsNumberedBy c m t.paths
    paths =
        let table = facts.named sectors disk superblock n files free orphaned image b in
        number_paths c dirs n.tree t.paths m has_dirs sound_names refl table (tells n t table b.opened.names) (have n t b.opened.names)

    -- ---- what a file shows

    module _ (inode : ℕ) (inside : IsInode g inode) (opening : List ℕ) (is : opening ≡ file_bytes image (c.forms inode)) where
      fits : (c.forms inode).size ≤ length (flat_map (block_at image) (blocks_of (c.forms inode)))
      fits = let all = blocks_length (block_at image) (blocks_of (c.forms inode)) (long whole inode inside) in let room = b.opened.standing.sound.room inode inside in omega (arith, all, room)

      byte_is : (place byte : ℕ) → place < (c.forms inode).size → MayHave l.blocks (shape_of c (Some inode)) place byte → byte ≡ byte_at opening place
      byte_is place byte under has =
          let all = blocks_length (block_at image) (blocks_of (c.forms inode)) (long whole inode inside) in
          let room = b.opened.standing.sound.room inode inside in
          let at = at_place (block_at image) (blocks_of (c.forms inode)) (long whole inode inside) place (omega (arith, under, room)) in
          let same : has.block ≡ at.block = same_some has.block at.block (sym has.there ∙ at.there) in
          one byte has.block has.has ∙ ap (λ x. byte_at (block_at image x) (place % 4096)) same ∙ sym at.is
          ∙ byte_taken (flat_map (block_at image) (blocks_of (c.forms inode))) (c.forms inode).size place fits under ∙ ap (λ xs. byte_at xs place) (sym is)
        where
          one : (byte block : ℕ) → (byte ≡ byte_at (block_at image block) (place % 4096)) ⊎ ⊥ → byte ≡ byte_at (block_at image block) (place % 4096)
          one byte block (inl e) = e
          one byte block (inr e) = absurd e

      always : AlwaysShows l.blocks (shape_of c (Some inode)) opening [] 0
      always = record {
        made = omega arith;
        size = sym (size_is whole inode inside) ∙ ap (λ (xs : List ℕ). length xs) (sym is);
        each = λ place byte under has. record { upto = 0; later = omega arith; made = omega arith; is = byte_is place byte under has };
      }

    pub inode_of_named : (file : ℕ) → IsNamed t.paths file → (inode : ℕ) × (file_at n.tree inode ≡ Some file)
    inode_of_named file at =
        let there = some_is (map.get n.held file) (b.opened.names.told file ∙ held_has t b.opened.names.tree file (inl at)) in
        (there.0.inode, b.opened.names.inodes.inode file there.0 there.1)

    shown : (file : ℕ) → IsNamed t.paths file → AlwaysShows l.blocks (shape_of c (m.inode file)) (bytes_of t.bytes file) [] 0
    shown file at =
        let number = inode_of_named file at in
        let hand = hand_at number.0 file number.1 in
        subst (λ (o : Option ℕ). AlwaysShows l.blocks (shape_of c o) (bytes_of t.bytes file) [] 0) (sym (has_number number.0 file number.1))
        (always number.0 (facts.inside sectors disk superblock n files free orphaned image b number.0 file number.1) (bytes_of t.bytes file)
        (bytes_are file hand.0 hand.1 ∙ ap (λ i. file_bytes image (c.forms i)) hand.2))

    shown_after : (count file : ℕ) → count ≤ length (name_changes t []) → IsNamed (names_after t [] count).paths file → AlwaysShows l.blocks (shape_of c (m.inode file)) (bytes_of t.bytes file) (changes_of file t []) 0
    shown_after zero file made at = shown file at
    shown_after (suc count) file made at = absurd (omega (arith, made))

    pub kept : IsLedgerKept l t [] k k
    kept = record {
      here = record {
        stored = record {
          made = omega arith;
          paths = paths;
          inodes = λ file inode at.
              let e = number_at file inode at in
              (facts.inside sectors disk superblock n files free orphaned image b inode file e, facts.is_file sectors disk superblock n files free orphaned image b inode file e);
          unheld = λ inode place block has is. refl;
          shown = λ count file from made at. shown_after count file made at;
          fresh = λ file above. (refl, unborn n t b.opened.names file above);
        };
        covers = record {
          synced = (let none : names_synced t [] ≡ 0 = refl in omega (arith, none));
          born = λ file e. (let wrong : false ≡ true = e in absurd cc);
          each = λ file. (let none : file_synced file t [] ≡ 0 = refl in omega (arith, none));
        };
      };
      there = λ other e. (let wrong = e in absurd cc);
    }
