-- Whose each block is as a server begins, and how each file stands on its disk.
use Rattle.std.proofs.Common.{◌≡◌, ◌≢◌, ℕ, ◌-◌, ◌*◌, ◌<◌, ◌⊎◌, inl, inr, List, [], ◌∷◌, Bool, true, false, length, take, Option, Some, None, ap, sym, refl, ◌∙◌, subst, arith}
use Rattle.std.specs.Prelude.{◌==◌, if◌then◌else◌, nat_eq, unwrap_or}
use Rattle.std.specs.Ordering.{nat_cmp}
use Rattle.std.specs.List.{IsDistinct, slice_get}
use Rattle.std.specs.FinMap as map
use Rattle.std.specs.FinSet as set
use Rattle.std.specs.FinSet.{contains-from_list_nat}
use Rattle.std.proofs.lemmas.List.{append-nil, get_or-take, length-take}
use Rattle.ufs_base.specs.Images.{Image}
use Rattle.ufs_bitmap.specs.Blocks.{BlockSet}
use Rattle.ufs_bitmap.specs.Taking.{has}
use Rattle.ufs_bitmap.proofs.SetLemmas.{has-empty}
use Rattle.ufs_bitmap.proofs.TakingLemmas.{has-none}
use Rattle.ufs_dir_laws.proofs.Tables.{holds, place_of_block}
use Rattle.ufs_dir_tree.specs.DirTable.{blocks_at}
use Rattle.ufs_dirs.specs.Directory.{has_block}
use Rattle.ufs_file_commits.specs.Standing.{HaveOnly, IsFileBlock, StandsFor}
use Rattle.ufs_file_commits.specs.State.{CommitState, DurableState, IsNoted, blocks_held, state_of, whole_of}
use Rattle.ufs_file_commits.proofs.Wholes.{noted_as_whole}
use Rattle.ufs_file_commits.proofs.Served.{has_at}
use Rattle.ufs_extent.specs.Runs as runs
use Rattle.ufs_file.specs.Content.{own_bytes}
use Rattle.ufs_file.specs.Hand.{FileState}
use Rattle.ufs_files.specs.Files.{Files}
use Rattle.ufs_files.proofs.MapLemmas.{blocks_there}
use Rattle.ufs_image.specs.Catalog.{Catalog, HasBlock, IsInode, catalog_at}
use Rattle.ufs_image.specs.Images.{IsImageOf, block_at}
use Rattle.ufs_image.specs.Nodes as nodes
use Rattle.ufs_image.specs.Opens.{file_bytes}
use Rattle.ufs_image.proofs.FilePlaces.{block_bytes_of}
use Rattle.ufs_layout.specs.Superblock.{geometry_of}
use Rattle.ufs_layout.specs.declared.geometry.Geometry.{Geometry}
use Rattle.ufs_layout.specs.declared.superblock.Super.{Super}
use Rattle.ufs_ledger.specs.Changes.{opening_ledger}
use Rattle.ufs_ledger.specs.Kept.{Numbers}
use Rattle.ufs_ledger.specs.Ledger.{IsDataBlock, Ledger}
use Rattle.ufs_ledger.proofs.Mounting.{of_dir}
use Rattle.ufs_model.specs.FileBytes.{bytes_of}
use Rattle.ufs_model.specs.PosixTree.{PosixTree}
use Rattle.ufs_name_tree.specs.NameTable.{file_at}
use Rattle.ufs_names.specs.NamesPart.{NamesPart}
use Rattle.ufs_names.specs.Notes.{with_notes}
use Rattle.ufs_promise_laws.specs.PathNumbers.{numbers_of}
use Rattle.ufs_crash_laws.specs.FileChanges.{byte_at}
use Rattle.ufs_store.specs.Mounting.{in_use}
use Rattle.ufs_promise_laws.specs.Parts.{FileOwns, NamesOwn, OneFile, Owner, Owns, Parts, TheNames, ThePool, Unassigned, committed_as, durable_in}
use Rattle.ufs_promise_laws.specs.Sound.{IsFileSound, IsSoundServer}
use Rattle.ufs_promise_laws.specs.Stored.{AreSpaced, FileHasIt, IsFileWhole, IsKnownBlock}
use Rattle.ufs_start_laws.specs.Parts.{start_in}
use Rattle.ufs_start_laws.proofs.Facts as facts
use Rattle.ufs_start_laws.proofs.Facts.{Begins}
use Rattle.ufs_start_laws.proofs.Kept as kept

-- of a file of which nothing is told
unknown : (f : FileState) → durable_in map.empty f ≡ state_of f (committed_as f)
unknown f = ap (λ (o : Option CommitState). state_of f (unwrap_or o (committed_as f))) (map.get-empty {X = CommitState} nat_cmp f.file)

held_is : (f : FileState) → blocks_held (durable_in map.empty f) ≡ runs.blocks_of f.extents
held_is f = ap blocks_held (unknown f) ∙ append-nil (runs.blocks_of f.extents)

module _ (sectors : ℕ) (disk : Image) (superblock : Super) (n : NamesPart) (files : Files) (free orphaned : BlockSet) (image : Image) (b : Begins sectors disk superblock n files free orphaned image (geometry_of superblock)) where
  abbrev g : Geometry
  g = geometry_of superblock

  abbrev c : Catalog
  c = catalog_at g image

  abbrev t : PosixTree
  t = start_in (record { superblock = superblock; geometry = g; image = image })

  abbrev pub p : Parts
  p = record { names = with_notes (Some []) n; files = files; commits = map.empty; pool = set.empty; fresh = []; dropped = orphaned }

  -- ---- whose a block is

  -- the owner of an inode's blocks
  abbrev owner_by : Bool → Option ℕ → Owner
  owner_by true o = TheNames
  owner_by false None = TheNames
  owner_by false (Some file) = OneFile file

  abbrev owner_of : ℕ → Owner
  owner_of inode = owner_by ((c.forms inode).kind == 2) (file_at n.tree inode)

  -- an inode has the block, and this is its owner
  abbrev IsOf : Owner → ℕ → Type 0
  IsOf o block = (inode : ℕ) × (place : ℕ) × HasBlock g c inode place block × (o ≡ owner_of inode)

  file_blocks : (file block : ℕ) → FileOwns p file block → IsOf (OneFile file) block
  file_blocks file block owns =
      let s = owns.hand in
      let r = b.opened.read file s owns.here in
      let there : has_block (runs.blocks_of s.extents) block ≡ true = sym (contains-from_list_nat (runs.blocks_of s.extents) block) ∙ ap (λ (xs : List ℕ). has xs block) (sym (held_is s)) ∙ owns.held in
      let at = place_of_block (runs.blocks_of s.extents) block there in (
        s.inode,
        at.0,
        record { in_range = facts.inside sectors disk superblock n files free orphaned image b s.inode file r.inode; there = ap (λ (xs : List ℕ). slice_get xs at.0) (sym r.blocks) ∙ at.1 },
        sym (ap (λ (x : Bool). owner_by x (file_at n.tree s.inode)) (facts.is_no_dir sectors disk superblock n files free orphaned image b s.inode file r.inode) ∙ ap (owner_by false) r.inode),
      )

  dir_kind : (dir place block : ℕ) → HasBlock g c dir place block → has (blocks_at n.tree.dirs dir) block ≡ true → ((c.forms dir).kind == 2) ≡ true
  dir_kind dir place block at held = by ((c.forms dir).kind == 2) refl
    where
      by : (x : Bool) → ((c.forms dir).kind == 2) ≡ x → x ≡ true
      by true e = refl
      by false e =
          let none : blocks_at n.tree.dirs dir ≡ [] = b.opened.table.dirs.blocks dir at.in_range ∙ ap (λ x. if x then nodes.blocks_of (c.forms dir) else []) e in
          let clash = sym held ∙ ap (λ (xs : List ℕ). has xs block) none ∙ has-none block in
          cc

  names_blocks : (block : ℕ) → NamesOwn p block → IsOf TheNames block
  names_blocks block (inl fresh) = (let clash = sym fresh ∙ has-none block in absurd cc)
  names_blocks block (inr (inl dropped)) =
      let o = (b.orphans block).0 dropped in
      (o.inode, o.place, o.has, sym (ap (λ (x : Bool). owner_by x (file_at n.tree o.inode)) o.no_dir ∙ ap (owner_by false) o.unnamed))
  names_blocks block (inr (inr dir)) =
      let at = holds g image c n.tree.dirs (facts.some sectors disk superblock n files free orphaned image b) b.opened.standing.catalog b.opened.standing.sound b.opened.table.dirs dir.0 block
      (sym (contains-from_list_nat (blocks_at n.tree.dirs dir.0) block) ∙ dir.1) in
      (dir.0, at.0, at.1, sym (ap (λ (x : Bool). owner_by x (file_at n.tree dir.0)) (dir_kind dir.0 at.0 block at.1 dir.1)))

  abbrev Known : Owner → ℕ → Type 0
  Known o block = ((o ≡ Unassigned) × (set.contains free block ≡ true)) ⊎ IsOf o block

  known : (o : Owner) (block : ℕ) → Owns p free o block → Known o block
  known (OneFile file) block owns = inr (file_blocks file block owns)
  known ThePool block owns = (let clash = sym owns ∙ has-empty block in absurd cc)
  known Unassigned block owns = inl (refl, owns)
  known TheNames block owns = inr (names_blocks block owns)

  apart : (one other : Owner) (block : ℕ) → Owns p free one block → Owns p free other block → one ≡ other
  apart one other block a d = by (known one block a) (known other block d)
    where
      by : Known one block → Known other block → one ≡ other
      by (inl x) (inl y) = x.0 ∙ sym y.0
      by (inl x) (inr y) = absurd ((b.opened.untaken block x.1).1 (inr (y.0, y.1, y.2)))
      by (inr x) (inl y) = absurd ((b.opened.untaken block y.1).1 (inr (x.0, x.1, x.2)))
      by (inr x) (inr y) = x.3 ∙ ap owner_of (b.opened.standing.sound.blocks_once x.0 y.0 x.1 y.1 block x.2 y.2).0 ∙ sym y.3

  inside : (o : Owner) (block : ℕ) → Owns p free o block → IsDataBlock g block
  inside o block owns = by (known o block owns)
    where
      by : Known o block → IsDataBlock g block
      by (inl x) = (b.opened.untaken block x.1).0
      by (inr x) = kept.in_data sectors disk superblock n files free orphaned image b x.0 x.1 block x.2

  abbrev l : Ledger
  l = opening_ledger (in_use superblock) image

  abbrev m : Numbers
  m = numbers_of n

  usable : (o : Owner) (block : ℕ) → o ≢ TheNames → Owns p free o block → IsFileBlock l block
  usable o block not_names owns = record { data_block = inside o block owns; no_dir = λ its. by (known o block owns) (of_dir g c block its).inode (of_dir g c block its).place (of_dir g c block its).has (of_dir g c block its).dir; unheld = refl }
    where
      by : Known o block → (inode place : ℕ) → HasBlock g c inode place block → (c.forms inode).kind ≡ 2 → ⊥
      by (inl x) inode place at is = (b.opened.untaken block x.1).1 (inr (inode, place, at))
      by (inr x) inode place at is =
          let same : x.0 ≡ inode = (b.opened.standing.sound.blocks_once x.0 inode x.1 place block x.2 at).0 in
          let dir : ((c.forms inode).kind == 2) ≡ true = ap (λ kind. kind == 2) is in
          not_names (x.3 ∙ ap owner_of same ∙ ap (λ (d : Bool). owner_by d (file_at n.tree inode)) dir)

  -- the file has what its inode has
  file_has : (inode place block file : ℕ) → HasBlock g c inode place block → file_at n.tree inode ≡ Some file → FileHasIt p m inode block
  file_has inode place block file at e =
      let hand = kept.hand_at sectors disk superblock n files free orphaned image b inode file e in
      let s = hand.0 in
      let there : slice_get (runs.blocks_of s.extents) place ≡ Some block =
      ap (λ (xs : List ℕ). slice_get xs place) ((b.opened.read file s hand.1).blocks ∙ ap (λ i. nodes.blocks_of (c.forms i)) hand.2) ∙ at.there in (
        file,
        record { hand = s; here = hand.1; held = ap (λ (xs : List ℕ). has xs block) (held_is s) ∙ has_at (runs.blocks_of s.extents) place block there },
        kept.has_number sectors disk superblock n files free orphaned image b inode file e,
      )

  held : (inode place block : ℕ) → HasBlock g c inode place block → NamesOwn p block ⊎ FileHasIt p m inode block
  held inode place block at = by ((c.forms inode).kind == 2) refl (file_at n.tree inode) refl
    where
      by : (x : Bool) → ((c.forms inode).kind == 2) ≡ x → (o : Option ℕ) → file_at n.tree inode ≡ o → NamesOwn p block ⊎ FileHasIt p m inode block
      by true dir o e =
          let blocks : blocks_at n.tree.dirs inode ≡ nodes.blocks_of (c.forms inode) = b.opened.table.dirs.blocks inode at.in_range ∙ ap (λ x. if x then nodes.blocks_of (c.forms inode) else []) dir in
          inl (inr (inr (inode, ap (λ (xs : List ℕ). has xs block) blocks ∙ has_at (nodes.blocks_of (c.forms inode)) place block at.there)))
      by false off (Some file) e = inr (file_has inode place block file at e)
      by false off None e = inl (inr (inl ((b.orphans block).1 (record { inode = inode; place = place; has = at; no_dir = off; unnamed = e }))))

  -- each inode with a block is a directory or a live file, but for those that no path names
  pub known_block : ((block : ℕ) → set.contains orphaned block ≡ true → ⊥) → (inode place block : ℕ) → HasBlock g c inode place block → IsKnownBlock m p.names [] inode block
  known_block none inode place block at = by ((c.forms inode).kind == 2) refl (file_at n.tree inode) refl
    where
      by : (x : Bool) → ((c.forms inode).kind == 2) ≡ x → (o : Option ℕ) → file_at n.tree inode ≡ o → IsKnownBlock m p.names [] inode block
      by true dir o e =
          let blocks : blocks_at n.tree.dirs inode ≡ nodes.blocks_of (c.forms inode) = b.opened.table.dirs.blocks inode at.in_range ∙ ap (λ x. if x then nodes.blocks_of (c.forms inode) else []) dir in
          inr (inl (ap (λ (xs : List ℕ). has xs block) blocks ∙ has_at (nodes.blocks_of (c.forms inode)) place block at.there))
      by false off (Some file) e = inr (inr (file, b.opened.names.inodes.live inode file e, kept.has_number sectors disk superblock n files free orphaned image b inode file e))
      by false off None e = absurd (none block ((b.orphans block).1 (record { inode = inode; place = place; has = at; no_dir = off; unnamed = e })))

  parted : (dir block : ℕ) → set.contains orphaned block ≡ true → has (blocks_at n.tree.dirs dir) block ≡ false
  parted dir block dropped = by (has (blocks_at n.tree.dirs dir) block) refl
    where
      by : (v : Bool) → has (blocks_at n.tree.dirs dir) block ≡ v → has (blocks_at n.tree.dirs dir) block ≡ false
      by false off = off
      by true on =
          let o = (b.orphans block).0 dropped in
          let at = holds g image c n.tree.dirs (facts.some sectors disk superblock n files free orphaned image b) b.opened.standing.catalog b.opened.standing.sound b.opened.table.dirs dir block
          (sym (contains-from_list_nat (blocks_at n.tree.dirs dir) block) ∙ on) in
          let same : o.inode ≡ dir = (b.opened.standing.sound.blocks_once o.inode dir o.place at.0 block o.has at.1).0 in
          (let clash = sym o.no_dir ∙ ap (λ i. (c.forms i).kind == 2) same ∙ dir_kind dir at.0 block at.1 on in absurd cc)

  pub spaced : AreSpaced l free m p
  spaced = record {
    apart = apart;
    usable = usable;
    fresh = λ block there. (let clash = sym there ∙ has-none block in absurd cc);
    unheld = λ inode place block there at. (let clash = sym there ∙ has-none block in absurd cc);
    held = held;
  }

  -- ---- files

  module _ (file : ℕ) (f : FileState) (at : map.get files file ≡ Some f) where
    abbrev d : DurableState
    d = state_of f (committed_as f)

    blocks_once : IsDistinct nat_eq (runs.blocks_of f.extents)
    blocks_once = subst (IsDistinct nat_eq) (blocks_there files file f at) (b.opened.apart.files.each file).once

    noted : IsNoted d
    noted = let laid = b.opened.laid file f at in record {
      inode = refl;
      runs = refl;
      size = refl;
      marks = laid.marks;
      held = laid.held;
      written = laid.written;
      apart = record { absent = λ block there. has-none block; once = blocks_once };
    }

    pub file_noted : IsNoted (durable_in p.commits f)
    file_noted = subst IsNoted (sym (unknown f)) noted

    held_once : IsDistinct nat_eq (blocks_held d)
    held_once = subst (IsDistinct nat_eq) (sym (append-nil (runs.blocks_of f.extents))) blocks_once

    number : file_at n.tree f.inode ≡ Some file
    number = (b.opened.read file f at).inode

    pub file_sound : IsFileSound g (durable_in p.commits f)
    file_sound = subst (IsFileSound g) (sym (unknown f))
        (record { noted = noted; once = held_once; inode = facts.inode_number sectors disk superblock n files free orphaned image b f.inode (facts.inside sectors disk superblock n files free orphaned image b f.inode file number) })

    block_there : (place block : ℕ) → slice_get (runs.blocks_of f.extents) place ≡ Some block → IsFileBlock l block
    block_there place block there =
        usable (OneFile file) block (λ e. cc) (record { hand = f; here = at; held = ap (λ (xs : List ℕ). has xs block) (held_is f) ∙ has_at (runs.blocks_of f.extents) place block there })

    module _ (whole : IsImageOf sectors image) where
      -- the bytes that the image has for the file
      abbrev bytes : List ℕ
      bytes = file_bytes image (c.forms f.inode)

      in_range : IsInode g f.inode
      in_range = facts.inside sectors disk superblock n files free orphaned image b f.inode file number

      -- Each of its blocks has on the image the file's own bytes there first.
      own_shown : (place block : ℕ) → slice_get (runs.blocks_of f.extents) place ≡ Some block → HaveOnly (block_at image block ∷ []) (own_bytes bytes place)
      own_shown place block there = only
        where
          rest : ℕ
          rest = (c.forms f.inode).size - 4096 * place

          same : own_bytes bytes place ≡ take rest (block_at image block)
          same = block_bytes_of sectors image g c f.inode place block whole (facts.formed sectors disk superblock n files free orphaned image b).1 b.opened.standing.sound
              (record { in_range = in_range; there = ap (λ (xs : List ℕ). slice_get xs place) (sym (b.opened.read file f at).blocks) ∙ there })

          only : HaveOnly (block_at image block ∷ []) (own_bytes bytes place)
          only i byte under (inl e) =
              let low : i < rest = (let most = ap length same in omega (arith, under, most, length-take rest (block_at image block))) in
              e ∙ sym (get_or-take rest (block_at image block) i 0 low) ∙ ap (λ (xs : List ℕ). byte_at xs i) (sym same)
          only i byte under (inr e) = absurd e

      abbrev d_whole : DurableState
      d_whole = whole_of bytes d

      stands : StandsFor l d_whole
      stands = record {
        in_range = in_range;
        kind = facts.is_file sectors disk superblock n files free orphaned image b f.inode file number;
        size = sym (kept.size_is sectors disk superblock n files free orphaned image b whole f.inode in_range) ∙ (b.opened.read file f at).may.long;
        extents = (b.opened.laid file f at).extents;
        blocks = block_there;
        clean = λ place block there off. own_shown place block there;
      }

      pub file_whole : IsFileWhole l m (whole_of (bytes_of t.bytes file) (durable_in p.commits f))
      file_whole = subst (IsFileWhole l m) (sym (λ i. whole_of (kept.bytes_are sectors disk superblock n files free orphaned image b file f at i) (unknown f i))) (record {
        noted = noted_as_whole d bytes noted (b.opened.read file f at).may;
        once = held_once;
        own = λ place block there. inl there;
        stored = inl (ap m.inode (b.opened.read file f at).number ∙ kept.has_number sectors disk superblock n files free orphaned image b f.inode file number, stands);
      })

  pub sound : IsSoundServer g free p
  sound = record {
    apart = apart;
    inside = inside;
    each = file_sound;
    inodes = b.opened.inodes;
    known = λ file none. map.get-empty {X = CommitState} nat_cmp file;
    counted = b.opened.table.dirs.counted;
    parted = parted;
  }
