-- A block of zeros may become a directory's.
use Rattle.std.proofs.Common.{◌≡◌, ℕ, zero, suc, ◌+◌, ◌*◌, ◌-◌, ◌<◌, ◌≤◌, inl, inr, [], ◌∷◌, replicate, map, Bool, true, false, Some, None, length, ap, sym, refl, ◌∙◌, subst, arith}
use Rattle.std.specs.Prelude.{◌==◌, if◌then◌else◌, IsTrue, flat_map}
use Rattle.std.specs.List.{slice_get, range_with_len}
use Rattle.std.proofs.lemmas.Bool.Decides.{nat_tests}
use Rattle.std.proofs.lemmas.List.{ext_get_or, get_or-replicate, length-replicate}
use Rattle.ufs_disk.specs.Disk.{Cell, State, Leaves, possible}
use Rattle.ufs_layout.specs.Areas.{first_of_data, sector_count}
use Rattle.ufs_layout.specs.Superblock.{geometry_of}
use Rattle.ufs_layout.specs.DentryForm.{DentryForm, free_slot}
use Rattle.ufs_image.specs.Formatted.{empty_sector}
use Rattle.ufs_base.specs.Images.{Image}
use Rattle.ufs_image.specs.Images.{IsImageOf, block_at}
use Rattle.ufs_image.specs.Nodes.{blocks_of}
use Rattle.ufs_layout.specs.declared.geometry.Geometry.{Geometry}
use Rattle.ufs_layout.specs.declared.superblock.Super.{Super}
use Rattle.ufs_crash_laws.specs.FileChanges.{byte_at}
use Rattle.ufs_image.specs.Catalog.{Catalog, IsInode, HasBlock, slots_in}
use Rattle.ufs_image.specs.Nodes.{read_block}
use Rattle.ufs_image.specs.Sound.{IsSoundCatalog, HasDentry}
use Rattle.ufs_image.specs.Agree.{IsOfBlock}
use Rattle.ufs_image.proofs.Lists.{flat_map-same}
use Rattle.ufs_image.proofs.Listed.{place_of_in}
use Rattle.ufs_image.proofs.Commits.{free_block}
use Rattle.ufs_image.proofs.Opening.{has_geometry}
use Rattle.ufs_ledger.specs.Ledger.{IsDataBlock, HasByte, IsMixOf, is_held, Stand, CoversDirs, IsLeft, Ledger, IsLedgerOf}
use Rattle.ufs_ledger.specs.Changes.{with_dirs, with_free_block}
use Rattle.ufs_ledger.proofs.Mixing.{byte_front, byte_back}
use Rattle.ufs_ledger.proofs.Held.{unheld_sector}
use Rattle.ufs_ledger.proofs.Opened.{same_geometry, same_image}
use Rattle.ufs_ledger.proofs.States.{on_one}

-- ---- zeros

-- the byte of one of some sectors
sector_byte : (n a k p : ℕ) (image : Image) → k < n → p < 512 → ((s : ℕ) → a ≤ s → s < a + n → length (image s) ≡ 512) → byte_at (flat_map image (range_with_len a n)) (512 * k + p) ≡ byte_at (image (a + k)) p
sector_byte zero a k p image less in_it long = absurd (omega (arith, less))
sector_byte (suc n) a zero p image less in_it long =
    let size = long a (omega arith) (omega arith) in
    byte_front (image a) (flat_map image (range_with_len (a + 1) n)) (512 * 0 + p) (omega (arith, size, in_it)) ∙ (let same : 512 * 0 + p ≡ p = omega arith in let at : a ≡ a + 0 = omega arith in λ i. byte_at (image (at i)) (same i))
sector_byte (suc n) a (suc k) p image less in_it long =
    let size = long a (omega arith) (omega arith) in
    let rest = sector_byte n (a + 1) k p image (omega (arith, less)) in_it (λ s from under. long s (omega (arith, from)) (omega (arith, under))) in
    byte_back (image a) (flat_map image (range_with_len (a + 1) n)) 512 (512 * suc k + p) size (omega arith)
    ∙ (let same : 512 * suc k + p - 512 ≡ 512 * k + p = omega arith in ap (byte_at (flat_map image (range_with_len (a + 1) n))) same)
    ∙ rest ∙ (let at : a + 1 + k ≡ a + suc k = omega arith in ap (λ s. byte_at (image s) p) at)

zero_byte : (n p : ℕ) → p < n → byte_at (replicate {A = ℕ} n 0) p ≡ 0
zero_byte n p less = get_or-replicate n p 0 0 less

-- each sector of a block of zeros is one
zero_sectors : (image : Image) (block : ℕ) → ((sector : ℕ) → IsOfBlock block sector → length (image sector) ≡ 512) → IsMixOf (replicate 4096 0 ∷ []) (block_at image block) → (sector : ℕ) → IsOfBlock block sector → image sector ≡ empty_sector
zero_sectors image block long mix sector of =
    let size = long sector of in
    let empty : length (replicate {A = ℕ} 512 0) ≡ 512 = length-replicate {A = ℕ} 512 0 in
    ext_get_or 0 (image sector) empty_sector (size ∙ sym empty) (λ p less. at p (omega (arith, size, less)))
  where
    only : (place byte : ℕ) → place < 4096 → HasByte (replicate 4096 0 ∷ []) place byte → byte ≡ 0
    only place byte less (inl e) = e ∙ zero_byte 4096 place less
    only place byte less (inr none) = absurd none

    at : (p : ℕ) → p < 512 → byte_at (image sector) p ≡ byte_at empty_sector p
    at p less =
        let low = of.in_block in
        let same = of.same in
        let fits : 512 * of.slot + p < 4096 = omega (arith, low, less) in
        let of_all : byte_at (block_at image block) (512 * of.slot + p) ≡ byte_at (image (8 * block + of.slot)) p =
        sector_byte 8 (8 * block) of.slot p image low less (λ s from under. long s (record { slot = s - 8 * block; in_block = omega (arith, from, under); same = omega (arith, from) })) in
        ap (λ s. byte_at (image s) p) same ∙ sym of_all ∙ only (512 * of.slot + p) (byte_at (block_at image block) (512 * of.slot + p)) fits (mix.each (512 * of.slot + p) fits) ∙ sym (zero_byte 512 p less)

-- ---- a catalog with the block

module _ (g : Geometry) (s : Stand) (block : ℕ) (covers : CoversDirs g s) (no_dir : IsTrue (s.dirs block) → ⊥) (sound : IsSoundCatalog g s.catalog) where
  abbrev c : Catalog
  c = s.catalog

  abbrev d : Catalog
  d = (with_free_block block s).catalog

  apart : (k : ℕ) → (k ≡ block → ⊥) → d.slots k ≡ c.slots k
  apart k ne = by (k == block) refl
    where
      by : (b : Bool) → (k == block) ≡ b → d.slots k ≡ c.slots k
      by true e = absurd (ne (grind (arith, nat_tests, e)))
      by false e = ap (λ b. if b then replicate 64 free_slot else c.slots k) e

  pub same_slots : (dir : ℕ) → IsInode g dir → slots_in d dir ≡ slots_in c dir
  same_slots dir ranged = by ((c.forms dir).kind == 2) refl
    where
      by : (b : Bool) → ((c.forms dir).kind == 2) ≡ b → (if b then flat_map d.slots (blocks_of (c.forms dir)) else []) ≡ (if b then flat_map c.slots (blocks_of (c.forms dir)) else [])
      by false e = refl
      by true e =
          let kind : (c.forms dir).kind ≡ 2 = grind (arith, nat_tests, e) in
          flat_map-same d.slots c.slots (blocks_of (c.forms dir))
          (λ k is. apart k (λ same. let at = place_of_in k (blocks_of (c.forms dir)) is in no_dir (subst (λ b. IsTrue (s.dirs b)) same (covers k (record { inode = dir; place = at.0; has = record { in_range = ranged; there = at.1 }; dir = kind })))))

  has : (i p b : ℕ) → HasBlock g d i p b → HasBlock g c i p b
  has i p b is = record { in_range = is.in_range; there = is.there }

  dentry : (dir place : ℕ) (x : DentryForm) → HasDentry g d dir place x → HasDentry g c dir place x
  dentry dir place x is = record { in_range = is.in_range; there = ap (λ ss. slice_get ss place) (sym (same_slots dir is.in_range)) ∙ is.there; named = is.named }

  pub sound_with : IsSoundCatalog g d
  sound_with = record {
    root = sound.root;
    in_data = sound.in_data;
    blocks_once = λ i j p q b x y. sound.blocks_once i j p q b (has i p b x) (has j q b y);
    room = sound.room;
    whole = sound.whole;
    fit = λ dir place x is. let fits = sound.fit dir place x (dentry dir place x is) in record { plain = fits.plain; in_range = fits.in_range; kind = fits.kind; used = fits.used; no_root = fits.no_root };
    names_once = λ dir p q x y a b same. sound.names_once dir p q x y (dentry dir p x a) (dentry dir q y b) same;
    inodes_once = λ dir other p q x y a b same. sound.inodes_once dir other p q x y (dentry dir p x a) (dentry other q y b) same;
  }

  pub covers_with : CoversDirs g (with_free_block block s)
  covers_with b is = by (b == block) (covers b (record { inode = is.inode; place = is.place; has = has is.inode is.place b is.has; dir = is.dir }))
    where
      by : (t : Bool) → IsTrue (s.dirs b) → IsTrue (if t then true else s.dirs b)
      by true its = refl
      by false its = its

-- ---- what is left

joins_left : (sectors : ℕ) (superblock : Super) (blocks : ℕ → Cell) (s : Stand) (image : Image) (block : ℕ) → IsImageOf sectors image → IsDataBlock (geometry_of superblock) block → is_held s.log block ≡ false → (IsTrue (s.dirs block) → ⊥)
    → possible (blocks block) ≡ replicate 4096 0 ∷ [] → IsLeft sectors superblock blocks s image → IsLeft sectors superblock blocks (with_free_block block s) image
joins_left sectors superblock blocks s image block whole data' free no_dir zeros left = record {
  as_volume = left.as_volume;
  taken = left.taken;
  superblock_is = left.superblock_is;
  logged = left.logged;
  latest = left.latest;
  spells = record {
    forms = left.spells.forms;
    on_form = left.spells.on_form;
    fit = left.spells.fit;
    in_data = λ k its. in_data k (k == block) refl its;
    slots = λ k its. slots k (k == block) refl its;
    sized = λ k sector its of. sized k sector (k == block) refl its of;
  };
  covers = covers_with (geometry_of superblock) s block left.covers no_dir left.sound;
  sound = sound_with (geometry_of superblock) s block left.covers no_dir left.sound;
  contents = left.contents;
  if_clean = left.if_clean;
}
  where
    same : (k : ℕ) → (k == block) ≡ true → k ≡ block
    same k e = grind (arith, nat_tests, e)

    room : sector_count (geometry_of superblock) ≤ sectors
    room = subst (λ g. sector_count g ≤ sectors) (same_geometry sectors superblock blocks s image left) (has_geometry sectors image left.as_volume left.taken).1

    empty : (sector : ℕ) → IsOfBlock block sector → left.as_volume.image sector ≡ empty_sector
    empty sector of =
        let under = data'.under in
        let at = of.same in
        let low = of.in_block in
        ap (λ (i : Image). i sector) (same_image sectors superblock blocks s image left) ∙ unheld_sector (geometry_of superblock) block data'.from sector of s.log image free
        ∙ zero_sectors image block (λ k its. (whole k (let here = its.same in let slot = its.in_block in omega (arith, under, room, here, slot))).sized)
        (subst (λ xs. IsMixOf xs (block_at image block)) zeros (left.contents block data' free)) sector of

    in_data : (k : ℕ) (b : Bool) → (k == block) ≡ b → IsTrue (if b then true else s.dirs k) → first_of_data (geometry_of superblock) ≤ k
    in_data k true e its = let from = data'.from in omega (arith, from, same k e)
    in_data k false e its = left.spells.in_data k its

    slots : (k : ℕ) (b : Bool) → (k == block) ≡ b → IsTrue (if b then true else s.dirs k) → read_block left.as_volume.image k ≡ map Some (if b then replicate 64 free_slot else s.catalog.slots k)
    slots k true e its = subst (λ b. read_block left.as_volume.image b ≡ map Some (replicate 64 free_slot)) (sym (same k e)) (free_block left.as_volume.image block empty)
    slots k false e its = left.spells.slots k its

    sized : (k sector : ℕ) (b : Bool) → (k == block) ≡ b → IsTrue (if b then true else s.dirs k) → IsOfBlock k sector → length (left.as_volume.image sector) ≡ 512
    sized k sector true e its of = ap length (empty sector (subst (λ b. IsOfBlock b sector) (same k e) of)) ∙ length-replicate {A = ℕ} 512 0
    sized k sector false e its of = left.spells.sized k sector its of

pub joins : (sectors : ℕ) (state : State) (l : Ledger) (block : ℕ) → Leaves (IsImageOf sectors) state → l.maybe ≡ None → IsLedgerOf sectors state l → IsDataBlock (geometry_of l.superblock) block → is_held l.now.log block ≡ false
    → (IsTrue (l.now.dirs block) → ⊥) → possible (l.blocks block) ≡ replicate 4096 0 ∷ [] → IsLedgerOf sectors state (record l { now = with_free_block block l.now })
joins sectors state l block whole none is data' free no_dir zeros = record {
  images = λ image left. inl (joins_left sectors l.superblock l.blocks l.now image block (whole image left) data' free no_dir zeros (on_one sectors l image none (is.images image left)));
  reads = is.reads;
}

-- ---- fewer blocks of directories

pub shrinks : (sectors : ℕ) (state : State) (l : Ledger) (dirs : ℕ → Bool) → l.maybe ≡ None → IsLedgerOf sectors state l → ((block : ℕ) → IsTrue (dirs block) → IsTrue (l.now.dirs block)) → CoversDirs (geometry_of l.superblock) (with_dirs dirs l.now)
    → IsLedgerOf sectors state (record l { now = with_dirs dirs l.now })
shrinks sectors state l dirs none is less covers = record {
  images = λ image left. inl (of image (on_one sectors l image none (is.images image left)));
  reads = is.reads;
}
  where
    of : (image : Image) → IsLeft sectors l.superblock l.blocks l.now image → IsLeft sectors l.superblock l.blocks (with_dirs dirs l.now) image
    of image left = record {
      as_volume = left.as_volume;
      taken = left.taken;
      superblock_is = left.superblock_is;
      logged = left.logged;
      latest = left.latest;
      spells = record {
        forms = left.spells.forms;
        on_form = left.spells.on_form;
        fit = left.spells.fit;
        in_data = λ k its. left.spells.in_data k (less k its);
        slots = λ k its. left.spells.slots k (less k its);
        sized = λ k sector its at. left.spells.sized k sector (less k its) at;
      };
      covers = covers;
      sound = left.sound;
      contents = left.contents;
      if_clean = left.if_clean;
    }
