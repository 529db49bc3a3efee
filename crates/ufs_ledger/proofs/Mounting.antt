-- What a disk has as it is mounted.
use Rattle.std.proofs.Common.{◌≡◌, ℕ, ◌≤◌, inl, inr, List, [], ◌∷◌, Bool, true, false, Some, None, ap, sym, refl, ◌∙◌, subst, arith}
use Rattle.std.specs.Prelude.{◌==◌, ◌&&◌, ◌||◌, IsTrue, Ok}
use Rattle.std.specs.List.{list_any}
use Rattle.std.proofs.lemmas.Bool.{and_parts}
use Rattle.std.proofs.lemmas.Bool.Decides.{nat_tests}
use Rattle.ufs_disk.specs.Disk.{State, IsSettled, Leaves, seen}
use Rattle.ufs_disk.proofs.Images.{seen_is_image}
use Rattle.ufs_layout.specs.Areas.{IsGeometry, sector_count, all_inodes}
use Rattle.ufs_layout.specs.Superblock.{geometry_of}
use Rattle.ufs_base.specs.Images.{Image}
use Rattle.ufs_image.specs.Images.{IsImageOf, block_at}
use Rattle.ufs_image.specs.Journal.{committed}
use Rattle.ufs_image.specs.Damage.{bad_tree}
use Rattle.ufs_image.specs.Nodes.{blocks_of}
use Rattle.ufs_image.specs.Fold.{folded}
use Rattle.ufs_image.specs.Proper.{IsProperClean}
use Rattle.ufs_image.specs.Volume.{Volume, volume}
use Rattle.ufs_layout.specs.declared.geometry.Geometry.{Geometry}
use Rattle.ufs_layout.specs.declared.superblock.Super.{Super}
use Rattle.ufs_journal.specs.Found.{IsFreeFrom}
use Rattle.ufs_journal.specs.Kept.{HasEarlier, HasNoLater}
use Rattle.ufs_image.specs.Catalog.{Catalog, IsDirBlock, HasDirBlocks, IsCatalogOf, catalog_at}
use Rattle.ufs_image.specs.Sound.{IsSoundCatalog}
use Rattle.ufs_image.specs.Folding.{Spells}
use Rattle.ufs_image.specs.CatalogLaws.{HasCatalog, WholeIsSound}
use Rattle.ufs_image.proofs.Lists.{IsIn}
use Rattle.ufs_image.proofs.Listed.{place_of_in, in_at_place}
use Rattle.ufs_image.proofs.Holders.{inode_in, in_inodes, block_in_data}
use Rattle.ufs_image.proofs.Journals.{taken}
use Rattle.ufs_image.proofs.Opening.{has_geometry}
use Rattle.ufs_image.proofs.Blocks.{block_length}
use Rattle.ufs_image.proofs.Fits.{spells}
use Rattle.ufs_ledger.specs.Ledger.{IsLeft, IsLeftBy, IsLedgerOf}
use Rattle.ufs_ledger.specs.Changes.{dir_blocks, opening_ledger}
use Rattle.ufs_ledger.proofs.SuperblockPut.{none_committed}

from_any : {X : Type 0} (p : X → Bool) (xs : List X) → list_any p xs ≡ true → (x : X) × IsIn x xs × (p x ≡ true)
from_any p [] e = let off = e in cc
from_any {X} p (y ∷ xs) e = by (p y) refl e (from_any p xs)
  where
    by : (b : Bool) → p y ≡ b → (b || list_any p xs) ≡ true → (list_any p xs ≡ true → (x : X) × IsIn x xs × (p x ≡ true)) → (x : X) × IsIn x (y ∷ xs) × (p x ≡ true)
    by true t h more = (y, inl refl, t)
    by false t h more = let rest = more h in (rest.0, inr rest.1, rest.2)

to_any : {X : Type 0} (p : X → Bool) (xs : List X) (x : X) → IsIn x xs → p x ≡ true → list_any p xs ≡ true
to_any p [] x is e = absurd is
to_any p (y ∷ xs) x (inl same) e = let here : p y ≡ true = ap p (sym same) ∙ e in ap (λ b. b || list_any p xs) here
to_any p (y ∷ xs) x (inr is) e = by (p y) (to_any p xs x is e)
  where
    by : (b : Bool) → list_any p xs ≡ true → (b || list_any p xs) ≡ true
    by true h = refl
    by false h = h

module _ (g : Geometry) (c : Catalog) where
  -- it is a directory's block
  pub of_dir : (block : ℕ) → IsTrue (dir_blocks g c block) → IsDirBlock g c block
  of_dir block its =
      let one = from_any (λ inode. (c.forms inode).kind == 2 && list_any (λ b. b == block) (blocks_of (c.forms inode))) (all_inodes g) its in
      let parts = and_parts ((c.forms one.0).kind == 2) (list_any (λ b. b == block) (blocks_of (c.forms one.0))) one.2 in
      let two = from_any (λ b. b == block) (blocks_of (c.forms one.0)) parts.1 in
      let same : two.0 ≡ block = let e = two.2 in grind (arith, nat_tests, e) in
      let at = place_of_in two.0 (blocks_of (c.forms one.0)) two.1 in
      record { inode = one.0; place = at.0; has = record { in_range = inode_in g one.0 one.1; there = at.1 ∙ ap Some same }; dir = (let e = parts.0 in grind (arith, nat_tests, e)) }

  pub dirs_cover : HasDirBlocks g c (dir_blocks g c)
  dirs_cover block of_dir =
      let inode = of_dir.inode in
      let place = of_dir.place in
      let has = of_dir.has in
      let kind = of_dir.dir in
      let is : ((c.forms inode).kind == 2) ≡ true = grind (arith, nat_tests, kind) in
      let self : (block == block) ≡ true = grind (arith, nat_tests) in
      let there : list_any (λ b. b == block) (blocks_of (c.forms inode)) ≡ true = to_any (λ b. b == block) (blocks_of (c.forms inode)) block (in_at_place block (blocks_of (c.forms inode)) place has.there) self in
      to_any (λ i. (c.forms i).kind == 2 && list_any (λ b. b == block) (blocks_of (c.forms i))) (all_inodes g) inode (in_inodes g inode has.in_range) (λ i. is i && there i)

module _ (sectors : ℕ) (image : Image) (v : Volume) (bytes : IsImageOf sectors image) (ok : volume sectors image ≡ Ok v) (good : bad_tree v.geometry v.image ≡ None) (earlier : HasEarlier v.geometry v.superblock.epoch image)
    (clean : IsTrue v.superblock.clean → IsProperClean v image) (catalogs : HasCatalog v.geometry) (sounds : WholeIsSound v.geometry) where
  same_geometry : v.geometry ≡ geometry_of v.superblock
  same_geometry = let is = taken sectors image v ok in ap (λ (v : Volume). v.geometry) is.same ∙ ap geometry_of (sym (ap (λ (v : Volume). v.superblock) is.same))

  free : IsFreeFrom v.geometry v.superblock.epoch 0 image
  free place low under = let less = earlier place under in grind (arith, nat_tests, less)

  logged : committed v.geometry v.superblock.epoch image ≡ []
  logged = none_committed v.geometry v.superblock.epoch image free

  unfolded : v.image ≡ image
  unfolded =
      let is = taken sectors image v ok in
      ap (λ (v : Volume). v.image) is.same
      ∙ ap (λ (h : Super). folded (geometry_of h) (committed (geometry_of h) h.epoch image) image) (sym (ap (λ (v : Volume). v.superblock) is.same))
      ∙ ap (λ g. folded g (committed g v.superblock.epoch image) image) (sym same_geometry)
      ∙ ap (λ log. folded v.geometry log image) logged

  whole : bad_tree v.geometry image ≡ None
  whole = sym (ap (bad_tree v.geometry) unfolded) ∙ good

  has : IsCatalogOf v.geometry image (catalog_at v.geometry image)
  has = catalogs image whole

  sound : IsSoundCatalog v.geometry (catalog_at v.geometry image)
  sound = sounds image (catalog_at v.geometry image) has whole

  geometry : IsGeometry v.geometry × (sector_count v.geometry ≤ sectors)
  geometry = has_geometry sectors image v ok

  spelled : Spells v.geometry true (dir_blocks v.geometry (catalog_at v.geometry image)) image (catalog_at v.geometry image)
  spelled = spells v.geometry sectors image geometry.0 geometry.1 bytes (catalog_at v.geometry image) (dir_blocks v.geometry (catalog_at v.geometry image)) has
      (λ block its.
      let of = of_dir v.geometry (catalog_at v.geometry image) block its in
      let within = block_in_data v.geometry ((catalog_at v.geometry image).forms of.inode).extents block (sound.in_data of.inode of.has.in_range) (in_at_place block (blocks_of ((catalog_at v.geometry image).forms of.inode)) of.place of.has.there) in
      (within.0, within.1, has.slots block of))

  left_there : IsLeft sectors v.superblock (λ block. record { older = []; seen = block_at image block }) (opening_ledger v.superblock image).now image
  left_there = record {
    as_volume = v;
    taken = ok;
    superblock_is = refl;
    logged = subst (λ g. committed g v.superblock.epoch image ≡ []) same_geometry logged;
    latest = subst (λ g. HasNoLater g v.superblock.epoch image) same_geometry (λ place under. let less = earlier place under in omega (arith, less));
    spells = subst (λ (x : Geometry × Image). Spells x.0 true (dir_blocks x.0 (catalog_at x.0 image)) x.1 (catalog_at x.0 image)) (λ i. (same_geometry i, sym unfolded i)) spelled;
    covers = dirs_cover (geometry_of v.superblock) (catalog_at (geometry_of v.superblock) image);
    sound = subst (λ g. IsSoundCatalog g (catalog_at g image)) same_geometry sound;
    contents = λ block data' _. record {
      size = block_length image sectors bytes block (let under = data'.under in let room = subst (λ g. sector_count g ≤ sectors) same_geometry geometry.1 in omega (arith, under, room));
      each = λ place less. inl refl;
    };
    if_clean = clean;
  }

pub mounted : (sectors : ℕ) (state : State) (v : Volume) → Leaves (IsImageOf sectors) state → IsSettled state → volume sectors (seen state) ≡ Ok v → bad_tree v.geometry v.image ≡ None
    → HasEarlier v.geometry v.superblock.epoch (seen state) → (IsTrue v.superblock.clean → IsProperClean v (seen state)) → HasCatalog v.geometry → WholeIsSound v.geometry → IsLedgerOf sectors state (opening_ledger v.superblock (seen state))
mounted sectors state v whole still ok good earlier clean catalogs sounds = record {
  images = λ image left. subst (IsLeftBy sectors (opening_ledger v.superblock (seen state))) (sym (still image left))
      (inl (left_there sectors (seen state) v (whole (seen state) (seen_is_image state)) ok good earlier clean catalogs sounds));
  reads = λ block data' _. refl;
}
