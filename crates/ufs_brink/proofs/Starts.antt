-- A server of what was read of a disk.
use Rattle.std.proofs.Common.{◌≡◌, ℕ, inl, [], true, false, Option, Some, None, ap, sym, refl, ◌∙◌, subst, arith}
use Rattle.std.specs.Prelude.{◌&&◌, IsSome, Ok, is_none}
use Rattle.std.specs.FinMap as map
use Rattle.std.specs.FinMap.{get-empty}
use Rattle.std.specs.FinSet as set
use Rattle.std.specs.Str.{bytes_eq}
use Rattle.std.proofs.lemmas.Bool.{and_parts}
use Rattle.ufs_base.specs.Images.{Image}
use Rattle.ufs_bitmap.specs.Space.{Space}
use Rattle.ufs_disk.specs.Disk.{Leaves, State, seen}
use Rattle.ufs_disk.proofs.Images.{seen_is_image}
use Rattle.ufs_image.specs.Images.{IsImageOf, block_at}
use Rattle.ufs_image.specs.Proper.{IsProperImage}
use Rattle.ufs_image.specs.Volume.{BadVersion, NoSuperblock, Volume, has_other_version, superblock_of, is_off_form, lacks_magic, volume}
use Rattle.ufs_base.specs.Choices.{refused_if}
use Rattle.ufs_image.proofs.Journals.{taken}
use Rattle.ufs_image.proofs.Opening.{not_refused, second_none}
use Rattle.ufs_layout.specs.Superblock.{geometry_of, is_super, super_bytes, super_fields, super_of}
use Rattle.ufs_layout.specs.declared.geometry.Geometry.{Geometry}
use Rattle.ufs_layout.specs.declared.superblock.Super.{Super}
use Rattle.ufs_layout.proofs.Spelled.{some_if-some}
use Rattle.ufs_journal.specs.Kept.{HasEarlier}
use Rattle.ufs_ledger.specs.Changes.{opening_ledger}
use Rattle.ufs_ledger.specs.Kept.{Counts, IsLedgerKept, OpensExplained}
use Rattle.ufs_ledger.specs.Laws.{BeginningIsKept, LedgersExplain, LeftIsProper}
use Rattle.ufs_ledger.specs.Ledger.{IsLeftBy, Standing}
use Rattle.ufs_model.specs.Order.{fd_cmp}
use Rattle.ufs_model.specs.PosixTree.{PosixTree}
use Rattle.ufs_model.proofs.Facts.Lookups.{same_some}
use Rattle.ufs_names.proofs.NotedLemmas.{beside}
use Rattle.ufs_promise_laws.specs.Starts.{image_start}
use Rattle.ufs_brink.specs.Begins.{BeginsWith}
use Rattle.ufs_told.specs.MayBegin.{MayBegin}
use Rattle.ufs_store.specs.Laws.{CleanDisksMount}
use Rattle.ufs_store.specs.Ledgers.{HasLedger}
use Rattle.ufs_store.specs.Mounting.{IsMountable, in_use, marking}
use Rattle.ufs_store.specs.State.{StoreState, geometry_of_store}
use Rattle.ufs_promise_laws.specs.OnDisk.{IsOnDisk}
use Rattle.ufs_promise_laws.specs.Sound.{IsSoundServer}
use Rattle.ufs_promise_laws.specs.Stored.{ArePartsOf}
use Rattle.ufs_start_laws.specs.Laws.{BeginsOnDisk, BeginsSound, BeginsStored, WholeHaveNone}
use Rattle.ufs_start_laws.specs.Parts.{AreOrphaned, IsOpened, begun_counts}
use Rattle.ufs_start_laws.specs.MountedLaws.{StartsAreNamed, StartsAreOpened}
use Rattle.ufs_start.specs.Begun.{IsBegun, tree_under, volume_under}
use Rattle.ufs_start.specs.declared.parts.Start.{Start}
use Rattle.ufs_promise_laws.specs.Parts.{Parts}
use Rattle.ufs_brink.specs.Laws.{IsReadClean, parts_of}

some_is : {X : Type 0} (o : Option X) → IsSome o → (x : X) × (o ≡ Some x)
some_is None is = absurd cc
some_is (Some x) is = (x, refl)

-- ---- the superblock

super_there : (o : Option Super) → is_none o ≡ false → (s : Super) × (o ≡ Some s)
super_there None is = absurd (let no = is in cc)
super_there (Some s) is = (s, refl)

-- a superblock that is taken is on its form
pub is_form : (sectors : ℕ) (image : Image) (v : Volume) → volume sectors image ≡ Ok v → is_super 1 v.superblock ≡ true
is_form sectors image v e =
    let t = taken sectors image v e in
    let one = second_none (refused_if (lacks_magic sectors image) NoSuperblock) _ t.superblock in
    let two = second_none (refused_if (has_other_version image) (BadVersion (superblock_of image).version)) _ one.1 in
    let three = second_none (refused_if (is_off_form image) NoSuperblock) _ two.1 in
    let found = super_there (super_of 1 (image 0)) (not_refused (is_off_form image) NoSuperblock three.0) in
    let s = super_fields (image 0) in
    let both = some_if-some (is_super 1 s && bytes_eq (super_bytes s) (image 0)) s found.0 found.1 in
    ap (λ (v : Volume). is_super 1 v.superblock) t.same ∙ (and_parts (is_super 1 s) (bytes_eq (super_bytes s) (image 0)) both.0).0

-- ---- of any image

module _ (sectors : ℕ) (image : Image) (s : Start) (is : IsBegun sectors image s) where
  abbrev tree_of : PosixTree
  tree_of = image_start (tree_under s.superblock image)

  -- an image opens to one tree
  pub same_start : (start : PosixTree) → BeginsWith sectors image start → start ≡ image_start (tree_under s.superblock image)
  same_start start with_it =
      let both : Ok with_it.tree ≡ Ok (tree_under s.superblock image) = sym with_it.opened ∙ is.opened in
      let same : with_it.tree ≡ tree_under s.superblock image = cc in
      with_it.start_is ∙ ap image_start same

  are_parts : ArePartsOf (parts_of s) tree_of
  are_parts = record {
    names = (beside s.names (Some [])).part tree_of is.names;
    files = is.files;
    inodes = is.inodes;
    here = λ file there. let h = some_is (map.get s.names.held file) there in is.here h.0.inode file (is.table.closed.only file h.0 h.1);
  }

  begins : MayBegin (parts_of s) tree_of
  begins =
      let next = is.table.next in
      let few = is.few in
      record { parts = are_parts; closed = λ client fd. get-empty fd_cmp (client, fd); numbers = omega (arith, next, few) }

  pub may_begin : (start : PosixTree) → BeginsWith sectors image start → MayBegin (parts_of s) start
  may_begin start with_it = subst (MayBegin (parts_of s)) (sym (same_start start with_it)) begins

  pub none_orphaned : StartsAreOpened → StartsAreNamed → WholeHaveNone → AreOrphaned (volume_under s.superblock image) s.names set.empty
  none_orphaned opened named none = none sectors image (volume_under s.superblock image) s.names s.files s.free.free (opened sectors image s is) (named sectors image s is)

  pub are_sound : StartsAreOpened → StartsAreNamed → WholeHaveNone → BeginsSound → IsSoundServer s.superblock.geometry s.free.free (parts_of s)
  are_sound opened named none sound = sound sectors image (volume_under s.superblock image) s.names s.files s.free.free set.empty (opened sectors image s is) (none_orphaned opened named none)

-- ---- of a clean disk

module _ (g : Geometry) (sectors : ℕ) (state : State) (s : Start) (is : IsReadClean g sectors state s) where
  abbrev superblock : Super
  superblock = s.superblock.superblock

  abbrev t : PosixTree
  t = image_start (tree_under s.superblock (seen state))

  abbrev v : Volume
  v = volume_under s.superblock (seen state)

  same_superblock : superblock ≡ superblock_of (seen state)
  same_superblock = ap (λ (v : Volume). v.superblock) (taken sectors (seen state) v is.begun.standing.taken).same

  same_geometry : geometry_of superblock ≡ g
  same_geometry = sym s.superblock.same ∙ is.geometry

  pub mountable : CleanDisksMount → IsMountable sectors state superblock
  mountable mounts = subst (IsMountable sectors state) (sym same_superblock) (mounts sectors state is.clean.proper.settled is.clean.proper.proper is.clean.clean)

  images : Leaves (IsImageOf sectors) state
  images image left sector less = is.whole.within sector less (image sector) (left sector)

  module _ (mounts : CleanDisksMount) (opened : StartsAreOpened) (named : StartsAreNamed) (none : WholeHaveNone) where
    pub goes_on : BeginsOnDisk g → (start : PosixTree) (store : StoreState) (p : Parts) → BeginsWith sectors (seen state) start → p ≡ parts_of s
        → HasLedger store (opening_ledger (in_use superblock) (seen state)) → geometry_of_store store ≡ s.superblock.geometry → store.unassigned ≡ s.free → IsOnDisk store start [] p
    goes_on going start store p with_it same has formed free =
        subst (λ (p : Parts). IsOnDisk store start [] p) (sym same)
        (subst (λ (t : PosixTree). IsOnDisk store t [] (parts_of s)) (sym (same_start sectors (seen state) s is.begun start with_it)) on_it)
      where
        on_it : IsOnDisk store t [] (parts_of s)
        on_it = inl (going sectors state v s.names s.files store is.geometry images (mountable mounts) has formed
            (subst (λ (u : Space). IsOpened sectors (seen state) v s.names s.files u.free) (sym free) (opened sectors (seen state) s is.begun))
            (none_orphaned sectors (seen state) s is.begun opened named none))

    module _ (stored : BeginsStored g) where
      abbrev k : Counts
      k = begun_counts s.names

      kept : IsLedgerKept (opening_ledger (in_use superblock) (seen state)) t [] k k
      kept =
          let earlier = subst (λ (x : Geometry). HasEarlier x superblock.epoch (seen state)) (sym s.superblock.same) (mountable mounts).earlier in
          (stored sectors (seen state) v s.names s.files s.free.free is.geometry (images (seen state) (seen_is_image state)) (opened sectors (seen state) s is.begun)
          (none_orphaned sectors (seen state) s is.begun opened named none) earlier).kept

      kept_before : IsLedgerKept (opening_ledger superblock (seen state)) t [] k k
      kept_before = record { here = kept.here; there = λ other at. (let no = at in absurd cc) }

      pub marking_explained : BeginningIsKept g → LedgersExplain g → (start : PosixTree) (image : Image) → BeginsWith sectors (seen state) start → IsLeftBy sectors (marking superblock (seen state)) image → OpensExplained sectors start [] image
      marking_explained beginning explain start image with_it left =
          subst (λ (t : PosixTree). OpensExplained sectors t [] image) (sym (same_start sectors (seen state) s is.begun start with_it))
          (explain sectors (marking superblock (seen state)) image t [] k k same_geometry left
          (beginning (opening_ledger superblock (seen state)) (in_use superblock) (block_at (seen state)) t [] k k same_geometry same_geometry kept_before))

  pub marking_proper : LeftIsProper g → (image : Image) → IsLeftBy sectors (marking superblock (seen state)) image → IsProperImage sectors image
  marking_proper proper image left =
      proper sectors (marking superblock (seen state)) image same_geometry
      (λ other at. (let same = same_some _ _ at in ap (λ (o : Standing). geometry_of o.superblock) (sym same) ∙ same_geometry)) left
