-- What was read of a disk's image, over the store that has mounted it, is what a session on hands may begin with.
use Rattle.std.proofs.Common.{◌≡◌, ◌≤◌, ℕ, suc, zero, Bool, true, false, Some, None, replicate, ap, sym, refl, ◌∙◌, subst}
use Rattle.std.specs.Prelude.{Ok, slice_get}
use Rattle.std.proofs.lemmas.Bool.{and_from, and_parts}
use Rattle.ufs_base.specs.Images.{Image}
use Rattle.ufs_bitmap.specs.Space.{Space}
use Rattle.ufs_disk.specs.Disk.{IsWhole, State, seen}
use Rattle.ufs_file.specs.Content.{Content}
use Rattle.ufs_layout.specs.declared.geometry.Geometry.{Geometry}
use Rattle.ufs_ledger.specs.Changes.{opening_ledger}
use Rattle.ufs_model.specs.PosixTree.{PosixTree}
use Rattle.ufs_name_tree.specs.NameTable.{IsNameTable}
use Rattle.ufs_promise_laws.specs.Starts.{image_start}
use Rattle.ufs_recovery.specs.Recovered.{IsCleanDisk}
use Rattle.ufs_brink.specs.Begins.{BeginsWith}
use Rattle.ufs_told.specs.MayBegin.{MayBegin}
use Rattle.ufs_hand_laws.specs.Parts as sound
use Rattle.ufs_start.specs.Begun.{IsBegun, tree_under}
use Rattle.ufs_start.specs.declared.parts.Start.{Start}
use Rattle.ufs_store.specs.Ledgers.{HasLedger}
use Rattle.ufs_store.specs.Mounting.{IsMountable, in_use}
use Rattle.ufs_store.specs.State.{StoreState, geometry_of_store}
use Rattle.ufs_promise_laws.specs.Sound.{IsSoundServer}
use Rattle.ufs_brink.specs.Laws.{CleanStartsMount, IsReadClean, StartsAreSound, StartsGoOn, StartsMayBegin, parts_of}
use Rattle.ufs_joint.specs.FirstHand.{Beginning}
use Rattle.ufs_joint.specs.Ready.{AreAway, IsReady}
use Rattle.ufs_begin_hands.specs.Mounted.{beginning_of}
use Rattle.ufs_begin_hands.specs.Seen.{is_clean, sees}
use Rattle.ufs_begin_hands.proofs.Clean.{clean_disk, told_clean}

-- ---- what a session sees

pub sees_it : (visible : Bool) (sectors : ℕ) (state : State) → sees visible sectors state ≡ true → (visible ≡ true) × (is_clean sectors state ≡ true)
sees_it visible sectors state is = and_parts _ _ is

pub it_sees : (visible : Bool) (sectors : ℕ) (state : State) → visible ≡ true → IsCleanDisk sectors state → sees visible sectors state ≡ true
it_sees visible sectors state sight clean = and_from _ _ sight (told_clean sectors state clean)

-- ---- nothing is in memory

same_mark : (n place : ℕ) (b c : Bool) → slice_get (replicate n b) place ≡ Some c → c ≡ b
same_mark zero place b c is = (let none : None ≡ Some c = is in absurd cc)
same_mark (suc n) zero b c is = (let same : Some b ≡ Some c = is in cc)
same_mark (suc n) (suc place) b c is = same_mark n place b c is

module _ (sectors : ℕ) (image : Image) (s : Start) (begun : IsBegun sectors image s) where
  pub away : AreAway s.files
  away file f at place there =
      let none = same_mark _ place false true (sym (ap (λ (c : Content). slice_get c.there place) (begun.unread file f at)) ∙ there) in
      let off : true ≡ false = none in
      absurd cc

  -- the session starts from the tree of the image
  pub tree_is : s.parts.start.tree ≡ image_start (tree_under s.superblock image)
  tree_is = ap (λ (k : sound.Start). k.tree) begun.session

  pub with_it : BeginsWith sectors image s.parts.start.tree
  with_it = record { tree = tree_under s.superblock image; opened = begun.opened; start_is = tree_is }

  -- an image opens to one tree
  pub same_start : (start : PosixTree) → BeginsWith sectors image start → s.parts.start.tree ≡ start
  same_start start other =
      let both : Ok other.tree ≡ Ok (tree_under s.superblock image) = sym other.opened ∙ begun.opened in
      let same : other.tree ≡ tree_under s.superblock image = cc in
      tree_is ∙ sym (other.start_is ∙ ap image_start same)

-- ---- the whole

module _ (g : Geometry) (sectors : ℕ) (state : State) (image : Image) (s : Start) (store : StoreState) (clients workers : ℕ) (visible : Bool)
    (begun : IsBegun sectors image s) (few : workers ≤ 8) (table : IsNameTable s.names.tree) (is : s.superblock.geometry ≡ g)
    (formed : geometry_of_store store ≡ s.superblock.geometry) (free : store.unassigned ≡ s.free) (going : store.stop ≡ None)
    (read : visible ≡ true → image ≡ seen state) (whole : visible ≡ true → IsWhole sectors state) (left_whole : visible ≡ true → IsWhole store.sectors store.moments.state)
    (has : visible ≡ true → IsMountable sectors state s.superblock.superblock → HasLedger store (opening_ledger (in_use s.superblock.superblock) (seen state))) where
  abbrev b : Beginning
  b = beginning_of s clients workers (sees visible sectors state)

  abbrev t : PosixTree
  t = s.parts.start.tree

  -- what was read is of this disk, which is clean
  clean : b.is_visible ≡ true → IsReadClean g sectors state s
  clean sight =
      let it = sees_it visible sectors state sight in
      record { whole = whole it.0; clean = clean_disk sectors state (whole it.0) it.1; begun = subst (λ (i : Image). IsBegun sectors i s) (read it.0) begun; geometry = is }

  pub ready : StartsMayBegin → StartsAreSound → CleanStartsMount g → StartsGoOn g → IsReady b store
  ready may sounds mounts goes =
      let begins : MayBegin (parts_of s) t = may sectors image s t begun (with_it sectors image s begun) in
      record {
        workers = few;
        closed = begins.closed;
        parts = begins.parts;
        table = table;
        away = away sectors image s begun;
        formed = formed;
        server = subst (λ (u : Space). IsSoundServer s.superblock.geometry u.free (parts_of s)) (sym free) (sounds sectors image s begun);
        going = going;
        whole = λ sight. left_whole (sees_it visible sectors state sight).0;
        on_disk = λ sight.
            let it = sees_it visible sectors state sight in
            let c = clean sight in
            goes sectors state s t store (parts_of s) c (with_it sectors (seen state) s c.begun) refl (has it.0 (mounts sectors state s c)) formed free;
      }
