-- How far the closing of a session raises the numbers of its store.
use Rattle.std.proofs.Common.{◌≡◌, ◌≤◌, ◌<◌, ◌+◌, ℕ, Bool, true, false, List, [], ◌∷◌, None, Some, inl, inr, ap, arith, sym, refl, subst, ◌∙◌}
use Rattle.std.specs.Prelude.{IsTrue, nat_lt}
use Rattle.std.specs.List.{list_all}
use Rattle.std.proofs.lemmas.Bool.{and_parts}
use Rattle.std.proofs.lemmas.Bool.Decides.{nat_tests}
use Rattle.ufs_base.specs.Images.{Image}
use Rattle.ufs_disk.specs.Moments.{reads}
use Rattle.ufs_disk.proofs.Images.{seen_is_image}
use Rattle.ufs_image.specs.Images.{form_at}
use Rattle.ufs_image.specs.Journal.{committed}
use Rattle.ufs_image.specs.Volume.{Volume, superblock_of, volume_of}
use Rattle.ufs_image.proofs.Journals.{taken}
use Rattle.ufs_image.proofs.Opening.{has_geometry}
use Rattle.ufs_layout.specs.InodeForm.{InodeForm}
use Rattle.ufs_layout.specs.Superblock.{geometry_of}
use Rattle.ufs_layout.specs.declared.geometry.Geometry.{Geometry}
use Rattle.ufs_layout.specs.declared.records.Committed.{Committed}
use Rattle.ufs_layout.specs.declared.superblock.Super.{Super}
use Rattle.ufs_ledger.specs.Ledger.{IsLeft, IsLeftBy, Ledger}
use Rattle.ufs_model.specs.History.{tree_after}
use Rattle.ufs_model.specs.PosixTree.{PosixTree}
use Rattle.ufs_model.specs.declared.data.Entry.{Entry}
use Rattle.ufs_recovery.specs.Recovered.{AreCommitsBelow, AreInodesBelow, IsRecovered, log_of}
use Rattle.ufs_told.specs.Numbers.{most_committed}
use Rattle.ufs_told.proofs.OnDisk.{parts_on_disk}
use Rattle.ufs_store.specs.Ledgers.{HasLedger}
use Rattle.ufs_store.specs.Numbers.{HasRaised}
use Rattle.ufs_store.specs.State.{StoreState, geometry_of_store}
use Rattle.ufs_promise_laws.specs.OnDisk.{HasAll, IsOnDisk}
use Rattle.ufs_promise_laws.specs.Parts.{Parts}
use Rattle.ufs_promise_laws.specs.Stored.{ArePartsOf}
use Rattle.ufs_brink.specs.Numbers.{ClosesFrom, IsNextOf}

-- ---- the image of a store that knows its ledger

under : (b : Bool) (a n : ℕ) → b ≡ nat_lt a n → b ≡ true → a < n
under b a n is here = let less : nat_lt a n ≡ true = sym is ∙ here in grind (arith, nat_tests, less)

below_all : (n : ℕ) (log : List Committed) → IsTrue (list_all (λ (t : Committed). nat_lt t.number n) log) → AreCommitsBelow log n
below_all n [] all = tt
below_all n (t ∷ log) all =
    let both = and_parts (nat_lt t.number n) (list_all (λ (u : Committed). nat_lt u.number n) log) all in
    let here = both.0 in
    (under (nat_lt t.number n) t.number n refl here, below_all n log both.1)

module _ (s : StoreState) (l : Ledger) (has : HasLedger s l) where
  abbrev image : Image
  image = reads s.moments

  left : IsLeft s.sectors l.superblock l.blocks l.now image
  left = by (has.by.is.images image (seen_is_image s.moments.state))
    where
      by : IsLeftBy s.sectors l image → IsLeft s.sectors l.superblock l.blocks l.now image
      by (inl is) = is
      by (inr other) = let no : None ≡ Some other.0 = sym has.by.none ∙ other.1 in cc

  as_taken : left.as_volume ≡ volume_of (superblock_of image) image
  as_taken = (taken s.sectors image left.as_volume left.taken).same

  of_ledger : l.superblock ≡ superblock_of image
  of_ledger = sym left.superblock_is ∙ ap (λ (v : Volume). v.superblock) as_taken

  pub has_superblock : superblock_of image ≡ s.superblock
  has_superblock = sym of_ledger ∙ has.superblock_is

  pub is_used : (superblock_of image).clean ≡ false
  is_used = ap (λ (h : Super). h.clean) (sym of_ledger) ∙ has.by.in_use

  inodes_here : AreInodesBelow (geometry_of l.superblock) left.as_volume.image s.journal.number
  inodes_here k ranged =
      let form : (form_at (geometry_of l.superblock) left.as_volume.image k).number ≡ (l.now.catalog.forms k).number = ap (λ (f : InodeForm). f.number) (left.spells.forms k ranged) in
      let less = has.older k ranged in
      omega (arith, form, less)

  some_here : 1 ≤ s.journal.number
  some_here =
      let least = (has_geometry s.sectors image left.as_volume left.taken).0.least_inodes in
      let same : left.as_volume.geometry.inodes ≡ (geometry_of l.superblock).inodes = ap (λ (v : Volume). v.geometry.inodes) as_taken ∙ ap (λ (h : Super). (geometry_of h).inodes) (sym of_ledger) in
      let less = has.older 1 (record { from_one = omega arith; within = omega (arith, least, same) }) in
      omega (arith, less)

  log_here : log_of image ≡ l.now.log
  log_here = ap (λ (h : Super). committed (geometry_of h) h.epoch image) (sym of_ledger) ∙ left.logged

  pub next_here : IsNextOf image s.journal.number
  next_here =
      let later : l.superblock.next ≤ s.journal.number = has.by.later in
      let next : l.superblock.next ≡ (superblock_of image).next = ap (λ (h : Super). h.next) of_ledger in
      record {
        some = some_here;
        known = omega (arith, later, next);
        inodes = subst (λ (x : Geometry × Image). AreInodesBelow x.0 x.1 s.journal.number) (λ i. (geometry_of (of_ledger i), (as_taken i).image)) inodes_here;
        logged = subst (λ (log : List Committed). AreCommitsBelow log s.journal.number) (sym log_here) (below_all s.journal.number l.now.log has.numbered);
      }

-- ---- behind the closing

pub closes_from : (s t : StoreState) (start : PosixTree) (history : List Entry) (after before : Parts) → IsOnDisk s start history before → geometry_of_store t ≡ geometry_of_store s
    → ((tree : PosixTree) → ArePartsOf before tree → HasRaised (most_committed (geometry_of_store s)) (most_committed (geometry_of_store s)) s t) → HasAll t start history after
    → (image behind : Image) → image ≡ reads t.moments → ((superblock_of image).clean ≡ false → IsRecovered image behind) → ClosesFrom s behind
closes_from s t start history after before on_disk geometry raised all image behind same recovered =
    let l = all.going.ledger in
    let has = all.going.has in
    let is : IsRecovered (reads t.moments) behind = subst (λ (d : Image). (superblock_of d).clean ≡ false → IsRecovered d behind) same recovered (is_used t l has) in
    let r = raised (tree_after start history) (parts_on_disk s start history before on_disk) in
    let low = r.epoch in
    let high = r.epoch_most in
    let most = r.number_most in
    let up : (superblock_of behind).epoch ≡ (superblock_of (reads t.moments)).epoch + 1 = ap (λ (h : Super). h.epoch) is.superblock in
    let at : (superblock_of (reads t.moments)).epoch ≡ t.superblock.epoch = ap (λ (h : Super). h.epoch) (has_superblock t l has) in
    let next = next_here t l has in
    let number : (superblock_of behind).next ≤ t.journal.number = is.least t.journal.number next.some next.known (λ k ranged. let kept = is.numbers k ranged in let less = next.inodes k ranged in omega (arith, kept, less)) next.logged in
    record { epoch = omega (arith, low, up, at); epoch_most = omega (arith, high, up, at); number_most = omega (arith, most, number) }
