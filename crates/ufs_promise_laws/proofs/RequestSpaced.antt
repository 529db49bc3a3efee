-- Blocks are spaced behind a request of the names.
use Rattle.std.proofs.Common.{◌≡◌, ◌≢◌, ℕ, ◌⊎◌, inl, inr, List, ◌++◌, true, Some, ap, sym, refl, ◌∙◌}
use Rattle.std.specs.Prelude.{nat_eq}
use Rattle.std.specs.List.{IsDistinct}
use Rattle.std.specs.FinMap as map
use Rattle.std.specs.FinSet as set
use Rattle.ufs_bitmap.specs.Blocks.{BlockSet}
use Rattle.ufs_bitmap.specs.Taking.{has}
use Rattle.ufs_bitmap.proofs.TakingLemmas.{has-append}
use Rattle.ufs_file_commits.specs.Standing.{IsFileBlock}
use Rattle.ufs_file_commits.specs.State.{blocks_held}
use Rattle.ufs_file.specs.Hand.{FileState}
use Rattle.ufs_image.specs.Catalog.{HasBlock}
use Rattle.ufs_layout.specs.Superblock.{geometry_of}
use Rattle.ufs_ledger.specs.Kept.{Numbers}
use Rattle.ufs_ledger.specs.Ledger.{Ledger}
use Rattle.ufs_model.specs.PosixTree.{PosixTree}
use Rattle.ufs_promise_laws.specs.Parts.{FileOwns, NamesOwn, OneFile, Owner, Owns, Parts, TheNames, ThePool, durable_in}
use Rattle.ufs_promise_laws.specs.Stored.{AreSpaced, FileHasIt, IsSpelled}
use Rattle.ufs_promise_laws.specs.Requests.{IsNamesRequest}
use Rattle.ufs_promise_laws.proofs.ListedBlocks.{or_case}
use Rattle.ufs_promise_laws.proofs.Owners.{apart_now, file_kept, names_kept, same_before}

module _ (t u : PosixTree) (p next : Parts) (lent left unassigned : BlockSet) (r : IsNamesRequest t u p next lent left) (l : Ledger) (numbers : Numbers) (spaced : AreSpaced l unassigned numbers p)
    (once : (f : ℕ) (s : FileState) → map.get p.files f ≡ Some s → IsDistinct nat_eq (blocks_held (durable_in p.commits s))) where
  -- a fresh block was one, or was lent
  fresh_case : (b : ℕ) → has next.fresh b ≡ true → (has p.fresh b ≡ true) ⊎ (set.contains lent b ≡ true)
  fresh_case b is = by (or_case (has p.fresh b) (has r.taken b) (sym (has-append p.fresh r.taken b) ∙ ap (λ (blocks : List ℕ). has blocks b) (sym r.fresh) ∙ is))
    where
      by : (has p.fresh b ≡ true) ⊎ (has r.taken b ≡ true) → (has p.fresh b ≡ true) ⊎ (set.contains lent b ≡ true)
      by (inl was) = inl was
      by (inr took) = inr (sym (r.is_taken b) ∙ took)

  fresh_now : (b : ℕ) → has next.fresh b ≡ true → IsFileBlock l b ⊎ IsSpelled l b
  fresh_now b is = by (fresh_case b is)
    where
      by : (has p.fresh b ≡ true) ⊎ (set.contains lent b ≡ true) → IsFileBlock l b ⊎ IsSpelled l b
      by (inl was) = spaced.fresh b was
      by (inr is_lent) = inl (spaced.usable ThePool b (λ e. cc) (r.pooled b is_lent))

  off_disk : (inode place b : ℕ) → has next.fresh b ≡ true → HasBlock (geometry_of l.superblock) l.now.catalog inode place b → ⊥
  off_disk inode place b is at = by (fresh_case b is)
    where
      off_pool : set.contains lent b ≡ true → NamesOwn p b ⊎ FileHasIt p numbers inode b → ⊥
      off_pool is_lent (inl names) = let no = spaced.apart ThePool TheNames b (r.pooled b is_lent) names in cc
      off_pool is_lent (inr file) = let no = spaced.apart ThePool (OneFile file.0) b (r.pooled b is_lent) file.1 in cc

      by : (has p.fresh b ≡ true) ⊎ (set.contains lent b ≡ true) → ⊥
      by (inl was) = spaced.unheld inode place b was at
      by (inr is_lent) = off_pool is_lent (spaced.held inode place b at)

  held_now : (inode place b : ℕ) → HasBlock (geometry_of l.superblock) l.now.catalog inode place b → NamesOwn next b ⊎ FileHasIt next numbers inode b
  held_now inode place b at = by (spaced.held inode place b at)
    where
      of_file : (f : ℕ) → numbers.inode f ≡ Some inode → NamesOwn next b ⊎ FileOwns next f b → NamesOwn next b ⊎ FileHasIt next numbers inode b
      of_file f number (inl names) = inl names
      of_file f number (inr owns) = inr (f, owns, number)

      by : NamesOwn p b ⊎ FileHasIt p numbers inode b → NamesOwn next b ⊎ FileHasIt next numbers inode b
      by (inl names) = inl (names_kept t u p next lent left unassigned r spaced.apart once b names)
      by (inr file) = of_file file.0 file.2 (file_kept t u p next lent left unassigned r spaced.apart once file.0 b file.1)

  pub spaced_now : AreSpaced l unassigned numbers next
  spaced_now = record {
    apart = apart_now t u p next lent left unassigned r spaced.apart once;
    usable = λ o b not owns. spaced.usable o b not (same_before t u p next lent left unassigned r spaced.apart once o b not owns);
    fresh = fresh_now;
    unheld = off_disk;
    held = held_now;
  }
