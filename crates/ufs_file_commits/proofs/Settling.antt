-- How a ledger is kept where nothing but a file's bytes changed.
use Rattle.std.proofs.Common.{◌≡◌, ℕ, ◌≤◌, ◌⊎◌, inl, inr, List, [], Bool, true, false, Some, None, length, replicate, ap, sym, refl, ◌∙◌, subst, arith}
use Rattle.std.specs.Prelude.{◌==◌, if◌then◌else◌}
use Rattle.std.proofs.lemmas.Bool.Decides.{nat_tests}
use Rattle.std.proofs.lemmas.List.{append-nil, length-replicate}
use Rattle.ufs_layout.specs.Superblock.{geometry_of}
use Rattle.ufs_ledger.specs.Changes.{settled}
use Rattle.ufs_ledger.specs.Kept.{AlwaysShows, Counts, IsLedgerKept, shape_of}
use Rattle.ufs_ledger.specs.Laws.{StandsOn, raised}
use Rattle.ufs_ledger.specs.Ledger.{Ledger}
use Rattle.ufs_ledger.proofs.Promise.{commit_kept, shows_now}
use Rattle.ufs_ledger.proofs.Whole.{ledger_kept}
use Rattle.ufs_model.specs.FileBytes.{bytes_of}
use Rattle.ufs_model.specs.History.{IsLegal, tree_after}
use Rattle.ufs_model.specs.Laws.{KeepsTrees}
use Rattle.ufs_model.specs.PosixTree.{IsTree, PosixTree}
use Rattle.ufs_model.specs.declared.data.Entry.{Entry}
use Rattle.ufs_crash_laws.specs.Changes.{changes_of, name_changes, names_after}
use Rattle.ufs_crash_laws.specs.FileChanges.{byte_at}
use Rattle.ufs_crash_laws.specs.Stored.{IsNamed}
use Rattle.ufs_store.specs.Ledgers.{HasLedger}
use Rattle.ufs_store.specs.State.{StoreState}
use Rattle.ufs_file_commits.specs.Committing.{BarriersShowAll, CountsGoOn, HasOwnBlocks, IsFileBy, all_shown}
use Rattle.ufs_file_commits.specs.Standing.{StandsFor}
use Rattle.ufs_file_commits.specs.State.{DurableState, IsNoted, file_committed}
use Rattle.ufs_file_commits.specs.Writes.{with_writes, writes_of}
use Rattle.ufs_file_commits.proofs.Behind.{same_maybe}
use Rattle.ufs_file_commits.proofs.Committing.{kept_behind}
use Rattle.ufs_file_commits.proofs.Standing.{noted_committed, shows_the_file, stands_settled}

module _ (keeps : KeepsTrees) (s : StoreState) (l : Ledger) (f : DurableState) (start : PosixTree) (history : List Entry) (now : Counts) (has : HasLedger s l) (noted : IsNoted f) (stands : StandsFor l f) (own : HasOwnBlocks l f)
    (by_history : IsFileBy f.file start history now) (same : f.log.noted ≡ f.log.committed) (is : IsTree start) (legal : IsLegal start history) (kept : IsLedgerKept l start history now now) where
  abbrev r : Ledger
  r = with_writes (writes_of f.file) l

  abbrev q : Ledger
  q = settled (with_writes (writes_of f.file) l)

  abbrev count : ℕ
  count = length (changes_of f.file.file start history)

  r_none : r.maybe ≡ None
  r_none = same_maybe (writes_of f.file) l ∙ has.by.none

  settled_kept : IsLedgerKept q start history now now
  settled_kept = (ledger_kept r start history now now r_none (kept_behind s l f has noted stands own start history now now by_history kept (writes_of f.file) [] (sym (append-nil (writes_of f.file))))).1

  there : StandsFor q (file_committed f)
  there = stands_settled l f noted stands same

  sized : (q.now.catalog.forms f.file.inode).size ≡ length f.file.content.bytes
  sized = there.size ∙ noted.size

  all_clean : (file_committed f).file.content.dirty ≡ replicate (length (file_committed f).file.content.dirty) false
  all_clean = ap (λ n. replicate {A = Bool} n false) (sym (length-replicate (length f.file.content.dirty) false))

  shown : AlwaysShows q.blocks (shape_of q.now.catalog (Some f.file.inode)) (bytes_of start.bytes f.file.file) (changes_of f.file.file start history) count
  shown = shows_now q.blocks (shape_of q.now.catalog (Some f.file.inode)) (bytes_of start.bytes f.file.file) (changes_of f.file.file start history) (sized ∙ ap length by_history.bytes)
      (λ place byte under may.
      shows_the_file q (file_committed f) (noted_committed f noted) there refl all_clean place byte (let size = sized in omega (arith, under, size)) may ∙ ap (λ bs. byte_at bs place) by_history.bytes)

  rises : (file : ℕ) → now.files file ≤ raised now.files f.file.file count file
  rises file = by (file == f.file.file) refl
    where
      by : (b : Bool) → (file == f.file.file) ≡ b → now.files file ≤ (if b then count else now.files file)
      by true e = let here : file ≡ f.file.file = grind (arith, nat_tests, e) in subst (λ k. now.files k ≤ count) (sym here) by_history.counted
      by false e = omega arith

  fresh : (file : ℕ) → (tree_after start history).next ≤ file → (raised now.files f.file.file count file ≡ 0) × (now.numbers.inode file ≡ None)
  fresh file above = (by (file == f.file.file) refl, was.1)
    where
      was : (now.files file ≡ 0) × (now.numbers.inode file ≡ None)
      was = settled_kept.here.stored.fresh file above

      by : (b : Bool) → (file == f.file.file) ≡ b → (if b then count else now.files file) ≡ 0
      by true e =
          let here : file ≡ f.file.file = grind (arith, nat_tests, e) in
          let off : Some f.file.inode ≡ None = sym by_history.there ∙ ap now.numbers.inode (sym here) ∙ was.1 in absurd cc
      by false e = was.0

  each : (names file : ℕ) → now.names ≤ names → names ≤ length (name_changes start history) → IsNamed (names_after start history names).paths file
      → ((raised now.files f.file.file count file ≡ now.files file) × (shape_of q.now.catalog (now.numbers.inode file) ≡ shape_of q.now.catalog (now.numbers.inode file)))
      ⊎ AlwaysShows q.blocks (shape_of q.now.catalog (now.numbers.inode file)) (bytes_of start.bytes file) (changes_of file start history) (raised now.files f.file.file count file)
  each names file from to named = by (file == f.file.file) refl
    where
      by : (b : Bool) → (file == f.file.file) ≡ b
          → (((if b then count else now.files file) ≡ now.files file) × (shape_of q.now.catalog (now.numbers.inode file) ≡ shape_of q.now.catalog (now.numbers.inode file)))
          ⊎ AlwaysShows q.blocks (shape_of q.now.catalog (now.numbers.inode file)) (bytes_of start.bytes file) (changes_of file start history) (if b then count else now.files file)
      by false e = inl (refl, refl)
      by true e =
          let here : f.file.file ≡ file = grind (arith, nat_tests, e) in
          let at : AlwaysShows q.blocks (shape_of q.now.catalog (now.numbers.inode f.file.file)) (bytes_of start.bytes f.file.file) (changes_of f.file.file start history) count =
          subst (λ o. AlwaysShows q.blocks (shape_of q.now.catalog o) (bytes_of start.bytes f.file.file) (changes_of f.file.file start history) count) (sym by_history.there) shown in
          inr (subst (λ k. AlwaysShows q.blocks (shape_of q.now.catalog (now.numbers.inode k)) (bytes_of start.bytes k) (changes_of k start history) count) here at)

  on : StandsOn (geometry_of q.superblock) q.blocks q.now q.now start history now.names now.names now.files (raised now.files f.file.file count) now.numbers now.numbers
  on =
      let was = settled_kept.here.stored in
      record { later = omega arith; made = was.made; paths = was.paths; inodes = was.inodes; unheld = was.unheld; rises = rises; each = each; fresh = fresh }

  pub all_shown_there : IsLedgerKept q start history (all_shown f.file start history now) (all_shown f.file start history now)
  all_shown_there = record {
    here = commit_kept (geometry_of q.superblock) q.blocks q.now start history now.names now.files now.numbers settled_kept.here keeps is legal.entries q.now now.names (raised now.files f.file.file count) now.numbers on;
    there = λ other some. let off = sym r_none ∙ some in absurd cc;
  }

pub barriers_show_all : KeepsTrees → BarriersShowAll
barriers_show_all keeps s l f start history now has noted stands own by_history same is legal kept = all_shown_there keeps s l f start history now has noted stands own by_history same is legal kept

-- ---- the counts afterwards

pub counts_go_on : CountsGoOn
counts_go_on f h start history now by_history = record {
  there = by_history.there;
  alone = by_history.alone;
  counted = by (h.file == f.file) refl;
  bytes = by_history.bytes;
}
  where
    by : (b : Bool) → (h.file == f.file) ≡ b → (if b then length (changes_of f.file start history) else now.files h.file) ≤ length (changes_of h.file start history)
    by true e = let same : h.file ≡ f.file = grind (arith, nat_tests, e) in subst (λ k. length (changes_of f.file start history) ≤ length (changes_of k start history)) (sym same) (omega arith)
    by false e = by_history.counted
