-- What is known of a server once a file has all its changes on the disk, however they came there.
use Rattle.std.proofs.Common.{◌≡◌, ◌≢◌, ℕ, ◌≤◌, ◌⊎◌, inl, inr, Bool, true, false, ◌||◌, List, Some, length, ap, sym, refl, ◌∙◌, subst, arith}
use Rattle.std.specs.Prelude.{◌==◌, if◌then◌else◌}
use Rattle.std.specs.List.{slice_get}
use Rattle.std.specs.FinMap as map
use Rattle.std.specs.FinSet as set
use Rattle.std.proofs.lemmas.Bool.Decides.{nat_tests}
use Rattle.std.proofs.lemmas.List.{append-nil}
use Rattle.ufs_bitmap.specs.Blocks.{BlockSet}
use Rattle.ufs_bitmap.specs.Taking.{has, set_of}
use Rattle.ufs_bitmap.proofs.SetLemmas.{has-union}
use Rattle.ufs_bitmap.proofs.TakingLemmas.{has-append}
use Rattle.ufs_extent.specs.Runs.{blocks_of}
use Rattle.ufs_file.specs.Hand.{FileState}
use Rattle.ufs_files.specs.Files.{AreNumbered}
use Rattle.ufs_files.proofs.MapLemmas.{one_or_apart}
use Rattle.ufs_image.specs.Catalog.{HasBlock}
use Rattle.ufs_layout.specs.Superblock.{geometry_of}
use Rattle.ufs_layout.specs.declared.geometry.Geometry.{Geometry}
use Rattle.ufs_ledger.specs.Kept.{Counts, IsLedgerKept}
use Rattle.ufs_ledger.specs.Laws.{raised}
use Rattle.ufs_ledger.specs.Ledger.{Ledger}
use Rattle.ufs_model.specs.FileBytes.{bytes_of}
use Rattle.ufs_model.specs.History.{tree_after}
use Rattle.ufs_model.specs.PosixTree.{PosixTree}
use Rattle.ufs_model.specs.declared.data.Entry.{Entry}
use Rattle.ufs_model.proofs.Facts.Lookups.{same_some}
use Rattle.ufs_crash_laws.specs.Changes.{changes_of}
use Rattle.ufs_file_commits.specs.Committing.{all_shown}
use Rattle.ufs_file_commits.specs.Standing.{IsFileBlock}
use Rattle.ufs_file_commits.specs.State.{DurableState, IsNoted, blocks_held, file_committed, whole_of}
use Rattle.ufs_file_commits.proofs.Served.{has_at}
use Rattle.ufs_file_commits.proofs.Standing.{noted_committed}
use Rattle.ufs_promise_laws.specs.Parts.{FileOwns, NamesOwn, OneFile, Owner, Owns, Parts, TheNames, ThePool, Unassigned, durable_in, with_file}
use Rattle.ufs_promise_laws.specs.Stored.{AreCounted, AreNamesStored, FileHasIt, IsFileWhole, IsSpelled, IsStored}
use Rattle.ufs_promise_laws.proofs.FileEntries.{parts_now}
use Rattle.ufs_promise_laws.proofs.Places.{held_at}
use Rattle.ufs_promise_laws.proofs.Puts.{durable_else, durable_here, either, other_file, here}
use Rattle.ufs_promise_laws.proofs.Whole.{cleaned_stays, whole_committed}

pub clash : (b : Bool) → b ≡ true → b ≡ false → ⊥
clash b is off = let no = sym is ∙ off in cc

or_case : (a b : Bool) → (a || b) ≡ true → (a ≡ true) ⊎ (b ≡ true)
or_case true b e = inl refl
or_case false b e = inr e

-- A ledger on which the file stands as it is, with the others as before.
pub record IsDone (l m : Ledger) (start : PosixTree) (history : List Entry) (k : Counts) (p : Parts) (f : FileState) : Type 0 where
  pub number : k.numbers.inode f.file ≡ Some f.inode
  pub kept : IsLedgerKept m start history (all_shown f start history k) (all_shown f start history k)
  pub names : AreNamesStored m k.numbers p.fresh p.names
  pub itself : IsFileWhole m k.numbers (file_committed (whole_of (bytes_of (tree_after start history).bytes f.file) (durable_in p.commits f)))
  pub others : (file : ℕ) (h : FileState) → map.get p.files file ≡ Some h → file ≢ f.file → IsFileWhole m k.numbers (whole_of (bytes_of (tree_after start history).bytes file) (durable_in p.commits h))
  pub file_block : (b : ℕ) → IsFileBlock l b → IsFileBlock m b
  pub spelled : (b : ℕ) → IsSpelled l b → IsSpelled m b
  pub block_before : (inode place b : ℕ) → HasBlock (geometry_of m.superblock) m.now.catalog inode place b
      → ((inode ≡ f.inode) × (slice_get (blocks_of f.extents) place ≡ Some b)) ⊎ ((inode ≢ f.inode) × HasBlock (geometry_of l.superblock) l.now.catalog inode place b)

-- ---- blocks

-- what the file dropped is unassigned now
module _ (u : BlockSet) (p : Parts) (f : FileState) (at : map.get p.files f.file ≡ Some f) (noted : IsNoted (durable_in p.commits f)) (numbered : AreNumbered p.files)
    (apart_then : (one other : Owner) (b : ℕ) → Owns p u one b → Owns p u other b → one ≡ other) where
  abbrev it : DurableState
  it = durable_in p.commits f

  abbrev put : DurableState
  put = file_committed (durable_in p.commits f)

  abbrev next : Parts
  next = with_file (file_committed (durable_in p.commits f)) p.pool p

  abbrev more : BlockSet
  more = set.union u (set_of (durable_in p.commits f).dropped)

  union_is : (b : ℕ) → set.contains more b ≡ (set.contains u b || has (blocks_of it.dropped) b)
  union_is b = has-union u (set_of it.dropped) b

  own_or_dropped : (b : ℕ) → has (blocks_held it) b ≡ (has (blocks_of f.extents) b || has (blocks_of it.dropped) b)
  own_or_dropped b = has-append (blocks_of f.extents) (blocks_of it.dropped) b

  pub held_own : (b : ℕ) → has (blocks_held put) b ≡ has (blocks_of f.extents) b
  held_own b = ap (λ (bs : List ℕ). has bs b) (append-nil (blocks_of f.extents))

  pub mine : (b : ℕ) → has (blocks_held it) b ≡ true → FileOwns p f.file b
  mine b is = record { hand = f; here = at; held = is }

  pub dropped_mine : (b : ℕ) → has (blocks_of it.dropped) b ≡ true → FileOwns p f.file b
  dropped_mine b is = mine b (own_or_dropped b ∙ by (has (blocks_of f.extents) b))
    where
      by : (v : Bool) → (v || has (blocks_of it.dropped) b) ≡ true
      by true = refl
      by false = is

  own_now : (file b : ℕ) → file ≡ f.file → FileOwns next file b → has (blocks_of f.extents) b ≡ true
  own_now file b is owns = by (either put p.pool p file owns.hand owns.here)
    where
      by : ((file ≡ f.file) × (owns.hand ≡ put.file)) ⊎ ((file ≢ f.file) × (map.get p.files file ≡ Some owns.hand)) → has (blocks_of f.extents) b ≡ true
      by (inl both) = sym (held_own b) ∙ sym (ap (λ (d : DurableState). has (blocks_held d) b) (ap (durable_in next.commits) both.1 ∙ durable_here put p.pool p)) ∙ owns.held
      by (inr both) = absurd (both.0 is)

  abbrev pub Before : Owner → ℕ → Type 0
  Before o b = Owns p u o b ⊎ ((o ≡ Unassigned) × (has (blocks_of it.dropped) b ≡ true))

  before_file : (file b : ℕ) → FileOwns next file b → (file ≡ f.file) ⊎ (file ≢ f.file) → FileOwns p file b
  before_file file b owns (inl is) =
      let own = own_now file b is owns in
      subst (λ n. FileOwns p n b) (sym is) (mine b (own_or_dropped b ∙ ap (λ (v : Bool). v || has (blocks_of it.dropped) b) own))
  before_file file b owns (inr not) = by (either put p.pool p file owns.hand owns.here)
    where
      by : ((file ≡ f.file) × (owns.hand ≡ put.file)) ⊎ ((file ≢ f.file) × (map.get p.files file ≡ Some owns.hand)) → FileOwns p file b
      by (inl both) = absurd (not both.0)
      by (inr both) = record {
        hand = owns.hand;
        here = both.1;
        held = sym (ap (λ (d : DurableState). has (blocks_held d) b) (durable_else put p.pool p owns.hand (λ e. not (sym (numbered file owns.hand both.1) ∙ e)))) ∙ owns.held;
      }

  pub before : (o : Owner) (b : ℕ) → Owns next more o b → Before o b
  before (OneFile file) b owns = inl (before_file file b owns (one_or_apart file f.file))
  before ThePool b owns = inl owns
  before TheNames b owns = inl owns
  before Unassigned b owns = by (or_case (set.contains u b) (has (blocks_of it.dropped) b) (sym (union_is b) ∙ owns))
    where
      by : (set.contains u b ≡ true) ⊎ (has (blocks_of it.dropped) b ≡ true) → Before Unassigned b
      by (inl was) = inl was
      by (inr new) = inr (refl, new)

  -- what the file dropped is nobody else's
  no_other : (o : Owner) (b : ℕ) → has (blocks_of it.dropped) b ≡ true → Owns p u o b → Owns next more o b → ⊥
  no_other o b gone had now =
      let is : OneFile f.file ≡ o = apart_then (OneFile f.file) o b (dropped_mine b gone) had in
      let own = own_now f.file b refl (subst (λ (a : Owner). Owns next more a b) (sym is) now) in
      clash (has (blocks_of it.dropped) b) gone (noted.apart.absent b own)

  pub apart_now : (one two : Owner) (b : ℕ) → Owns next more one b → Owns next more two b → one ≡ two
  apart_now one two b a c = by (before one b a) (before two b c)
    where
      by : Before one b → Before two b → one ≡ two
      by (inl had) (inl too) = apart_then one two b had too
      by (inr new) (inr too) = new.0 ∙ sym too.0
      by (inr new) (inl too) = absurd (no_other two b new.1 too c)
      by (inl had) (inr new) = absurd (no_other one b new.1 had a)

module _ (l m : Ledger) (u : BlockSet) (start : PosixTree) (history : List Entry) (k : Counts) (p : Parts) (f : FileState) (at : map.get p.files f.file ≡ Some f) (st : IsStored l u start history k p) (done : IsDone l m start history k p f) where
  abbrev x : DurableState
  x = durable_in p.commits f

  abbrev y : DurableState
  y = file_committed (durable_in p.commits f)

  abbrev q : Parts
  q = with_file (file_committed (durable_in p.commits f)) p.pool p

  abbrev u2 : BlockSet
  u2 = set.union u (set_of (durable_in p.commits f).dropped)

  abbrev k2 : Counts
  k2 = all_shown f start history k

  abbrev g : Geometry
  g = geometry_of l.superblock

  noted : IsNoted x
  noted = st.noted f.file f at

  abbrev bytes : ℕ → List ℕ
  bytes file = bytes_of (tree_after start history).bytes file

  this : (h : FileState) → h ≡ y.file → durable_in q.commits h ≡ y
  this h is = ap (durable_in q.commits) is ∙ durable_here y p.pool p

  another : (file : ℕ) (h : FileState) → file ≢ f.file → map.get p.files file ≡ Some h → durable_in q.commits h ≡ durable_in p.commits h
  another file h not there = durable_else y p.pool p h (λ e. not (sym (st.parts.files file h there).0 ∙ e))

  all_noted : (file : ℕ) (h : FileState) → map.get q.files file ≡ Some h → IsNoted (durable_in q.commits h)
  all_noted file h there = by (either y p.pool p file h there)
    where
      by : ((file ≡ f.file) × (h ≡ y.file)) ⊎ ((file ≢ f.file) × (map.get p.files file ≡ Some h)) → IsNoted (durable_in q.commits h)
      by (inl both) = subst IsNoted (sym (this h both.1)) (noted_committed x noted)
      by (inr both) = subst IsNoted (sym (another file h both.0 both.1)) (st.noted file h both.1)

  each_now : (file : ℕ) (h : FileState) → map.get q.files file ≡ Some h → IsFileWhole m k.numbers (whole_of (bytes file) (durable_in q.commits h))
  each_now file h there = by (either y p.pool p file h there)
    where
      by : ((file ≡ f.file) × (h ≡ y.file)) ⊎ ((file ≢ f.file) × (map.get p.files file ≡ Some h)) → IsFileWhole m k.numbers (whole_of (bytes file) (durable_in q.commits h))
      by (inl both) = subst (IsFileWhole m k.numbers) (sym ((λ i. whole_of (bytes (both.0 i)) (this h both.1 i)) ∙ whole_committed (bytes f.file) x)) done.itself
      by (inr both) = subst (IsFileWhole m k.numbers) (sym (ap (whole_of (bytes file)) (another file h both.0 both.1))) (done.others file h both.1 both.0)

  numbered : AreNumbered p.files
  numbered file h here = (st.parts.files file h here).0

  usable_now : (o : Owner) (b : ℕ) → o ≢ TheNames → Owns q u2 o b → IsFileBlock m b
  usable_now o b not owns = by (before u p f at noted numbered st.spaced.apart o b owns)
    where
      by : Before u p f at noted numbered st.spaced.apart o b → IsFileBlock m b
      by (inl had) = done.file_block b (st.spaced.usable o b not had)
      by (inr new) = done.file_block b (st.spaced.usable (OneFile f.file) b (λ e. cc) (dropped_mine u p f at noted numbered st.spaced.apart b new.1))

  spelled : (b : ℕ) → IsFileBlock l b ⊎ IsSpelled l b → IsFileBlock m b ⊎ IsSpelled m b
  spelled b (inl free) = inl (done.file_block b free)
  spelled b (inr is) = inr (done.spelled b is)

  unheld_now : (inode place b : ℕ) → has p.fresh b ≡ true → HasBlock (geometry_of m.superblock) m.now.catalog inode place b → ⊥
  unheld_now inode place b fresh had = by (done.block_before inode place b had)
    where
      by : ((inode ≡ f.inode) × (slice_get (blocks_of f.extents) place ≡ Some b)) ⊎ ((inode ≢ f.inode) × HasBlock g l.now.catalog inode place b) → ⊥
      by (inl own) = (let no = st.spaced.apart (OneFile f.file) TheNames b (mine u p f at noted numbered st.spaced.apart b (held_at x place b own.1)) (inl fresh) in cc)
      by (inr was) = st.spaced.unheld inode place b fresh was.1

  held_now : (inode place b : ℕ) → HasBlock (geometry_of m.superblock) m.now.catalog inode place b → NamesOwn q b ⊎ FileHasIt q k.numbers inode b
  held_now inode place b had = by (done.block_before inode place b had)
    where
      stays : FileHasIt p k.numbers inode b → inode ≢ f.inode → FileHasIt q k.numbers inode b
      stays file apart =
          let not : file.0 ≢ f.file = (λ is. apart (same_some inode f.inode (sym file.2 ∙ ap k.numbers.inode is ∙ done.number))) in (
            file.0,
            record {
              hand = file.1.hand;
              here = other_file y p.pool p file.0 not ∙ file.1.here;
              held = ap (λ (d : DurableState). has (blocks_held d) b) (durable_else y p.pool p file.1.hand (λ e. not (sym (st.parts.files file.0 file.1.hand file.1.here).0 ∙ e))) ∙ file.1.held;
            },
            file.2,
          )

      old : NamesOwn p b ⊎ FileHasIt p k.numbers inode b → inode ≢ f.inode → NamesOwn q b ⊎ FileHasIt q k.numbers inode b
      old (inl names) apart = inl names
      old (inr file) apart = inr (stays file apart)

      by : ((inode ≡ f.inode) × (slice_get (blocks_of f.extents) place ≡ Some b)) ⊎ ((inode ≢ f.inode) × HasBlock g l.now.catalog inode place b) → NamesOwn q b ⊎ FileHasIt q k.numbers inode b
      by (inl own) = inr (
        f.file,
        record {
          hand = y.file;
          here = here y p.pool p;
          held = ap (λ (d : DurableState). has (blocks_held d) b) (durable_here y p.pool p) ∙ held_own u p f at noted numbered st.spaced.apart b ∙ has_at (blocks_of f.extents) place b own.1;
        },
        done.number ∙ ap Some (sym own.0),
      )
      by (inr was) = old (st.spaced.held inode place b was.1) was.0

  -- ---- the whole

  counted_now : AreCounted start history k2
  counted_now = record { born = st.counted.born; alone = st.counted.alone; made = λ file. by file (file == f.file) refl }
    where
      by : (file : ℕ) (b : Bool) → (file == f.file) ≡ b → raised k.files f.file (length (changes_of f.file start history)) file ≤ length (changes_of file start history)
      by file true e =
          let is : file ≡ f.file = grind (arith, nat_tests, e) in
          let more : raised k.files f.file (length (changes_of f.file start history)) file ≡ length (changes_of f.file start history) = ap (λ (b : Bool). if b then length (changes_of f.file start history) else k.files file) e in
          let same : length (changes_of f.file start history) ≡ length (changes_of file start history) = ap (λ n. length (changes_of n start history)) (sym is) in
          omega (arith, more, same)
      by file false e =
          let more : raised k.files f.file (length (changes_of f.file start history)) file ≡ k.files file = ap (λ (b : Bool). if b then length (changes_of f.file start history) else k.files file) e in
          let was = st.counted.made file in
          omega (arith, more, was)

  pub done_stored : IsStored m u2 start history k2 q
  done_stored = record {
    tree = st.tree;
    legal = st.legal;
    kept = done.kept;
    parts = parts_now p f y p.pool at refl refl (tree_after start history) (tree_after start history) st.parts st.parts.names (cleaned_stays f (tree_after start history) (st.parts.files f.file f at).1) (λ n not. refl);
    names = done.names;
    counted = counted_now;
    noted = all_noted;
    each = each_now;
    spaced = record { apart = apart_now u p f at noted numbered st.spaced.apart; usable = usable_now; fresh = λ b is. spelled b (st.spaced.fresh b is); unheld = unheld_now; held = held_now };
  }
