-- Free blocks go between the server's pool and the store.
use Rattle.std.proofs.Common.{◌≡◌, ◌≢◌, ℕ, ◌⊎◌, inl, inr, true, sym, refl, ◌∙◌}
use Rattle.std.specs.FinSet as set
use Rattle.ufs_bitmap.specs.Blocks.{BlockSet}
use Rattle.ufs_ledger.specs.Kept.{Numbers}
use Rattle.ufs_ledger.specs.Ledger.{Ledger}
use Rattle.ufs_file_commits.specs.Standing.{IsFileBlock}
use Rattle.ufs_promise_laws.specs.Laws.{BlocksMove, MovesBlocks}
use Rattle.ufs_promise_laws.specs.Parts.{FileOwns, NamesOwn, OneFile, Owner, Owns, Parts, TheNames, ThePool, Unassigned}
use Rattle.ufs_promise_laws.specs.Stored.{AreSpaced, FileHasIt}

module _ (u v pool : BlockSet) (p : Parts) (moves : MovesBlocks p.pool u pool v) (apart : (one other : Owner) (b : ℕ) → Owns p u one b → Owns p u other b → one ≡ other) where
  abbrev q : Parts
  q = record p { pool = pool }

  -- whose it was, where the pool or the store had it
  pub free_before : (b : ℕ) → (set.contains p.pool b ≡ true) ⊎ (set.contains u b ≡ true) → (o : Owner) × Owns p u o b × (o ≢ TheNames) × ((f : ℕ) → o ≢ OneFile f)
  free_before b (inl pooled) = (ThePool, pooled, (λ e. cc), (λ f e. cc))
  free_before b (inr free) = (Unassigned, free, (λ e. cc), (λ f e. cc))

  no_file : (f b : ℕ) → FileOwns p f b → (set.contains p.pool b ≡ true) ⊎ (set.contains u b ≡ true) → ⊥
  no_file f b owns free = let o = free_before b free in o.3 f (apart o.0 (OneFile f) b o.1 owns)

  no_names : (b : ℕ) → NamesOwn p b → (set.contains p.pool b ≡ true) ⊎ (set.contains u b ≡ true) → ⊥
  no_names b owns free = let o = free_before b free in o.2 (apart o.0 TheNames b o.1 owns)

  pub file_before : (f b : ℕ) → FileOwns q f b → FileOwns p f b
  file_before f b owns = record { hand = owns.hand; here = owns.here; held = owns.held }

  off_store : (b : ℕ) → set.contains pool b ≡ true → set.contains v b ≡ true → ⊥
  off_store b one other = let clash = sym other ∙ moves.apart b one in cc

  pub apart_now : (one other : Owner) (b : ℕ) → Owns q v one b → Owns q v other b → one ≡ other
  apart_now ThePool ThePool b a c = refl
  apart_now Unassigned Unassigned b a c = refl
  apart_now TheNames TheNames b a c = refl
  apart_now (OneFile f) (OneFile g) b a c = apart (OneFile f) (OneFile g) b (file_before f b a) (file_before g b c)
  apart_now ThePool Unassigned b a c = absurd (off_store b a c)
  apart_now Unassigned ThePool b a c = absurd (off_store b c a)
  apart_now ThePool (OneFile f) b a c = absurd (no_file f b (file_before f b c) (moves.pool b a))
  apart_now (OneFile f) ThePool b a c = absurd (no_file f b (file_before f b a) (moves.pool b c))
  apart_now Unassigned (OneFile f) b a c = absurd (no_file f b (file_before f b c) (moves.store b a))
  apart_now (OneFile f) Unassigned b a c = absurd (no_file f b (file_before f b a) (moves.store b c))
  apart_now ThePool TheNames b a c = absurd (no_names b c (moves.pool b a))
  apart_now TheNames ThePool b a c = absurd (no_names b a (moves.pool b c))
  apart_now Unassigned TheNames b a c = absurd (no_names b c (moves.store b a))
  apart_now TheNames Unassigned b a c = absurd (no_names b a (moves.store b c))
  apart_now (OneFile f) TheNames b a c = apart (OneFile f) TheNames b (file_before f b a) c
  apart_now TheNames (OneFile f) b a c = apart TheNames (OneFile f) b a (file_before f b c)

module _ (l : Ledger) (u v pool : BlockSet) (n : Numbers) (p : Parts) (moves : MovesBlocks p.pool u pool v) (spaced : AreSpaced l u n p) where
  abbrev next : Parts
  next = record p { pool = pool }

  free_usable : (b : ℕ) → (set.contains p.pool b ≡ true) ⊎ (set.contains u b ≡ true) → IsFileBlock l b
  free_usable b free = let o = free_before u v pool p moves spaced.apart b free in spaced.usable o.0 b o.2 o.1

  usable_now : (o : Owner) (b : ℕ) → o ≢ TheNames → Owns next v o b → IsFileBlock l b
  usable_now (OneFile f) b not owns = spaced.usable (OneFile f) b not (file_before u v pool p moves spaced.apart f b owns)
  usable_now ThePool b not owns = free_usable b (moves.pool b owns)
  usable_now Unassigned b not owns = free_usable b (moves.store b owns)
  usable_now TheNames b not owns = absurd (not refl)

  held_now : (inode b : ℕ) → NamesOwn p b ⊎ FileHasIt p n inode b → NamesOwn next b ⊎ FileHasIt next n inode b
  held_now inode b (inl names) = inl names
  held_now inode b (inr file) = inr (file.0, record { hand = file.1.hand; here = file.1.here; held = file.1.held }, file.2)

  pub moved_spaced : AreSpaced l v n next
  moved_spaced = record { apart = apart_now u v pool p moves spaced.apart; usable = usable_now; fresh = spaced.fresh; unheld = spaced.unheld; held = λ inode place b at. held_now inode b (spaced.held inode place b at) }

pub blocks_move : BlocksMove
blocks_move l u v start history k p pool moves st = record {
  tree = st.tree;
  legal = st.legal;
  kept = st.kept;
  parts = record { names = st.parts.names; files = st.parts.files; inodes = st.parts.inodes; here = st.parts.here };
  names = st.names;
  counted = st.counted;
  noted = st.noted;
  each = st.each;
  spaced = moved_spaced l u v pool k.numbers p moves st.spaced;
}
