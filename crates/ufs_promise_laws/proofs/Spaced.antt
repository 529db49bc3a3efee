-- Blocks go between a file and the pool.
use Rattle.std.proofs.Common.{◌≡◌, ◌≢◌, ℕ, ◌⊎◌, inl, inr, Bool, true, false, ◌||◌, Some, ap, sym, refl, ◌∙◌, subst}
use Rattle.std.specs.Prelude.{nat_eq}
use Rattle.std.specs.List.{IsDistinct}
use Rattle.std.specs.FinMap as map
use Rattle.std.specs.FinSet as set
use Rattle.ufs_bitmap.specs.Blocks.{BlockSet}
use Rattle.ufs_bitmap.specs.Taking.{IsApart, has}
use Rattle.ufs_bitmap.proofs.SetLemmas.{has-union}
use Rattle.ufs_file.specs.Hand.{FileState}
use Rattle.ufs_files.specs.Files.{AreNumbered}
use Rattle.ufs_files.proofs.MapLemmas.{one_or_apart}
use Rattle.ufs_ledger.specs.Kept.{Numbers}
use Rattle.ufs_ledger.specs.Ledger.{Ledger}
use Rattle.ufs_model.proofs.Facts.Lookups.{same_some}
use Rattle.ufs_file_commits.specs.Standing.{IsFileBlock}
use Rattle.ufs_file_commits.specs.State.{DurableState, blocks_held}
use Rattle.ufs_promise_laws.specs.Parts.{FileOwns, NamesOwn, OneFile, Owner, Owns, Parts, TheNames, ThePool, Unassigned, durable_in, with_file}
use Rattle.ufs_promise_laws.specs.Stored.{AreSpaced, FileHasIt}
use Rattle.ufs_promise_laws.proofs.Puts.{durable_else, durable_here, either, other_file, here}

or_case : (a b : Bool) → (a || b) ≡ true → (a ≡ true) ⊎ (b ≡ true)
or_case true b e = inl refl
or_case false b e = inr e

or_left : (a b : Bool) → a ≡ true → (a || b) ≡ true
or_left a b e = ap (λ (c : Bool). c || b) e

or_right : (a b : Bool) → b ≡ true → (a || b) ≡ true
or_right true b e = refl
or_right false b e = e

both_no : (b : Bool) → b ≡ true → b ≡ false → ⊥
both_no b is off = let clash = sym is ∙ off in cc

-- what a file has the pool hasn't
pub pool_apart : (u : BlockSet) (p : Parts) (s : FileState) → map.get p.files s.file ≡ Some s → IsDistinct nat_eq (blocks_held (durable_in p.commits s))
    → ((one other : Owner) (b : ℕ) → Owns p u one b → Owns p u other b → one ≡ other) → IsApart p.pool (blocks_held (durable_in p.commits s))
pool_apart u p s old once apart = record { absent = λ b held. by b held (set.contains p.pool b) refl; once = once }
  where
    by : (b : ℕ) → has (blocks_held (durable_in p.commits s)) b ≡ true → (c : Bool) → set.contains p.pool b ≡ c → set.contains p.pool b ≡ false
    by b held false e = e
    by b held true e = (let clash = apart (OneFile s.file) ThePool b (record { hand = s; here = old; held = held }) e in absurd cc)

module _ (u : BlockSet) (p : Parts) (s : FileState) (x : DurableState) (pool : BlockSet) (old : map.get p.files s.file ≡ Some s) (number : x.file.file ≡ s.file)
    (apart : IsApart pool (blocks_held x)) (together : set.union pool (set.from_list (blocks_held x)) ≡ set.union p.pool (set.from_list (blocks_held (durable_in p.commits s))))
    (within : (b : ℕ) → set.contains pool b ≡ true → set.contains p.pool b ≡ true) (numbered : AreNumbered p.files)
    (apart_then : (one other : Owner) (b : ℕ) → Owns p u one b → Owns p u other b → one ≡ other) where
  abbrev q : Parts
  q = with_file x pool p

  abbrev k : ℕ
  k = x.file.file

  union_is : (b : ℕ) → (set.contains pool b || has (blocks_held x) b) ≡ (set.contains p.pool b || has (blocks_held (durable_in p.commits s)) b)
  union_is b = sym (has-union pool (set.from_list (blocks_held x)) b) ∙ ap (λ (t : BlockSet). set.contains t b) together ∙ has-union p.pool (set.from_list (blocks_held (durable_in p.commits s))) b

  -- what the file has now it had, or the pool had
  pub was : (b : ℕ) → has (blocks_held x) b ≡ true → (set.contains p.pool b ≡ true) ⊎ (has (blocks_held (durable_in p.commits s)) b ≡ true)
  was b e = or_case (set.contains p.pool b) (has (blocks_held (durable_in p.commits s)) b) (sym (union_is b) ∙ or_right (set.contains pool b) (has (blocks_held x) b) e)

  -- what the file had it has, since the pool got nothing
  pub still : (b : ℕ) → has (blocks_held (durable_in p.commits s)) b ≡ true → has (blocks_held x) b ≡ true
  still b e = by (or_case (set.contains pool b) (has (blocks_held x) b) (union_is b ∙ or_right (set.contains p.pool b) (has (blocks_held (durable_in p.commits s)) b) e))
    where
      by : (set.contains pool b ≡ true) ⊎ (has (blocks_held x) b ≡ true) → has (blocks_held x) b ≡ true
      by (inl back) = (let clash = apart_then (OneFile s.file) ThePool b (record { hand = s; here = old; held = e }) (within b back) in absurd cc)
      by (inr is) = is

  held_now : (f b : ℕ) → f ≡ k → FileOwns q f b → has (blocks_held x) b ≡ true
  held_now f b is owns = by (either x pool p f owns.hand owns.here)
    where
      by : ((f ≡ k) × (owns.hand ≡ x.file)) ⊎ ((f ≢ k) × (map.get p.files f ≡ Some owns.hand)) → has (blocks_held x) b ≡ true
      by (inl both) = sym (ap (λ (d : DurableState). has (blocks_held d) b) (ap (durable_in q.commits) both.1 ∙ durable_here x pool p)) ∙ owns.held
      by (inr both) = absurd (both.0 is)

  -- Each owner had the block before, or it is the file's and the pool had it.
  abbrev pub Before : Owner → ℕ → Type 0
  Before o b = Owns p u o b ⊎ ((o ≡ OneFile k) × (set.contains p.pool b ≡ true))

  before_file : (f b : ℕ) → FileOwns q f b → (f ≡ k) ⊎ (f ≢ k) → Before (OneFile f) b
  before_file f b owns (inl is) = by (was b (held_now f b is owns))
    where
      by : (set.contains p.pool b ≡ true) ⊎ (has (blocks_held (durable_in p.commits s)) b ≡ true) → Before (OneFile f) b
      by (inl pooled) = inr (ap OneFile is, pooled)
      by (inr had) = inl (record { hand = s; here = ap (map.get p.files) (is ∙ number) ∙ old; held = had })
  before_file f b owns (inr not) = by (either x pool p f owns.hand owns.here)
    where
      by : ((f ≡ k) × (owns.hand ≡ x.file)) ⊎ ((f ≢ k) × (map.get p.files f ≡ Some owns.hand)) → Before (OneFile f) b
      by (inl both) = absurd (not both.0)
      by (inr both) = inl (record { hand = owns.hand; here = both.1; held = sym (ap (λ (d : DurableState). has (blocks_held d) b) (durable_else x pool p owns.hand (λ e. not (sym (numbered f owns.hand both.1) ∙ e)))) ∙ owns.held })

  pub before : (o : Owner) (b : ℕ) → Owns q u o b → Before o b
  before (OneFile f) b owns = before_file f b owns (one_or_apart f k)
  before ThePool b owns = inl (within b owns)
  before Unassigned b owns = inl owns
  before TheNames b owns = inl owns

  one_is : (other : Owner) (b : ℕ) → set.contains p.pool b ≡ true → (owns : FileOwns q k b) → Owns p u other b → Owns q u other b → OneFile k ≡ other
  one_is ThePool b pooled file had has_now = absurd (both_no (set.contains pool b) has_now (apart.absent b (held_now k b refl file)))
  one_is (OneFile f) b pooled file had has_now = (let clash = apart_then ThePool (OneFile f) b pooled had in absurd cc)
  one_is Unassigned b pooled file had has_now = (let clash = apart_then ThePool Unassigned b pooled had in absurd cc)
  one_is TheNames b pooled file had has_now = (let clash = apart_then ThePool TheNames b pooled had in absurd cc)

  pub apart_now : (one other : Owner) (b : ℕ) → Owns q u one b → Owns q u other b → one ≡ other
  apart_now one other b a c = by (before one b a) (before other b c)
    where
      by : Before one b → Before other b → one ≡ other
      by (inl had) (inl too) = apart_then one other b had too
      by (inr new) (inr too) = new.0 ∙ sym too.0
      by (inr new) (inl too) = new.0 ∙ one_is other b new.1 (subst (λ (o : Owner). Owns q u o b) new.0 a) too c
      by (inl had) (inr new) = sym (new.0 ∙ one_is one b new.1 (subst (λ (o : Owner). Owns q u o b) new.0 c) had a)

module _ (l : Ledger) (u : BlockSet) (n : Numbers) (p : Parts) (s : FileState) (x : DurableState) (pool : BlockSet) (old : map.get p.files s.file ≡ Some s) (number : x.file.file ≡ s.file)
    (apart : IsApart pool (blocks_held x)) (together : set.union pool (set.from_list (blocks_held x)) ≡ set.union p.pool (set.from_list (blocks_held (durable_in p.commits s))))
    (within : (b : ℕ) → set.contains pool b ≡ true → set.contains p.pool b ≡ true) (numbered : AreNumbered p.files) (spaced : AreSpaced l u n p) where
  abbrev next : Parts
  next = with_file x pool p

  abbrev it : ℕ
  it = x.file.file

  usable_now : (o : Owner) (b : ℕ) → o ≢ TheNames → Owns next u o b → IsFileBlock l b
  usable_now o b not owns = by (before u p s x pool old number apart together within numbered spaced.apart o b owns)
    where
      by : Before u p s x pool old number apart together within numbered spaced.apart o b → IsFileBlock l b
      by (inl had) = spaced.usable o b not had
      by (inr new) = spaced.usable ThePool b (λ e. cc) new.1

  held_then : (inode b : ℕ) → FileHasIt p n inode b → FileHasIt next n inode b
  held_then inode b had = by (one_or_apart had.0 it)
    where
      by : (had.0 ≡ it) ⊎ (had.0 ≢ it) → FileHasIt next n inode b
      by (inl is) =
          let hand : had.1.hand ≡ s = same_some had.1.hand s (sym had.1.here ∙ ap (map.get p.files) (is ∙ number) ∙ old) in (
            had.0,
            record {
              hand = x.file;
              here = ap (map.get next.files) is ∙ here x pool p;
              held = ap (λ (d : DurableState). has (blocks_held d) b) (durable_here x pool p) ∙ still u p s x pool old number apart together within numbered spaced.apart b (ap (λ (f : FileState). has (blocks_held (durable_in p.commits f)) b) (sym hand) ∙ had.1.held);
            },
            had.2,
          )
      by (inr not) = (
        had.0,
        record {
          hand = had.1.hand;
          here = other_file x pool p had.0 not ∙ had.1.here;
          held = ap (λ (d : DurableState). has (blocks_held d) b) (durable_else x pool p had.1.hand (λ e. not (sym (numbered had.0 had.1.hand had.1.here) ∙ e))) ∙ had.1.held;
        },
        had.2,
      )

  pub spaced_now : AreSpaced l u n next
  spaced_now = record {
    apart = apart_now u p s x pool old number apart together within numbered spaced.apart;
    usable = usable_now;
    fresh = spaced.fresh;
    unheld = spaced.unheld;
    held = λ inode place b at. by inode b (spaced.held inode place b at);
  }
    where
      by : (inode b : ℕ) → NamesOwn p b ⊎ FileHasIt p n inode b → NamesOwn next b ⊎ FileHasIt next n inode b
      by inode b (inl names) = inl names
      by inode b (inr file) = inr (held_then inode b file)
