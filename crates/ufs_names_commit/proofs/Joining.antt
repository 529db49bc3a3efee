-- Blocks of zeros become blocks in which dentries may be set.
use Rattle.std.proofs.Common.{◌≡◌, ◌≢◌, ℕ, ◌⊎◌, inl, inr, Bool, true, false, List, [], ◌∷◌, ap, sym, refl, ◌∙◌, subst, arith}
use Rattle.std.specs.Prelude.{◌==◌, ◌||◌, IsTrue, if◌then◌else◌, replicate}
use Rattle.std.specs.FinSet as set
use Rattle.std.proofs.lemmas.Bool.Decides.{nat_tests}
use Rattle.ufs_base.specs.declared.sizes.TheConstants.{SLOTS_PER_BLOCK}
use Rattle.ufs_bitmap.specs.Space.{Space}
use Rattle.ufs_bitmap.specs.Taking.{has}
use Rattle.ufs_bitmap.proofs.SetLemmas.{has-insert}
use Rattle.ufs_bitmap.proofs.TakingLemmas.{has-none}
use Rattle.ufs_disk.specs.Disk.{IsWhole, possible}
use Rattle.ufs_files.proofs.MapLemmas.{one_or_apart}
use Rattle.ufs_image.specs.Sound.{IsSoundCatalog}
use Rattle.ufs_image.proofs.Empty.{apart_false}
use Rattle.ufs_layout.specs.DentryForm.{free_slot}
use Rattle.ufs_layout.specs.Superblock.{geometry_of}
use Rattle.ufs_layout.specs.declared.geometry.Geometry.{Geometry}
use Rattle.ufs_ledger.specs.Changes.{settled, with_free_block}
use Rattle.ufs_ledger.specs.Kept.{Counts}
use Rattle.ufs_ledger.specs.Laws.{LedgersAreSound}
use Rattle.ufs_ledger.specs.Ledger.{CoversDirs, Ledger}
use Rattle.ufs_ledger.proofs.Joining.{joins}
use Rattle.ufs_ledger.proofs.Wholes.{images_of}
use Rattle.ufs_model.specs.PosixTree.{PosixTree}
use Rattle.ufs_model.specs.declared.data.Entry.{Entry}
use Rattle.ufs_file_commits.specs.Standing.{IsFileBlock}
use Rattle.ufs_store.specs.Ledgers.{HasLedger}
use Rattle.ufs_store.specs.State.{StoreState}
use Rattle.ufs_promise_laws.specs.Known.{Known}
use Rattle.ufs_promise_laws.specs.Laws.{SettledIsStored, SpelledIsStored}
use Rattle.ufs_promise_laws.specs.Parts.{Parts}
use Rattle.ufs_promise_laws.specs.Stored.{IsSpelled, IsStored}
use Rattle.ufs_promise_laws.proofs.Zeros.{file_block, spelled}
use Rattle.ufs_names_commit.specs.Laws.{IsBeside}
use Rattle.ufs_names_commit.specs.Ready.{HasSpelled, HasZeros, zeros}

-- A file may have the block, and it is zeros for good; or dentries may be set in it.
abbrev IsZeroOr : Ledger → ℕ → Type 0
IsZeroOr l block = (IsFileBlock l block × (possible (l.blocks block) ≡ zeros ∷ [])) ⊎ IsSpelled l block

-- A ledger that the store knows, on which the server is stored, where these blocks of those that directories took are spelled.
record AreJoined (s : StoreState) (g : Geometry) (start : PosixTree) (history : List Entry) (k : Counts) (p : Parts) (bs : List ℕ) : Type 0 where
  ledger : Ledger
  knows : HasLedger s ledger
  formed : geometry_of ledger.superblock ≡ g
  stored : IsStored ledger s.unassigned.free start history k p
  either : (block : ℕ) → has p.fresh block ≡ true → IsZeroOr ledger block
  done : (block : ℕ) → has bs block ≡ true → IsSpelled ledger block

-- ---- another block is spelled

module _ (l : Ledger) (block : ℕ) where
  abbrev m : Ledger
  m = record l { now = with_free_block block l.now }

  still_spelled : (other : ℕ) → IsSpelled l other → IsSpelled m other
  still_spelled other was = record { data_block = was.data_block; spelled = on (other == block) was.spelled; slots = free (other == block) was.slots; unheld = was.unheld }
    where
      on : (b : Bool) → IsTrue (l.now.dirs other) → IsTrue (if b then true else l.now.dirs other)
      on true is = refl
      on false is = is

      free : (b : Bool) → l.now.catalog.slots other ≡ replicate SLOTS_PER_BLOCK free_slot → (if b then replicate SLOTS_PER_BLOCK free_slot else l.now.catalog.slots other) ≡ replicate SLOTS_PER_BLOCK free_slot
      free true is = refl
      free false is = is

module _ (g : Geometry) (s : StoreState) (start : PosixTree) (history : List Entry) (k : Counts) (p : Parts) (whole : IsWhole s.sectors s.moments.state) (sound : LedgersAreSound) (spells : SpelledIsStored g) where
  -- the block heads the list
  heads : (block : ℕ) (bs : List ℕ) (other : ℕ) → has (block ∷ bs) other ≡ true → (other ≡ block) ⊎ (has bs other ≡ true)
  heads block bs other is = by (one_or_apart other block)
    where
      by : (other ≡ block) ⊎ (other ≢ block) → (other ≡ block) ⊎ (has bs other ≡ true)
      by (inl same) = inl same
      by (inr not) = inr (sym (ap (λ (b : Bool). b || has bs other) (apart_false other block not)) ∙ sym (has-insert (set.from_list bs) block other) ∙ is)

  module _ (block : ℕ) (bs : List ℕ) (fresh : has p.fresh block ≡ true) (j : AreJoined s g start history k p bs) where
    abbrev l : Ledger
    l = j.ledger

    join_one : IsFileBlock l block → possible (l.blocks block) ≡ zeros ∷ [] → AreJoined s g start history k p (block ∷ bs)
    join_one free zero = record {
      ledger = m l block;
      knows = record {
        going = led.going;
        by = record {
          is = joins s.sectors s.moments.state l block (images_of s.sectors s.moments.state whole) led.by.none led.by.is free.data_block free.unheld free.no_dir zero;
          none = led.by.none;
          in_use = led.by.in_use;
          geometry = led.by.geometry;
          epoch = led.by.epoch;
          later = led.by.later;
          ready = led.by.ready;
        };
        superblock_is = led.superblock_is;
        added = led.added;
        numbered = led.numbered;
        unused = led.unused;
        settled = led.settled;
        older = led.older;
        fits = led.fits;
      };
      formed = j.formed;
      stored = spells l s.unassigned.free start history k p block j.formed led.by.none (subst (λ h. IsSoundCatalog h l.now.catalog) j.formed on.0) (subst (λ h. CoversDirs h l.now) j.formed on.1) fresh free j.stored;
      either = λ other is. by other is (one_or_apart other block);
      done = λ other is. now other (heads block bs other is);
    }
      where
        led : HasLedger s l
        led = j.knows

        on : IsSoundCatalog (geometry_of l.superblock) l.now.catalog × CoversDirs (geometry_of l.superblock) l.now
        on = sound s.sectors s.moments.state l led.by.none led.by.is

        it : IsSpelled (m l block) block
        it = spelled l s.unassigned.free start history k p block led.by.none fresh free j.stored

        by : (other : ℕ) → has p.fresh other ≡ true → (other ≡ block) ⊎ (other ≢ block) → IsZeroOr (m l block) other
        by other is (inl same) = inr (subst (IsSpelled (m l block)) (sym same) it)
        by other is (inr not) = stay (j.either other is)
          where
            stay : IsZeroOr l other → IsZeroOr (m l block) other
            stay (inl both) = inl (file_block l s.unassigned.free start history k p block led.by.none fresh free j.stored other not both.0, both.1)
            stay (inr was) = inr (still_spelled l block other was)

        now : (other : ℕ) → (other ≡ block) ⊎ (has bs other ≡ true) → IsSpelled (m l block) other
        now other (inl same) = subst (IsSpelled (m l block)) (sym same) it
        now other (inr is) = still_spelled l block other (j.done other is)

    join_next : AreJoined s g start history k p (block ∷ bs)
    join_next = by (j.either block fresh)
      where
        by : IsZeroOr l block → AreJoined s g start history k p (block ∷ bs)
        by (inl both) = join_one both.0 both.1
        by (inr is) = record {
          ledger = l;
          knows = j.knows;
          formed = j.formed;
          stored = j.stored;
          either = j.either;
          done = λ other at. now other (heads block bs other at);
        }
          where
            now : (other : ℕ) → (other ≡ block) ⊎ (has bs other ≡ true) → IsSpelled l other
            now other (inl same) = subst (IsSpelled l) (sym same) is
            now other (inr at) = j.done other at

  join_all : (bs : List ℕ) → ((block : ℕ) → has bs block ≡ true → has p.fresh block ≡ true) → AreJoined s g start history k p [] → AreJoined s g start history k p bs
  join_all [] all j = j
  join_all (block ∷ bs) all j =
      join_next block bs (all block (has-insert (set.from_list bs) block block ∙ ap (λ (b : Bool). b || has bs block) itself))
      (join_all bs (λ other is. all other (has-insert (set.from_list bs) block other ∙ ap (λ (b : Bool). (other == block) || b) is ∙ last (other == block))) j)
    where
      itself : (block == block) ≡ true
      itself = grind (arith, nat_tests)

      last : (b : Bool) → (b || true) ≡ true
      last true = refl
      last false = refl

pub zeros_settle : (g : Geometry) → LedgersAreSound → SettledIsStored g → SpelledIsStored g → (old new : StoreState) (start : PosixTree) (history : List Entry) (p : Parts) (known : Known) → IsBeside g old new → IsWhole new.sectors new.moments.state
    → ((m : Ledger) → HasLedger old m → HasLedger new (settled m)) → HasZeros old start history p known p.fresh → HasSpelled new start history p known
zeros_settle g sound settles spells old new start history p known beside whole barrier z = record {
  ledger = all.ledger;
  counts = z.counts;
  knows = all.knows;
  formed = all.formed ∙ sym beside.new_form;
  stored = all.stored;
  covers = z.covers;
  numbered = z.numbered;
  ready = all.done;
}
  where
    formed : geometry_of z.ledger.superblock ≡ g
    formed = z.formed ∙ beside.old_form

    begun : AreJoined new g start history z.counts p []
    begun = record {
      ledger = settled z.ledger;
      knows = barrier z.ledger z.knows;
      formed = formed;
      stored = subst (λ (u : Space). IsStored (settled z.ledger) u.free start history z.counts p) (sym beside.unassigned) (settles z.ledger old.unassigned.free start history z.counts p formed z.knows.by.none z.stored);
      either = λ block fresh. let free = z.free block fresh in inl (record { data_block = free.data_block; no_dir = free.no_dir; unheld = free.unheld }, ap (λ (bytes : List ℕ). bytes ∷ []) (z.zero block fresh));
      done = λ block is. (let clash = sym is ∙ has-none block in absurd cc);
    }

    all : AreJoined new g start history z.counts p p.fresh
    all = join_all g new start history z.counts p whole sound spells p.fresh (λ block is. is) begun
