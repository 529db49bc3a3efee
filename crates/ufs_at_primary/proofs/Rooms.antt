-- Room is made before a request, in one step after another.
use Rattle.std.proofs.Common.{◌≡◌, ◌≢◌, ◌≤◌, ◌<◌, ◌+◌, ◌++◌, ℕ, ◌⊎◌, inl, inr, eqb, ne_eqb, Bool, true, false, List, [], ◌∷◌, Option, Some, None, is_some, length, arith, refl, ap, sym, ◌∙◌, subst}
use Rattle.std.specs.Prelude.{IfSome, IsSome, Result, Ok, Err, OnOk, OnErr}
use Rattle.std.specs.FinMap as fin
use Rattle.std.specs.FinSet as set
use Rattle.ufs_bitmap.specs.Blocks.{BlockSet}
use Rattle.ufs_file_commits.specs.State.{DurableState}
use Rattle.ufs_hand_laws.specs.Owned.{Has, count, one}
use Rattle.ufs_held.specs.Stopping.{Rests}
use Rattle.ufs_held.specs.Together.{AreApartFrom, under_numbers}
use Rattle.ufs_held.proofs.Stopping.{stops_still, stops_twice}
use Rattle.ufs_held_names.specs.Asked.{IsNeeded}
use Rattle.ufs_held_names.specs.HeldNames.{AreCommitted}
use Rattle.ufs_held_names.specs.Reclaims.{IsReclaimed, MayReclaim}
use Rattle.ufs_held_names.specs.SyncAll.{AreAllLive, AreSynced, AtFile, AtNames, StopsShort, freed_by}
use Rattle.ufs_held_names.proofs.SyncedAll.{none_synced, still_live}
use Rattle.ufs_home.specs.Home.{HomeState}
use Rattle.ufs_home.specs.Lending.{AreLent, put_all}
use Rattle.ufs_home.specs.Places.{Places, file_here}
use Rattle.ufs_home.proofs.Shelves.{one_or_other}
use Rattle.ufs_joint.specs.Cells.{FileCell, NamesCell, View}
use Rattle.ufs_joint.specs.NamesHands.{AreNumberedOnce}
use Rattle.ufs_model.specs.declared.data.Ask.{Ask}
use Rattle.ufs_names.specs.NamesPart.{NamesPart}
use Rattle.ufs_names.specs.Notes.{NotesAreBeside, with_notes}
use Rattle.ufs_serving.specs.Pools.{AreConserved}
use Rattle.ufs_store.specs.Refusals.{fault_in}
use Rattle.ufs_store.specs.declared.fault.StoreFault.{StoreFault}
use Rattle.ufs_turns.specs.Lent.{AreTold, Runs, StopsByFault}
use Rattle.ufs_turns.specs.NamesLent.{names_kept}
use Rattle.ufs_turns.proofs.Runs.{runs_more, runs_still, runs_twice}
use Rattle.ufs_at_primary.specs.All.{numbers_in}
use Rattle.ufs_at_primary.specs.Room.{AreAllTidied, AreTidied, AreTidiedFiles, IsTidied, free_with, freed_in}
use Rattle.ufs_at_primary.specs.Stock.{AreHere, StockState, stock_of}
use Rattle.ufs_at_primary.proofs.AllTold.{synced_numbers}
use Rattle.ufs_at_primary.proofs.Freeing.{free_back, free_files, free_first, free_freed, free_kept, free_names, free_pool, free_so, free_then, none_freed}
use Rattle.ufs_at_primary.proofs.AtHome.{AreSameLive, committed_live, here_names, same_names, tidied_live}

-- ---- names

-- what is committed twice is committed
committed_twice : (visible : Bool) (a b c : NamesCell) → AreCommitted visible a b → AreCommitted visible b c → AreCommitted visible a c
committed_twice visible a b c one then = record {
  is = then.is ∙ ap (names_kept c.known) one.is;
  all = λ seen. subst (λ (n : ℕ). n ≤ c.known) (ap (λ (x : NamesCell). x.changed) one.is) (then.all seen);
}

names_still : (visible : Bool) (a : NamesCell) → AreTidied visible a a
names_still visible a = record { between = a; committed = inl refl; back = inl refl }

-- the names, committed or as they were, and then tidied
tidied_behind : (visible : Bool) (a b c : NamesCell) → (b ≡ a) ⊎ AreCommitted visible a b → AreTidied visible b c → AreTidied visible a c
tidied_behind visible a b c (inl same) t = subst (λ (x : NamesCell). AreTidied visible x c) same t
tidied_behind visible a b c (inr done) t = by t.committed
  where
    by : (t.between ≡ b) ⊎ AreCommitted visible b t.between → AreTidied visible a c
    by (inl same) = record { between = t.between; committed = inr (subst (AreCommitted visible a) (sym same) done); back = t.back }
    by (inr again) = record { between = t.between; committed = inr (committed_twice visible a b t.between done again); back = t.back }

-- nothing but what is noted of them has changed
same_value : (visible : Bool) (a b : NamesCell) → AreTidied visible a b → (b.value ≡ a.value) ⊎ (b.value ≡ with_notes (Some []) a.value)
same_value visible a b t = by t.committed
  where
    last : (t : AreTidied visible a b) → b.value ≡ t.between.value
    last t = back t.back
      where
        back : (b ≡ t.between) ⊎ IsReclaimed t.between b → b.value ≡ t.between.value
        back (inl e) = ap (λ (c : NamesCell). c.value) e
        back (inr e) = ap (λ (c : NamesCell). c.value) e

    by : (t.between ≡ a) ⊎ AreCommitted visible a t.between → (b.value ≡ a.value) ⊎ (b.value ≡ with_notes (Some []) a.value)
    by (inl e) = inl (last t ∙ ap (λ (c : NamesCell). c.value) e)
    by (inr e) = inr (last t ∙ ap (λ (c : NamesCell). c.value) e.is)

pub next_still : (visible : Bool) (a b : NamesCell) → AreTidied visible a b → b.value.next ≡ a.value.next
next_still visible a b t = by (same_value visible a b t)
  where
    by : (b.value ≡ a.value) ⊎ (b.value ≡ with_notes (Some []) a.value) → b.value.next ≡ a.value.next
    by (inl e) = ap (λ (n : NamesPart). n.next) e
    by (inr e) = ap (λ (n : NamesPart). n.next) e

needed_noted : NotesAreBeside → (n : NamesPart) (ask : Ask) (file : Option ℕ) → IsNeeded n ask file → IsNeeded (with_notes (Some []) n) ask file
needed_noted beside n ask file needed = λ t part asked. needed t (let b = beside (with_notes (Some []) n) n.tree.noted in b.part t part) asked

-- a request touches the same file
pub needed_still : NotesAreBeside → (visible : Bool) (a b : NamesCell) (ask : Ask) (file : Option ℕ) → AreTidied visible a b → IsNeeded a.value ask file → IsNeeded b.value ask file
needed_still beside visible a b ask file t needed = by (same_value visible a b t)
  where
    by : (b.value ≡ a.value) ⊎ (b.value ≡ with_notes (Some []) a.value) → IsNeeded b.value ask file
    by (inl e) = subst (λ (n : NamesPart). IsNeeded n ask file) (sym e) needed
    by (inr e) = subst (λ (n : NamesPart). IsNeeded n ask file) (sym e) (needed_noted beside a.value ask file needed)

pub below_still : (visible : Bool) (a b : NamesCell) → AreTidied visible a b → ((file : ℕ) → IsSome (fin.get a.value.held file) → file < a.value.next) → (file : ℕ) → IsSome (fin.get b.value.held file) → file < b.value.next
below_still visible a b t below file live =
    subst (λ (n : ℕ). file < n) (sym (next_still visible a b t)) (below file (subst (λ m. IsSome (fin.get m file)) (tidied_live visible a b t) live))

-- ---- a commit of them

pub kept_names : (r : Result (Unit {0}) StoreFault) (new old : NamesCell) (s : StockState) (home : HomeState) (pool : BlockSet) → stock_of old home pool ≡ s → OnErr r (new ≡ old) → OnErr r (stock_of new home pool ≡ s)
kept_names (Ok x) new old s home pool same kept = tt
kept_names (Err e) new old s home pool same kept = (λ i. stock_of (kept i) home pool) ∙ same

pub commit_here : (visible : Bool) (r : Result (Unit {0}) StoreFault) (h : HomeState) (old new : NamesCell) → OnOk r (AreCommitted visible old new) → OnErr r (new ≡ old) → AreHere old h → AreHere new h
commit_here visible (Ok x) h old new done kept here = here_names h old new (committed_live visible old new done) here
commit_here visible (Err e) h old new done kept here = here_names h old new (same_names old new kept) here

-- ---- steps

-- nothing is done
pub tidied_still : (base : ℕ) (visible : Bool) (o : Option View) (s : StockState) → IsTidied base visible o o s s
tidied_still base visible o s = record {
  names = names_still visible s.names;
  most = 0;
  files = inl (refl, omega arith);
  free = none_freed o s;
  telling = refl;
  fault = None;
  stop = stops_still o;
  ran = runs_still o 0 0;
}

-- the same files are live
live_still : (a b : NamesPart) (cs : List FileCell) → b.held ≡ a.held → AreAllLive b cs → AreAllLive a cs
live_still a b cs same all = record { live = λ f is. all.live f (subst (λ m. IsSome (fin.get m f)) (sym same) is); once = all.once }

-- no more than so is no more than more
pub tidied_more : (visible : Bool) (had has : Option View) (s s' t : StockState) → s ≡ s' → IsTidied 0 visible had has s t → IsTidied 1 visible had has s' t
tidied_more visible had has s s' t same is = subst (λ (x : StockState). IsTidied 1 visible had has x t) same
    (record { names = is.names; most = is.most; files = by is.files; free = free_so had has s t (freed_in visible s t is.files) (freed_in visible s t (by is.files)) (alike is.files) is.free; telling = is.telling; fault = is.fault; stop = is.stop; ran = is.ran })
  where
    by : ((t.home ≡ s.home) × (is.most ≤ 0)) ⊎ ((a : AreTidiedFiles visible s t) × (is.most ≤ 0 + 2 + length a.olds)) → ((t.home ≡ s.home) × (is.most ≤ 1)) ⊎ ((a : AreTidiedFiles visible s t) × (is.most ≤ 1 + 2 + length a.olds))
    by (inl x) = (let l = x.1 in inl (x.0, omega (arith, l)))
    by (inr x) = (let l = x.1 in inr (x.0, omega (arith, l)))

    alike : (f : ((t.home ≡ s.home) × (is.most ≤ 0)) ⊎ ((a : AreTidiedFiles visible s t) × (is.most ≤ 0 + 2 + length a.olds))) → freed_in visible s t (by f) ≡ freed_in visible s t f
    alike (inl x) = refl
    alike (inr x) = refl

-- a file that a request touches is here still
pub needed_here : (o : Option ℕ) (p q : Places) → ((file : ℕ) → IsSome (file_here p file) → IsSome (file_here q file)) → IfSome o (λ file. IsSome (file_here p file)) → IfSome o (λ file. IsSome (file_here q file))
needed_here None p q still here = tt
needed_here (Some file) p q still here = still file here

module _ (visible : Bool) where
  -- the pool alone changed
  pub tidied_pool : (had has : Option View) (s t : StockState) → t ≡ record s { pool = t.pool } → AreConserved had has s.pool t.pool → is_some has ≡ is_some had → Rests had has None → IsTidied 0 visible had has s t
  tidied_pool had has s t rest conserved telling rests = record {
    names = record { between = s.names; committed = inl refl; back = inl (ap (λ (x : StockState). x.names) rest) };
    most = 0;
    files = inl (ap (λ (x : StockState). x.home) rest, omega arith);
    free = free_first had has s (record s { pool = t.pool }) t rest (free_pool had has s t.pool conserved);
    telling = telling;
    fault = None;
    stop = rests.0;
    ran = rests.1;
  }

  -- before the rest was done
  pub pool_then : (had mid has : Option View) (s m t : StockState) → m ≡ record s { pool = m.pool } → AreConserved had mid s.pool m.pool → is_some mid ≡ is_some had → Rests had mid None → IsTidied 0 visible mid has m t → IsTidied 0 visible had has s t
  pool_then had mid has s m t rest conserved telling rests tidied = go (subst (λ (x : StockState). IsTidied 0 visible mid has x t) rest tidied)
    where
      by : (most : ℕ) → ((t.home ≡ s.home) × (most ≤ 0)) ⊎ ((a : AreTidiedFiles visible (record s { pool = m.pool }) t) × (most ≤ 0 + 2 + length a.olds)) → ((t.home ≡ s.home) × (most ≤ 0)) ⊎ ((a : AreTidiedFiles visible s t) × (most ≤ 0 + 2 + length a.olds))
      by most (inl x) = inl x
      by most (inr x) = (let a = x.0 in inr (record { olds = a.olds; nows = a.nows; lent = a.lent; here = a.here; all = a.all; done = a.done; synced = a.synced; numbers = a.numbers; home = a.home }, x.1))

      alike : (most : ℕ) (f : ((t.home ≡ s.home) × (most ≤ 0)) ⊎ ((a : AreTidiedFiles visible (record s { pool = m.pool }) t) × (most ≤ 0 + 2 + length a.olds))) → freed_in visible s t (by most f) ≡ freed_in visible (record s { pool = m.pool }) t f
      alike most (inl x) = refl
      alike most (inr x) = refl

      go : IsTidied 0 visible mid has (record s { pool = m.pool }) t → IsTidied 0 visible had has s t
      go d = record {
        names = d.names;
        most = d.most;
        files = by d.most d.files;
        free = free_then had mid has s (record s { pool = m.pool }) t (freed_in visible (record s { pool = m.pool }) t d.files) (freed_in visible s t (by d.most d.files)) telling (alike d.most d.files) (free_pool had mid s m.pool conserved) d.free;
        telling = d.telling ∙ telling;
        fault = d.fault;
        stop = stops_twice had mid has d.fault telling rests.0 d.stop;
        ran = runs_more had has d.fault (0 + d.most) (0 + d.most) d.most d.most (omega arith) (omega arith) (runs_twice had mid has d.fault 0 0 d.most d.most telling rests.1 d.ran);
      }

  -- the names were committed before the rest was done, or needn't be
  pub names_then : (had mid has : Option View) (s m t : StockState) → m ≡ record s { names = m.names } → (m.names ≡ s.names) ⊎ AreCommitted visible s.names m.names → AreTold had mid (λ a b. b ≡ a) → is_some mid ≡ is_some had → StopsByFault had mid None → Runs had mid None 1 1 → IsTidied 0 visible mid has m t
      → IsTidied 1 visible had has s t
  names_then had mid has s m t rest done free telling stop ran tidied = go (subst (λ (x : StockState). IsTidied 0 visible mid has x t) rest tidied)
    where
      same : (m.names ≡ s.names) ⊎ AreCommitted visible s.names m.names → AreSameLive s.names m.names
      same (inl e) = same_names s.names m.names e
      same (inr e) = committed_live visible s.names m.names e

      by : (most : ℕ) → ((t.home ≡ s.home) × (most ≤ 0)) ⊎ ((a : AreTidiedFiles visible (record s { names = m.names }) t) × (most ≤ 0 + 2 + length a.olds)) → ((t.home ≡ s.home) × (1 + most ≤ 1)) ⊎ ((a : AreTidiedFiles visible s t) × (1 + most ≤ 1 + 2 + length a.olds))
      by most (inl x) = (let l = x.1 in inl (x.0, omega (arith, l)))
      by most (inr x) =
          let a = x.0 in
          let l = x.1 in
          inr
          (record { olds = a.olds; nows = a.nows; lent = a.lent; here = a.here; all = live_still s.names.value m.names.value a.olds (same done) a.all; done = a.done; synced = a.synced; numbers = a.numbers; home = a.home }, omega (arith, l))

      alike : (most : ℕ) (f : ((t.home ≡ s.home) × (most ≤ 0)) ⊎ ((a : AreTidiedFiles visible (record s { names = m.names }) t) × (most ≤ 0 + 2 + length a.olds))) → freed_in visible s t (by most f) ≡ freed_in visible (record s { names = m.names }) t f
      alike most (inl x) = refl
      alike most (inr x) = refl

      dropped : (m.names ≡ s.names) ⊎ AreCommitted visible s.names m.names → m.names.dropped ≡ s.names.dropped
      dropped (inl e) = ap (λ (c : NamesCell). c.dropped) e
      dropped (inr e) = ap (λ (c : NamesCell). c.dropped) e.is

      go : IsTidied 0 visible mid has (record s { names = m.names }) t → IsTidied 1 visible had has s t
      go d = record {
        names = tidied_behind visible s.names m.names t.names done d.names;
        most = 1 + d.most;
        files = by d.most d.files;
        free = free_then had mid has s (record s { names = m.names }) t (freed_in visible (record s { names = m.names }) t d.files) (freed_in visible s t (by d.most d.files)) telling (alike d.most d.files) (free_names had mid s m.names (dropped done) free) d.free;
        telling = d.telling ∙ telling;
        fault = d.fault;
        stop = stops_twice had mid has d.fault telling stop d.stop;
        ran = runs_twice had mid has d.fault 1 1 d.most d.most telling ran d.ran;
      }

  -- their commit failed
  pub names_failed : (had has : Option View) (s t : StockState) (fault : Option ℕ) → t ≡ s → AreTold had has (λ a b. b ≡ a) → is_some has ≡ is_some had → StopsByFault had has fault → Runs had has fault 1 1 → IsTidied 1 visible had has s t
  names_failed had has s t fault same free telling stop ran = record {
    names = record { between = s.names; committed = inl refl; back = inl (ap (λ (x : StockState). x.names) same) };
    most = 1;
    files = inl (ap (λ (x : StockState). x.home) same, omega arith);
    free = free_first had has s s t same (free_names had has s s.names refl free);
    telling = telling;
    fault = fault;
    stop = stop;
    ran = ran;
  }

  -- all files were lent for it
  pub files_tidied : (had has : Option View) (old new : NamesCell) (pool : BlockSet) (h g k : HomeState) (olds nows : List FileCell) → AreLent h.places g.places olds → AreAllLive old.value olds → g ≡ record h { places = g.places } → k ≡ record g { places = put_all g.places nows }
      → AreAllTidied visible had has old new olds nows → IsTidied 0 visible had has (stock_of old h pool) (stock_of new k pool)
  files_tidied had has old new pool h g k olds nows lent all away back a = record {
    names = a.names;
    most = 2 + length olds;
    files = inr (
      record {
        olds = olds;
        nows = nows;
        lent = g.places;
        here = lent;
        all = all;
        done = a.done;
        synced = a.synced;
        numbers = a.numbers;
        home = back ∙ ap (λ (x : HomeState). record x { places = put_all g.places nows }) away;
      },
      omega arith,
    );
    free = free_files had has old new h k pool (freed_by a.done olds set.empty) a.free;
    telling = a.telling;
    fault = a.fault;
    stop = a.stop;
    ran = a.ran;
  }

-- ---- all is committed, and a checkpoint made

-- a file that is committed has nothing to commit
all_committed : (visible : Bool) (olds nows : List FileCell) → AreSynced visible olds nows (length olds) → (c : FileCell) → Has c nows → c.value.log.committed ≡ c.value.log.noted
all_committed visible [] [] s c has = absurd has
all_committed visible [] (now ∷ nows) s c has = absurd s
all_committed visible (was ∷ olds) [] s c has = absurd s
all_committed visible (was ∷ olds) (now ∷ nows) s c (inl is) =
    let done = s.0 in
    ap (λ (x : FileCell). x.value.log.committed) is ∙ ap (λ (v : DurableState). v.log.committed) done.value ∙ sym (ap (λ (v : DurableState). v.log.noted) done.value) ∙ sym (ap (λ (x : FileCell). x.value.log.noted) is)
all_committed visible (was ∷ olds) (now ∷ nows) s c (inr has) = all_committed visible olds nows s.1 c has

has_under : (cs : List FileCell) (c : FileCell) → Has c cs → Has (c.value.file.file, c) (under_numbers cs)
has_under [] c has = absurd has
has_under (x ∷ cs) c (inl is) = inl (ap (λ (y : FileCell). (y.value.file.file, y)) is)
has_under (x ∷ cs) c (inr has) = inr (has_under cs c has)

own_number : (cs : List FileCell) (n : ℕ) (c : FileCell) → Has (n, c) (under_numbers cs) → c.value.file.file ≡ n
own_number [] n c has = absurd has
own_number (x ∷ cs) n c (inl is) = ap (λ (p : ℕ × FileCell). p.1.value.file.file) is ∙ sym (ap (λ (p : ℕ × FileCell). p.0) is)
own_number (x ∷ cs) n c (inr has) = own_number cs n c has

numbered_once : (names : NamesPart) (cs : List FileCell) → AreAllLive names cs → AreNumberedOnce (under_numbers cs)
numbered_once names cs all = record { once = all.once; number = own_number cs }

under_live : (names : NamesPart) (cs : List FileCell) → AreAllLive names cs → (file : ℕ) → IsSome (fin.get names.held file) → (c : FileCell) × Has (file, c) (under_numbers cs)
under_live names cs all file live =
    let found = all.live file live in
    (found.0, subst (λ (n : ℕ). Has (n, found.0) (under_numbers cs)) found.2 (has_under cs found.0 found.1))

-- Behind such commits the checkpoint may give back what was dropped.
pub may_reclaim : (visible : Bool) (old new : NamesCell) (olds nows : List FileCell) → AreAllLive old.value olds → AreCommitted visible old new → AreSynced visible olds nows (length olds) → MayReclaim new nows
may_reclaim visible old new olds nows all done synced =
    let live = still_live visible new.value olds nows (length olds) synced (live_still new.value old.value olds (sym (ap (λ (c : NamesCell). c.value.held) done.is)) all) in
    record {
      once = numbered_once new.value nows live;
      live = under_live new.value nows live;
      committed = all_committed visible olds nows synced;
      noted = ap (λ (c : NamesCell). c.value.tree.noted) done.is;
      fresh = ap (λ (c : NamesCell). c.fresh) done.is;
    }

one_most : (b : Bool) → one b ≤ 1
one_most true = omega arith
one_most false = omega arith

-- its hand has a pool, whose number no file has
pub apart_from : (v : View) (n : ℕ) (pool : BlockSet) (cs : List FileCell) → v.files ≡ [] → v.pools ≡ (n, pool) ∷ [] → count eqb n (under_numbers cs) ≡ 0 → ((file : ℕ) → count eqb file (under_numbers cs) ≤ 1) → AreApartFrom v cs
apart_from v n pool cs files pools none once k =
    subst (λ (p : List (ℕ × FileCell) × List (ℕ × BlockSet)). count eqb k (p.0 ++ under_numbers cs) + count eqb k p.1 ≤ 1) (λ i. (sym files i, sym pools i)) (by (one_or_other n k))
  where
    by : (k ≡ n) ⊎ (k ≢ n) → count eqb k (under_numbers cs) + (one (eqb k n) + 0) ≤ 1
    by (inl e) =
        let away : count eqb k (under_numbers cs) ≡ 0 = ap (λ (m : ℕ). count eqb m (under_numbers cs)) e ∙ none in
        let l = one_most (eqb k n) in
        omega (arith, away, l)
    by (inr other) =
        let off : one (eqb k n) ≡ 0 = ap one (ne_eqb k n other) in
        let l = once k in
        omega (arith, off, l)

module _ (visible : Bool) (had mid has : Option View) (old new : NamesCell) (olds nows : List FileCell) where
  pub short_tidied : (fault : Option ℕ) → StopsShort visible old new olds nows had has → is_some has ≡ is_some had → StopsByFault had has fault → Runs had has fault (1 + length olds) (1 + length olds) → AreAllTidied visible had has old new olds nows
  short_tidied fault (AtNames same files free) telling stop ran = record {
    names = record { between = old; committed = inl refl; back = inl same };
    done = 0;
    synced = subst (λ (cs : List FileCell). AreSynced visible olds cs 0) (sym files) (none_synced visible olds);
    numbers = ap numbers_in files;
    free = free_freed had has old.dropped new.dropped 0 olds (ap (λ (c : NamesCell). c.dropped) same) free;
    telling = telling;
    fault = fault;
    stop = stop;
    ran = runs_more had has fault (1 + length olds) (1 + length olds) (2 + length olds) (2 + length olds) (omega arith) (omega arith) ran;
  }
  short_tidied fault (AtFile done k less synced freed) telling stop ran = record {
    names = record { between = new; committed = inr done; back = inl refl };
    done = k;
    synced = synced;
    numbers = synced_numbers visible olds nows k synced;
    free = free_freed had has old.dropped new.dropped k olds (ap (λ (c : NamesCell). c.dropped) done.is) freed;
    telling = telling;
    fault = fault;
    stop = stop;
    ran = runs_more had has fault (1 + length olds) (1 + length olds) (2 + length olds) (2 + length olds) (omega arith) (omega arith) ran;
  }

  -- all were committed, and the checkpoint was tried
  pub all_tidied : (last : NamesCell) (r : Result (Unit {0}) StoreFault) → AreCommitted visible old new → AreSynced visible olds nows (length olds) → AreTold had mid (λ a b. b ≡ freed_by (length olds) olds a) → OnOk r (IsReclaimed new last) → OnErr r (last ≡ new) → OnOk r (AreTold mid has (λ a b. b ≡ set.union a new.dropped)) → OnErr r (AreTold mid has (λ a b. b ≡ a))
      → is_some mid ≡ is_some had → is_some has ≡ is_some mid → StopsByFault had mid None → Runs had mid None (1 + length olds) (1 + length olds) → StopsByFault mid has (fault_in r) → Runs mid has (fault_in r) 1 0 → AreAllTidied visible had has old last olds nows
  all_tidied last r done synced freed ok err came kept telling then stop ran stops runs = record {
    names = record { between = new; committed = inr done; back = back r ok err };
    done = length olds;
    synced = synced;
    numbers = synced_numbers visible olds nows (length olds) synced;
    free = free r ok err came kept;
    telling = then ∙ telling;
    fault = fault_in r;
    stop = stops_twice had mid has (fault_in r) telling stop stops;
    ran = runs_more had has (fault_in r) ((1 + length olds) + 1) ((1 + length olds) + 0) (2 + length olds) (2 + length olds) (omega arith) (omega arith)
        (runs_twice had mid has (fault_in r) (1 + length olds) (1 + length olds) 1 0 telling ran runs);
  }
    where
      back : (q : Result (Unit {0}) StoreFault) → OnOk q (IsReclaimed new last) → OnErr q (last ≡ new) → (last ≡ new) ⊎ IsReclaimed new last
      back (Ok x) ok err = inr ok
      back (Err e) ok err = inl err

      same : new.dropped ≡ old.dropped
      same = ap (λ (c : NamesCell). c.dropped) done.is

      free : (q : Result (Unit {0}) StoreFault) → OnOk q (IsReclaimed new last) → OnErr q (last ≡ new) → OnOk q (AreTold mid has (λ a b. b ≡ set.union a new.dropped)) → OnErr q (AreTold mid has (λ a b. b ≡ a))
          → AreTold had has (λ a b. free_with b last ≡ set.union (free_with a old) (freed_by (length olds) olds set.empty))
      free (Ok x) ok err came kept = free_back had mid has old.dropped new.dropped last.dropped (length olds) olds telling same (ap (λ (c : NamesCell). c.dropped) ok) freed came
      free (Err e) ok err came kept = free_kept had mid has old.dropped new.dropped last.dropped (length olds) olds telling same (ap (λ (c : NamesCell). c.dropped) err) freed kept
