-- Everything is committed, and the image is made clean.
use Rattle.std.proofs.Common.{◌≡◌, inl, inr, ℕ, zero, suc, ◌+◌, ◌≤◌, Bool, true, false, eqb, length, List, [], ◌∷◌, is_some, Option, Some, None, Result, Ok, Err, ap, sym, refl, ◌∙◌, subst, arith}
use Rattle.std.specs.Prelude.{◌↔◌, IfErr, OnErr, OnOk, is_ok}
use Rattle.std.specs.FinMap as fin
use Rattle.ufs_base.specs.Images.{Image}
use Rattle.ufs_disk.specs.Disk.{Leaves}
use Rattle.ufs_disk.specs.Moments.{LeavesOnly, Moments}
use Rattle.ufs_disk.proofs.Runs.{weaker}
use Rattle.ufs_brink.specs.Closes.{OpensAsLeft, closing_fault, stopped_at}
use Rattle.ufs_brink.specs.declared.closing.CloseFault.{CloseFault}
use Rattle.ufs_brink.specs.declared.closing.CloseFault.TheVariants as cause
use Rattle.ufs_held.specs.Together.{under_numbers}
use Rattle.ufs_held_names.specs.HeldNames.{AreCommitted}
use Rattle.ufs_held_names.specs.SyncAll.{AreSynced, AtFile, AtNames, IsFileKept, StopsShort}
use Rattle.ufs_image.specs.Proper.{IsProperImage}
use Rattle.ufs_joint.specs.Cells.{FileCell, NamesCell, Start, View}
use Rattle.ufs_joint.specs.NamesTurns.{live_files}
use Rattle.ufs_promise_laws.specs.Last.{StandsForTree}
use Rattle.ufs_model.specs.History.{tree_after}
use Rattle.ufs_model.specs.declared.data.Entry.{Entry}
use Rattle.ufs_hand_laws.specs.Owned.{Has, count, one}
use Rattle.ufs_store.specs.Refusals.{IsTold, fault_in, is_no_space, stop_after}
use Rattle.ufs_store.specs.State.{StoreState}
use Rattle.ufs_store.specs.declared.fault.StoreFault.{StoreFault}
use Rattle.ufs_store.specs.declared.fault.StoreFault.TheVariants as refusal
use Rattle.ufs_promise_laws.specs.OnDisk.{IsExplainedBetween, IsExplainedImage}
use Rattle.ufs_turns.specs.HeldStore.{IsHeldStore}
use Rattle.ufs_turns.specs.Lent.{IsBare, IsBeside, stop_in}
use Rattle.ufs_gathered.specs.Ended.{AreAllKnown, HasEnded}
use Rattle.ufs_gathered.specs.Finished.{EndsBehind, EndsBy}
use Rattle.ufs_gathered.specs.Gathered.{AreAllBack, HasPoolsAlone}

-- ---- the hand that is lent to the commits

pub lends_bare : (pools : View) → HasPoolsAlone pools → IsBare pools
lends_bare pools alone = record { files = alone.files; names = alone.names; away = alone.store }

pub alone_again : (pools back : View) → HasPoolsAlone pools → IsBare back → IsBeside pools back → HasPoolsAlone back
alone_again pools back alone bare beside = record { clients = beside.clients ∙ alone.clients; files = bare.files; names = bare.names; store = bare.away }

-- ---- commits leave who is there

kept_number : (was now : FileCell) → IsFileKept was now → now.value.file.file ≡ was.value.file.file
kept_number was now (inl is) = ap (λ (c : FileCell). c.value.file.file) is
kept_number was now (inr is) = ap (λ (c : FileCell). c.value.file.file) is

numbers_stay : (visible : Bool) (olds nows : List FileCell) (k : ℕ) → AreSynced visible olds nows k → (file : ℕ) → count eqb file (under_numbers nows) ≡ count eqb file (under_numbers olds)
numbers_stay visible [] [] k s file = refl
numbers_stay visible [] (now ∷ nows) k s file = absurd s
numbers_stay visible (was ∷ olds) [] k s file = absurd s
numbers_stay visible (was ∷ olds) (now ∷ nows) zero s file = (λ i. one (eqb file (kept_number was now s.0 i)) + numbers_stay visible olds nows zero s.1 file i)
numbers_stay visible (was ∷ olds) (now ∷ nows) (suc k) s file = (λ i. one (eqb file (s.0.value i).file.file) + numbers_stay visible olds nows k s.1 file i)

-- whichever way they went
pub numbers_by : (visible : Bool) (r : Result (Unit {0}) StoreFault) (old new : NamesCell) (olds nows : List FileCell) (k : ℕ) (tells told : Option View) → OnOk r (AreSynced visible olds nows k) → OnErr r (StopsShort visible old new olds nows tells told)
    → (file : ℕ) → count eqb file (under_numbers nows) ≡ count eqb file (under_numbers olds)
numbers_by visible (Ok x) old new olds nows k tells told ok err file = numbers_stay visible olds nows k ok file
numbers_by visible (Err e) old new olds nows k tells told ok err file = by err
  where
    by : StopsShort visible old new olds nows tells told → count eqb file (under_numbers nows) ≡ count eqb file (under_numbers olds)
    by (AtNames same files free) = ap (λ (cs : List FileCell). count eqb file (under_numbers cs)) files
    by (AtFile committed n less synced freed) = numbers_stay visible olds nows n synced file

pub held_by : (visible : Bool) (r : Result (Unit {0}) StoreFault) (old new : NamesCell) (olds nows : List FileCell) (tells told : Option View) → OnOk r (AreCommitted visible old new) → OnErr r (StopsShort visible old new olds nows tells told) → new.value.held ≡ old.value.held
held_by visible (Ok x) old new olds nows tells told ok err = ap (λ (c : NamesCell). c.value.held) ok.is
held_by visible (Err e) old new olds nows tells told ok err = by err
  where
    by : StopsShort visible old new olds nows tells told → new.value.held ≡ old.value.held
    by (AtNames same files free) = ap (λ (c : NamesCell). c.value.held) same
    by (AtFile committed n less synced freed) = ap (λ (c : NamesCell). c.value.held) committed.is

pub back_then : (k : Start) (old new : NamesCell) (olds nows : List FileCell) (had has : View) (clients : List View) → AreAllBack k old olds had clients → new.value.held ≡ old.value.held
    → ((file : ℕ) → count eqb file (under_numbers nows) ≡ count eqb file (under_numbers olds)) → has.pools ≡ had.pools → AreAllBack k new nows has clients
back_then k old new olds nows had has clients back held numbers pools = record {
  clients_back = back.clients_back;
  pools_back = λ n.
      let there = back.pools_back n in
      let same = ap (count eqb n) pools in
      omega (arith, there, same);
  files_back = λ file live.
      let there = back.files_back file (ap (λ m. is_some (fin.get m file)) (sym held) ∙ live) in
      let same = numbers file in
      omega (arith, there, same);
}

-- ---- all of it is known then

synced_known : (visible : Bool) (olds nows : List FileCell) (k : ℕ) → length olds ≤ k → AreSynced visible olds nows k → visible ≡ true → (c : FileCell) → Has c nows → c.changed ≤ c.known
synced_known visible [] [] k all s seen c has = absurd has
synced_known visible [] (now ∷ nows) k all s seen c has = absurd s
synced_known visible (was ∷ olds) [] k all s seen c has = absurd s
synced_known visible (was ∷ olds) (now ∷ nows) zero all s seen c has = absurd (omega (arith, all))
synced_known visible (was ∷ olds) (now ∷ nows) (suc k) all s seen c (inl is) = subst (λ (x : FileCell). x.changed ≤ x.known) (sym is) (s.0.known seen)
synced_known visible (was ∷ olds) (now ∷ nows) (suc k) all s seen c (inr has) = synced_known visible olds nows k (omega (arith, all)) s.1 seen c has

names_known : (visible : Bool) (old new : NamesCell) → AreCommitted visible old new → visible ≡ true → new.changed ≤ new.known
names_known visible old new done seen = let same = ap (λ (c : NamesCell). c.changed) done.is in let all = done.all seen in omega (arith, same, all)

pub known_by : (visible : Bool) (r : Result (Unit {0}) StoreFault) (old new : NamesCell) (olds nows : List FileCell) → OnOk r (AreCommitted visible old new) → OnOk r (AreSynced visible olds nows (length olds)) → OnOk r (visible ≡ true → AreAllKnown new nows)
known_by visible (Err e) old new olds nows names files = tt
known_by visible (Ok x) old new olds nows names files = λ seen. record {
  names_known = names_known visible old new names seen;
  named = ap (λ (c : NamesCell). c.named) names.is ∙ ap (λ (c : NamesCell). live_files c.value) (sym names.is);
  files_known = λ c has. synced_known visible olds nows (length olds) (omega arith) files seen c has;
}

-- ---- how it ends

pub stop_is : (k : Start) (origin : Moments) (visible keeps : Bool) (v : View) (s : StoreState) → IsHeldStore k origin visible keeps v s → stop_in v.store ≡ s.stop
stop_is k origin visible keeps v s home = ap stop_in home.store.has

-- where everything was committed
pub of_done : {P : Type 0} (done : Result (Unit {0}) StoreFault) → is_ok done ≡ true → OnOk done P → P
of_done (Ok x) ok p = p
of_done (Err e) ok p = (let no : false ≡ true = ok in absurd cc)

-- The store had stopped there before the commits, if it had; who is told that it has stopped is told where; and no commit asks for blocks.
pub record IsOfCommits (was : Option ℕ) (done : Result (Unit {0}) StoreFault) : Type 0 where
  pub halted : (fault : ℕ) → was ≡ Some fault → done ≡ Err (refusal.Stopped fault)
  pub stopped : (fault : ℕ) → done ≡ Err (refusal.Stopped fault) → stop_after was (fault_in done) ≡ Some fault
  pub refused : IfErr done (λ fault. is_no_space fault ≡ false)

pub of_commits : (was : Option ℕ) (done : Result (Unit {0}) StoreFault) (stop : Option ℕ) → stop ≡ stop_after was (fault_in done) → ((fault : ℕ) → was ≡ Some fault → done ≡ Err (refusal.Stopped fault))
    → ((fault : ℕ) → done ≡ Err (refusal.Stopped fault) → stop ≡ Some fault) → IfErr done (λ fault. is_no_space fault ≡ false) → IsOfCommits was done
of_commits was done stop halts halted stopped refused = record { halted = halted; stopped = λ fault is. sym halts ∙ stopped fault is; refused = refused }

module _ (before now : ℕ) where
  pub ends_by : (was : Option ℕ) (done : Result (Unit {0}) StoreFault) (ended : Result (Unit {0}) CloseFault) → IsOfCommits was done → EndsBehind done before now ended → EndsBy (is_ok done) (stop_after was (fault_in done)) before now ended
  ends_by None (Ok x) (Ok y) of ends = (refl, refl, ends.0)
  ends_by None (Ok x) (Err (cause.Device fault)) of ends = inr (refl, refl, ends.0)
  ends_by None (Ok x) (Err (cause.Stopped fault)) of ends = (let none : Some fault ≡ None = ends.1 in absurd cc)
  ends_by None (Ok x) (Err (cause.Lack why)) of ends = (refl, ends.0)
  ends_by None (Err (refusal.Device fault)) ended of ends = subst (EndsBy false (Some fault) before now) (sym ends.1) (inl (refl, refl, ends.0))
  ends_by None (Err (refusal.Stopped fault)) ended of ends = (let none : None ≡ Some fault = of.stopped fault refl in absurd cc)
  ends_by None (Err (refusal.NoSpace need had)) ended of ends = (let no : true ≡ false = of.refused in absurd cc)
  ends_by None (Err (refusal.Lack why)) ended of ends = subst (EndsBy false None before now) (sym ends.1) (refl, ends.0)
  ends_by (Some n) (Ok x) ended of ends = (let stopped : ◌≡◌ {A = Result (Unit {0}) StoreFault} (Ok x) (Err (refusal.Stopped n)) = of.halted n refl in absurd cc)
  ends_by (Some n) (Err (refusal.Device fault)) ended of ends = (let stopped : ◌≡◌ {A = Result (Unit {0}) StoreFault} (Err (refusal.Device fault)) (Err (refusal.Stopped n)) = of.halted n refl in absurd cc)
  ends_by (Some n) (Err (refusal.Stopped fault)) ended of ends = subst (EndsBy false (Some n) before now) (sym ends.1) (refl, of.stopped fault refl, ends.0)
  ends_by (Some n) (Err (refusal.NoSpace need had)) ended of ends = (let no : true ≡ false = of.refused in absurd cc)
  ends_by (Some n) (Err (refusal.Lack why)) ended of ends = (let stopped : ◌≡◌ {A = Result (Unit {0}) StoreFault} (Err (refusal.Lack why)) (Err (refusal.Stopped n)) = of.halted n refl in absurd cc)

  -- the count goes on by what the whole end tells
  pub told_by : (from : ℕ) (done : Result (Unit {0}) StoreFault) (ended : Result (Unit {0}) CloseFault) → IsTold from before (fault_in done) → IfErr done (λ fault. is_no_space fault ≡ false) → EndsBehind done before now ended → IsTold from now (closing_fault ended)
  told_by from (Ok x) ended first of ends = subst (λ (n : ℕ). IsTold n now (closing_fault ended)) first ends.0
  told_by from (Err (refusal.Device fault)) ended first of ends = subst (λ (r : Result (Unit {0}) CloseFault). IsTold from now (closing_fault r)) (sym ends.1) (subst (λ (n : ℕ). IsTold from n (Some fault)) (sym ends.0) first)
  told_by from (Err (refusal.Stopped fault)) ended first of ends = subst (λ (r : Result (Unit {0}) CloseFault). IsTold from now (closing_fault r)) (sym ends.1) (ends.0 ∙ first)
  told_by from (Err (refusal.NoSpace need had)) ended first of ends = (let no : true ≡ false = of in absurd cc)
  told_by from (Err (refusal.Lack why)) ended first of ends = subst (λ (r : Result (Unit {0}) CloseFault). IsTold from now (closing_fault r)) (sym ends.1) (ends.0 ∙ first)

  none_told : (ended : Result (Unit {0}) CloseFault) (x : CloseFault) (fault : ℕ) → stopped_at x ≡ None → ended ≡ Err x → ended ≡ Err (cause.Stopped fault) → ⊥
  none_told ended x fault none is e =
      let same : ◌≡◌ {A = Result (Unit {0}) CloseFault} (Err x) (Err (cause.Stopped fault)) = sym is ∙ e in
      let n : Some fault ≡ None = subst (λ (r : Result (Unit {0}) CloseFault). IfErr r (λ f. stopped_at f ≡ None)) same none in
      cc

  -- it tells so, and only then
  pub tells_stop : (was : Option ℕ) (done : Result (Unit {0}) StoreFault) (ended : Result (Unit {0}) CloseFault) → IsOfCommits was done → EndsBehind done before now ended → (fault : ℕ) → (ended ≡ Err (cause.Stopped fault)) ↔ (was ≡ Some fault)
  tells_stop None (Ok x) ended of ends fault = (
    λ e. let n : Some fault ≡ None = subst (λ (r : Result (Unit {0}) CloseFault). IfErr r (λ f. stopped_at f ≡ None)) e ends.1 in absurd cc,
    λ e. let n : None ≡ Some fault = e in absurd cc,
  )
  tells_stop None (Err (refusal.Device d)) ended of ends fault = (λ e. absurd (none_told ended _ fault refl ends.1 e), λ e. let n : None ≡ Some fault = e in absurd cc)
  tells_stop None (Err (refusal.Stopped d)) ended of ends fault = (let none : None ≡ Some d = of.stopped d refl in absurd cc)
  tells_stop None (Err (refusal.NoSpace need had)) ended of ends fault = (let no : true ≡ false = of.refused in absurd cc)
  tells_stop None (Err (refusal.Lack why)) ended of ends fault = (λ e. absurd (none_told ended _ fault refl ends.1 e), λ e. let n : None ≡ Some fault = e in absurd cc)
  tells_stop (Some n) (Ok x) ended of ends fault = (let stopped : ◌≡◌ {A = Result (Unit {0}) StoreFault} (Ok x) (Err (refusal.Stopped n)) = of.halted n refl in absurd cc)
  tells_stop (Some n) (Err (refusal.Device d)) ended of ends fault = (let stopped : ◌≡◌ {A = Result (Unit {0}) StoreFault} (Err (refusal.Device d)) (Err (refusal.Stopped n)) = of.halted n refl in absurd cc)
  tells_stop (Some n) (Err (refusal.Stopped d)) ended of ends fault = (
    λ e. let same : ◌≡◌ {A = Result (Unit {0}) CloseFault} (Err (cause.Stopped d)) (Err (cause.Stopped fault)) = sym ends.1 ∙ e in let at : Some n ≡ Some d = of.stopped d refl in cc,
    λ e. let same : Some d ≡ Some fault = sym (of.stopped d refl) ∙ e in let is : d ≡ fault = cc in ends.1 ∙ ap (λ (m : ℕ). Err (cause.Stopped m)) is,
  )
  tells_stop (Some n) (Err (refusal.NoSpace need had)) ended of ends fault = (let no : true ≡ false = of.refused in absurd cc)
  tells_stop (Some n) (Err (refusal.Lack why)) ended of ends fault = (let stopped : ◌≡◌ {A = Result (Unit {0}) StoreFault} (Err (refusal.Lack why)) (Err (refusal.Stopped n)) = of.halted n refl in absurd cc)

-- a store that committed everything goes on
pub going_on : (was : Option ℕ) (done : Result (Unit {0}) StoreFault) → ((fault : ℕ) → was ≡ Some fault → done ≡ Err (refusal.Stopped fault)) → is_ok done ≡ true → stop_after was (fault_in done) ≡ None
going_on None (Ok x) halted ok = refl
going_on (Some n) (Ok x) halted ok = (let stopped : ◌≡◌ {A = Result (Unit {0}) StoreFault} (Ok x) (Err (refusal.Stopped n)) = halted n refl in absurd cc)
going_on was (Err e) halted ok = (let no : false ≡ true = ok in absurd cc)

-- ---- the disk

module _ (k : Start) (origin : Moments) (keeps : Bool) (tickets : ℕ) (lists : List (List Entry)) (names : NamesCell) (files : List FileCell) (s : StoreState) (session : HasEnded k origin keeps tickets lists names files s) (seen : k.is_visible ≡ true) (now : Moments)
    (cleans : Leaves (IsProperImage s.sectors) s.moments.state → LeavesOnly keeps (OpensAsLeft s.sectors s.moments.state) s.moments now) where
  pub proper : Leaves (IsProperImage s.sectors) s.moments.state
  proper image left = (session.crash seen image left).proper

  left_explained : (image : Image) → OpensAsLeft s.sectors s.moments.state image → IsExplainedImage s.sectors session.start session.history image
  left_explained image a =
      let e = (session.crash seen a.other a.left).explained in
      record {
        explained = record { tree = e.tree; opened = a.alike.tree ∙ e.opened; explained = e.explained };
        proper = a.alike.proper (proper a.other a.left);
      }

  pub explained_on : IsExplainedBetween keeps s.sectors session.start session.history s.moments now
  explained_on = weaker keeps (OpensAsLeft s.sectors s.moments.state) (IsExplainedImage s.sectors session.start session.history) left_explained s.moments now (cleans proper)

  pub stands_last : s.stop ≡ None → AreAllKnown names files → Leaves (StandsForTree s.sectors (tree_after session.start session.history)) now.state
  stands_last going known image left =
      let a = (cleans proper).after image left in
      let l = session.last seen going known a.other a.left in
      record { tree = l.tree; opened = a.alike.tree ∙ l.opened; contents = l.contents }
