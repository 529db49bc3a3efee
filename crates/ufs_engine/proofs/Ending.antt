-- A session that was played and has ended, as `play` tells it.
use Rattle.std.proofs.Common.{◌≡◌, ◌∙◌, ◌-◌, ℕ, suc, Bool, true, false, List, [], ◌∷◌, length, Some, Result, Ok, Err, IsOk, refl, sym, ap, subst}
use Rattle.std.specs.Prelude.{IfOk, IsTrue, OnOk, ◌↔◌}
use Rattle.std.specs.FinMap as map
use Rattle.ufs_base.specs.declared.memory.Memory.{Memory}
use Rattle.ufs_brink.specs.Begins.{HasNothingOpen}
use Rattle.ufs_brink.specs.Closes.{closing_fault}
use Rattle.ufs_brink.specs.Numbers.{ClosesFrom, RaisesNumbers}
use Rattle.ufs_brink.specs.declared.closing.CloseFault.{CloseFault}
use Rattle.ufs_brink.specs.declared.closing.CloseFault.TheVariants as cause
use Rattle.ufs_brink.proofs.Numbers.{raises_numbers}
use Rattle.ufs_client.specs.Own.{AreServedFrom}
use Rattle.ufs_disk.specs.Disk.{Leaves}
use Rattle.ufs_disk.specs.Moments.{Moments, all, reads}
use Rattle.ufs_disk.proofs.Images.{seen_is_image}
use Rattle.ufs_rounds.specs.OfGathered.{AnswerAll}
use Rattle.ufs_rounds.specs.OfGathered.{EndsBy, HasFinished}
use Rattle.ufs_joint.specs.Cells.{Start}
use Rattle.ufs_joint.specs.FirstHand.{Beginning, each_of, pool_of, start_first}
use Rattle.ufs_joint.specs.Ready.{IsReady}
use Rattle.ufs_joint.specs.Whole.{no_blocks}
use Rattle.ufs_model.specs.History.{IsComplete, IsInOrder, joined, tree_after}
use Rattle.ufs_model.specs.PosixTree.{PosixTree}
use Rattle.ufs_model.specs.declared.data.Entry.{Entry}
use Rattle.ufs_model.specs.declared.data.Op.{Op}
use Rattle.ufs_msg.specs.There.{worker_count}
use Rattle.ufs_promise_laws.specs.Last.{StandsForTree}
use Rattle.ufs_promise_laws.specs.OnDisk.{IsExplainedImage}
use Rattle.ufs_recovery.specs.Recovered.{IsCleanDisk}
use Rattle.ufs_store.specs.Refusals.{IsTold}
use Rattle.ufs_store.specs.State.{StoreState}
use Rattle.ufs_store_steps.specs.Cells.{cells_of}
use Rattle.ufs_told.specs.Sizes.{total_size}
use Rattle.ufs_told.specs.Throughout.{IsExplainedThroughout}
use Rattle.ufs_told.specs.Told.{AreFaultsTold}
use Rattle.ufs_told.proofs.ThroughoutLemmas.{throughout_before}
use Rattle.ufs_rounds.specs.OfTurns.{counted_in, sectors_in, state_in}
use Rattle.ufs_engine.specs.Played.{IsPlayedOn}
use Rattle.ufs_engine.specs.Plays.{AreFaultsOf, IsEndFault, IsStampedThroughout, served_end}
use Rattle.ufs_engine.specs.Served.{IsPlayedFrom}
use Rattle.ufs_engine.specs.declared.playing.PlayFault.{PlayFault}
use Rattle.ufs_engine.specs.declared.playing.PlayFault.TheVariants as ending
use Rattle.ufs_engine.proofs.Along.{kept_stamped, kept_throughout, unkept_throughout}
use Rattle.ufs_engine.proofs.EndLemmas.{both_ok, bytes_told, end_fault, faults_of}

-- What is known of a session that was played without a schedule, and has ended: by the store as it began, and the store before the end.
pub record HasRun (k : Start) (keeps : Bool) (scripts : List (List Op)) (opened : StoreState) (tickets : ℕ) (lists : List (List Entry)) (bytes : Result ℕ Memory) (sectors faults : ℕ) (now : Moments) (closed : Result (Unit {0}) CloseFault) : Type 0 where
  pub finished : HasFinished k opened.moments keeps tickets lists bytes sectors faults now closed
  pub each : length lists ≡ length scripts
  pub answered : AnswerAll scripts lists
  pub served : AreServedFrom finished.session.start finished.session.history
  pub ordered : IsInOrder scripts finished.session.history
  pub complete : IsComplete scripts finished.session.history
  pub one_by_one : finished.session.history ≡ joined lists
  pub before : StoreState
  pub told : AreFaultsTold opened before finished.session.history
  pub counted : IsTold before.faults faults (closing_fault closed)
  pub stopped : (fault : ℕ) → (closed ≡ Err (cause.Stopped fault)) ↔ (before.stop ≡ Some fault)
  pub raised : k.is_visible ≡ true → OnOk closed (ClosesFrom before (reads now))

-- How it ended as a whole: by how it was closed, where its files were counted.
pub record IsWholeEnd (closed : Result (Unit {0}) CloseFault) (bytes : Result ℕ Memory) (ended : Result (Unit {0}) PlayFault) (total : ℕ) : Type 0 where
  pub closed_well : OnOk ended (IsOk closed)
  pub device : (fault : ℕ) → ended ≡ Err (ending.Device fault) → closed ≡ Err (cause.Device fault)
  pub stopped : (fault : ℕ) → ended ≡ Err (ending.Stopped fault) → closed ≡ Err (cause.Stopped fault)
  pub measured : OnOk (served_end ended) (IsOk bytes)
  pub counts : IfOk bytes (λ n. total ≡ n)

-- no server but the primary
pub no_worker : (k : Start) (b : Beginning) (s : StoreState) → k ≡ start_first b s → b.workers ≡ 0 → worker_count k ≡ 0
no_worker k b s from none = ap worker_count from ∙ ap (λ (n : ℕ). length (each_of pool_of no_blocks (suc n)) - 1) none

module _ (k : Start) (keeps : Bool) (scripts : List (List Op)) (opened : StoreState) (tickets : ℕ) (lists : List (List Entry)) (bytes : Result ℕ Memory) (sectors faults : ℕ) (now : Moments) (closed : Result (Unit {0}) CloseFault)
    (r : HasRun k keeps scripts opened tickets lists bytes sectors faults now closed) (b : Beginning) (from : k ≡ start_first b opened) (ready : IsReady b opened)
    (begins : k.is_visible ≡ true → Leaves (IsExplainedImage opened.sectors k.tree []) opened.moments.state) where
  abbrev start : PosixTree
  start = r.finished.session.start

  abbrev history : List Entry
  history = r.finished.session.history

  abbrev last : StoreState
  last = r.finished.store

  nothing_open : HasNothingOpen start
  nothing_open client fd = ap (λ fds. map.get fds (client, fd)) (r.finished.session.begun.alike.fds ∙ ap (λ (x : Start). x.tree.fds) from) ∙ ready.closed client fd

  as_large : last.sectors ≡ opened.sectors
  as_large = r.finished.session.size ∙ ap (λ (x : Start). sectors_in x.view.store) from

  counted_first : counted_in k.view.store ≡ length (all opened.moments)
  counted_first = ap (λ (x : Start). counted_in x.view.store) from

  first_state : state_in k.view.store ≡ cells_of last.sectors opened.moments.state ∷ []
  first_state = ap (λ (x : Start). state_in x.view.store) from ∙ ap (λ (n : ℕ). cells_of n opened.moments.state ∷ []) (sym as_large)

  -- ---- over a visible disk

  module _ (sees : k.is_visible ≡ true) where
    begins_there : Leaves (IsExplainedImage last.sectors start []) opened.moments.state
    begins_there = subst (λ (x : ℕ × PosixTree). Leaves (IsExplainedImage x.0 x.1 []) opened.moments.state) (λ i. (sym as_large i, sym (r.finished.session.begun.seen sees) i)) (begins sees)

    served_through : IsExplainedThroughout keeps last.sectors start [] history opened.moments last.moments
    served_through = by keeps refl
      where
        by : (q : Bool) → keeps ≡ q → IsExplainedThroughout keeps last.sectors start [] history opened.moments last.moments
        by true kept = kept_throughout k opened.moments keeps tickets lists r.finished.names r.finished.files last r.finished.session sees counted_first first_state kept
        by false unkept =
            let noted = r.finished.session.noted sees in
            unkept_throughout last.sectors start keeps history (λ kept. let no : false ≡ true = sym unkept ∙ kept in cc) opened.moments last.moments noted.0 begins_there noted.1 (r.finished.session.crash sees)

    through : IsExplainedThroughout keeps last.sectors start [] history opened.moments now
    through = throughout_before keeps last.sectors start [] history opened.moments last.moments now served_through (r.finished.moments sees)

    stamped_so : IsTrue keeps → IsStampedThroughout keeps last.sectors start history opened.moments now
    stamped_so kept = kept_stamped k opened.moments keeps tickets lists r.finished.names r.finished.files last r.finished.session sees counted_first first_state kept now (r.finished.moments sees)

    -- where it was closed well everything was committed
    last_if : OnOk closed (StandsForTree last.sectors (tree_after start history) (reads now))
    last_if = by closed r.finished.ends
      where
        by : (c : Result (Unit {0}) CloseFault) → EndsBy r.finished.all last.stop last.faults faults c → OnOk c (StandsForTree last.sectors (tree_after start history) (reads now))
        by (Ok x) ends = r.finished.last sees ends.0 (reads now) (seen_is_image now.state)
        by (Err fault) ends = tt

  -- ---- the whole

  module _ (ended : Result (Unit {0}) PlayFault) (total : ℕ) (whole : IsWholeEnd closed bytes ended total) where
    played_so : IsPlayedFrom start scripts lists (served_end ended) history
    played_so = record {
      merged = r.finished.session.merged;
      each = λ ok. r.each;
      legal = r.finished.session.legal;
      servers = r.served;
      ordered = r.ordered;
      complete = λ ok. r.complete;
    }

    all_large : sectors ≡ opened.sectors
    all_large = r.finished.size ∙ as_large

    pub played_on : IsPlayedOn k keeps scripts opened lists total ended sectors faults now
    played_on = record {
      start = start;
      closed = nothing_open;
      seen = r.finished.session.begun.seen;
      played = subst (IsPlayedFrom start scripts lists (served_end ended)) r.one_by_one played_so;
      sized = λ ok. bytes_told (served_end ended) bytes (tree_after start history) whole.measured r.finished.measured total whole.counts ok ∙ ap (λ (h : List Entry). total_size (tree_after start h)) r.one_by_one;
      tells = subst (λ (h : List Entry). AreFaultsOf opened.faults faults h) r.one_by_one (faults_of opened r.before ready.going history r.told faults closed r.counted r.stopped);
      closing = subst (λ (h : List Entry). IsEndFault opened.faults faults h ended) r.one_by_one
          (end_fault opened r.before ready.going history r.told faults closed r.counted r.stopped ended whole.closed_well whole.device whole.stopped);
      size = all_large;
      throughout = λ sees. subst (λ (x : ℕ × List Entry). IsExplainedThroughout keeps x.0 start [] x.1 opened.moments now) (λ i. (sym r.finished.size i, r.one_by_one i)) (through sees);
      stamped = λ sees kept. subst (λ (x : ℕ × List Entry). IsStampedThroughout keeps x.0 start x.1 opened.moments now) (λ i. (sym r.finished.size i, r.one_by_one i)) (stamped_so sees kept);
      clean = λ sees. both_ok ended closed (λ is. subst (λ (n : ℕ). IsCleanDisk n now.state) (sym r.finished.size) is) whole.closed_well (r.finished.clean sees);
      last = λ sees. both_ok ended closed (λ is. subst (λ (x : ℕ × List Entry). StandsForTree x.0 (tree_after start x.1) (reads now)) (λ i. (sym r.finished.size i, r.one_by_one i)) is) whole.closed_well (last_if sees);
      numbers = λ sees. both_ok ended closed
          (λ closes before from_there. subst (λ (h : List Entry). RaisesNumbers (length h) before (reads now)) r.one_by_one (raises_numbers before (reads now) (length history) opened r.before from_there r.told.numbers closes))
          whole.closed_well (r.raised sees);
    }
