-- A turn in which the names are committed, or can't be.
use Rattle.std.proofs.Common.{◌≡◌, ◌≤◌, ◌⊎◌, ◌++◌, ℕ, Bool, true, false, cond, None, Option, List, [], ◌∷◌, inl, sym, refl, ap, ◌∙◌, subst, arith}
use Rattle.std.specs.Prelude.{IsTrue}
use Rattle.ufs_bitmap.specs.Space.{Space}
use Rattle.ufs_bitmap.specs.Taking.{has}
use Rattle.ufs_disk.specs.Disk.{IsWhole}
use Rattle.ufs_disk.specs.Moments.{Moments}
use Rattle.ufs_ledger.specs.Ledger.{IsDataBlock}
use Rattle.ufs_name_tree.specs.NameTable.{IsNameTable}
use Rattle.ufs_hand_laws.specs.Owned.{Has, each}
use Rattle.ufs_hand_laws.specs.Parts.{Cells}
use Rattle.ufs_store.specs.Refusals.{stop_after}
use Rattle.ufs_store.specs.State.{StoreState, geometry_of_store}
use Rattle.ufs_promise_laws.specs.Parts.{TheNames}
use Rattle.ufs_joint.specs.Cells.{NamesCell, Start, StoreCell, View, store_since}
use Rattle.ufs_joint.specs.Disks.{cell_of, states_behind}
use Rattle.ufs_joint.specs.FileHands.{LeavesStore, WentOn}
use Rattle.ufs_joint.specs.Known.{Knows}
use Rattle.ufs_joint.specs.NamesTurns.{CommitsNames, FailsNames, HasCommittedNames, HasFailedNames, IsNamesSyncHand, LeavesNames, NamesCommitsGoOn, NamesCommitsMayEnd, NamesFailuresGoOn, NamesFailuresMayEnd, committed_names_turn, failed_names_turn}
use Rattle.ufs_joint.specs.Turns.{MayEndTurn, begun_at, rested, turn_begun}
use Rattle.ufs_turns.specs.HeldStore.{IsStoreIn, begun_view, ended_view}
use Rattle.ufs_turns.specs.Lent.{IsBeside}
use Rattle.ufs_turns.specs.NamesLent.{AreNamesIn, HaveCommitted, HaveNotPassed, HavePassed, HaveTried, names_kept, names_turn}
use Rattle.ufs_turns.specs.Told.{fault_told, told_list}
use Rattle.ufs_turns.proofs.Turning as turning

here : (cell : NamesCell) (v : View) → AreNamesIn cell v → Has (tt, cell) v.names
here cell v names = subst (Has (tt, cell)) (sym names.names) (inl refl)

-- A block that directories took is one of the data area.
pub fresh_there : (k : Start) (n : ℕ) (v : View) (knows : Knows k n v) (cell : NamesCell) → AreNamesIn cell v → (block : ℕ) → has cell.fresh block ≡ true → IsDataBlock k.geometry block
fresh_there k n v knows cell names block is =
    knows.around.server.inside TheNames block (inl (ap (λ (l : List ℕ). has l block) (knows.around.cells.names tt cell (here cell v names)).fresh ∙ is))

module _ (k : Start) (origin : Moments) (visible keeps : Bool) (n : ℕ) (v w : View) (s t : StoreState) (knows : Knows k n v) (home : IsStoreIn k origin visible keeps v s) (begun : w ≡ begun_view v n) where
  abbrev was : StoreCell
  was = begun_at n (cell_of home.stamp home.past s)

  abbrev left : StoreCell
  left = cell_of n (rested n (cell_of home.stamp home.past s) ∷ home.past) t

  abbrev u : View
  u = turn_begun n (cell_of home.stamp home.past s) v

  abbrev passed : List Cells
  passed = cond keeps (states_behind (begun_at n (cell_of home.stamp home.past s)).counted t) []

  begun_is : w ≡ u
  begun_is = turning.begun_is k origin visible keeps n v w s t knows home begun

  module _ (cell : NamesCell) (names : AreNamesIn cell v) (table : IsNameTable cell.value.tree) (whole_before : IsTrue visible → IsWhole s.sectors s.moments.state) (whole_behind : IsTrue visible → IsWhole t.sectors t.moments.state) where
    hand : IsNamesSyncHand k.is_visible u cell was
    hand = record {
      files = names.files;
      names_are = names.names;
      store = refl;
      changed = λ seen. knows.names_changed seen tt cell (here cell v names);
      known = λ seen. knows.names_known seen tt cell (here cell v names);
    }

    module _ (told : Option ℕ) (tried : HaveTried visible keeps s t cell.fresh cell.value.tree.noted told) where
      both : (seen : k.is_visible ≡ true) → ◌≡◌ {A = StoreState × StoreState} (s, t) (store_since s.moments.earlier was, store_since t.moments.earlier left)
      both seen = λ i. (turning.before_is k origin visible keeps n v w s t knows home begun whole_before whole_behind tried.geometry tried.sectors seen i, turning.behind_is k origin visible keeps n v w s t knows home begun whole_before whole_behind tried.geometry tried.sectors seen i)

      moments : k.is_visible ≡ true → LeavesNames keeps (store_since s.moments.earlier was) (store_since t.moments.earlier left) cell.fresh cell.value.tree.noted
      moments seen = subst (λ (q : StoreState × StoreState). LeavesNames keeps q.0 q.1 cell.fresh cell.value.tree.noted) (both seen) (tried.moments (home.sees seen))

      left_so : LeavesStore keeps k.is_visible was left s.moments.earlier t.moments.earlier passed (told_list (fault_told told))
      left_so = turning.left_so k origin visible keeps n v w s t knows home begun whole_before whole_behind tried.geometry tried.sectors told tried.cause (λ n is. tried.stop ∙ ap (λ (q : Option ℕ). stop_after q told) is) (λ n is. turning.stop_from s.stop told n (sym tried.stop ∙ is))

    -- where it passed
    module _ (has : HavePassed visible keeps s t cell.fresh cell.value.tree.noted) where
      commits : CommitsNames keeps k.is_visible was left cell passed
      commits = record {
        earlier = s.moments.earlier;
        later = t.moments.earlier;
        going = has.going;
        table = table;
        committed = λ seen. subst (λ (q : StoreState × StoreState). HasCommittedNames q.0 q.1 cell.fresh cell.value.tree.noted) (both None has.tried seen) (has.committed (home.sees seen));
        moments = moments None has.tried;
        unassigned = ap (λ (q : Space). q.free) has.tried.unassigned;
        left_so = left_so None has.tried;
      }

      turn_is : committed_names_turn cell was left passed ≡ names_turn keeps true None t u
      turn_is = λ i. record { files = []; names = each (λ _ x. cond true (names_kept n x) x) (sym names.names i); store = left; passed = passed; picks = []; told = [] }

      pub commit_ends : NamesCommitsMayEnd → MayEndTurn k.geometry k.is_visible w (names_turn keeps true None t w)
      commit_ends law =
          subst (λ (q : View). MayEndTurn k.geometry k.is_visible q (names_turn keeps true None t q)) (sym begun_is)
          (subst (MayEndTurn k.geometry k.is_visible u) turn_is (law k.geometry keeps k.is_visible u cell was left passed home.formed hand commits))

      pub commit_went : NamesCommitsGoOn → k.is_visible ≡ true → IsTrue keeps → WentOn s t
      unfolding commits
      commit_went law seen kept =
          let b = turning.as_begun k origin visible keeps n v w s t knows home begun whole_before whole_behind has.tried.geometry has.tried.sectors seen in
          turning.went k origin visible keeps n v w s t knows home begun whole_before whole_behind has.tried.geometry has.tried.sectors seen
          (law k.geometry keeps k.is_visible u cell was left passed home.formed hand commits seen kept k.tree b.0 b.1 b.2 b.3)

    -- where it didn't
    module _ (told : Option ℕ) (has : HaveNotPassed visible keeps s t cell.fresh cell.value.tree.noted told) where
      fails : FailsNames keeps k.is_visible was left cell passed (told_list (fault_told told))
      fails = record {
        earlier = s.moments.earlier;
        later = t.moments.earlier;
        table = table;
        failed = λ seen. subst (λ (q : StoreState × StoreState). (q.1 ≡ q.0) ⊎ ((q.0.stop ≡ None) × HasFailedNames q.0 q.1 cell.fresh cell.value.tree.noted)) (both told has.tried seen) (has.failed (home.sees seen));
        moments = moments told has.tried;
        unassigned = ap (λ (q : Space). q.free) has.tried.unassigned;
        left_so = left_so told has.tried;
      }

      turn_stays : failed_names_turn cell left passed (told_list (fault_told told)) ≡ names_turn keeps false (fault_told told) t u
      turn_stays = λ i. record { files = []; names = each (λ _ x. cond false (names_kept n x) x) (sym names.names i); store = left; passed = passed; picks = []; told = told_list (fault_told told) }

      pub failure_ends : NamesFailuresMayEnd → MayEndTurn k.geometry k.is_visible w (names_turn keeps false (fault_told told) t w)
      failure_ends law =
          subst (λ (q : View). MayEndTurn k.geometry k.is_visible q (names_turn keeps false (fault_told told) t q)) (sym begun_is)
          (subst (MayEndTurn k.geometry k.is_visible u) turn_stays (law k.geometry keeps k.is_visible u cell was left passed (told_list (fault_told told)) home.formed hand fails))

      pub failure_went : NamesFailuresGoOn → k.is_visible ≡ true → IsTrue keeps → WentOn s t
      unfolding fails
      failure_went law seen kept =
          let b = turning.as_begun k origin visible keeps n v w s t knows home begun whole_before whole_behind has.tried.geometry has.tried.sectors seen in
          turning.went k origin visible keeps n v w s t knows home begun whole_before whole_behind has.tried.geometry has.tried.sectors seen
          (law k.geometry keeps k.is_visible u cell was left passed (told_list (fault_told told)) home.formed hand fails seen kept k.tree b.0 b.1 b.2 b.3)

  -- ---- what the hand has then

  module _ (done : Bool) (told : Option ℕ) (m : ℕ) (z : View) (ended : z ≡ ended_view (names_turn keeps done told t w) w m) where
    ended_is : z ≡ ended_view (names_turn keeps done told t u) u m
    ended_is = ended ∙ ap (λ (q : View). ended_view (names_turn keeps done told t q) q m) begun_is

    pub faults_then : z.faults ≡ told_list told ++ v.faults
    faults_then = ap (λ (q : View). q.faults) ended_is

    pub stop_then : z.stop ≡ t.stop
    stop_then = ap (λ (q : View). q.stop) ended_is

    pub store_then : geometry_of_store t ≡ geometry_of_store s → t.sectors ≡ s.sectors → (k.is_visible ≡ true → IsTrue keeps → WentOn s t) → IsStoreIn k origin visible keeps z t
    store_then geometry sectors on = turning.store_then k origin visible keeps n v w s t knows home begun m z (ap (λ (q : View). q.store) ended_is) geometry sectors on

    pub beside_then : v.seen ≤ n → w.seen ≤ m → IsBeside v z
    beside_then a b = record {
      clients = ap (λ (q : View). q.clients) ended_is;
      asked = ap (λ (q : View). q.asked) ended_is;
      pools = ap (λ (q : View). q.pools) ended_is;
      seen = (let e = ap (λ (q : View). q.seen) ended_is in let f = ap (λ (q : View). q.seen) begun_is in omega (arith, a, b, e, f));
    }

    files_then : z.files ≡ []
    files_then = ap (λ (q : View). q.files) ended_is

    names_then : (cell : NamesCell) → v.names ≡ (tt, cell) ∷ [] → z.names ≡ (tt, cond done (names_kept n cell) cell) ∷ []
    names_then cell is = ap (λ (q : View). q.names) ended_is ∙ ap (each (λ _ x. cond done (names_kept n x) x)) is

  pub committed_then : (cell : NamesCell) → AreNamesIn cell v → (m : ℕ) (z : View) → z ≡ ended_view (names_turn keeps true None t w) w m → HaveCommitted k.is_visible cell z
  committed_then cell names m z ended = record {
    known = n;
    names = record { files = files_then true None m z ended; names = names_then true None m z ended cell names.names };
    all = λ seen. knows.names_changed seen tt cell (here cell v names);
  }

  pub failed_then : (told : Option ℕ) (cell : NamesCell) → AreNamesIn cell v → (m : ℕ) (z : View) → z ≡ ended_view (names_turn keeps false told t w) w m → AreNamesIn cell z
  failed_then told cell names m z ended = record { files = files_then false told m z ended; names = names_then false told m z ended cell names.names }
