-- A turn in which a checkpoint is made, or can't be.
use Rattle.std.proofs.Common.{◌≡◌, ◌≤◌, ◌⊎◌, inl, ◌++◌, ℕ, Bool, true, cond, None, Option, List, [], ◌∷◌, sym, refl, ap, ◌∙◌, subst, arith}
use Rattle.std.specs.Prelude.{IsTrue}
use Rattle.ufs_bitmap.specs.Space.{Space}
use Rattle.ufs_disk.specs.Disk.{IsWhole}
use Rattle.ufs_disk.specs.Moments.{LeavesOnly, Moments}
use Rattle.ufs_ledger.specs.Ledger.{Ledger}
use Rattle.ufs_hand_laws.specs.Parts.{Cells}
use Rattle.ufs_store.specs.Ledgers.{HasLedger, IsLeftByAny, beginning_next}
use Rattle.ufs_store.specs.Refusals.{stop_after}
use Rattle.ufs_store.specs.State.{StoreState, geometry_of_store}
use Rattle.ufs_joint.specs.Cells.{Start, StoreCell, View, store_since}
use Rattle.ufs_joint.specs.Checkpoints.{CheckpointsGoOn, CheckpointsMayEnd, HasBegunAnew, IsBareHand, MakesCheckpoint}
use Rattle.ufs_joint.specs.Disks.{cell_of, states_behind}
use Rattle.ufs_joint.specs.FileHands.{WentOn}
use Rattle.ufs_joint.specs.Known.{Knows}
use Rattle.ufs_joint.specs.Turns.{MayEndTurn, begun_at, rested, turn_begun}
use Rattle.ufs_turns.specs.HeldStore.{IsStoreIn, bare_turn, begun_view, ended_view}
use Rattle.ufs_turns.specs.Lent.{IsBeside}
use Rattle.ufs_turns.specs.Syncs.{HasMade}
use Rattle.ufs_turns.specs.Told.{fault_told, told_list}
use Rattle.ufs_disk.proofs.Runs.{started}
use Rattle.ufs_turns.proofs.FreeBlocks.{rests_so}
use Rattle.ufs_turns.proofs.Turning as turning

-- Where nothing is done, that is as where memory was wanting for it.
pub none_made : (visible keeps : Bool) (s : StoreState) → HasMade visible keeps s s None
none_made visible keeps s = record {
  made = λ seen. inl refl;
  crash = λ seen l has. started keeps (IsLeftByAny s.sectors (l ∷ beginning_next s l ∷ [])) s.moments (λ image left. inl (has.by.is.images image left));
  unassigned = refl;
  geometry = refl;
  sectors = refl;
  cause = refl;
  stop = rests_so s.stop s.stop refl;
}

module _ (k : Start) (origin : Moments) (visible keeps : Bool) (n : ℕ) (v w : View) (s t : StoreState) (knows : Knows k n v) (home : IsStoreIn k origin visible keeps v s) (begun : w ≡ begun_view v n) where
  abbrev was : StoreCell
  was = begun_at n (cell_of home.stamp home.past s)

  abbrev left : StoreCell
  left = cell_of n (rested n (cell_of home.stamp home.past s) ∷ home.past) t

  abbrev u : View
  u = turn_begun n (cell_of home.stamp home.past s) v

  abbrev passed : List Cells
  passed = cond keeps (states_behind (begun_at n (cell_of home.stamp home.past s)).counted t) []

  begun_is : w ≡ u
  begun_is = turning.begun_is k origin visible keeps n v w s t knows home begun

  module _ (whole_before : IsTrue visible → IsWhole s.sectors s.moments.state) (whole_behind : IsTrue visible → IsWhole t.sectors t.moments.state) (told : Option ℕ) (has : HasMade visible keeps s t told) where
    pub makes : MakesCheckpoint keeps k.is_visible was left passed (told_list (fault_told told))
    makes = record {
      earlier = s.moments.earlier;
      later = t.moments.earlier;
      made = λ seen. subst (λ (q : StoreState × StoreState). (q.1 ≡ q.0) ⊎ ((q.0.stop ≡ None) × HasBegunAnew q.0 q.1)) (both seen) (has.made (home.sees seen));
      crash = λ seen. subst (λ (q : StoreState × StoreState). (l : Ledger) → HasLedger q.0 l → LeavesOnly keeps (IsLeftByAny q.0.sectors (l ∷ beginning_next q.0 l ∷ [])) q.0.moments q.1.moments) (both seen) (has.crash (home.sees seen));
      unassigned = ap (λ (q : Space). q.free) has.unassigned;
      left_so = turning.left_so k origin visible keeps n v w s t knows home begun whole_before whole_behind has.geometry has.sectors told has.cause (λ n is. has.stop ∙ ap (λ (q : Option ℕ). stop_after q told) is) (λ n is. turning.stop_from s.stop told n (sym has.stop ∙ is));
    }
      where
        both : (seen : k.is_visible ≡ true) → ◌≡◌ {A = StoreState × StoreState} (s, t) (store_since s.moments.earlier was, store_since t.moments.earlier left)
        both seen = λ i. (turning.before_is k origin visible keeps n v w s t knows home begun whole_before whole_behind has.geometry has.sectors seen i, turning.behind_is k origin visible keeps n v w s t knows home begun whole_before whole_behind has.geometry has.sectors seen i)

    -- The disk goes on by it, whatever else the hand has.
    pub went_on : CheckpointsGoOn k.geometry → k.is_visible ≡ true → IsTrue keeps → WentOn s t
    unfolding makes
    went_on law seen kept =
        let b = turning.as_begun k origin visible keeps n v w s t knows home begun whole_before whole_behind has.geometry has.sectors seen in
        turning.went k origin visible keeps n v w s t knows home begun whole_before whole_behind has.geometry has.sectors seen
        (law keeps k.is_visible (record u { files = []; names = [] }) was left passed (told_list (fault_told told)) home.formed (record { files = refl; names = refl; store = refl }) makes seen kept k.tree b.0 b.1 b.2 (record {
          cells = record { files = λ file c none. absurd none; names = λ u c none. absurd none };
          knows = record {
            files = λ file c none. absurd none;
            born = λ file c none. absurd none;
            named = λ file u c none. absurd none;
            names = λ u c none. absurd none;
            files_told = λ file c none. absurd none;
            names_told = λ u c none. absurd none;
          };
          kept = b.3.kept;
        }))

  module _ (files : v.files ≡ []) (names : v.names ≡ []) (whole_before : IsTrue visible → IsWhole s.sectors s.moments.state) (whole_behind : IsTrue visible → IsWhole t.sectors t.moments.state) (told : Option ℕ) (has : HasMade visible keeps s t told) where
    hand : IsBareHand u was
    hand = record { files = files; names = names; store = refl }

    pub checkpoint_ends : CheckpointsMayEnd k.geometry → MayEndTurn k.geometry k.is_visible w (bare_turn keeps (fault_told told) t w)
    checkpoint_ends law = subst (λ (q : View). MayEndTurn k.geometry k.is_visible q (bare_turn keeps (fault_told told) t q)) (sym begun_is)
        (law keeps k.is_visible u was left passed (told_list (fault_told told)) home.formed hand (makes whole_before whole_behind told has))

    pub checkpoint_went : CheckpointsGoOn k.geometry → k.is_visible ≡ true → IsTrue keeps → WentOn s t
    checkpoint_went = went_on whole_before whole_behind told has

  -- ---- what the hand has then

  module _ (told : Option ℕ) (m : ℕ) (z : View) (ended : z ≡ ended_view (bare_turn keeps told t w) w m) where
    ended_is : z ≡ ended_view (bare_turn keeps told t u) u m
    ended_is = ended ∙ ap (λ (q : View). ended_view (bare_turn keeps told t q) q m) begun_is

    pub faults_then : z.faults ≡ told_list told ++ v.faults
    faults_then = ap (λ (q : View). q.faults) ended_is

    pub stop_then : z.stop ≡ t.stop
    stop_then = ap (λ (q : View). q.stop) ended_is

    pub files_then : z.files ≡ []
    files_then = ap (λ (q : View). q.files) ended_is

    pub names_then : z.names ≡ []
    names_then = ap (λ (q : View). q.names) ended_is

    pub store_then : geometry_of_store t ≡ geometry_of_store s → t.sectors ≡ s.sectors → (k.is_visible ≡ true → IsTrue keeps → WentOn s t) → IsStoreIn k origin visible keeps z t
    store_then geometry sectors on = turning.store_then k origin visible keeps n v w s t knows home begun m z (ap (λ (q : View). q.store) ended_is) geometry sectors on

    pub beside_then : v.seen ≤ n → w.seen ≤ m → IsBeside v z
    beside_then a b = record {
      clients = ap (λ (q : View). q.clients) ended_is;
      asked = ap (λ (q : View). q.asked) ended_is;
      pools = ap (λ (q : View). q.pools) ended_is;
      seen = (let e = ap (λ (q : View). q.seen) ended_is in let f = ap (λ (q : View). q.seen) begun_is in omega (arith, a, b, e, f));
    }
