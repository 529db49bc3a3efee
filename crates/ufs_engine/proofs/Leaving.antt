-- An image that was mounted, and on which nothing was played.
use Rattle.std.proofs.Common.{◌≡◌, ◌∙◌, ℕ, Bool, true, List, [], Result, Err, refl, sym, ap, subst, arith}
use Rattle.std.specs.FinMap as map
use Rattle.ufs_base.specs.declared.lack.Lack.{Lack}
use Rattle.ufs_disk.specs.Disk.{Leaves}
use Rattle.ufs_disk.specs.Moments.{Moments}
use Rattle.ufs_disk.proofs.Runs.{started}
use Rattle.ufs_rounds.specs.OfDealt.{LiveFilesAreThere}
use Rattle.ufs_joint.specs.Cells.{Start}
use Rattle.ufs_joint.specs.Ends.{HoldsAll}
use Rattle.ufs_joint.specs.FirstHand.{Beginning, names_first, server_first, start_first, store_first}
use Rattle.ufs_joint.specs.Ready.{IsReady}
use Rattle.ufs_layout.specs.declared.geometry.Geometry.{Geometry}
use Rattle.ufs_model.specs.PosixTree.{PosixTree}
use Rattle.ufs_model.specs.declared.data.Entry.{Entry}
use Rattle.ufs_model.specs.declared.data.Op.{Op}
use Rattle.ufs_promise_laws.specs.OnDisk.{IsExplainedBetween, IsExplainedImage}
use Rattle.ufs_promise_laws.specs.OnDiskLaws.{OnDiskIsExplained, OnDiskIsProper}
use Rattle.ufs_store.specs.State.{StoreState, geometry_of_store}
use Rattle.ufs_engine.specs.Played.{IsPlayedOn}
use Rattle.ufs_engine.specs.declared.playing.PlayFault.{PlayFault}
use Rattle.ufs_engine.specs.declared.playing.PlayFault.TheVariants as ending
use Rattle.ufs_engine.proofs.EndLemmas.{never_ended, no_faults, none_played}
use Rattle.ufs_engine.proofs.StampedLemmas.{none_stamped}

-- The first hand has every cell.
pub holds_first : LiveFilesAreThere → (b : Beginning) (s : StoreState) → IsReady b s → HoldsAll (start_first b s) (start_first b s).view
holds_first there b s ready = record {
  clients = λ c. omega arith;
  pools = λ n. omega arith;
  names = names_first b.names;
  has_names = refl;
  store = store_first s;
  has_store = refl;
  files = λ file live. there b s ready file live;
}

module _ (k : Start) (b : Beginning) (s : StoreState) (from : k ≡ start_first b s) (ready : IsReady b s) where
  same_tree : k.tree ≡ b.tree
  same_tree = ap (λ (x : Start). x.tree) from

  -- whatever a crash leaves as the session begins is the opening tree
  pub begins_so : (g : Geometry) → g ≡ geometry_of_store s → OnDiskIsExplained g → OnDiskIsProper g → k.is_visible ≡ true → Leaves (IsExplainedImage s.sectors k.tree []) s.moments.state
  begins_so g formed explains is_proper sees image left =
      let on_disk = ready.on_disk (ap (λ (x : Start). x.is_visible) (sym from) ∙ sees) in
      subst (λ (t : PosixTree). IsExplainedImage s.sectors t [] image) (sym same_tree)
      (record { explained = explains s b.tree [] (server_first b) (sym formed) on_disk image left; proper = is_proper s b.tree [] (server_first b) (sym formed) on_disk image left })

  pub left_so : (keeps : Bool) (scripts : List (List Op)) (why : Lack) (sectors faults : ℕ) (now : Moments) → sectors ≡ s.sectors → now ≡ s.moments → (k.is_visible ≡ true → Leaves (IsExplainedImage s.sectors k.tree []) s.moments.state)
      → IsPlayedOn k keeps scripts s [] 0 (Err (ending.Lack why)) sectors faults now
  left_so keeps scripts why sectors faults now as_large seen begins = record {
    start = k.tree;
    closed = λ client fd. ap (λ (t : PosixTree). map.get t.fds (client, fd)) same_tree ∙ ready.closed client fd;
    seen = λ sees. refl;
    played = none_played k.tree scripts;
    sized = λ ok. absurd (never_ended _ ok);
    tells = no_faults s.faults faults;
    closing = tt;
    size = as_large;
    throughout = still;
    stamped = λ sees kept. none_stamped keeps sectors k.tree s.moments now (still sees);
    clean = λ sees. tt;
    last = λ sees. tt;
    numbers = λ sees. tt;
  }
    where
      still : k.is_visible ≡ true → IsExplainedBetween keeps sectors k.tree [] s.moments now
      still sees = subst (λ (x : ℕ × Moments). IsExplainedBetween keeps x.0 k.tree [] s.moments x.1) (λ i. (sym as_large i, sym seen i)) (started keeps (IsExplainedImage s.sectors k.tree []) s.moments (begins sees))

  pub left_on : (keeps : Bool) (scripts : List (List Op)) (why : Lack) (told : List (List Entry)) (bytes : ℕ) (ended : Result (Unit {0}) PlayFault) (sectors faults : ℕ) (now : Moments) → told ≡ [] → bytes ≡ 0 → ended ≡ Err (ending.Lack why) → sectors ≡ s.sectors → now ≡ s.moments
      → (k.is_visible ≡ true → Leaves (IsExplainedImage s.sectors k.tree []) s.moments.state) → IsPlayedOn k keeps scripts s told bytes ended sectors faults now
  left_on keeps scripts why told bytes ended sectors faults now none empty lacks as_large seen begins =
      subst (λ (x : List (List Entry) × ℕ × Result (Unit {0}) PlayFault). IsPlayedOn k keeps scripts s x.0 x.1 x.2 sectors faults now) (λ i. (sym none i, sym empty i, sym lacks i)) (left_so keeps scripts why sectors faults now as_large seen begins)

  -- so it is with a store that is as this one
  pub ready_there : (t : StoreState) → s ≡ t → (first : Beginning) × (k ≡ start_first first t) × IsReady first t
  ready_there t same = (b, from ∙ ap (start_first b) same, subst (IsReady b) same ready)
