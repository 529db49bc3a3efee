-- The hands of names, store, files, pools and clients, and the one that is left.
use Rattle.std.proofs.Common.{◌≡◌, ◌≤◌, ℕ, Bool, true, eqb, inl, List, [], ◌∷◌, ◌++◌, length, map, ap, refl, sym, ◌∙◌, subst, arith}
use Rattle.std.specs.Prelude.{IsTrue}
use Rattle.std.proofs.lemmas.List.{append-nil}
use Rattle.ufs_bitmap.specs.Blocks.{BlockSet}
use Rattle.ufs_disk.specs.Moments.{Moments, all}
use Rattle.ufs_file_commits.specs.State.{DurableState}
use Rattle.ufs_held.specs.Held.{IsHeld}
use Rattle.ufs_held_names.specs.HeldNames.{HasNamesAlone, HoldsNames, noted_in}
use Rattle.ufs_joint.specs.Cells.{FileCell, NamesCell, Start, StoreCell, View, given_of, kept_of}
use Rattle.ufs_joint.specs.Disks.{cell_of, states_behind}
use Rattle.ufs_joint.proofs.Disks.{nothing_behind}
use Rattle.ufs_model.specs.declared.data.PartName.{PartName}
use Rattle.ufs_model.specs.declared.data.PartName.TheVariants.{File, Names, Store}
use Rattle.ufs_noted.specs.Noted.{Noted}
use Rattle.ufs_hand_laws.specs.Owned.{Has, count, named, only, without}
use Rattle.ufs_hand_laws.specs.Parts.{Cells, is_asked, is_client, is_file, is_names, is_store}
use Rattle.ufs_hand_laws.proofs.Keys.{alike, itself}
use Rattle.ufs_hand_laws.proofs.Owning.{count_has, weigh_cut}
use Rattle.ufs_store.specs.State.{StoreState, geometry_of_store}
use Rattle.ufs_store_steps.specs.Cells.{cells_of}
use Rattle.ufs_turns.specs.HeldStore.{AreRepeated, HasStoreAlone, IsHeldStore, counted_in, sectors_in, state_in}
use Rattle.ufs_joint.specs.FirstHand.{HasPoolAlone}
use Rattle.ufs_dealt.specs.Dealt.{AreApart, rest_of}
use Rattle.ufs_dealt.proofs.Cutting.{only_absent, only_none, only_this, without_absent, without_none}

-- ---- names and store

module _ (v : View) (names : NamesCell) (store : StoreCell) (has_names : v.names ≡ (tt, names) ∷ []) (has_store : v.store ≡ (tt, store) ∷ []) where
  pub store_alone : HasStoreAlone store (given_of Store v)
  store_alone = record {
    clients = only_none (is_client Store) (λ n. refl) v.clients;
    asked = only_none (is_asked Store) (λ n. refl) v.asked;
    files = only_none (is_file Store) (λ n. refl) v.files;
    pools = only_none (is_file Store) (λ n. refl) v.pools;
    names = only_none (is_names Store) (λ n. refl) v.names;
    store = ap (λ ps. only (is_store Store) ps) has_store;
  }

  names_stay : (kept_of Store v).names ≡ (tt, names) ∷ []
  names_stay = without_none (is_names Store) (λ n. refl) v.names ∙ has_names

  store_gone : (kept_of Store v).store ≡ []
  store_gone = ap (λ ps. without (is_store Store) ps) has_store

  pub names_alone : HasNamesAlone names (given_of Names (kept_of Store v))
  names_alone = record {
    clients = only_none (is_client Names) (λ n. refl) (kept_of Store v).clients;
    asked = only_none (is_asked Names) (λ n. refl) (kept_of Store v).asked;
    files = only_none (is_file Names) (λ n. refl) (kept_of Store v).files;
    pools = only_none (is_file Names) (λ n. refl) (kept_of Store v).pools;
    names = ap (λ ps. only (is_names Names) ps) names_stay;
    store = only_none (is_store Names) (λ n. refl) (kept_of Store v).store;
  }

  pub left : kept_of Names (kept_of Store v) ≡ rest_of v
  left = λ i. record {
    clients = (without_none (is_client Names) (λ n. refl) (kept_of Store v).clients ∙ without_none (is_client Store) (λ n. refl) v.clients) i;
    asked = (without_none (is_asked Names) (λ n. refl) (kept_of Store v).asked ∙ without_none (is_asked Store) (λ n. refl) v.asked) i;
    files = (without_none (is_file Names) (λ n. refl) (kept_of Store v).files ∙ without_none (is_file Store) (λ n. refl) v.files) i;
    pools = (without_none (is_file Names) (λ n. refl) (kept_of Store v).pools ∙ without_none (is_file Store) (λ n. refl) v.pools) i;
    names = ap (λ ps. without (is_names Names) ps) names_stay i;
    store = (without_none (is_store Names) (λ n. refl) (kept_of Store v).store ∙ store_gone) i;
    seen = v.seen;
    faults = v.faults;
    stop = v.stop;
  }

pub holds_names : (x : Noted) (names : NamesCell) (v : View) → HasNamesAlone names v → noted_in names ≡ x → HoldsNames x v
holds_names x names v alone value = record { cell = names; alone = alone; value = value }

-- the store is at rest, and was in no state since
pub holds_store : (k : Start) (origin : Moments) (visible keeps : Bool) (v : View) (s : StoreState) → k.view.store ≡ (tt, cell_of 0 [] s) ∷ [] → HasStoreAlone (cell_of 0 [] s) v → geometry_of_store s ≡ k.geometry
    → origin ≡ s.moments → (k.is_visible ≡ true → IsTrue visible) → IsHeldStore k origin visible keeps v s
holds_store k origin visible keeps v s first alone formed from sees = record {
  cell = cell_of 0 [] s;
  alone = alone;
  store = record {
    stamp = 0;
    past = [];
    has = alone.store;
    sees = sees;
    formed = formed;
    size = sym (ap sectors_in first);
    grown = λ _ _. ([], ap (λ (m : Moments). all m) (sym from) ∙ sym (append-nil (all origin)));
    since = λ _ _. (let n = counted in omega (arith, n));
    covers = λ _ _ x has. absurd (subst (Has x) none has);
    passes = λ _ _. subst (λ (xs : List Cells). AreRepeated xs (cells_of s.sectors s.moments.state ∷ [])) (λ i. sym (ap state_in first) i ++ sym none i) (inl (refl, tt));
  };
}
  where
    counted : counted_in k.view.store ≡ length (all s.moments)
    counted = ap counted_in first

    none : states_behind (counted_in k.view.store) s ≡ []
    none = ap (λ n. states_behind n s) counted ∙ ap (map (cells_of s.sectors)) (nothing_behind (all s.moments))

-- ---- a file, a pool

-- what one of them takes leaves the others apart
pub kept_apart : (p : PartName) (v : View) → AreApart v → AreApart (kept_of p v)
kept_apart p v apart = λ n.
    let few = apart n in
    let files = weigh_cut (is_file p) (named eqb n) v.files in
    let pools = weigh_cut (is_file p) (named eqb n) v.pools in
    omega (arith, few, files, pools)

module _ (v : View) (apart : AreApart v) where
  pub file_once : (n : ℕ) → count eqb n v.files ≤ 1
  file_once n = let few = apart n in omega (arith, few)

  pub no_pool : (n : ℕ) (cell : FileCell) → Has {A = ℕ × FileCell} (n, cell) v.files → count eqb n v.pools ≡ 0
  no_pool n cell has =
      let few = apart n in
      let some = count_has eqb itself alike n cell v.files has in
      omega (arith, few, some)

  -- the hand without the file
  pub left_file : (n : ℕ) (cell : FileCell) → Has {A = ℕ × FileCell} (n, cell) v.files → kept_of (File n) v ≡ record v { files = without (eqb n) v.files }
  left_file n cell has = λ i. record {
    clients = without_none (is_client (File n)) (λ m. refl) v.clients i;
    asked = without_none (is_asked (File n)) (λ m. refl) v.asked i;
    files = without (eqb n) v.files;
    pools = without_absent n v.pools (no_pool n cell has) i;
    names = without_none (is_names (File n)) (λ m. refl) v.names i;
    store = without_none (is_store (File n)) (λ m. refl) v.store i;
    seen = v.seen;
    faults = v.faults;
    stop = v.stop;
  }

  pub no_file : (n : ℕ) (pool : BlockSet) → Has {A = ℕ × BlockSet} (n, pool) v.pools → count eqb n v.files ≡ 0
  no_file n pool has =
      let few = apart n in
      let some = count_has eqb itself alike n pool v.pools has in
      omega (arith, few, some)

  -- and without the pool
  pub left_pool : (n : ℕ) (pool : BlockSet) → Has {A = ℕ × BlockSet} (n, pool) v.pools → kept_of (File n) v ≡ record v { pools = without (eqb n) v.pools }
  left_pool n pool has = λ i. record {
    clients = without_none (is_client (File n)) (λ m. refl) v.clients i;
    asked = without_none (is_asked (File n)) (λ m. refl) v.asked i;
    files = without_absent n v.files (no_file n pool has) i;
    pools = without (eqb n) v.pools;
    names = without_none (is_names (File n)) (λ m. refl) v.names i;
    store = without_none (is_store (File n)) (λ m. refl) v.store i;
    seen = v.seen;
    faults = v.faults;
    stop = v.stop;
  }

  pub file_held : (x : DurableState) (cell : FileCell) → Has {A = ℕ × FileCell} (x.file.file, cell) v.files → cell.value ≡ x → IsHeld x (given_of (File x.file.file) v)
  file_held x cell has value = record {
    cell = cell;
    clients = only_none (is_client (File x.file.file)) (λ n. refl) v.clients;
    asked = only_none (is_asked (File x.file.file)) (λ n. refl) v.asked;
    files = only_this x.file.file cell v.files has (file_once x.file.file);
    pools = only_absent x.file.file v.pools (no_pool x.file.file cell has);
    names = only_none (is_names (File x.file.file)) (λ n. refl) v.names;
    store = only_none (is_store (File x.file.file)) (λ n. refl) v.store;
    value = value;
  }

  pub pool_alone : (number : ℕ) (pool : BlockSet) → Has {A = ℕ × BlockSet} (number, pool) v.pools → HasPoolAlone number pool (given_of (File number) v)
  pool_alone number pool has = record {
    clients = only_none (is_client (File number)) (λ n. refl) v.clients;
    asked = only_none (is_asked (File number)) (λ n. refl) v.asked;
    files = only_absent number v.files (no_file number pool has);
    pools = only_this number pool v.pools has (let few = apart number in omega (arith, few));
    names = only_none (is_names (File number)) (λ n. refl) v.names;
    store = only_none (is_store (File number)) (λ n. refl) v.store;
  }
