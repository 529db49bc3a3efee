-- The store's cell goes from one hand to another.
use Rattle.std.proofs.Common.{◌≡◌, ℕ, ◌≤◌, Bool, true, false, cond, leb, List, [], ◌∷◌, ◌++◌, sym, refl, ap, ◌∙◌, arith, leb-true}
use Rattle.std.proofs.lemmas.List.{append-nil}
use Rattle.ufs_model.specs.declared.data.PartName.TheVariants.{Store}
use Rattle.ufs_hand_laws.specs.Owned.{only, without}
use Rattle.ufs_hand_laws.specs.Parts.{is_store, later}
use Rattle.ufs_joint.specs.Cells.{StoreCell, View, both_of, given_of, kept_of}
use Rattle.ufs_turns.specs.HeldStore.{HasNothing, HasStoreAlone}
use Rattle.ufs_turns.specs.Lent.{IsBeside}

without_none : {K D : Type 0} (ps : List (K × D)) → without (λ _. false) ps ≡ ps
without_none [] = refl
without_none (p ∷ ps) = ap (λ qs. p ∷ qs) (without_none ps)

only_none : {K D : Type 0} (ps : List (K × D)) → only (λ _. false) ps ≡ []
only_none [] = refl
only_none (p ∷ ps) = only_none ps

pub later_left : (a b : ℕ) → a ≤ later a b
later_left a b = by (leb a b) refl
  where
    by : (d : Bool) → leb a b ≡ d → a ≤ cond d b a
    by true e = leb-true a b e
    by false e = omega arith

module _ (c : StoreCell) (own v : View) (home : HasStoreAlone c own) where
  abbrev pub lent : View
  lent = both_of v (given_of Store own)

  pub lent_beside : IsBeside v lent
  lent_beside = record {
    clients = ap (λ ps. v.clients ++ ps) (only_none own.clients) ∙ append-nil v.clients;
    asked = ap (λ ps. v.asked ++ ps) (only_none own.asked) ∙ append-nil v.asked;
    pools = ap (λ ps. v.pools ++ ps) (only_none own.pools) ∙ append-nil v.pools;
    seen = later_left v.seen own.seen;
  }

  pub lent_files : lent.files ≡ v.files
  lent_files = ap (λ ps. v.files ++ ps) (only_none own.files) ∙ append-nil v.files

  pub lent_names : lent.names ≡ v.names
  lent_names = ap (λ ps. v.names ++ ps) (only_none own.names) ∙ append-nil v.names

  pub lent_faults : lent.faults ≡ v.faults
  lent_faults = append-nil v.faults

  pub lent_store : v.store ≡ [] → lent.store ≡ own.store
  lent_store away = (λ j. away j ++ only (is_store Store) (home.store j)) ∙ sym home.store

  pub nothing_left : HasNothing (kept_of Store own)
  nothing_left = record {
    clients = without_none own.clients ∙ home.clients;
    asked = without_none own.asked ∙ home.asked;
    files = without_none own.files ∙ home.files;
    pools = without_none own.pools ∙ home.pools;
    names = without_none own.names ∙ home.names;
    store = ap (without (is_store Store)) home.store;
  }

module _ (t : StoreCell) (own v : View) (nothing : HasNothing own) (has : v.store ≡ (tt, t) ∷ []) where
  pub back_home : HasStoreAlone t (both_of own (given_of Store v))
  back_home = record {
    clients = (λ j. nothing.clients j ++ only_none v.clients j);
    asked = (λ j. nothing.asked j ++ only_none v.asked j);
    files = (λ j. nothing.files j ++ only_none v.files j);
    pools = (λ j. nothing.pools j ++ only_none v.pools j);
    names = (λ j. nothing.names j ++ only_none v.names j);
    store = (λ j. nothing.store j ++ only (is_store Store) (has j));
  }

  pub back_beside : IsBeside v (kept_of Store v)
  back_beside = record { clients = without_none v.clients; asked = without_none v.asked; pools = without_none v.pools; seen = omega arith }

  pub back_files : (kept_of Store v).files ≡ v.files
  back_files = without_none v.files

  pub back_names : (kept_of Store v).names ≡ v.names
  back_names = without_none v.names

  pub back_away : (kept_of Store v).store ≡ []
  back_away = ap (without (is_store Store)) has

pub beside_both : (u v w : View) → IsBeside u v → IsBeside v w → IsBeside u w
beside_both u v w a b = record { clients = b.clients ∙ a.clients; asked = b.asked ∙ a.asked; pools = b.pools ∙ a.pools; seen = let x = a.seen in let y = b.seen in omega (arith, x, y) }
