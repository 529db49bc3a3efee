-- A client's hand is split off where the session starts.
use Rattle.std.proofs.Common.{◌≡◌, ℕ, false, eqb, List, [], ◌∷◌, ◌++◌, None, sym, refl, ap, ◌∙◌}
use Rattle.std.specs.FinMap as fin
use Rattle.ufs_model.specs.PosixTree.{desc_at}
use Rattle.ufs_model.specs.declared.data.PartName.TheVariants.{Asked, Client}
use Rattle.ufs_joint.specs.Cells.{Start, View, both_of, given_of, kept_of}
use Rattle.ufs_hand_laws.specs.Owned.{only, without}
use Rattle.ufs_hand_laws.specs.Whole.{idle_asked, idle_client}
use Rattle.ufs_caller.specs.Hands.{HasBoth, IsHome, IsIdleIn}
use Rattle.ufs_caller.proofs.Beginnings.{no_get}

only_none : {K D : Type 0} (ps : List (K × D)) → only (λ _. false) ps ≡ []
only_none [] = refl
only_none (p ∷ ps) = only_none ps

pub without_none : {K D : Type 0} (ps : List (K × D)) → without (λ _. false) ps ≡ ps
without_none [] = refl
without_none (p ∷ ps) = ap (λ qs. p ∷ qs) (without_none ps)

module _ (c : ℕ) (v : View) (h : IsIdleIn c v) where
  pub starts_with : HasBoth c idle_client idle_asked (both_of (given_of (Client c) v) (given_of (Asked c) (kept_of (Client c) v)))
  starts_with = record {
    clients = λ i. h.clients i ++ only_none (without (eqb c) v.clients) i;
    asked = λ i. only_none v.asked i ++ (ap (only (eqb c)) (without_none v.asked) ∙ h.asked) i;
    files = λ i. only_none v.files i ++ only_none (without (λ _. false) v.files) i;
    pools = λ i. only_none v.pools i ++ only_none (without (λ _. false) v.pools) i;
    names = λ i. only_none v.names i ++ only_none (without (λ _. false) v.names) i;
    store = λ i. only_none v.store i ++ only_none (without (λ _. false) v.store) i;
  }

  pub starts_home : (k : Start) → ((fd : ℕ) → desc_at k.tree c fd ≡ None) → IsHome c [] fin.empty (both_of (given_of (Client c) v) (given_of (Asked c) (kept_of (Client c) v)))
  starts_home k closed = record {
    self = idle_client;
    before = idle_asked;
    both = starts_with;
    entries_are = refl;
    same = λ fd. refl;
    idle = refl;
    unleased = refl;
    tree = k.tree;
    of = λ fd. no_get fd ∙ sym (closed fd);
  }
