-- The pool's hand goes with a client's, and comes back.
use Rattle.std.proofs.Common.{◌≡◌, ◌≤◌, ℕ, Bool, true, false, arith, leb, refl, cond, [], ◌∷◌, ◌++◌, ap, ◌∙◌}
use Rattle.std.proofs.lemmas.Bool.{leb-true}
use Rattle.ufs_bitmap.specs.Blocks.{BlockSet}
use Rattle.ufs_held.specs.Asking.{IsGuest}
use Rattle.ufs_held.proofs.After as held
use Rattle.ufs_held.proofs.After.{only_none, without_none}
use Rattle.ufs_joint.specs.Cells.{View, both_of, given_of, kept_of}
use Rattle.ufs_model.specs.declared.data.PartName.TheVariants.{File, Names}
use Rattle.ufs_msg.specs.Requests.{HasClientAlone}
use Rattle.ufs_hand_laws.specs.Owned.{only, without}
use Rattle.ufs_hand_laws.specs.Parts.{ClientPart, is_file, is_names, later}
use Rattle.ufs_hand_laws.proofs.Keys.{itself}
use Rattle.ufs_joint.specs.FirstHand.{HasPoolAlone}
use Rattle.ufs_serving.specs.Pools.{HasNone}

module _ (own client : View) (n : ℕ) (pool : BlockSet) (c : ℕ) (part : ClientPart) (mine : HasPoolAlone n pool own) (came : HasClientAlone c part client) where
  abbrev both : View
  both = both_of own client

  pub lent : IsGuest c part n pool (kept_of Names (both_of own client))
  lent = record {
    clients = without_none both.clients ∙ (λ i. mine.clients i ++ came.clients i);
    asked = without_none both.asked ∙ (λ i. mine.asked i ++ came.asked i);
    files = without_none both.files ∙ (λ i. mine.files i ++ came.files i);
    pools = without_none both.pools ∙ (λ i. mine.pools i ++ came.pools i);
    names = λ i. without (is_names Names) (mine.names i ++ came.names i);
    store = without_none both.store ∙ (λ i. mine.store i ++ came.store i);
  }

  pub nothing : HasNone (given_of Names (both_of own client))
  nothing = record {
    clients = only_none both.clients;
    asked = only_none both.asked;
    files = only_none both.files;
    pools = only_none both.pools;
    names = λ i. only (is_names Names) (mine.names i ++ came.names i);
    store = only_none both.store;
  }

module _ (own guest : View) (n : ℕ) (pool : BlockSet) (c : ℕ) (part : ClientPart) (none : HasNone own) (came : IsGuest c part n pool guest) where
  abbrev all : View
  all = both_of own guest

  pools_are : all.pools ≡ (n, pool) ∷ []
  pools_are = λ i. none.pools i ++ came.pools i

  files_are : all.files ≡ []
  files_are = λ i. none.files i ++ came.files i

  pub pool_back : HasPoolAlone n pool (given_of (File n) (both_of own guest))
  pool_back = record {
    clients = only_none all.clients;
    asked = only_none all.asked;
    files = ap (only (is_file (File n))) files_are;
    pools = ap (only (is_file (File n))) pools_are ∙ (λ i. cond (itself n i) ((n, pool) ∷ []) []);
    names = only_none all.names;
    store = only_none all.store;
  }

  pub client_back : HasClientAlone c part (kept_of (File n) (both_of own guest))
  client_back = record {
    clients = without_none all.clients ∙ (λ i. none.clients i ++ came.clients i);
    asked = without_none all.asked ∙ (λ i. none.asked i ++ came.asked i);
    files = ap (without (is_file (File n))) files_are;
    pools = ap (without (is_file (File n))) pools_are ∙ (λ i. cond (itself n i) [] ((n, pool) ∷ []));
    names = without_none all.names ∙ (λ i. none.names i ++ came.names i);
    store = without_none all.store ∙ (λ i. none.store i ++ came.store i);
  }

-- ---- what was seen

pub later_right : (a b : ℕ) → b ≤ later a b
later_right = held.later_right

pub later_left : (a b : ℕ) → a ≤ later a b
later_left a b = by (leb a b) refl
  where
    by : (d : Bool) → leb a b ≡ d → a ≤ cond d b a
    by true e = leb-true a b e
    by false e = omega arith
