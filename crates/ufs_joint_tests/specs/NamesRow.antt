-- A worked row. The hand of the names, with a client and a pool, draws a request. Its names go to a turn of the store, in which they are
-- committed, while another server draws a `write`. Then they come back, and the first hand's files are told their births.
use Rattle.std.specs.Prelude.{ℕ, suc, ◌≡◌, Bool, List, [], ◌∷◌, Option}
use Rattle.ufs_layout.specs.declared.geometry.Geometry.{Geometry}
use Rattle.ufs_model.specs.declared.data.Ask.{Ask}
use Rattle.ufs_model.specs.declared.data.Desc.{Desc}
use Rattle.ufs_model.specs.declared.data.PartName.TheVariants.{Names}
use Rattle.ufs_hand_laws.specs.Parts.{Cells, ClientPart, OwnFds}
use Rattle.ufs_hand_laws.specs.declared.fresh.Fresh.{Fresh}
use Rattle.ufs_joint.specs.Cells.{FileCell, NamesCell, Start, StoreCell, View, both_of, given_of, kept_of, spent}
use Rattle.ufs_joint.specs.Draws.{drawn}
use Rattle.ufs_joint.specs.Marks.{births_told}
use Rattle.ufs_joint.specs.NamesHands.{IsNamesHand, IsNextOf, ServesNames, Serving, names_leaves}
use Rattle.ufs_joint.specs.NamesTurns.{CommitsNames, committed_names_turn, names_committed}
use Rattle.ufs_joint.specs.Servers.{IsAlwaysServedSo}
use Rattle.ufs_joint.specs.Sound.{IsSound}
use Rattle.ufs_joint.specs.Turns.{begun_at, turn_begun, turn_ended}
use Rattle.ufs_joint_tests.specs.Row.{IsStoreHand, Writes, at, written}

-- The hand has a client, the names and a pool, and a request of the names was served.
pub record Requests (v : View) (ticket : ℕ) : Type 0 where
  pub client : ℕ
  pub part : ClientPart
  pub number : ℕ
  pub fresh : Fresh
  pub ask : Ask
  pub told : Option Desc
  pub fds : OwnFds
  pub after : List (ℕ × FileCell)
  pub was : Serving
  pub left : Serving
  pub hand : IsNamesHand v client part was.names number was.pool
  pub next : IsNextOf client part fresh
  pub serves : ServesNames part fresh ticket ask told fds v.files after was left
  pub who : IsAlwaysServedSo part.fds fresh

module _ (v : View) (ticket : ℕ) (a : Requests v ticket) where
  abbrev pub requested : View
  requested = drawn ticket a.fresh (names_leaves a.fds a.after a.number a.left) v

-- These names were committed.
pub record Commits (visible : Bool) (was : StoreCell) (names : NamesCell) : Type 0 where
  pub keeps : Bool
  pub left : StoreCell
  pub passed : List Cells
  pub commits : CommitsNames keeps visible was left names passed

module _ (k : Start) (n : ℕ) (v u s : View) (was : StoreCell) (a : Requests v n) (b : Writes u (suc n)) (f : Commits k.is_visible (begun_at (suc n) was) a.left.names) where
  abbrev pub names_lent : View
  names_lent = both_of s (given_of Names (requested v n a))

  abbrev pub names_begun : View
  names_begun = turn_begun (suc n) was names_lent

  abbrev pub names_ended : View
  names_ended = turn_ended (suc (suc n)) (committed_names_turn a.left.names (begun_at (suc n) was) f.left f.passed) names_begun

  abbrev pub names_back : View
  names_back = both_of (kept_of Names (requested v n a)) (given_of Names names_ended)

  abbrev pub names_row_end : List View
  names_row_end = births_told (names_committed (begun_at (suc n) was) a.left.names) names_back ∷ written u (suc n) b ∷ kept_of Names names_ended ∷ spent ∷ spent ∷ []

-- The state is sound behind it.
abbrev pub NamesRowKeeps : Geometry → Type 0
NamesRowKeeps g = (k : Start) (n : ℕ) (v u s : View) (was : StoreCell) → k.geometry ≡ g → IsSound k (at n) (v ∷ u ∷ s ∷ []) → IsStoreHand g s was
    → (a : Requests v n) → (b : Writes u (suc n)) → (f : Commits k.is_visible (begun_at (suc n) was) a.left.names) → IsSound k (at (suc (suc n))) (names_row_end k n v u s was a b f)
