-- A worked row. A server's hand, with one client, one file and a pool, draws a `write`, and commits its file in a turn of the store. In
-- that turn another server's hand draws a `write` to another file, and the store stops. Then a third draws the acknowledgement of an
-- `fsync` of a file of which all is known as committed.
use Rattle.std.specs.Prelude.{ℕ, suc, ◌≡◌, Bool, true, List, [], ◌∷◌, Option, Some}
use Rattle.ufs_bitmap.specs.Blocks.{BlockSet}
use Rattle.ufs_file_commits.specs.State.{DurableState}
use Rattle.ufs_layout.specs.declared.geometry.Geometry.{Geometry}
use Rattle.ufs_model.specs.declared.data.Actor.{Actor}
use Rattle.ufs_model.specs.declared.data.Ask.{Ask}
use Rattle.ufs_model.specs.declared.data.Desc.{Desc}
use Rattle.ufs_model.specs.declared.data.PartName.TheVariants.{Store}
use Rattle.ufs_hand_laws.specs.Parts.{Cells, ClientPart, OwnFds}
use Rattle.ufs_hand_laws.specs.declared.fresh.Fresh.{Fresh}
use Rattle.ufs_store.specs.State.{geometry_of_store}
use Rattle.ufs_joint.specs.Cells.{FileCell, Start, StoreCell, View, Word, both_of, given_of, kept_of, spent, store_of}
use Rattle.ufs_joint.specs.Draws.{drawn}
use Rattle.ufs_joint.specs.FileHands.{FailsFile, IsFileHand, MayAcknowledge, ServesFile, failed_turn, same_leaves, served_leaves}
use Rattle.ufs_joint.specs.Servers.{IsAlwaysServedSo}
use Rattle.ufs_joint.specs.Sound.{IsSound}
use Rattle.ufs_joint.specs.Turns.{begun_at, turn_begun, turn_ended}

abbrev pub at : ℕ → Word
at n = record { tickets = n }

-- The hand has a client, a file and a pool, and the file was written to.
pub record Writes (v : View) (ticket : ℕ) : Type 0 where
  pub client : ℕ
  pub part : ClientPart
  pub file : ℕ
  pub cell : FileCell
  pub number : ℕ
  pub pool : BlockSet
  pub hand : IsFileHand v client part file cell number pool
  pub left : BlockSet
  pub fresh : Fresh
  pub ask : Ask
  pub server : Actor
  pub desc : Desc
  pub next : DurableState
  pub told : Option Desc
  pub fds : OwnFds
  pub serves : ServesFile client part file cell pool left fresh ticket ask server desc next told fds
  pub who : IsAlwaysServedSo part.fds fresh

module _ (v : View) (ticket : ℕ) (a : Writes v ticket) where
  abbrev pub cell_written : FileCell
  cell_written = record (a.cell) { value = a.next; changed = suc ticket }

  abbrev pub written : View
  written = drawn ticket a.fresh (served_leaves a.fds a.file a.cell a.next ticket a.number a.left) v

-- The hand has a client, a file and a pool, and its `fsync` may be acknowledged.
pub record Acknowledges (visible : Bool) (v : View) : Type 0 where
  pub client : ℕ
  pub part : ClientPart
  pub file : ℕ
  pub cell : FileCell
  pub number : ℕ
  pub pool : BlockSet
  pub hand : IsFileHand v client part file cell number pool
  pub fresh : Fresh
  pub fd : ℕ
  pub desc : Desc
  pub may : MayAcknowledge visible client part file cell fresh fd desc
  pub who : IsAlwaysServedSo part.fds fresh

module _ (visible : Bool) (v : View) (a : Acknowledges visible v) (ticket : ℕ) where
  abbrev pub acknowledged : View
  acknowledged = drawn ticket a.fresh (same_leaves a.part a.file a.cell a.number a.pool) v

-- The hand has the store's cell, and neither a file nor the names.
pub record IsStoreHand (g : Geometry) (s : View) (was : StoreCell) : Type 0 where
  pub files : s.files ≡ []
  pub names : s.names ≡ []
  pub store : s.store ≡ (tt, was) ∷ []
  pub formed : geometry_of_store (store_of was) ≡ g

-- The commit of this value failed, and the store has stopped.
pub record Stops (visible : Bool) (was : StoreCell) (x : DurableState) : Type 0 where
  pub keeps : Bool
  pub left : StoreCell
  pub passed : List Cells
  pub told : List ℕ
  pub fails : FailsFile keeps visible was left x passed told
  pub fault : ℕ
  pub stopped : left.stop ≡ Some fault

module _ (k : Start) (n : ℕ) (v u w s : View) (was : StoreCell) (a : Writes v n) (b : Writes u (suc n)) (f : Stops k.is_visible (begun_at (suc n) was) a.next) (c : Acknowledges k.is_visible w) where
  abbrev pub lent : View
  lent = both_of (written v n a) s

  abbrev pub begun : View
  begun = turn_begun (suc n) was lent

  abbrev pub ended : View
  ended = turn_ended (suc (suc n)) (failed_turn a.file (cell_written v n a) f.left f.passed f.told) begun

  abbrev pub row_end : List View
  row_end = kept_of Store ended ∷ written u (suc n) b ∷ acknowledged k.is_visible w c (suc (suc n)) ∷ spent ∷ given_of Store ended ∷ []

-- The state is sound behind it.
abbrev pub RowKeeps : Geometry → Type 0
RowKeeps g = (k : Start) (n : ℕ) (v u w s : View) (was : StoreCell) → k.geometry ≡ g → IsSound k (at n) (v ∷ u ∷ w ∷ s ∷ []) → v.store ≡ [] → IsStoreHand g s was
    → (a : Writes v n) → a.cell.born ≡ true → (b : Writes u (suc n)) → (f : Stops k.is_visible (begun_at (suc n) was) a.next) → (c : Acknowledges k.is_visible w)
    → IsSound k (at (suc (suc (suc n)))) (row_end k n v u w s was a b f c)
