-- What a hand knows of all else by its own cells.
use Rattle.std.specs.Prelude.{ℕ, ◌≡◌, ◌+◌, ◌*◌, ◌≤◌, ◌⊎◌, true, List}
use Rattle.std.specs.FinSet as set
use Rattle.ufs_bitmap.specs.Blocks.{BlockSet}
use Rattle.ufs_model.specs.PosixTree.{PosixTree}
use Rattle.ufs_model.specs.declared.data.Entry.{Entry}
use Rattle.ufs_hand_laws.specs.Asked.{IsAnswered, IsStill}
use Rattle.ufs_hand_laws.specs.Owned.{Has}
use Rattle.ufs_hand_laws.specs.Parts.{AskedPart, ClientPart}
use Rattle.ufs_promise_laws.specs.Parts.{Parts}
use Rattle.ufs_joint.specs.Cells.{FileCell, NamesCell, Start, StoreCell, View, store_of}
use Rattle.ufs_joint.specs.Draws.{IsAround}
use Rattle.ufs_promise_laws.specs.Known.{IsDiskKept, Known}
use Rattle.ufs_joint.specs.Picks.{Pick}
use Rattle.ufs_joint.specs.Sound.{MayHaveBegun}
use Rattle.ufs_joint.specs.Whole.{HasCells, KnowsCells}

-- The store's own hand: the disk keeps the history, with whole parts that have the hand's cells and the blocks of all pools, and by
-- counts that cover what the cells know.
pub record KnowsDisk (k : Start) (v : View) (history : List Entry) (s : StoreCell) : Type 0 where
  pub parts : Parts
  pub known : Known
  pub cells : HasCells v parts
  pub knows : KnowsCells k.tree history v known
  pub kept : IsDiskKept (store_of s) k.tree history parts known

-- There is one history of so many entries: from a tree with which the session may have begun it leads to whole parts that have the
-- hand's cells.
pub record Knows (k : Start) (tickets : ℕ) (v : View) : Type 0 where
  pub picks : List Pick
  pub start : PosixTree
  pub begun : MayHaveBegun k picks start
  pub history : List Entry
  pub parts : Parts
  pub rest : BlockSet
  pub around : IsAround k.geometry v tickets start history parts rest
  -- what is unassigned is of the rest
  pub unassigned : (u : Unit {0}) (s : StoreCell) → Has (u, s) v.store → (block : ℕ) → set.contains s.unassigned.free block ≡ true → set.contains rest block ≡ true
  -- the tickets are few, and no more files were made: so the next one's number is low
  pub few : tickets ≤ 16 * 65536
  pub next : (u : Unit {0}) (c : NamesCell) → Has (u, c) v.names → c.value.next ≤ k.tree.next + tickets
  -- a client that comes back has what it had, or has its answer
  pub asked : (c : ℕ) (a : AskedPart) (p : ClientPart) → Has (c, a) v.asked → Has (c, p) v.clients → IsStill a p ⊎ IsAnswered a p
  pub disk : k.is_visible ≡ true → (u : Unit {0}) (s : StoreCell) → Has (u, s) v.store → KnowsDisk k v history s
  -- no cell tells a later ticket: so it didn't change since a turn that begins now, and what is known was so
  pub changed : k.is_visible ≡ true → (file : ℕ) (c : FileCell) → Has (file, c) v.files → (c.changed ≤ tickets) × (c.known ≤ tickets)
  pub names_changed : k.is_visible ≡ true → (u : Unit {0}) (c : NamesCell) → Has (u, c) v.names → c.changed ≤ tickets
  pub names_known : k.is_visible ≡ true → (u : Unit {0}) (c : NamesCell) → Has (u, c) v.names → c.known ≤ tickets
