-- The rule of the table that the hands of a session share: its word is the tickets.
use Rattle.std.specs.Prelude.{ℕ, ◌≡◌, ◌≤◌, ◌⊎◌, false, List, [], ◌∷◌, refl}
use Rattle.std.specs.Coded.{Coded, code_by, coded×, coded_bool}
use Rattle.std.specs.FinMap as fin
use Rattle.atomic_table.specs.Table.{State}
use Rattle.atomic_table.specs.Seated.{TableId, table_id_coded}
use Rattle.ufs_layout.specs.contracts.geometry.Geometry as geometry
use Rattle.ufs_model.specs.PosixTree.{root_alone, tree_code}
use Rattle.ufs_model.specs.declared.data.Actor.TheVariants.{Primary}
use Rattle.ufs_model.specs.declared.data.Op.{Op}
use Rattle.ufs_model.specs.declared.data.Op.TheVariants.{Sync}
use Rattle.ufs_model.specs.declared.data.Reply.TheVariants.{Done}
use Rattle.ufs_hand_laws.specs.declared.fresh.Fresh.{Fresh}
use Rattle.ufs_joint.specs.Cells.{NamesCell, Start, StoreCell, View, Word, spent}
use Rattle.ufs_joint.specs.Codes.{view_code}
use Rattle.ufs_joint.specs.Draws.{Leaves, MayDraw, drawn}
use Rattle.ufs_joint.specs.Ends.{IsWhole}
use Rattle.ufs_joint.specs.Known.{Knows}
use Rattle.ufs_joint.specs.Marks.{MayAsk, asking, births_told}
use Rattle.ufs_joint.specs.Moves.{MayMoveBlocks, blocks_moved}
use Rattle.ufs_bitmap.specs.Blocks.{BlockSet}
use Rattle.ufs_joint.specs.Sound.{IsSound}
use Rattle.ufs_joint.specs.Turns.{MayEndTurn, Turn, turn_begun, turn_ended}

abbrev pub start_code : Coded Start
start_code = code_by _ (coded× tree_code (coded× geometry.the_row.coded (coded× view_code coded_bool))) (λ k. (k.tree, (k.geometry, (k.view, k.is_visible)))) (λ p. record { tree = p.0; geometry = p.1.0; view = p.1.1.0; is_visible = p.1.1.1 }) (λ _. refl)

-- which table a session has, and what it started from
pub record Session : Type 0 where
  pub table : TableId
  pub start : Start

abbrev pub session_code : Coded Session
session_code = code_by (TableId × Start) (coded× table_id_coded start_code) (λ s. (s.table, s.start)) (λ p. record { table = p.0; start = p.1 }) (λ _. refl)

abbrev pub first_view : Start → View
first_view k = k.view

abbrev pub at_tickets : ℕ → Word
at_tickets n = record { tickets = n }

pub record IsRuled (k : Start) (s : State (Unit {0}) View) : Type 0 where
  pub tickets : ℕ
  pub is : s.words ≡ tickets ∷ []
  pub sound : IsSound k (at_tickets tickets) s.views

-- ---- what steps leave

-- An entry is drawn with the ticket that the word was, of which the hand knows what it does.
abbrev pub Drew : Start → Fresh → (ℕ → Leaves) → View × List (ℕ × Unit {0}) → ℕ → View × List (ℕ × Unit {0}) → Type 0
Drew k f l v n w = (w ≡ (drawn n f (l n) v.0, v.1)) × (v.0.seen ≤ n) × Knows k n v.0

abbrev pub Marked : Start → (ℕ → View) → View × List (ℕ × Unit {0}) → ℕ → View × List (ℕ × Unit {0}) → Type 0
Marked k w v n u = (u ≡ (w n, v.1)) × (v.0.seen ≤ n) × Knows k n v.0

-- whichever ticket it is
abbrev pub MayDrawAny : Start → View → Fresh → (ℕ → Leaves) → Type 0
MayDrawAny k v f l = (n : ℕ) → MayDraw k.geometry k.is_visible v f (l n) n

-- Nothing but the tickets is read.
abbrev pub looked_at : View → ℕ → View
looked_at v n = record v { seen = n }

-- A client asks,
pub record AsksRequest (v : View) (leaves : ℕ → View) : Type 0 where
  pub client : ℕ
  pub request : Op
  pub may : MayAsk client v
  pub is : leaves ≡ (λ n. asking n client request may.self v)

-- a turn of the store begins,
pub record BeginsTurn (v : View) (leaves : ℕ → View) : Type 0 where
  pub store : StoreCell
  pub has : v.store ≡ (tt, store) ∷ []
  pub is : leaves ≡ (λ n. turn_begun n store v)

-- ends,
pub record EndsTurn (k : Start) (v : View) (leaves : ℕ → View) : Type 0 where
  pub turn : Turn
  pub may : MayEndTurn k.geometry k.is_visible v turn
  pub is : leaves ≡ (λ n. turn_ended n turn v)

-- files are told their births,
pub record TellsBirths (v : View) (leaves : ℕ → View) : Type 0 where
  pub names : NamesCell
  pub has : v.names ≡ (tt, names) ∷ []
  pub is : leaves ≡ (λ n. births_told names v)

-- or free blocks move.
pub record MovesFree (v : View) (leaves : ℕ → View) : Type 0 where
  pub was : StoreCell
  pub pools : List (ℕ × BlockSet)
  pub free : BlockSet
  pub may : MayMoveBlocks v was pools free
  pub is : leaves ≡ (λ n. blocks_moved pools free was v)

abbrev pub IsEvent : Start → View → (ℕ → View) → Type 0
IsEvent k v leaves = AsksRequest v leaves ⊎ (BeginsTurn v leaves ⊎ (EndsTurn k v leaves ⊎ (TellsBirths v leaves ⊎ MovesFree v leaves)))

-- The hand with every cell, with the store among them, knows the whole history.
abbrev pub KnowsAll : Start → ℕ → View → Type 0
KnowsAll k n v = (store : StoreCell) → v.store ≡ (tt, store) ∷ [] → IsWhole k (at_tickets n) v store

-- ---- what stands where nobody picked anything

abbrev pub no_table : TableId
no_table = record { words = 0; slots = 0; views_name = 0; atom = 0; block = 0; offset = 0; slot_names = [] }

abbrev pub no_start : Start
no_start = record { tree = root_alone; geometry = record { blocks = 0; inodes = 0; journal = 0 }; view = spent; is_visible = false }

abbrev pub no_leaves : ℕ → Leaves
no_leaves n = record { fds = fin.empty; files = []; pools = []; names = [] }

abbrev pub no_entry : Fresh
no_entry = record { client = 0; seq = 0; by = Primary; op = Sync; reply = Done }
