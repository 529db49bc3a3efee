-- What no hand can do: each follows from the sound state, or from what a step asks of its own hand.
use Rattle.std.specs.Prelude.{ℕ, suc, ◌≤◌, ◌<◌, ◌≡◌, ◌≢◌, false, true, List, length, is_some, set}
use Rattle.std.specs.FinMap as fin
use mathlib.Core.Option.{some}
use lib.ListN.{get_elem?}
use Rattle.ufs_model.specs.PosixTree.{PosixTree, IsTree}
use Rattle.ufs_model.specs.History.{is_excused}
use Rattle.ufs_model.specs.Touched.{touched_parts, IsPartOf}
use Rattle.ufs_model.specs.declared.data.Entry.{Entry}
use Rattle.ufs_model.specs.declared.data.Lease.{Lease}
use Rattle.ufs_model.specs.declared.data.PartName.{PartName}
use Rattle.ufs_model.specs.declared.data.PartName.TheVariants as part
use Rattle.ufs_model.specs.declared.data.Reply.TheVariants as reply
use Rattle.ufs_hand_laws.specs.declared.fresh.Fresh.{Fresh}
use Rattle.ufs_hand_laws.specs.Owned.{Has, total}
use Rattle.ufs_hand_laws.specs.Parts.{ClientPart, FilePart, StorePart, View, Word, Start, uses, committed, HoldsPart, kept_of}
use Rattle.ufs_hand_laws.specs.Covers.{SyncsFile}
use Rattle.ufs_hand_laws.specs.LeasesTrue.{IsTrueOf}
use Rattle.ufs_hand_laws.specs.Explained.{Showing}
use Rattle.ufs_hand_laws.specs.Sound.{IsSound}
use Rattle.ufs_hand_laws.specs.Draws.{Leaves, entry_of, drawn, IsIn, IsAbsent, IsUnchanged, MayDraw}
use Rattle.ufs_hand_laws.specs.Whole.{HoldsAll}

-- A draw needs each part that the request touches, where that is there and goes on.
abbrev pub DrawsNeedTheirParts : Type 0
DrawsNeedTheirParts = (f : Fresh) (v : View) (l : Leaves) (known : List Lease) (t : PosixTree) (p : PartName) → MayDraw f v l known → IsTree t → IsIn v t
    → ((x : Lease) → Has x known → IsTrueOf t x.part x.fact) → is_excused f.reply ≡ false → IsPartOf (touched_parts t f.client f.op) p → (IsAbsent p t → ⊥) → (IsUnchanged p t (entry_of 0 f) → ⊥) → HoldsPart p v

-- A hand that gave a part away hasn't it.
abbrev pub SplitsLeaveNone : Type 0
SplitsLeaveNone = (p : PartName) (v : View) → HoldsPart p (kept_of p v) → ⊥

-- So once a part was sent, no entry that changes it is drawn on what is left: no second write from a copy of a file's part.
abbrev pub SentPartsAreNotDrawnOn : Type 0
SentPartsAreNotDrawnOn = (f : Fresh) (v : View) (l : Leaves) (known : List Lease) (t : PosixTree) (p : PartName) → MayDraw f (kept_of p v) l known → IsTree t → IsIn (kept_of p v) t
    → ((x : Lease) → Has x known → IsTrueOf t x.part x.fact) → is_excused f.reply ≡ false → IsPartOf (touched_parts t f.client f.op) p → (IsAbsent p t → ⊥) → (IsUnchanged p t (entry_of 0 f) → ⊥) → ⊥

-- No two hands have one part.
abbrev pub PartsStandOnce : Showing → Type 0
PartsStandOnce S = (k : Start) (word : Word) (views : List View) (i j : ℕ) (v u : View) (p : PartName) → IsSound S k word views → get_elem? views i ≡ some v → get_elem? views j ≡ some u → i ≢ j → HoldsPart p v → HoldsPart p u → ⊥

-- Nor have two parts one block.
abbrev pub BlocksStandOnce : Showing → Type 0
BlocksStandOnce S = (k : Start) (word : Word) (views : List View) (b : ℕ) → IsSound S k word views → total (uses b) views ≤ 1

-- An acknowledged `fsync` or `sync` of a file needs all its changes to be known as committed.
abbrev pub SyncsNeedCommits : Showing → Type 0
SyncsNeedCommits S = (k : Start) (word : Word) (views : List View) (i : ℕ) (v : View) (f : Fresh) (l : Leaves) (known : List Lease) (t : PosixTree) (g : ℕ) (x : FilePart) → IsSound S k word views → get_elem? views i ≡ some v
    → MayDraw f v l known → IsTree t → IsIn v t → ((y : Lease) → Has y known → IsTrueOf t y.part y.fact) → f.reply ≡ reply.Done → SyncsFile t f.client f.op g → Has (g, x) v.files → length x.changes ≤ x.known

-- A file knows no more as committed than the store has.
abbrev pub KnownIsCommitted : Showing → Type 0
KnownIsCommitted S = (k : Start) (word : Word) (views : List View) (i j : ℕ) (v u : View) (g : ℕ) (x : FilePart) (w : Unit {0}) (s : StorePart) → IsSound S k word views → get_elem? views i ≡ some v → get_elem? views j ≡ some u
    → Has (g, x) v.files → Has (w, s) u.store → x.known ≤ committed s g

-- an entry that some hand has
pub record IsDrawnIn (views : List View) (e : Entry) : Type 0 where
  pub seat : ℕ
  pub view : View
  pub at : get_elem? views seat ≡ some view
  pub client : ℕ
  pub part : ClientPart
  pub there : Has (client, part) view.clients
  pub entry : Has e part.entries

-- Each entry has a ticket below the word's, and no two have one ticket.
pub record TicketsStandOnce (word : Word) (views : List View) : Type 0 where
  pub below : (e : Entry) → IsDrawnIn views e → e.ticket < word.tickets
  pub one : (d e : Entry) → IsDrawnIn views d → IsDrawnIn views e → d.ticket ≡ e.ticket → d ≡ e

abbrev pub TicketsAreOnce : Showing → Type 0
TicketsAreOnce S = (k : Start) (word : Word) (views : List View) → IsSound S k word views → TicketsStandOnce word views

-- A draw that takes another ticket than the word's leaves no sound state.
abbrev pub DrawsTakeTheWordsTicket : Showing → Type 0
DrawsTakeTheWordsTicket S = (k : Start) (word : Word) (views : List View) (i : ℕ) (v : View) (f : Fresh) (l : Leaves) (known : List Lease) (ticket : ℕ) → IsSound S k word views → get_elem? views i ≡ some v → MayDraw f v l known
    → IsSound S k (record { tickets = suc word.tickets; clock = word.clock }) (set views i (drawn ticket f l v)) → ticket ≡ word.tickets

-- The hand that closes has each part: the names, the store, each client of the opening, and each file of its tree.
pub record HasEach (k : Start) (v : View) : Type 0 where
  pub names : HoldsPart part.Names v
  pub store : HoldsPart part.Store v
  pub clients : (c : ℕ) → HoldsPart (part.Client c) k.view → HoldsPart (part.Client c) v
  pub files : (t : PosixTree) (f : ℕ) → IsTree t → IsIn v t → is_some (fin.get t.bytes f) ≡ true → HoldsPart (part.File f) v

abbrev pub ClosesNeedAll : Type 0
ClosesNeedAll = (k : Start) (v : View) → HoldsAll k v → HasEach k v
