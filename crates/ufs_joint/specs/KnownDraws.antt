-- An entry is drawn that acknowledges nothing: what is known as committed stays, and so do all files that it doesn't touch.
use Rattle.std.specs.Prelude.{ℕ, ◌≡◌, ◌⊎◌, List, [], ◌∷◌, ◌++◌, Option, Some, true, false}
use Rattle.std.specs.FinMap as map
use Rattle.ufs_bitmap.specs.Blocks.{BlockSet}
use Rattle.ufs_file.specs.Hand.{FileState}
use Rattle.ufs_layout.specs.declared.geometry.Geometry.{Geometry}
use Rattle.ufs_model.specs.Asks.{IsAsk}
use Rattle.ufs_model.specs.FileCalls.{is_on_file}
use Rattle.ufs_model.specs.History.{IsLegal, is_excused, tree_after}
use Rattle.ufs_model.specs.PosixTree.{PosixTree}
use Rattle.ufs_model.specs.declared.data.Actor.{Actor}
use Rattle.ufs_model.specs.declared.data.Ask.{Ask}
use Rattle.ufs_model.specs.declared.data.Desc.{Desc}
use Rattle.ufs_model.specs.declared.data.Entry.{Entry}
use Rattle.ufs_crash_laws.specs.Changes.{asks_commit}
use Rattle.ufs_crash_laws.specs.Steps.{is_ok}
use Rattle.ufs_file_commits.specs.Serving.{IsApplied}
use Rattle.ufs_file_commits.specs.State.{DurableState}
use Rattle.ufs_promise_laws.specs.Requests.{IsNamesRequest}
use Rattle.ufs_store.specs.State.{StoreState, geometry_of_store}
use Rattle.ufs_promise_laws.specs.Laws.{leaves_tree}
use Rattle.ufs_promise_laws.specs.Parts.{Parts, durable_in, with_file}
use Rattle.ufs_promise_laws.specs.Sound.{IsSoundServer}
use Rattle.ufs_promise_laws.specs.Stored.{ArePartsOf}
use Rattle.ufs_promise_laws.specs.Known.{IsDiskKept, Known}

-- An excused one.
abbrev pub ExcusesStayKept : Type 0
ExcusesStayKept = (s : StoreState) (start : PosixTree) (history : List Entry) (entry : Entry) (p : Parts) (known : Known) → IsLegal start (history ++ entry ∷ [])
    → is_excused entry.reply ≡ true → IsDiskKept s start history p known → IsDiskKept s start (history ++ entry ∷ []) p known

-- One of a request that changes nothing, which acknowledges nothing: it asks for no commit, or is refused.
abbrev pub StillStaysKept : Type 0
StillStaysKept = (s : StoreState) (start : PosixTree) (history : List Entry) (entry : Entry) (p : Parts) (known : Known) → IsLegal start (history ++ entry ∷ [])
    → leaves_tree entry.op ≡ true → (is_ok entry.reply ≡ false) ⊎ (asks_commit entry.op ≡ false) → IsDiskKept s start history p known → IsDiskKept s start (history ++ entry ∷ []) p known

-- One that leaves the parts and the bytes of files as they are: a client's own answer.
abbrev pub BesideStaysKept : Type 0
BesideStaysKept = (s : StoreState) (start : PosixTree) (history : List Entry) (entry : Entry) (p : Parts) (known : Known) → IsLegal start (history ++ entry ∷ [])
    → (is_ok entry.reply ≡ false) ⊎ (asks_commit entry.op ≡ false) → ArePartsOf p (tree_after start (history ++ entry ∷ []))
    → (tree_after start (history ++ entry ∷ [])).bytes ≡ (tree_after start history).bytes → IsDiskKept s start history p known → IsDiskKept s start (history ++ entry ∷ []) p known

-- One of a request on a file, which went by what this file tells of it.
abbrev pub FileRequestsStayKept : Type 0
FileRequestsStayKept = (s : StoreState) (start : PosixTree) (history : List Entry) (entry : Entry) (p : Parts) (known : Known) (f : FileState) (next : DurableState) (pool : BlockSet)
    (ask : Ask) (server : Actor) (ticket : ℕ) (desc : Option Desc) (d : Desc) → IsLegal start (history ++ entry ∷ []) → asks_commit entry.op ≡ false
    → map.get p.files f.file ≡ Some f → is_on_file ask.op ≡ true → IsAsk (tree_after start history) ask → ask.desc ≡ Some d → d.file ≡ Some f.file
    → IsApplied (durable_in p.commits f) next p.pool pool ask server ticket entry desc → IsSoundServer (geometry_of_store s) s.unassigned.free p
    → IsDiskKept s start history p known → IsDiskKept s start (history ++ entry ∷ []) (with_file next pool p) known

-- One of a request of the names.
abbrev pub NameRequestsStayKept : Geometry → Type 0
NameRequestsStayKept g = (s : StoreState) (start : PosixTree) (history : List Entry) (entry : Entry) (p next : Parts) (known : Known) (lent left : BlockSet) → geometry_of_store s ≡ g → IsLegal start (history ++ entry ∷ []) → asks_commit entry.op ≡ false
    → IsNamesRequest (tree_after start history) (tree_after start (history ++ entry ∷ [])) p next lent left → IsSoundServer g s.unassigned.free p
    → IsDiskKept s start history p known → IsDiskKept s start (history ++ entry ∷ []) next known
