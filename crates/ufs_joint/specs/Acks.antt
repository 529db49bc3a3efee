-- An acknowledgement is drawn where what it acknowledges is known as committed, whoever has the store, and whether it has stopped.
use Rattle.std.specs.Prelude.{ℕ, ◌≡◌, List, [], ◌∷◌, ◌++◌, Some, None}
use Rattle.ufs_layout.specs.declared.geometry.Geometry.{Geometry}
use Rattle.ufs_model.specs.Descriptors.{opened}
use Rattle.ufs_model.specs.History.{IsLegal, tree_after}
use Rattle.ufs_model.specs.PosixTree.{PosixTree}
use Rattle.ufs_model.specs.declared.data.Entry.{Entry}
use Rattle.ufs_model.specs.declared.data.Op.TheVariants as op
use Rattle.ufs_store.specs.State.{StoreState, geometry_of_store}
use Rattle.ufs_promise_laws.specs.Parts.{Parts}
use Rattle.ufs_promise_laws.specs.Known.{AreNamesKnown, IsAllKnown, IsDiskKept, IsFileKnown, Known}

-- An `fsync` of a file,
abbrev pub FilesAreAcknowledged : Type 0
FilesAreAcknowledged = (s : StoreState) (start : PosixTree) (history : List Entry) (entry : Entry) (p : Parts) (known : Known) (fd file : ℕ) → IsLegal start (history ++ entry ∷ [])
    → entry.op ≡ op.Fsync fd → (opened (tree_after start history) entry.client fd).file ≡ Some file → IsFileKnown start history known file
    → IsDiskKept s start history p known → IsDiskKept s start (history ++ entry ∷ []) p known

-- one of a directory,
abbrev pub DirsAreAcknowledged : Type 0
DirsAreAcknowledged = (s : StoreState) (start : PosixTree) (history : List Entry) (entry : Entry) (p : Parts) (known : Known) (fd : ℕ) → IsLegal start (history ++ entry ∷ [])
    → entry.op ≡ op.Fsync fd → (opened (tree_after start history) entry.client fd).file ≡ None → AreNamesKnown start history known
    → IsDiskKept s start history p known → IsDiskKept s start (history ++ entry ∷ []) p known

-- and a `sync`.
abbrev pub AllIsAcknowledged : Geometry → Type 0
AllIsAcknowledged g = (s : StoreState) (start : PosixTree) (history : List Entry) (entry : Entry) (p : Parts) (known : Known) → geometry_of_store s ≡ g → IsLegal start (history ++ entry ∷ [])
    → entry.op ≡ op.Sync → IsAllKnown start history p known
    → IsDiskKept s start history p known → IsDiskKept s start (history ++ entry ∷ []) p known
