-- While others draw entries that don't touch a file or the names, as many changes of it are counted as before: so what a turn of the
-- store makes known is the same for each number of entries since it began.
use Rattle.std.specs.Prelude.{ℕ, ◌≡◌, List, [], ◌∷◌, ◌++◌}
use Rattle.ufs_model.specs.History.{IsLegal, tree_after}
use Rattle.ufs_model.specs.PosixTree.{PosixTree}
use Rattle.ufs_model.specs.Touched.{IsPartOf, touched_parts}
use Rattle.ufs_model.specs.declared.data.Entry.{Entry}
use Rattle.ufs_model.specs.declared.data.PartName.{PartName}
use Rattle.ufs_model.specs.declared.data.PartName.TheVariants as part
use Rattle.ufs_crash_laws.specs.Changes.{changes_of, name_changes}

-- the next entry of a history touches this part
abbrev pub Touches : PosixTree → List Entry → Entry → PartName → Type 0
Touches start history entry name = IsPartOf (touched_parts (tree_after start history) entry.client entry.op) name

abbrev pub FilesStayBeside : Type 0
FilesStayBeside = (start : PosixTree) (history : List Entry) (entry : Entry) (file : ℕ) → IsLegal start (history ++ entry ∷ []) → (Touches start history entry (part.File file) → ⊥) → changes_of file start (history ++ entry ∷ []) ≡ changes_of file start history

abbrev pub NamesStayBeside : Type 0
NamesStayBeside = (start : PosixTree) (history : List Entry) (entry : Entry) → IsLegal start (history ++ entry ∷ []) → (Touches start history entry part.Names → ⊥) → name_changes start (history ++ entry ∷ []) ≡ name_changes start history
