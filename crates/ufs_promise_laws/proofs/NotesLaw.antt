-- The notes of a server that is stored go on with a change.
use Rattle.std.proofs.Common.{◌≡◌, ℕ, ◌+◌, inl, inr, List, ◌++◌, Bool, true, false, length, ap, sym, refl, ◌∙◌, subst}
use Rattle.std.specs.FinSet as set
use Rattle.ufs_bitmap.specs.Blocks.{BlockSet}
use Rattle.ufs_bitmap.specs.Taking.{has}
use Rattle.ufs_dir_tree.specs.Steps.{DirState, after_all}
use Rattle.ufs_layout.specs.Superblock.{geometry_of}
use Rattle.ufs_layout.specs.declared.geometry.Geometry.{Geometry}
use Rattle.ufs_ledger.specs.Kept.{Counts}
use Rattle.ufs_ledger.specs.Ledger.{Ledger}
use Rattle.ufs_model.specs.PosixTree.{PosixTree}
use Rattle.ufs_model.specs.declared.data.Entry.{Entry}
use Rattle.ufs_promise_laws.specs.Held.{HasSoundNames}
use Rattle.ufs_promise_laws.specs.ChangeLaws.{ChangesJoin}
use Rattle.ufs_promise_laws.specs.Noted.{NotedMayBeMade, NotesAreRecords, NotesLeadOn}
use Rattle.ufs_name_tree.specs.Notes.{GoesNoted, IsStateOf}
use Rattle.ufs_names.specs.NamesPart.{AreInodesOf, NamesPart}
use Rattle.ufs_promise_laws.specs.Laws.{KeepsNumbers}
use Rattle.ufs_promise_laws.specs.Parts.{Parts, TheNames, ThePool}
use Rattle.ufs_promise_laws.specs.Stored.{AreNamesStored, IsStored}
use Rattle.ufs_promise_laws.proofs.NameEntries.{names_noted}
use Rattle.ufs_promise_laws.proofs.NamesLaw.{none_or_some}

pub notes_go_on : (g : Geometry) → NotedMayBeMade g → NotesAreRecords → NotesLeadOn → ChangesJoin g → (l : Ledger) (u : BlockSet) (start : PosixTree) (history : List Entry) (k : Counts) (p : Parts) (new : NamesPart) (lent : List ℕ) (pool : BlockSet)
    (go : GoesNoted p.names.tree new.tree pool) → geometry_of l.superblock ≡ g → length p.names.tree.dirs.dirs ≡ g.inodes + 1
    → ((b : ℕ) → set.contains pool b ≡ true → has lent b ≡ true) → ((b : ℕ) → has lent b ≡ true → set.contains p.pool b ≡ true)
    → ((s : DirState) → IsStateOf p.names.tree pool s → HasSoundNames g s → HasSoundNames g (after_all go.steps s)) → KeepsNumbers k.numbers p.names new go.steps → AreInodesOf new.tree new.held
    → IsStored l u start history k p → AreNamesStored l k.numbers (p.fresh ++ lent) new
notes_go_on g made told lead join l u start history k p new lent pool go same counted is_lent pooled sound keeps inodes st = by st.names
  where
    off : (b : ℕ) → has lent b ≡ true → (v : Bool) → has p.fresh b ≡ v → has p.fresh b ≡ false
    off b is false e = e
    off b is true e = (let clash = st.spaced.apart ThePool TheNames b (pooled b is) (inl e) in absurd cc)

    by : AreNamesStored l k.numbers p.fresh p.names → AreNamesStored l k.numbers (p.fresh ++ lent) new
    by (inl gone) = absurd (none_or_some go.noted.before p.names.tree.noted gone go.noted.was)
    by (inr n) = inr (names_noted l k.numbers p.fresh lent p.names new pool (subst NotedMayBeMade (sym same) made) told lead (subst ChangesJoin (sym same) join) n go (counted ∙ ap (λ (h : Geometry). h.inodes + 1) (sym same)) is_lent
        (λ b is. off b is (has p.fresh b) refl) (subst (λ (h : Geometry). (s : DirState) → IsStateOf p.names.tree pool s → HasSoundNames h s → HasSoundNames h (after_all go.steps s)) (sym same) sound) keeps st.parts.names.inodes inodes)
