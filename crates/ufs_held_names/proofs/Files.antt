-- A server's files, where it has one or none, and their cells.
use Rattle.std.proofs.Common.{◌≡◌, ◌≢◌, ℕ, suc, ◌≤◌, ◌+◌, inl, inr, eqb, Bool, true, false, cond, List, [], ◌∷◌, Option, Some, None, is_some, ap, sym, refl, ◌∙◌, subst, arith}
use Rattle.std.specs.Prelude.{IsSome, IfSome, unwrap_or}
use Rattle.std.specs.Ordering.{nat_cmp}
use Rattle.std.specs.FinMap as map
use Rattle.ufs_file_commits.specs.State.{CommitState, DurableState, state_of}
use Rattle.ufs_file.specs.Hand.{FileState}
use Rattle.ufs_names.specs.Calls.{no_bytes}
use Rattle.ufs_hand_laws.specs.Owned.{Has, count, one}
use Rattle.ufs_promise_laws.specs.Parts.{Commits, committed_as, durable_in}
use Rattle.ufs_joint.specs.Cells.{FileCell}
use Rattle.ufs_joint.specs.NamesHands.{AreFilesOfCells, AreNumberedOnce, Changes, IsNew, IsNextCell}
use Rattle.ufs_joint.proofs.OneFile.{only_here}
use Rattle.ufs_noted.specs.Known.{commits_in, file_in}
use Rattle.ufs_noted.specs.Noted.{one_file, one_known}
use Rattle.ufs_noted.specs.declared.known.KnownFile.{KnownFile}
use Rattle.ufs_noted.proofs.Maps.{file_here, known_here, only_file, only_known}
use Rattle.ufs_held_names.specs.Drawn.{new_cell, new_cells, next_cell, next_cells}

none_here : {A : Type 0} (o : Option A) → o ≡ None → IsSome o → ⊥
none_here o none some = (let clash : true ≡ false = sym some ∙ ap is_some none in cc)

no_file_in : (f : ℕ) → IsSome (map.get (one_file 0 None) f) → ⊥
no_file_in f some = none_here (map.get (one_file 0 None) f) (map.get-empty {X = FileState} nat_cmp f) some

no_commits_in : (f : ℕ) → IsSome (map.get (one_known 0 None) f) → ⊥
no_commits_in f some = none_here (map.get (one_known 0 None) f) (map.get-empty {X = CommitState} nat_cmp f) some

one_at_most : (b : Bool) → one b + 0 ≤ 1
one_at_most true = omega arith
one_at_most false = omega arith

-- ---- no file

pub files_none : (cells : List (ℕ × FileCell)) → cells ≡ [] → AreFilesOfCells cells map.empty map.empty
files_none cells none = subst (λ (cs : List (ℕ × FileCell)). AreFilesOfCells cs map.empty map.empty) (sym none) (record { here = λ f c has. absurd has; back = λ f some. absurd (no_file_in f some); told = λ f some. absurd (no_commits_in f some) })

-- ---- one

pub files_one : (number : ℕ) (c : FileCell) (file : FileState) (commits : CommitState) → file.file ≡ number → c.value ≡ state_of file commits → (cells : List (ℕ × FileCell)) → cells ≡ (number, c) ∷ [] → AreFilesOfCells cells (one_file number (Some file)) (one_known number (Some commits))
files_one number c file commits its value cells is = subst (λ (cs : List (ℕ × FileCell)). AreFilesOfCells cs (one_file number (Some file)) (one_known number (Some commits))) (sym is) (record {
  here = λ f d has. let o = only_here number f c d has in (
    ap (map.get (one_file number (Some file))) o.0 ∙ file_here number (Some file) ∙ ap (λ (x : DurableState). Some x.file) (sym value) ∙ ap (λ (x : FileCell). Some x.value.file) (sym o.1),
    ap (λ (x : FileCell). durable_in (one_known number (Some commits)) x.value.file) o.1
        ∙ ap (λ (x : DurableState). durable_in (one_known number (Some commits)) x.file) value
        ∙ ap (λ (o' : Option CommitState). state_of file (unwrap_or o' (committed_as file))) (ap (map.get (one_known number (Some commits))) its ∙ known_here number (Some commits))
        ∙ sym value
        ∙ ap (λ (x : FileCell). x.value) (sym o.1),
  );
  back = λ f some. (c, inl (ap (λ (n : ℕ). (n, c)) (only_file number (Some file) f some)));
  told = λ f some. ap (λ (n : ℕ). is_some (map.get (one_file number (Some file)) n)) (only_known number (Some commits) f some) ∙ ap is_some (file_here number (Some file));
})

pub once_one : (number : ℕ) (c : FileCell) → c.value.file.file ≡ number → AreNumberedOnce ((number, c) ∷ [])
once_one number c its = record { once = λ f. one_at_most (eqb f number); number = λ f d has. let o = only_here number f c d has in ap (λ (x : FileCell). x.value.file.file) o.1 ∙ its ∙ sym o.0 }

pub once_none : AreNumberedOnce []
once_none = record { once = λ f. omega arith; number = λ f c has. absurd has }

-- ---- the new file

pub new_files : (next ticket : ℕ) (made : Option FileState) → IfSome made (λ s. s ≡ no_bytes next s.inode) → AreFilesOfCells (new_cells made ticket) (one_file next made) map.empty
new_files next ticket None young = files_none [] refl
new_files next ticket (Some s) young = record {
  here = λ f d has. let o = only_here s.file f (new_cell s ticket) d has in (
    ap (map.get (one_file next (Some s))) (o.0 ∙ its) ∙ file_here next (Some s) ∙ ap (λ (x : FileCell). Some x.value.file) (sym o.1),
    ap (λ (x : FileCell). durable_in map.empty x.value.file) o.1 ∙ ap (λ (o' : Option CommitState). state_of s (unwrap_or o' (committed_as s))) (map.get-empty {X = CommitState} nat_cmp s.file) ∙ ap (λ (x : FileCell). x.value) (sym o.1),
  );
  back = λ f some. (new_cell s ticket, inl (ap (λ (n : ℕ). (n, new_cell s ticket)) (only_file next (Some s) f some ∙ sym its)));
  told = λ f some. absurd (no_commits_in f some);
}
  where
    its : s.file ≡ next
    its = ap (λ (x : FileState). x.file) young

pub new_once : (next ticket : ℕ) (made : Option FileState) → IfSome made (λ s. s ≡ no_bytes next s.inode) → AreNumberedOnce (new_cells made ticket)
new_once next ticket None young = once_none
new_once next ticket (Some s) young = once_one s.file (new_cell s ticket) refl

pub new_next : (before : List (ℕ × FileCell)) → before ≡ [] → (next ticket : ℕ) (made : Option FileState) → IfSome made (λ s. s ≡ no_bytes next s.inode) → (f : ℕ) (c : FileCell) → Has (f, c) (new_cells made ticket) → IsNextCell before next ticket None f c
new_next before none next ticket None young f c has = absurd has
new_next before none next ticket (Some s) young f c has =
    let o = only_here s.file f (new_cell s ticket) c has in
    IsNew (ap (count eqb f) none) (o.0 ∙ ap (λ (x : FileState). x.file) young) (o.1 ∙ ap (λ (x : FileCell). record { value = x.value; changed = suc ticket; known = 0; born = false }) (sym o.1))

-- ---- the touched file

pub next_files : (number ticket : ℕ) (cell : FileCell) (kept : Option KnownFile) → IfSome kept (λ k. k.hand.file ≡ number) → AreFilesOfCells (next_cells kept ((number, cell) ∷ []) ticket) (one_file number (file_in kept)) (one_known number (commits_in kept))
next_files number ticket cell None its = files_none [] refl
next_files number ticket cell (Some k) its = files_one number (next_cell k ticket cell) k.hand k.commits its refl _ refl

pub next_once : (number ticket : ℕ) (cell : FileCell) (kept : Option KnownFile) → IfSome kept (λ k. k.hand.file ≡ number) → AreNumberedOnce (next_cells kept ((number, cell) ∷ []) ticket)
next_once number ticket cell None its = once_none
next_once number ticket cell (Some k) its = once_one number (next_cell k ticket cell) its

pub next_next : (before : List (ℕ × FileCell)) (number ticket : ℕ) (cell : FileCell) → before ≡ (number, cell) ∷ [] → (next : ℕ) (kept : Option KnownFile) → (f : ℕ) (c : FileCell) → Has (f, c) (next_cells kept ((number, cell) ∷ []) ticket) → IsNextCell before next ticket (Some number) f c
next_next before number ticket cell is next None f c has = absurd has
next_next before number ticket cell is next (Some k) f c has =
    let o = only_here number f (next_cell k ticket cell) c has in
    Changes cell (subst (Has (f, cell)) (sym is) (inl (ap (λ (n : ℕ). (n, cell)) o.0))) (o.1 ∙ ap (λ (x : FileCell). record cell { value = x.value; changed = suc ticket }) (sym o.1))
