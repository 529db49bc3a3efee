-- Numbers that are given to files in turn.
use Rattle.std.specs.Prelude.{ℕ, ◌+◌, ◌-◌, ◌==◌, ◌&&◌, is_none, List, [], ◌∷◌, Bool, true, false, Option, Some, None, slice_set, slice_index_or}
use Rattle.ufs_layout.specs.InodeForm.{InodeForm}
use Rattle.ufs_walk.specs.Walked.{Place}

abbrev pub is_dir_form : Option InodeForm → Bool
is_dir_form None = false
is_dir_form (Some form) = form.kind == 2

-- by the forms of inode 1, 2, .. in order
abbrev pub is_dir_in : List (Option InodeForm) → ℕ → Bool
is_dir_in forms inode = is_dir_form (slice_index_or forms (inode - 1) None)

-- a directory has no number
abbrev pub after : Bool → ℕ → ℕ
after true next = next
after false next = next + 1

abbrev pub noted : Bool → ℕ → ℕ → List (Option ℕ) → List (Option ℕ)
noted true next inode files = files
noted false next inode files = slice_set files inode (Some next)

-- by inode, the numbers that the files of these places get in turn
abbrev pub numbers_from : (ℕ → Bool) → ℕ → List Place → List (Option ℕ) → List (Option ℕ)
numbers_from dir next [] files = files
numbers_from dir next (p ∷ ps) files = numbers_from dir (after (dir p.1) next) ps (noted (dir p.1) next p.1 files)

abbrev pub next_number : (ℕ → Bool) → ℕ → List Place → ℕ
next_number dir next [] = next
next_number dir next (p ∷ ps) = next_number dir (after (dir p.1) next) ps

-- ---- files without a number

abbrev pub is_file_form : Option InodeForm → Bool
is_file_form None = false
is_file_form (Some form) = form.kind == 1

-- By the forms of inode 1, 2, .. in order, and the numbers by inode: the inode is a file's, and has none.
abbrev pub is_unnamed_in : List (Option InodeForm) → List (Option ℕ) → ℕ → Bool
is_unnamed_in forms files inode = is_file_form (slice_index_or forms (inode - 1) None) && is_none (slice_index_or files inode None)
