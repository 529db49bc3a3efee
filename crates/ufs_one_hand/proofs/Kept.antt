-- What the hand has after each step in which it learns what an entry acknowledges.
use Rattle.std.specs.Prelude.{ℕ, suc, ◌≡◌, ◌||◌, nat_lt, true, List, [], ◌∷◌, ◌++◌, length, Option, Some, None, if◌then◌else◌, unwrap_or}
use Rattle.std.specs.FinMap as fin
use Rattle.std.specs.Ordering.{nat_cmp}
use Rattle.ufs_model.specs.PosixTree.{PosixTree}
use Rattle.ufs_model.specs.declared.data.Entry.{Entry}
use Rattle.ufs_model.specs.declared.data.Op.{Op}
use Rattle.ufs_model.specs.declared.data.Op.TheVariants as op
use Rattle.ufs_model.specs.Descriptors.{opened}
use Rattle.ufs_crash_laws.specs.Changes.{NameState, syncs_file, syncs_names}
use Rattle.ufs_hand_laws.specs.Covers.{step_in}
use Rattle.ufs_hand_laws.specs.Owned.{Has, each}
use Rattle.ufs_hand_laws.specs.Parts.{FilePart, NamesPart, View, later}
use Rattle.ufs_one_hand.specs.Drawn.{turned}
use Rattle.ufs_one_hand.specs.declared.hand.Learned.{Learned}
use Rattle.ufs_one_hand.specs.declared.hand.Learned.TheVariants as learned

-- the number of changes of names by which a file is made
abbrev pub made_with : ℕ → List NameState → ℕ
made_with file [] = 0
made_with file (s ∷ ss) = if nat_lt file s.next then 0 else suc (made_with file ss)

-- the changes of names with which a file is made, or none
abbrev pub birth_of : NamesPart → Option ℕ → ℕ
birth_of p None = 0
birth_of p (Some file) = made_with file (p.opening ∷ p.changes)

-- the file whose `fsync` is asked
abbrev pub file_asked : PosixTree → ℕ → Op → Option ℕ
file_asked t client (op.Fsync fd) = (opened t client fd).file
file_asked t client _ = None

module _ (t : PosixTree) (e : Entry) where
  -- as many changes of names as the entry acknowledges: all, or those with which its file is made
  abbrev pub names_asked : NamesPart → ℕ
  names_asked p = if syncs_names (step_in t e) then length p.changes else birth_of p (file_asked t e.client e.op)

  abbrev pub names_asked_in : List (Unit {0} × NamesPart) → ℕ
  names_asked_in [] = 0
  names_asked_in (p ∷ ps) = names_asked p.1

  -- the files whose changes it acknowledges
  abbrev pub files_asked : List (ℕ × FilePart) → List ℕ
  files_asked [] = []
  files_asked (f ∷ fs) = if syncs_file f.0 (step_in t e) then f.0 ∷ files_asked fs else files_asked fs

  -- so many changes of names are committed, and the names tell of those files that they are born
  abbrev pub names_kept : View → ℕ → View
  names_kept v tickets = record v {
    names = each (λ _ p. record p { born = p.born ++ files_asked v.files; known = if syncs_names (step_in t e) then length p.changes else p.known }) v.names;
    store = each (λ _ s. record (turned tickets [] s) { names = later s.names (names_asked_in v.names) }) v.store;
    seen = tickets;
  }

  -- these learn of it
  abbrev pub births_kept : View → ℕ → View
  births_kept v tickets = record v { files = each (λ f p. record p { born = syncs_file f (step_in t e) || p.born }) v.files; seen = tickets }

  -- how many changes of each file are committed then
  abbrev pub counts_with : List (ℕ × FilePart) → fin.FinMap nat_cmp ℕ → fin.FinMap nat_cmp ℕ
  counts_with [] counts = counts
  counts_with (f ∷ fs) counts = fin.insert (counts_with fs counts) f.0 (if syncs_file f.0 (step_in t e) then length f.1.changes else unwrap_or (fin.get counts f.0) 0)

  abbrev pub files_kept : View → ℕ → View
  files_kept v tickets = record v {
    files = each (λ f p. record p { known = if syncs_file f (step_in t e) then length p.changes else p.known }) v.files;
    store = each (λ _ s. record (turned tickets [] s) { files = counts_with v.files s.files }) v.store;
    seen = tickets;
  }

  -- the names tell of each file that the entry syncs that it is born
  abbrev pub AreBirthsTold : View → Type 0
  AreBirthsTold v = (f : ℕ) (x : FilePart) (p : NamesPart) → Has (f, x) v.files → Has (tt, p) v.names → syncs_file f (step_in t e) ≡ true → Has f p.born

  abbrev pub AreBorn : View → Type 0
  AreBorn v = (f : ℕ) (x : FilePart) → Has (f, x) v.files → syncs_file f (step_in t e) ≡ true → x.born ≡ true

  abbrev pub learned_view : Learned → View → ℕ → View
  learned_view learned.Names = names_kept
  learned_view learned.Births = births_kept
  learned_view learned.Files = files_kept
