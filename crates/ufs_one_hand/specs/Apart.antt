-- Files that are apart: each in a hand of its own, away from the hand that draws.
use Rattle.std.specs.Prelude.{ℕ, ◌+◌, ◌≡◌, ◌≤◌, true, List, [], ◌∷◌, Option, Some, is_some, eqb}
use Rattle.std.specs.Ordering.{nat_cmp}
use Rattle.std.specs.FinMap as fin
use Rattle.ufs_model.specs.History.{tree_after}
use Rattle.ufs_model.specs.PosixTree.{PosixTree}
use Rattle.ufs_model.specs.Touched.{IsPartOf, touched_parts}
use Rattle.ufs_model.specs.declared.data.Entry.{Entry}
use Rattle.ufs_model.specs.declared.data.Op.{Op}
use Rattle.ufs_model.specs.declared.data.PartName.TheVariants as part
use Rattle.ufs_crash_laws.specs.Changes.{changes_of}
use Rattle.ufs_hand_laws.specs.Owned.{one, count}
use Rattle.ufs_hand_laws.specs.Parts.{FilePart, Start, View}
use Rattle.ufs_one_hand.specs.OneHand.{IsFileAt}

-- hands of files, by the files' numbers
abbrev pub FileViews : Type 0
FileViews = fin.FinMap nat_cmp View

-- A hand of this file's part, and of nothing else.
pub record IsHandOfFile (k : Start) (history : List Entry) (stopped : Option ℕ) (file : ℕ) (u : View) : Type 0 where
  pub part : FilePart
  pub files : u.files ≡ (file, part) ∷ []
  pub at : IsFileAt (tree_after k.tree history) file part
  pub changes : part.changes ≡ changes_of file k.tree history
  pub clients : u.clients ≡ []
  pub asked : u.asked ≡ []
  pub pools : u.pools ≡ []
  pub names : u.names ≡ []
  pub store : u.store ≡ []
  pub faults : u.faults ≡ []
  pub shortages : u.shortages ≡ []
  pub stop : (n : ℕ) → u.stop ≡ Some n → stopped ≡ Some n

-- Each file of the tree is in the hand, or apart in one of its own, and not in both.
pub record HasEachFile (k : Start) (history : List Entry) (v : View) (files : FileViews) : Type 0 where
  pub here : (f : ℕ) → count eqb f v.files + one (is_some (fin.get files f)) ≡ one (is_some (fin.get (tree_after k.tree history).bytes f))
  pub apart : (f : ℕ) (u : View) → fin.get files f ≡ Some u → IsHandOfFile k history v.stop f u

-- The hand has each file that the request touches, of those that are there.
abbrev pub HasTouched : PosixTree → (client : ℕ) → Op → View → Type 0
HasTouched t client op v = (f : ℕ) → IsPartOf (touched_parts t client op) (part.File f) → is_some (fin.get t.bytes f) ≡ true → 1 ≤ count eqb f v.files
