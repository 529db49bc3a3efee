-- What the part of a tree knows of a file.
use Rattle.std.proofs.Common.{◌≡◌, ◌≢◌, ℕ, ◌⊎◌, inl, inr, List, true, false, Option, Some, None, is_some, ap, sym, ◌∙◌}
use Rattle.std.specs.Prelude.{IsSome}
use Rattle.std.specs.FinMap as map
use Rattle.std.proofs.lemmas.Bool.{cases_eq, true≢false}
use Rattle.ufs_file.specs.Hand.{FileState}
use Rattle.ufs_files.specs.Files.{Files}
use Rattle.ufs_model.specs.Paths.{whole_path}
use Rattle.ufs_model.specs.PosixTree.{PosixTree}
use Rattle.ufs_model.specs.declared.data.Node.TheVariants.{File}
use Rattle.ufs_model.specs.Posix.{posix}
use Rattle.ufs_model.specs.declared.data.Ask.{Ask}
use Rattle.ufs_model.specs.declared.data.Desc.{Desc}
use Rattle.ufs_model.specs.declared.data.Reply.{Reply}
use Rattle.ufs_model.proofs.Facts.Live.{held_has}
use Rattle.ufs_model.proofs.Facts.Lookups.{there_or_not}
use Rattle.ufs_name_tree.specs.NameTable.{node_at}
use Rattle.ufs_names.specs.Calls.{IsAsked, IsServed}
use Rattle.ufs_names.specs.NamesPart.{NamesPart, IsNamesPart}
use Rattle.ufs_names.proofs.NameLists.{AreNames}
use Rattle.ufs_names.proofs.WalkLinks.{met}

module _ (n : NamesPart) (t : PosixTree) (part : IsNamesPart n t) where
  -- a file that stands at some names has bytes, and its holders are told
  pub file_told : (names : List (List ℕ)) (f : ℕ) → AreNames names → node_at n.tree names ≡ Some (File f) → IsSome (map.get t.bytes f) × IsSome (map.get n.held f)
  file_told names f are at = (has, part.told f ∙ has)
    where
      has : is_some (map.get t.bytes f) ≡ true
      has = held_has t part.tree f (inl (whole_path names, met (node_at n.tree) t.paths part.paths names are ∙ at))

-- the one file that a request makes has the next number
pub new_is_next : (n new : NamesPart) (t : PosixTree) (ask : Ask) (fs fs' : Files) (reply : Reply) (desc : Option Desc) → IsAsked t n ask fs → IsServed t ask new fs fs' reply desc → (f : ℕ) → map.get n.held f ≡ None → IsSome (map.get new.held f) → f ≡ n.next
new_is_next n new t ask fs fs' reply desc asked served f none some = by (cases_eq f t.next)
  where
    was : is_some (map.get t.bytes f) ≡ false
    was = let part = asked.part in sym (part.told f) ∙ ap is_some none

    now : is_some (map.get (posix t ask.client ask.op).0.bytes f) ≡ true
    now = let part = served.goes_on in sym (part.told f) ∙ some

    -- those that are here have bytes
    not_here : ((s : FileState) × (map.get fs f ≡ Some s)) ⊎ (map.get fs f ≡ None) → map.get fs f ≡ None
    not_here (inr absent) = absent
    not_here (inl here) = let is = asked.files f here.0 here.1 in absurd (true≢false (sym (ap is_some is.here) ∙ was))

    by : (f ≡ t.next) ⊎ (f ≢ t.next) → f ≡ n.next
    by (inl same) = let part = asked.part in same ∙ sym part.next
    by (inr other) = let on = served.go_on in absurd (true≢false (sym now ∙ ap is_some (on.others f (not_here (there_or_not (map.get fs f))) other) ∙ was))
