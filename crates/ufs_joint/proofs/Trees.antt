-- Of which trees the parts are, where no block of a file is in memory.
use Rattle.std.proofs.Common.{◌≡◌, ℕ, List, [], length, Option, Some, None, ap, sym, refl, ◌∙◌}
use Rattle.std.specs.Prelude.{unwrap_or}
use Rattle.std.specs.FinMap as fin
use Rattle.std.specs.Option.{option_map}
use Rattle.ufs_bytes_laws.specs.Alike.{AreAlike}
use Rattle.ufs_bytes_laws.proofs.SizeLemmas.{both_some}
use Rattle.ufs_bytes_laws.proofs.TreeLemmas.{by_files, trees, with_sizes}
use Rattle.ufs_file.specs.Hand.{FileState, IsFileOf}
use Rattle.ufs_model.specs.FileBytes.{bytes_of}
use Rattle.ufs_model.specs.PosixTree.{PosixTree}
use Rattle.ufs_model.proofs.Facts.Lookups.{same_some}
use Rattle.ufs_names.specs.NamesPart.{IsNamesPart, NamesPart}
use Rattle.ufs_promise_laws.specs.Parts.{Parts}
use Rattle.ufs_promise_laws.specs.Stored.{ArePartsOf}
use Rattle.ufs_promise_laws.proofs.Whole.{tree_has, tree_may}
use Rattle.ufs_joint.specs.Ready.{AreAway}

names_alike : (n : NamesPart) (t u : PosixTree) → AreAlike t u → IsNamesPart n t → IsNamesPart n u
names_alike n t u is names = by_files (IsNamesPart n) t u is (record {
  tree = trees t (record t { bytes = u.bytes }) (with_sizes t u.bytes is.sizes) names.tree;
  paths = names.paths;
  once = names.once;
  next = names.next;
  linked = names.linked;
  held = names.held;
  told = λ f. names.told f ∙ both_some (fin.get t.bytes f) (fin.get u.bytes f) (is.sizes f);
  inodes = names.inodes;
})

-- other bytes, as many
sized : (o other : Option (List ℕ)) (xs : List ℕ) → o ≡ Some xs → option_map length o ≡ option_map length other → (other ≡ Some (unwrap_or other [])) × (length (unwrap_or other []) ≡ length xs)
sized o (Some ys) xs is same = (refl, same_some (length ys) (length xs) (sym same ∙ ap (option_map length) is))
sized o None xs is same = let both : Some (length xs) ≡ None = sym (ap (option_map length) is) ∙ same in absurd cc

-- They are those of each tree that is like one of theirs.
pub parts_alike : (p : Parts) (t u : PosixTree) → AreAway p.files → AreAlike t u → ArePartsOf p t → ArePartsOf p u
parts_alike p t u away is parts = record {
  names = names_alike p.names t u is parts.names;
  files = λ f s here. (let was = parts.files f s here in (was.0, file f s here was));
  inodes = parts.inodes;
  here = parts.here;
}
  where
    file : (f : ℕ) (s : FileState) → fin.get p.files f ≡ Some s → (s.file ≡ f) × IsFileOf s t → IsFileOf s u
    file f s here was =
        let may = tree_may t f s was in
        let has = sized (fin.get t.bytes f) (fin.get u.bytes f) (bytes_of t.bytes f) (tree_has t f s was) (is.sizes f) in
        record {
          bytes = bytes_of u.bytes f;
          has = ap (fin.get u.bytes) was.0 ∙ has.0;
          may = record { long = has.1 ∙ may.long; same = λ place there. absurd (away f s here place there) };
        }
