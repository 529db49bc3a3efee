use Rattle.std.proofs.Common.{◌≡◌, ℕ, length, None, slice_index_or}
use Rattle.ufs_name_tree.proofs.name_tree.no_files.Given as goal

abbrev pub invariant-loop-made : goal.invariant-loop-made
invariant-loop-made l = record {
  counted : length l.files.items ≡ l.made;
  none : (k : ℕ) → slice_index_or l.files.items k None ≡ None;
}
