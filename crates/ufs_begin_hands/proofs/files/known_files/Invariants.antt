use Rattle.std.proofs.Common.{◌≡◌, ◌++◌, ℕ, drop, map, Some}
use Rattle.std.specs.FinMap as fin
use Rattle.ufs_file.specs.Hand.{FileState}
use Rattle.ufs_joint.specs.FirstHand.{file_first}
use Rattle.ufs_hand_laws.specs.Owned.{Has}
use Rattle.ufs_begin_hands.specs.Values.{value_of, values_first}
use Rattle.ufs_begin_hands.proofs.files.known_files.Given as goal

abbrev pub invariant-loop-file : goal.invariant-loop-file
invariant-loop-file l = record {
  so_far : map value_of l.known.items ++ map (λ e. (file_first e.1).value) (drop l.file-index (fin.entries l.initial.files)) ≡ values_first l.initial.files;
  rest : (file : ℕ) (f : FileState) → Has {A = ℕ × FileState} (file, f) (drop l.file-index (fin.entries l.initial.files)) → fin.get l.files file ≡ Some f;
}
