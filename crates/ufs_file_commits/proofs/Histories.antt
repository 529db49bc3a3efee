-- A file by its history.
use Rattle.std.proofs.Common.{◌≡◌, ℕ, ◌≤◌, [], ◌∷◌, ◌++◌, Some, length, ap, sym, ◌∙◌, subst, arith, length-append}
use Rattle.std.proofs.lemmas.List.{append-nil}
use Rattle.ufs_model.specs.FileBytes.{bytes_of}
use Rattle.ufs_crash_laws.specs.Changes.{change_of, changes_of}
use Rattle.ufs_crash_laws.specs.FileChanges.{bytes_after}
use Rattle.ufs_crash_laws.specs.Laws.{BytesGoByChanges}
use Rattle.ufs_crash_laws.specs.Steps.{next_step}
use Rattle.ufs_crash_laws.proofs.Facts.Histories.{changes_of-push}
use Rattle.ufs_crash_laws.proofs.Facts.Shows.{bytes_after_all}
use Rattle.ufs_file_commits.specs.Committing.{GoesByEntries, HasTreeBytes}

pub has_tree_bytes : BytesGoByChanges → HasTreeBytes
has_tree_bytes by_changes f start history is legal there =
    sym (subst (λ h. bytes_after (bytes_of start.bytes f.file) (changes_of f.file start h) (length (changes_of f.file start history)) ≡ f.content.bytes) (append-nil history)
    (by_changes start history [] f.file f.content.bytes is legal there))
    ∙ bytes_after_all (bytes_of start.bytes f.file) (changes_of f.file start history)

pub goes_by_entries : BytesGoByChanges → GoesByEntries
goes_by_entries by_changes f g start history entry k is legal same_file same_inode there before = record {
  there = ap k.numbers.inode same_file ∙ before.there ∙ ap Some (sym same_inode);
  alone = λ other at. before.alone other (at ∙ ap Some same_inode) ∙ sym same_file;
  counted = subst (λ (file : ℕ). k.files file ≤ length (changes_of file start (history ++ entry ∷ []))) (sym same_file) more;
  bytes = has_tree_bytes by_changes g start (history ++ entry ∷ []) is legal there;
}
  where
    more : k.files f.file ≤ length (changes_of f.file start (history ++ entry ∷ []))
    more =
        let longer = ap length (changes_of-push f.file start history entry) ∙ length-append (changes_of f.file start history) (change_of f.file (next_step start history entry)) in
        let was = before.counted in
        omega (arith, longer, was)
