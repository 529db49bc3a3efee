-- Entries beside a file or the names are no changes of it.
use Rattle.std.proofs.Common.{List, ◌++◌, ap, ◌∙◌}
use Rattle.std.proofs.lemmas.List.{append-nil}
use Rattle.ufs_model.specs.History.{tree_after}
use Rattle.ufs_crash_laws.specs.Changes.{NameState, changes_of, name_changes}
use Rattle.ufs_crash_laws.specs.StepLaws.{UntouchedFilesStay, UntouchedNamesStay}
use Rattle.ufs_crash_laws.specs.declared.data.FileChange.{FileChange}
use Rattle.ufs_crash_laws.proofs.Facts.Histories.{changes_of-push, name_changes-push}
use Rattle.ufs_crash_laws.proofs.Facts.Sessions.{last_replied}
use Rattle.ufs_joint.specs.Beside.{FilesStayBeside, NamesStayBeside}

pub files_stay : UntouchedFilesStay → FilesStayBeside
files_stay stays start history entry file legal off =
    changes_of-push file start history entry ∙ ap (λ (more : List FileChange). changes_of file start history ++ more) (stays (tree_after start history) entry file (last_replied 0 start history entry legal.entries) off)
    ∙ append-nil (changes_of file start history)

pub names_stay : UntouchedNamesStay → NamesStayBeside
names_stay stays start history entry legal off =
    name_changes-push start history entry ∙ ap (λ (more : List NameState). name_changes start history ++ more) (stays (tree_after start history) entry (last_replied 0 start history entry legal.entries) off)
    ∙ append-nil (name_changes start history)
