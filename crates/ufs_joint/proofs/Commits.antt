-- Whole parts in which each file's commits are told: a file of which nothing is told is committed as it is.
use Rattle.std.proofs.Common.{◌≡◌, ℕ, Option, Some, None, option_map, map, ap, sym, refl, ◌∙◌}
use Rattle.std.specs.Prelude.{unwrap_or}
use Rattle.std.specs.Cmp.{nat_cmp_total}
use Rattle.std.specs.Ordering.{nat_cmp}
use Rattle.std.specs.FinMap as fin
use Rattle.std.specs.FinMap.{get-empty, get-entries, get-from_entries}
use Rattle.ufs_file_commits.specs.State.{CommitState, state_of}
use Rattle.ufs_file.specs.Hand.{FileState}
use Rattle.ufs_files.specs.Files.{AreNumbered, Files}
use Rattle.ufs_joint.specs.Whole.{commits_of, hand_of}
use Rattle.ufs_hand_laws.specs.Owned.{find}
use Rattle.std.specs.Prelude.{eqb}
use Rattle.ufs_promise_laws.specs.Parts.{Commits, committed_as, durable_in}
use Rattle.ufs_joint.specs.FirstHand.{file_first, files_first}
use Rattle.ufs_joint.proofs.Lists.{find_listed, found_listed}

module _ (files : Files) where
  abbrev pub commits_first : Commits
  commits_first = fin.from_entries (map (λ e. (e.0, committed_as e.1)) (fin.entries files))

  pub cell_found : (file : ℕ) → find eqb file (files_first files) ≡ option_map file_first (fin.get files file)
  cell_found file = find_listed file_first file (fin.entries files) ∙ ap (option_map file_first) (sym (get-entries files file))

  commits_found : (file : ℕ) → fin.get commits_first file ≡ option_map committed_as (fin.get files file)
  commits_found file =
      get-from_entries nat_cmp_total (map (λ e. (e.0, committed_as e.1)) (fin.entries files)) file
      ∙ found_listed committed_as file (fin.entries files)
      ∙ ap (option_map committed_as) (sym (get-entries files file))

  pub files_in : (file : ℕ) → fin.get files file ≡ hand_of (find eqb file (files_first files))
  files_in file = by (fin.get files file) ∙ ap hand_of (sym (cell_found file))
    where
      by : (o : Option FileState) → o ≡ hand_of (option_map file_first o)
      by None = refl
      by (Some f) = refl

  pub commits_in : (file : ℕ) → fin.get commits_first file ≡ commits_of (find eqb file (files_first files))
  commits_in file = commits_found file ∙ by (fin.get files file) ∙ ap commits_of (sym (cell_found file))
    where
      by : (o : Option FileState) → option_map committed_as o ≡ commits_of (option_map file_first o)
      by None = refl
      by (Some f) = refl

  pub same_durable : AreNumbered files → (file : ℕ) (f : FileState) → fin.get files file ≡ Some f → durable_in commits_first f ≡ durable_in fin.empty f
  same_durable numbered file f at =
      let told : fin.get commits_first f.file ≡ Some (committed_as f) = ap (fin.get commits_first) (numbered file f at) ∙ commits_found file ∙ ap (option_map committed_as) at in
      let none : fin.get (fin.empty {X = CommitState} {R = nat_cmp}) f.file ≡ None = get-empty nat_cmp f.file in
      ap (λ (o : Option CommitState). state_of f (unwrap_or o (committed_as f))) told ∙ sym (ap (λ (o : Option CommitState). state_of f (unwrap_or o (committed_as f))) none)

  pub unknown : (file : ℕ) → fin.get files file ≡ None → fin.get commits_first file ≡ None
  unknown file none = commits_found file ∙ ap (option_map committed_as) none
