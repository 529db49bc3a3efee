-- A map with one file, or none.
use Rattle.std.proofs.Common.{◌≡◌, ◌≢◌, ℕ, ◌⊎◌, inl, inr, ⊎_elim, Option, Some, None, is_some, ap, sym, refl, ◌∙◌}
use Rattle.std.specs.Prelude.{IsSome}
use Rattle.std.specs.Cmp.{nat_cmp_total}
use Rattle.std.specs.Ordering.{nat_cmp}
use Rattle.std.specs.FinMap as map
use Rattle.std.specs.FinMap.{nat_cmp-IsAntisymmetric, same_map}
use Rattle.ufs_file_commits.specs.State.{CommitState}
use Rattle.ufs_file.specs.Hand.{FileState}
use Rattle.ufs_files.specs.Files.{Files}
use Rattle.ufs_files.proofs.MapLemmas.{one_or_apart, put_else, put_here}
use Rattle.ufs_model.proofs.Facts.Lookups.{inserted_else, inserted_here}
use Rattle.ufs_promise_laws.specs.Parts.{Commits}
use Rattle.ufs_noted.specs.Noted.{one_file, one_known}

pub none_some : {A : Type 0} (o : Option A) (x : A) → o ≡ None → o ≡ Some x → ⊥
none_some o x a b = (let clash : None ≡ Some x = sym a ∙ b in cc)

pub file_here : (file : ℕ) (o : Option FileState) → map.get (one_file file o) file ≡ o
file_here file None = map.get-empty {X = FileState} nat_cmp file
file_here file (Some s) = put_here map.empty file s

pub file_else : (file : ℕ) (o : Option FileState) (f : ℕ) → f ≢ file → map.get (one_file file o) f ≡ None
file_else file None f not = map.get-empty {X = FileState} nat_cmp f
file_else file (Some s) f not = put_else map.empty file s f not ∙ map.get-empty {X = FileState} nat_cmp f

pub known_here : (file : ℕ) (o : Option CommitState) → map.get (one_known file o) file ≡ o
known_here file None = map.get-empty {X = CommitState} nat_cmp file
known_here file (Some c) = inserted_here nat_cmp_total nat_cmp-IsAntisymmetric map.empty file c

pub known_else : (file : ℕ) (o : Option CommitState) (f : ℕ) → f ≢ file → map.get (one_known file o) f ≡ None
known_else file None f not = map.get-empty {X = CommitState} nat_cmp f
known_else file (Some c) f not = inserted_else nat_cmp_total nat_cmp-IsAntisymmetric map.empty file c f not ∙ map.get-empty {X = CommitState} nat_cmp f

-- A map that has no other file is that.
pub is_one : (files : Files) (file : ℕ) → ((f : ℕ) → f ≢ file → map.get files f ≡ None) → files ≡ one_file file (map.get files file)
is_one files file none = same_map nat_cmp_total nat_cmp-IsAntisymmetric files (one_file file (map.get files file)) (λ f. at f (one_or_apart f file))
  where
    at : (f : ℕ) → (f ≡ file) ⊎ (f ≢ file) → map.get files f ≡ map.get (one_file file (map.get files file)) f
    at f (inl is) = ap (map.get files) is ∙ sym (file_here file (map.get files file)) ∙ ap (map.get (one_file file (map.get files file))) (sym is)
    at f (inr not) = none f not ∙ sym (file_else file (map.get files file) f not)

pub only_file : (file : ℕ) (o : Option FileState) (f : ℕ) → IsSome (map.get (one_file file o) f) → f ≡ file
only_file file o f is = ⊎_elim (λ same. same) (λ not. absurd (let clash = sym is ∙ ap is_some (file_else file o f not) in cc)) (one_or_apart f file)

pub only_known : (file : ℕ) (o : Option CommitState) (f : ℕ) → IsSome (map.get (one_known file o) f) → f ≡ file
only_known file o f is = ⊎_elim (λ same. same) (λ not. absurd (let clash = sym is ∙ ap is_some (known_else file o f not) in cc)) (one_or_apart f file)

-- One file in the place of another.
pub exchanged : (file : ℕ) (was now : FileState) → map.insert (one_file file (Some was)) file now ≡ one_file file (Some now)
exchanged file was now =
    is_one (map.insert (one_file file (Some was)) file now) file (λ f not. put_else (one_file file (Some was)) file now f not ∙ file_else file (Some was) f not)
    ∙ ap (one_file file) (put_here (one_file file (Some was)) file now)
