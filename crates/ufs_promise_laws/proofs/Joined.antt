-- Two changes as one.
use Rattle.std.proofs.Common.{◌≡◌, List, [], ◌∷◌, ◌++◌, ap, refl}
use Rattle.ufs_layout.specs.declared.geometry.Geometry.{Geometry}
use Rattle.ufs_layout.specs.declared.records.LogRecord.{LogRecord}
use Rattle.ufs_dir_tree.specs.Steps.{DirState, Step, after, after_all}
use Rattle.ufs_promise_laws.specs.Steps.{record_of, records_of}
use Rattle.ufs_promise_laws.specs.Held.{MaySteps}
use Rattle.ufs_promise_laws.specs.ChangeLaws.{IsJoined}

records : (s : DirState) (xs ys : List Step) → records_of s (xs ++ ys) ≡ records_of s xs ++ records_of (after_all xs s) ys
records s [] ys = refl
records s (x ∷ xs) ys = ap (λ (rs : List LogRecord). record_of s x ∷ rs) (records (after x s) xs ys)

state : (s : DirState) (xs ys : List Step) → after_all (xs ++ ys) s ≡ after_all ys (after_all xs s)
state s [] ys = refl
state s (x ∷ xs) ys = state (after x s) xs ys

may : (g : Geometry) (s : DirState) (xs ys : List Step) → MaySteps g s xs → MaySteps g (after_all xs s) ys → MaySteps g s (xs ++ ys)
may g s [] ys first then = then
may g s (x ∷ xs) ys first then = (first.0, may g (after x s) xs ys first.1 then)

pub joined : (g : Geometry) (s : DirState) (xs ys : List Step) → IsJoined g s xs ys
joined g s xs ys = record { records = records s xs ys; state = state s xs ys; may = may g s xs ys }
