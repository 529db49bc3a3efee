-- What a worker has.
use Rattle.std.specs.Prelude.{ℕ, ◌≡◌, ◌≤◌, List, [], ◌∷◌, Option, Some, None, refl}
use Rattle.std.specs.Coded.{Coded, code_by, coded×, coded_list, coded_option, coded_ℕ}
use Rattle.std.specs.FinMap as fin
use Rattle.std.specs.FinSet as set
use Rattle.std.specs.Ordering.{nat_cmp}
use Rattle.ufs_bitmap.specs.Blocks.{BlockSet}
use Rattle.ufs_model.specs.declared.data.Actor.TheVariants as actor
use Rattle.ufs_joint.specs.Cells.{FileCell, Start, View}
use Rattle.ufs_joint.specs.Codes.{file_code}
use Rattle.ufs_msg.specs.There.{IsServerThere}
use Rattle.ufs_joint.specs.FirstHand.{HasPoolAlone, pool_of}
use Rattle.ufs_serving.specs.Pools.{most_at_rest}
use Rattle.ufs_serving.specs.Posts.{Said, said_code}

-- files by their numbers
abbrev pub Cells : Type 0
Cells = fin.FinMap nat_cmp FileCell

-- each stands under its own number
abbrev pub AreNumbered : Cells → Type 0
AreNumbered files = (f : ℕ) (c : FileCell) → fin.get files f ≡ Some c → c.value.file.file ≡ f

-- ---- the files, with those that are on their way to the primary

pub record ShelfState : Type 0 where
  pub files : Cells
  pub letters : List FileCell

abbrev pub shelf_code : Coded ShelfState
shelf_code = code_by (Cells × List FileCell) (coded× (fin.code coded_ℕ file_code) (coded_list file_code)) (λ s. (s.files, s.letters)) (λ p. record { files = p.0; letters = p.1 }) (λ _. refl)

-- a file's place has this file, or none
abbrev pub placed : Cells → ℕ → Option FileCell → Cells
placed files file None = fin.remove files file
placed files file (Some c) = fin.insert files file c

-- the files that are in their places
abbrev pub filled : List (ℕ × Option FileCell) → Cells
filled [] = fin.empty
filled (e ∷ es) = placed (filled es) e.0 e.1

-- ---- the worker

pub record WorkerState : Type 0 where
  -- from 1 on
  pub number : ℕ
  -- the files that it holds
  pub files : Cells
  -- those that it sent to the primary, whose ring was full; the first goes first
  pub letters : List FileCell
  -- a file that came and has no room yet
  pub coming : Option FileCell
  pub pool : BlockSet
  -- answers that found their client's ring full; the first goes first
  pub answers : List Said

abbrev pub worker_code : Coded WorkerState
worker_code = code_by _ (coded× coded_ℕ (coded× (fin.code coded_ℕ file_code) (coded× (coded_list file_code) (coded× (coded_option file_code) (coded× (set.code coded_ℕ) (coded_list said_code))))))
    (λ w. (w.number, (w.files, (w.letters, (w.coming, (w.pool, w.answers))))))
    (λ p. record { number = p.0; files = p.1.0; letters = p.1.1.0; coming = p.1.1.1.0; pool = p.1.1.1.1.0; answers = p.1.1.1.1.1 }) (λ _. refl)

abbrev pub worker_of : ℕ → ShelfState → Option FileCell → BlockSet → List Said → WorkerState
worker_of number shelf coming pool answers = record { number = number; files = shelf.files; letters = shelf.letters; coming = coming; pool = pool; answers = answers }

-- The worker is there, its hand has its pool, and that is at rest.
pub record IsWorker (k : Start) (number : ℕ) (pool : BlockSet) (v : View) : Type 0 where
  pub there : IsServerThere k (actor.Worker number)
  pub hand : HasPoolAlone (pool_of number) pool v
  pub few : set.len pool ≤ most_at_rest
