-- Letters to workers, and how they go.
use Rattle.std.specs.Prelude.{ℕ, zero, suc, ◌-◌, ◌≡◌, ◌⊎◌, Bool, true, false, cond, List, [], ◌∷◌, ◌++◌, slice_get, slice_set, unwrap_or, Option, Some, None}
use Rattle.std.proofs.Common.{inl, inr}
use Rattle.std.specs.Coded.{Coded, coded⊎, coded_ℕ}
use Rattle.ufs_joint.specs.Cells.{FileCell}
use Rattle.ufs_joint.specs.Codes.{file_code}
use Rattle.ufs_msg.specs.declared.letter.Letter.{Letter}
use Rattle.ufs_msg.specs.declared.letter.Letter.TheVariants.{Parcel, Recall}
use Rattle.ufs_owner.specs.Owners.{Files, arrived, is_going, owner_at, with_owner}
use Rattle.ufs_serving.specs.Sending.{GoInOrder}

-- ---- one letter

-- a file, or the number of one that is to come back
abbrev pub Mailed : Type 0
Mailed = FileCell ⊎ ℕ

abbrev pub mailed_code : Coded Mailed
mailed_code = coded⊎ file_code coded_ℕ

abbrev pub mailed : ℕ → Option FileCell → Mailed
mailed file None = inr file
mailed file (Some c) = inl c

abbrev pub letter_of : Mailed → Letter FileCell
letter_of (inl c) = Parcel c
letter_of (inr file) = Recall file

abbrev pub number_in : Mailed → ℕ
number_in (inl c) = c.value.file.file
number_in (inr file) = file

abbrev pub is_file : Mailed → Bool
is_file (inl c) = true
is_file (inr file) = false

-- ---- those that are kept, of worker 1 first

abbrev pub Boxes : Type 0
Boxes = List (List Mailed)

-- one more, behind the others to this worker
abbrev pub posted : Boxes → ℕ → Mailed → Boxes
posted boxes worker letter = slice_set boxes (worker - 1) (unwrap_or (slice_get boxes (worker - 1)) [] ++ letter ∷ [])

-- ---- who has a file whose letter went

-- a file that was going is the worker's; one that was recalled meanwhile is coming, still
abbrev pub gone_from : Files → ℕ → Files
gone_from owners file = cond (is_going (owner_at owners file)) (with_owner owners file (arrived (owner_at owners file)) 0) owners

abbrev pub left_by : Files → Mailed → Files
left_by owners (inl c) = gone_from owners c.value.file.file
left_by owners (inr file) = owners

abbrev pub left_by_all : Files → List Mailed → Files
left_by_all owners [] = owners
left_by_all owners (m ∷ ms) = left_by_all (left_by owners m) ms

-- ---- the letters to one worker

module _ {Q : Type 0} (sends : Q → Mailed → Q → Type 0) (same : Q → Q → Type 0) (full : Q → Type 0) where
  -- The letters that were kept go in order, as far as the ring has room; and so the files go.
  pub record LettersGo (old new : List Mailed) (owners then : Files) (p q : Q) : Type 0 where
    pub go : GoInOrder sends same (λ r m. full r) old new p q
    pub owned : then ≡ left_by_all owners go.gone

-- ---- the letters to all workers

module _ {Q : Type 0} (sends : ℕ → Q → Mailed → Q → Type 0) (same : Q → Q → Type 0) (full : Q → ℕ → Type 0) where
  -- The letters to this worker go; those to the others are as they were.
  pub record BoxGoes (worker : ℕ) (old new : Boxes) (owners then : Files) (p q : Q) : Type 0 where
    pub was : List Mailed
    pub is : List Mailed
    pub stood : slice_get old (worker - 1) ≡ Some was
    pub stands : new ≡ slice_set old (worker - 1) is
    pub go : LettersGo (sends worker) same (λ p. full p worker) was is owners then p q

  -- Those to so many workers, in turn, from the first on.
  abbrev pub RingsGo : ℕ → Boxes → Boxes → Files → Files → Q → Q → Type 0
  RingsGo zero old new owners then p q = (new ≡ old) × (then ≡ owners) × (q ≡ p)
  RingsGo (suc n) old new owners then p q = (mid : Boxes) × (had : Files) × (r : Q) × RingsGo n old mid owners had p r × BoxGoes (suc n) mid new had then r q
