-- What is seen of two legs and of the mirror that they are.
use Rattle.std.specs.Prelude.{ℕ, Bool, ◌&&◌, List, Option}
use Rattle.ufs_base.specs.declared.lack.Lack.{Lack}
use Rattle.ufs_disk.specs.Moments.{Moments}
use Rattle.ufs_mirror.specs.Pairs.{Pairs, moments_of, watched}
use Rattle.ufs_mirror.specs.declared.legs.Legpair.{Legpair}
use Rattle.ufs_mirror.specs.declared.legs.Picks.{Picks}
use Rattle.ufs_model.specs.declared.data.Entry.{Entry}
use Rattle.ufs_command.specs.Seen.{Course, Formatting, course, formatting}

-- A kind of disk, by what contracts see of each of that kind.
pub record Kind (D : Type 0) : Type 0 where
  pub visible : Bool
  pub keeps : Bool
  pub size : D → ℕ
  pub moments : D → Moments
  pub faults : D → ℕ

abbrev pub kind : {D : Type 0} → Bool → Bool → (D → ℕ) → (D → Moments) → (D → ℕ) → Kind D
kind visible keeps size moments faults = record { visible = visible; keeps = keeps; size = size; moments = moments; faults = faults }

-- A mirror at one moment: its legs, what was noted of them since they are one, which of them opening may pick, its count of
-- faults, and how many sectors it has.
pub record View (A B : Type 0) : Type 0 where
  pub legs : Legpair A B
  pub noted : List (Legpair A B × Picks)
  pub picks : Picks
  pub faults : ℕ
  pub sectors : ℕ

abbrev pub view : {A B : Type 0} → Legpair A B → List (Legpair A B × Picks) → Picks → ℕ → ℕ → View A B
view legs noted picks faults sectors = record { legs = legs; noted = noted; picks = picks; faults = faults; sectors = sectors }

-- what the pair of its legs was and is
abbrev pub pairs_in : {A B : Type 0} → Kind A → Kind B → View A B → Pairs
pairs_in one other m = watched (λ l. one.moments l.first) (λ l. other.moments l.second) m.noted m.legs m.picks

-- what the mirror has, as a disk
abbrev pub moments_in : {A B : Type 0} → Kind A → Kind B → View A B → Moments
moments_in one other m = moments_of m.sectors (pairs_in one other m)

-- the mirror as a disk, from what it was to what it is
abbrev pub formatting_of : {A B : Type 0} → Kind A → Kind B → View A B → View A B → Formatting
formatting_of one other before after = formatting (one.visible && other.visible) (λ m. m.sectors) (moments_in one other) (λ m. m.faults) before after

abbrev pub course_of : {A B : Type 0} → Kind A → Kind B → View A B → View A B → Course (View A B)
course_of one other before after = course (one.visible && other.visible) (one.keeps && other.keeps) (λ m. m.sectors) (moments_in one other) (λ m. m.faults) before after

-- Two legs that a command was given, and what it gave back: the legs, what the clients were told, what was lacking, and a status.
pub record Handed (A B : Type 0) : Type 0 where
  pub first : A
  pub second : B
  pub first_now : A
  pub second_now : B
  pub told : List (List Entry)
  pub lacked : Option Lack
  pub status : ℕ

abbrev pub handed : {A B : Type 0} → A → B → A → B → List (List Entry) → Option Lack → ℕ → Handed A B
handed first second first_now second_now told lacked status = record { first = first; second = second; first_now = first_now; second_now = second_now; told = told; lacked = lacked; status = status }
