-- Transactions folded chain by chain.
use Rattle.std.specs.Prelude.{◌≡◌, ℕ, ◌+◌, ◌-◌, ◌<◌, ◌≤◌, List, [], ◌∷◌, length, map, filter, Bool, true, false, ◌&&◌, nat_lt, if◌then◌else◌, slice_set, slice_index_or, take, drop, Option, Some, None}
use Rattle.std.specs.List.{All}
use Rattle.std.specs.List.Sorted.{IsNonDecreasingBy}
use Rattle.ufs_image.specs.Journal.{FoundSector}
use Rattle.ufs_found.specs.Sorted.{number_of}
use Rattle.ufs_found.specs.Off.{lower, lowest_of}
use Rattle.ufs_layout.specs.declared.geometry.Geometry.{Geometry}
use Rattle.ufs_scan.specs.Chains.{AreChains}
use Rattle.ufs_scan.specs.Gathered.{HasParts}
use Rattle.ufs_scan.specs.Edits.{Effect, Edit, StepValue, edits_of, AreNets, effects, edited, outkept}
use Rattle.ufs_scan.specs.Standings.{standing_at, rested}
use Rattle.ufs_scan.specs.declared.chains.Chain.{Chain}
use Rattle.ufs_scan.specs.declared.standing.Standing.{Standing}

-- how inodes stand between two transactions, the fewest extents that each chain has met, and the lowest sector that is off
pub record State : Type 0 where
  pub standings : List Standing
  pub leasts : List (Option ℕ)
  pub lowest : Option ℕ

abbrev pub is_newer : ℕ → List Effect → Standing → Bool
is_newer number [] s = false
is_newer number (e ∷ es) s = nat_lt s.number number

abbrev pub is_fewer : ℕ → Option ℕ → Bool
is_fewer count None = true
is_fewer count (Some least) = nat_lt count least

-- an inode behind the effects of a transaction
abbrev pub told : ℕ → List Effect → Standing → Standing
told number es s = if is_newer number es s then record { before = number; number = number; count = edited es s.count } else s

abbrev pub steps_below : ℕ → List StepValue → List StepValue
steps_below index steps = filter (λ (s : StepValue). nat_lt s.edit.index index) steps

-- those that keep too many are asked for only where there are fewer extents than before
abbrev pub noted : ℕ → ℕ → List Effect → Standing → State → State
noted number p es one st =
    if is_newer number es one && is_fewer one.count (slice_index_or st.leasts p None)
    then record { standings = st.standings; leasts = slice_set st.leasts p (Some one.count); lowest = lower st.lowest (lowest_of (outkept es one.count)) }
    else st

abbrev pub folded_at : ℕ → ℕ → ℕ → Chain → State → State
folded_at number index p c st =
    let es = effects (steps_below index c.steps.items) in
    let one = standing_at st.standings c.inode in
    let next = noted number p es one st in
    record { standings = slice_set next.standings (c.inode - 1) (told number es one); leasts = next.leasts; lowest = next.lowest }

-- so many chains from one on
abbrev pub folded_from : ℕ → ℕ → ℕ → List Chain → State → State
folded_from number index p [] st = st
folded_from number index p (c ∷ cs) st = folded_from number index (p + 1) cs (folded_at number index p c st)

-- what a fold needs of a chain, among so many inodes
pub record IsFit (inodes : ℕ) (c : Chain) : Type 0 where
  pub low : 1 ≤ c.inode
  pub high : c.inode ≤ inodes
  pub nets : AreNets c.steps.items
  pub order : IsNonDecreasingBy (λ (s : StepValue). s.edit.index) c.steps.items

-- The chains of a transaction stand there.
pub record IsRange (chains : List Chain) (txn from to : ℕ) : Type 0 where
  pub order : from ≤ to
  pub most : to ≤ length chains
  pub each : (q : ℕ) (d : Chain) → from ≤ q → q < to → (slice_index_or chains q d).txn ≡ txn
  pub low : (q : ℕ) (d : Chain) → q < from → (slice_index_or chains q d).txn < txn
  pub high : (q : ℕ) (d : Chain) → to ≤ q → q < length chains → txn < (slice_index_or chains q d).txn

-- behind the transaction of a commit
pub record IsFolded (chains : List Chain) (f : FoundSector) (before now : State) : Type 0 where
  pub from : ℕ
  pub to : ℕ
  pub range : IsRange chains f.1.txn from to
  pub small : f.1.index < 65536
  pub folded : now ≡ folded_from (number_of f) f.1.index from (drop from (take to chains)) before

-- Whatever of a commit's transaction stands behind the commit is off, and is known to be.
abbrev pub TailIsKnown : List Edit → Option ℕ → FoundSector → Type 0
TailIsKnown edits known f = All (λ (e : Edit). e.txn ≡ f.1.txn → f.1.index ≤ e.index → lower known (Some e.does.sector) ≡ known) edits

-- what the fold of all commits needs
pub record IsFoldable (g : Geometry) (all parts : List FoundSector) (chains : List Chain) (commits : List FoundSector) (start : List Standing) (known : Option ℕ) : Type 0 where
  pub has : HasParts all parts
  pub small : All (λ (f : FoundSector). f.1.index < 65536) parts
  pub linked : AreChains (edits_of g parts) chains
  pub few : g.inodes < 4294967296
  pub sized : length start ≡ g.inodes
  pub still : map rested start ≡ start
  pub tails : All (TailIsKnown (edits_of g parts) known) commits
