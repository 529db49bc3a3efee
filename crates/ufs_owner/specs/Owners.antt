-- What the primary knows of the files: which server has each of them, and who waits for it.
use Rattle.std.specs.Prelude.{ℕ, List, [], ◌∷◌, ◌==◌, Bool, true, false, not, ◌&&◌, if◌then◌else◌, unwrap_or, count_by, refl}
use Rattle.std.specs.Coded.{Coded, code_by, coded×, coded_ℕ}
use Rattle.std.specs.Ordering.{nat_cmp}
use Rattle.std.specs.FinMap as map
use Rattle.ufs_owner.specs.declared.owner.Owner.{Owner}
use Rattle.ufs_owner.specs.declared.owner.Owner.TheVariants.{Primary, Worker, Coming, Going}
use Rattle.ufs_owner.specs.declared.owner.Standing.{Standing}

-- the files of which something is known
abbrev pub Files : Type 0
Files = map.FinMap nat_cmp Standing

-- what an owner table has: the files, and how many more fit without memory
pub record Owners : Type 0 where
  pub files : Files
  pub spare : ℕ

abbrev pub owners_code : Coded Standing → Coded Owners
owners_code standing =
    code_by (Files × ℕ) (coded× (map.code coded_ℕ standing) coded_ℕ) (λ o. (o.files, o.spare)) (λ p. record { files = p.0; spare = p.1 }) (λ _. refl)

-- ---- one file

-- a file of which nothing is known is at the primary, and nobody waits for it
abbrev pub nothing_known : Standing
nothing_known = record { owner = Primary; note = 0; waiting = [] }

abbrev pub standing_at : Files → ℕ → Standing
standing_at files file = unwrap_or (map.get files file) nothing_known

abbrev pub owner_at : Files → ℕ → Owner
owner_at files file = (standing_at files file).owner

-- the worker that is to have the file once it has come
abbrev pub note_at : Files → ℕ → ℕ
note_at files file = (standing_at files file).note

-- the clients that wait for the file, in order
abbrev pub waiting_at : Files → ℕ → List ℕ
waiting_at files file = (standing_at files file).waiting

-- ---- servers

abbrev pub is_primary : Owner → Bool
is_primary Primary = true
is_primary (Worker worker) = false
is_primary (Coming from) = false
is_primary (Going to) = false

-- a worker has the file, or is to have it
abbrev pub is_with : ℕ → Owner → Bool
is_with worker Primary = false
is_with worker (Worker owner) = owner == worker
is_with worker (Coming from) = false
is_with worker (Going to) = to == worker

abbrev pub is_coming : Owner → Bool
is_coming Primary = false
is_coming (Worker worker) = false
is_coming (Coming from) = true
is_coming (Going to) = false

abbrev pub is_going : Owner → Bool
is_going Primary = false
is_going (Worker worker) = false
is_going (Coming from) = false
is_going (Going to) = true

-- the file can be recalled: a worker has it, or is to have it
abbrev pub is_out : Owner → Bool
is_out Primary = false
is_out (Worker worker) = true
is_out (Coming from) = false
is_out (Going to) = true

-- a file that is recalled comes from the worker that has it or is to have it
abbrev pub recalled : Owner → Owner
recalled Primary = Primary
recalled (Worker worker) = Coming worker
recalled (Coming from) = Coming from
recalled (Going to) = Coming to

-- a file that left is with the worker to which it went
abbrev pub arrived : Owner → Owner
arrived Primary = Primary
arrived (Worker worker) = Worker worker
arrived (Coming from) = Coming from
arrived (Going to) = Worker to

-- ---- changes

abbrev pub has_none : {X : Type 0} → List X → Bool
has_none [] = true
has_none (x ∷ xs) = false

-- nothing is kept of a file that is at the primary and for which nobody waits
abbrev pub is_known : Standing → Bool
is_known standing = not (is_primary standing.owner && has_none standing.waiting)

abbrev pub with_standing : Files → ℕ → Standing → Files
with_standing files file standing = if is_known standing then map.insert files file standing else map.remove files file

-- the file has that owner, and the number is noted
abbrev pub with_owner : Files → ℕ → Owner → ℕ → Files
with_owner files file owner note = with_standing files file (record (standing_at files file) { owner = owner; note = note })

-- those clients wait for the file
abbrev pub with_waiting : Files → ℕ → List ℕ → Files
with_waiting files file clients = with_standing files file (record (standing_at files file) { waiting = clients })

-- ---- counts

-- how many files aren't at the primary
abbrev pub count_out : Files → ℕ
count_out files = count_by (λ standing. not (is_primary standing.owner)) (map.values files)

-- how many files a worker has or is to have
abbrev pub count_with : ℕ → Files → ℕ
count_with worker files = count_by (λ standing. is_with worker standing.owner) (map.values files)
