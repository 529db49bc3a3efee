-- Names of files and directories stay so by the steps of each call.
use Rattle.std.proofs.Common.{◌≡◌, ℕ, zero, suc, ◌⊎◌, inl, inr, List, [], ◌∷◌, ◌++◌, Option, Some, None, true, get_or, ap, sym, refl, ◌∙◌, subst}
use Rattle.std.proofs.Common.{set as set_at}
use Rattle.std.specs.Prelude.{⊤, replicate}
use Rattle.std.specs.List.{slice_get}
use Rattle.ufs_layout.specs.DentryForm.{DentryForm, free_slot, is_named}
use Rattle.ufs_dirs.specs.Directory.{Directory}
use Rattle.ufs_dirs.specs.Changes.{place_of, with_entry}
use Rattle.ufs_dirs.specs.declared.Slot.{Slot}
use Rattle.ufs_dir_tree.specs.DirTable.{DirTable, no_dir, dir_at, slots_at}
use Rattle.ufs_dir_tree.specs.Steps.{Step, Born, Grown, Put, Freed, grown, table_after, table_after_all, adding, growing, clearing, replacing, moving}
use Rattle.ufs_dir_tree.specs.declared.found.Found.{Found}
use Rattle.ufs_dir_tree.specs.declared.found.Found.TheVariants.{Dir, File}
use Rattle.ufs_name_tree.specs.Notes.{IsOfKind, HasKinds}

-- ---- what stands in a list

module _ {X : Type 0} where
  set_case : (xs : List X) (i k : ℕ) (x d : X) → (get_or (set_at xs i x) k d ≡ x) ⊎ (get_or (set_at xs i x) k d ≡ get_or xs k d)
  set_case [] i k x d = inr refl
  set_case (y ∷ ys) zero zero x d = inl refl
  set_case (y ∷ ys) zero (suc k) x d = inr refl
  set_case (y ∷ ys) (suc i) zero x d = inr refl
  set_case (y ∷ ys) (suc i) (suc k) x d = set_case ys i k x d

  got_set : (xs : List X) (i k : ℕ) (x y : X) → slice_get (set_at xs i x) k ≡ Some y → (y ≡ x) ⊎ (slice_get xs k ≡ Some y)
  got_set [] i k x y e = let no = e in cc
  got_set (z ∷ zs) zero zero x y e = inl cc
  got_set (z ∷ zs) zero (suc k) x y e = inr e
  got_set (z ∷ zs) (suc i) zero x y e = inr e
  got_set (z ∷ zs) (suc i) (suc k) x y e = got_set zs i k x y e

  got_more : (xs ys : List X) (k : ℕ) (y : X) → slice_get (xs ++ ys) k ≡ Some y → (slice_get xs k ≡ Some y) ⊎ ((q : ℕ) × (slice_get ys q ≡ Some y))
  got_more [] ys k y e = inr (k, e)
  got_more (x ∷ xs) ys zero y e = inl e
  got_more (x ∷ xs) ys (suc k) y e = got_more xs ys k y e

  got_same : (n : ℕ) (x y : X) (q : ℕ) → slice_get (replicate n x) q ≡ Some y → y ≡ x
  got_same zero x y q e = let no = e in cc
  got_same (suc n) x y zero e = cc
  got_same (suc n) x y (suc q) e = got_same n x y q e

-- ---- a step

-- what it puts into a slot is free, or a name of a file or of a directory
abbrev pub PutsKinds : Step → Type 0
PutsKinds (Put i slot d) = is_named d ≡ true → IsOfKind d
PutsKinds _ = ⊤

-- a directory's slots
abbrev HasKindsIn : Directory → Type 0
HasKindsIn d = (place : ℕ) (e : DentryForm) → slice_get d.slots place ≡ Some e → is_named e ≡ true → IsOfKind e

module _ (t : DirTable) (has : HasKinds t) where
  with_one : (i : ℕ) (d : Directory) → HasKindsIn d → (j : ℕ) → HasKindsIn (get_or (set_at t.dirs i d) j no_dir)
  with_one i d kinds j = by (set_case t.dirs i j d no_dir)
    where
      by : (get_or (set_at t.dirs i d) j no_dir ≡ d) ⊎ (get_or (set_at t.dirs i d) j no_dir ≡ dir_at t j) → HasKindsIn (get_or (set_at t.dirs i d) j no_dir)
      by (inl this) = subst HasKindsIn (sym this) kinds
      by (inr other) = subst HasKindsIn (sym other) (has j)

  kinds_step : (x : Step) → PutsKinds x → HasKinds (table_after x t)
  kinds_step (Born i kind) puts = has
  kinds_step (Grown i block) puts = with_one i (grown block (dir_at t i)) (λ place e at named. by place e named (got_more (slots_at t i) (replicate 64 free_slot) place e at))
    where
      by : (place : ℕ) (e : DentryForm) → is_named e ≡ true → (slice_get (slots_at t i) place ≡ Some e) ⊎ ((q : ℕ) × (slice_get (replicate 64 free_slot) q ≡ Some e)) → IsOfKind e
      by place e named (inl old) = has i place e old named
      by place e named (inr fresh) = let no : is_named free_slot ≡ true = ap is_named (sym (got_same 64 free_slot e fresh.0 fresh.1)) ∙ named in absurd cc
  kinds_step (Put i slot d) puts = with_one i (with_entry (dir_at t i) slot d) (λ place e at named. by place e named (got_set (slots_at t i) (place_of (dir_at t i).blocks slot) place d e at))
    where
      by : (place : ℕ) (e : DentryForm) → is_named e ≡ true → (e ≡ d) ⊎ (slice_get (slots_at t i) place ≡ Some e) → IsOfKind e
      by place e named (inl this) = subst IsOfKind (sym this) (puts (ap is_named (sym this) ∙ named))
      by place e named (inr old) = has i place e old named
  kinds_step (Freed i) puts = with_one i no_dir (λ place e at named. let no = at in absurd cc)

-- ---- the steps of each call

abbrev pub PutKinds : List Step → Type 0
PutKinds [] = ⊤
PutKinds (x ∷ xs) = PutsKinds x × PutKinds xs

pub kinds_all : (xs : List Step) (t : DirTable) → PutKinds xs → HasKinds t → HasKinds (table_after_all xs t)
kinds_all [] t puts has = has
kinds_all (x ∷ xs) t puts has = kinds_all xs (table_after x t) puts.1 (kinds_step t has x puts.0)

free_puts : is_named free_slot ≡ true → IsOfKind free_slot
free_puts named = absurd cc

pub kinds_of_add : (dir : ℕ) (g : Option ℕ) (slot : Slot) (d : DentryForm) → IsOfKind d → PutKinds (growing dir g ++ adding dir slot d)
kinds_of_add dir None slot d kind = (tt, ((λ named. kind), tt))
kinds_of_add dir (Some b) slot d kind = (tt, (tt, ((λ named. kind), tt)))

pub kinds_of_clear : (dir : ℕ) (slot : Slot) (o : Option Found) → PutKinds (clearing dir slot o)
kinds_of_clear dir slot (Some (Dir i)) = (free_puts, (tt, tt))
kinds_of_clear dir slot (Some (File i)) = (free_puts, tt)
kinds_of_clear dir slot None = (free_puts, tt)

kinds_on : (xs ys : List Step) → PutKinds xs → PutKinds ys → PutKinds (xs ++ ys)
kinds_on [] ys first more = more
kinds_on (x ∷ xs) ys first more = (first.0, kinds_on xs ys first.1 more)

pub kinds_of_move : (from to : ℕ) (left taken : Slot) (d : DentryForm) (dropped : Option Slot) (o : Option Found) (g : Option ℕ) → IsOfKind d → PutKinds (replacing to dropped o ++ growing to g ++ moving from left to taken d)
kinds_of_move from to left taken d dropped o g kind = kinds_on (replacing to dropped o ++ growing to g) (moving from left to taken d) (kinds_on (replacing to dropped o) (growing to g) (dropping_puts dropped) (growing_puts g)) (free_puts, ((λ named. kind), tt))
  where
    dropping_puts : (dropped : Option Slot) → PutKinds (replacing to dropped o)
    dropping_puts None = tt
    dropping_puts (Some slot) = kinds_of_clear to slot o

    growing_puts : (g : Option ℕ) → PutKinds (growing to g)
    growing_puts None = tt
    growing_puts (Some b) = (tt, tt)
