-- The workers that a table names stay there as it changes.
use Rattle.std.proofs.Common.{◌≡◌, ◌≤◌, ℕ, ◌⊎◌, inl, inr, Bool, true, false, cond, List, ap, sym, ◌∙◌, subst, arith}
use Rattle.std.specs.Prelude.{unwrap_or, Option}
use Rattle.std.specs.Cmp.{nat_cmp_total}
use Rattle.std.specs.FinMap as map
use Rattle.std.specs.Ordering.{nat_cmp}
use Rattle.std.specs.FinMap.{nat_cmp-IsAntisymmetric}
use Rattle.ufs_model.proofs.Facts.Lookups as lookups
use Rattle.ufs_owner.specs.Owners.{Files, arrived, is_going, is_known, nothing_known, owner_at, recalled, standing_at, with_owner, with_standing, with_waiting}
use Rattle.ufs_owner.specs.declared.owner.Owner.{Owner}
use Rattle.ufs_owner.specs.declared.owner.Owner.TheVariants.{Primary, Worker, Coming, Going}
use Rattle.ufs_owner.specs.declared.owner.Standing.{Standing}
use Rattle.ufs_owner.proofs.OwnerFacts.{has_standing, other_stays}
use Rattle.ufs_home.specs.Letters.{Mailed, gone_from, is_file, left_by, number_in}
use Rattle.ufs_home.specs.Owning.{AreKnown, IsKnownOf}

module _ (workers : ℕ) where
  abbrev pub IsOwner : Owner → Type 0
  IsOwner o = (worker : ℕ) → recalled o ≡ Coming worker → (1 ≤ worker) × (worker ≤ workers)

  none_known : IsKnownOf workers nothing_known
  none_known = record { owner = λ worker is. absurd cc; note = omega arith }

  pub known_standing : (files : Files) (f : ℕ) (s : Standing) → AreKnown workers files → IsKnownOf workers s → AreKnown workers (with_standing files f s)
  known_standing files f s all one g = by (lookups.one_or_apart nat_cmp_total nat_cmp-IsAntisymmetric g f)
    where
      either : (b : Bool) → IsKnownOf workers (cond b s nothing_known)
      either true = one
      either false = none_known

      by : (g ≡ f) ⊎ (g ≡ f → ⊥) → IsKnownOf workers (standing_at (with_standing files f s) g)
      by (inl e) = subst (IsKnownOf workers) (sym (ap (standing_at (with_standing files f s)) e ∙ has_standing files f s)) (either (is_known s))
      by (inr not') = subst (IsKnownOf workers) (sym (other_stays files f g s not')) (all g)

  pub known_empty : AreKnown workers map.empty
  known_empty f = subst (IsKnownOf workers) (sym (ap (λ (o : Option Standing). unwrap_or o nothing_known) (map.get-empty {X = Standing} nat_cmp f))) none_known

  pub known_owner : (files : Files) (f : ℕ) (o : Owner) (note : ℕ) → AreKnown workers files → IsOwner o → note ≤ workers → AreKnown workers (with_owner files f o note)
  known_owner files f o note all is few = known_standing files f (record (standing_at files f) { owner = o; note = note }) all (record { owner = is; note = few })

  pub known_waiting : (files : Files) (f : ℕ) (clients : List ℕ) → AreKnown workers files → AreKnown workers (with_waiting files f clients)
  known_waiting files f clients all =
      let one = all f in
      known_standing files f (record (standing_at files f) { waiting = clients }) all (record { owner = one.owner; note = one.note })

  pub at_primary : IsOwner Primary
  at_primary worker is = absurd cc

  -- whose file it was, from whom it comes
  pub still_from : (o : Owner) → IsOwner o → IsOwner (recalled o)
  still_from Primary is worker e = absurd cc
  still_from (Worker w) is worker e = is worker e
  still_from (Coming w) is worker e = is worker e
  still_from (Going w) is worker e = is worker e

  arrived_from : (o : Owner) → IsOwner o → IsOwner (arrived o)
  arrived_from Primary is worker e = absurd cc
  arrived_from (Worker w) is worker e = is worker e
  arrived_from (Coming w) is worker e = is worker e
  arrived_from (Going w) is worker e = is worker e

  pub of_worker : (to : ℕ) → 1 ≤ to → to ≤ workers → IsOwner (Going to)
  of_worker to some few worker e = (subst (λ (w : ℕ). 1 ≤ w) (same to worker e) some, subst (λ (w : ℕ). w ≤ workers) (same to worker e) few)
    where
      same : (a b : ℕ) → Coming a ≡ Coming b → a ≡ b
      same a b e = cc

  pub known_gone : (files : Files) (f : ℕ) → AreKnown workers files → AreKnown workers (gone_from files f)
  known_gone files f all = by (is_going (owner_at files f))
    where
      by : (b : Bool) → AreKnown workers (cond b (with_owner files f (arrived (owner_at files f)) 0) files)
      by true = known_owner files f (arrived (owner_at files f)) 0 all (arrived_from (owner_at files f) (let one = all f in one.owner)) (omega arith)
      by false = all

  pub known_left : (files : Files) (m : Mailed) → AreKnown workers files → AreKnown workers (left_by files m)
  known_left files (inl c) all = known_gone files c.value.file.file all
  known_left files (inr f) all = all

-- ---- a file whose letter went

pub gone_still : (files : Files) (f : ℕ) (o : Owner) → o ≡ owner_at files f → is_going o ≡ false → files ≡ gone_from files f
gone_still files f o is none = sym (ap (λ (b : Bool). cond b (with_owner files f (arrived (owner_at files f)) 0) files) (ap is_going (sym is) ∙ none))

pub gone_now : (files : Files) (f : ℕ) (o : Owner) → o ≡ owner_at files f → is_going o ≡ true → with_owner files f (arrived (owner_at files f)) 0 ≡ gone_from files f
gone_now files f o is some = sym (ap (λ (b : Bool). cond b (with_owner files f (arrived (owner_at files f)) 0) files) (ap is_going (sym is) ∙ some))

pub left_is : (files : Files) (m : Mailed) (f : ℕ) (goes : Bool) → f ≡ number_in m → goes ≡ is_file m → cond goes (gone_from files f) files ≡ left_by files m
left_is files (inl c) f goes number with' = λ i. cond (with' i) (gone_from files (number i)) files
left_is files (inr g) f goes number with' = ap (λ (b : Bool). cond b (gone_from files f) files) with'
