-- The files after one of their records changed in place.
use Rattle.std.proofs.Common.{◌≡◌, ◌≢◌, ◌≤◌, ℕ, Bool, true, false, cond, Option, Some, None, ap, sym, refl, ◌∙◌, eqb, nat_eq, Result, Ok, Err, OnOk, OnErr, subst, arith, rules, ◌+◌, OnSome, IfNone}
use Rattle.std.specs.Option.{option_map}
use Rattle.std.specs.Prelude.{unwrap_or, IfSome, IsSome}
use Rattle.std.specs.HashMap as hash
use Rattle.std.specs.HashMap.{HashMap}
use Rattle.std.specs.FinMap as fin
use Rattle.std.proofs.lemmas.Bool.{eqb-true}
use Rattle.slab.specs.Slab.{Slab, Updates, SameValues, get, slab_len}
use Rattle.ufs_owner.specs.declared.owner.Standing.{Standing}
use Rattle.ufs_owner.specs.declared.records.Record.{Record}
use Rattle.ufs_owner.specs.Owners.{Files, nothing_known, standing_at}
use Rattle.ufs_owner.specs.Records.{standing_under, files_of, ArePlaced}
use Rattle.ufs_owner.proofs.PlaceLemmas.{has_record, own_record, found, get-files_of, not_found, same_files, PlacesGain, files_of-change, ArePlaced-change}

module _ {S : Type 0} (places : HashMap ℕ ℕ S) (records : Slab Record) (are : ArePlaced places records) (file place : ℕ) (here : hash.get nat_eq places file ≡ Some place) where
  pub some_record : IsSome (get records place)
  some_record = by (get records place) (has_record places records are file place here)
    where
      by : (o : Option Record) → o ≢ None → IsSome o
      by None h = absurd (h refl)
      by (Some r) h = search rules

  -- the places stay
  stays : PlacesGain places places records records file place (Some place)
  stays q = by (eqb file q) refl
    where
      by : (t : Bool) → eqb file q ≡ t → hash.get nat_eq places q ≡ cond t (Some place) (hash.get nat_eq places q)
      by true e = ap (hash.get nat_eq places) (sym (eqb-true file q e)) ∙ here
      by false e = refl

  module _ (records' : Slab Record) (fits : slab_len records' ≤ records'.capacity) where
    pub ArePlaced-same : SameValues records records' → ArePlaced places records'
    ArePlaced-same same = record { placed = λ q k there. ap (option_map (λ (r : Record). r.file)) (same k) ∙ are.placed q k there; within = fits }

    module _ (g : Record → Record) (keeps : (r : Record) → (g r).file ≡ r.file) where
      pub ArePlaced-changed : IfSome (get records place) (λ r. Updates records records' place (Some (g r))) → ArePlaced places records'
      ArePlaced-changed = by (get records place) refl
        where
          by : (o : Option Record) → get records place ≡ o → IfSome o (λ r. Updates records records' place (Some (g r))) → ArePlaced places records'
          by None none u = absurd (has_record places records are file place here none)
          by (Some r) is u = ArePlaced-change places places records records' file place (g r) u are here (keeps r ∙ own_record places records are file place r here is) stays fits

      pub ArePlaced-either : {T E : Type 0} (result : Result T E) → OnOk result (IfSome (get records place) (λ r. Updates records records' place (Some (g r)))) → OnErr result (SameValues records records') → ArePlaced places records'
      ArePlaced-either (Ok x) ok err = ArePlaced-changed ok
      ArePlaced-either (Err e) ok err = ArePlaced-same err

      module _ (h : Standing → Standing) (stands : (r : Record) → (g r).standing ≡ h r.standing) where
        pub files_of-changed : IfSome (get records place) (λ r. Updates records records' place (Some (g r))) → files_of places records' ≡ fin.insert (files_of places records) file (h (standing_at (files_of places records) file))
        files_of-changed = by (get records place) refl
          where
            by : (o : Option Record) → get records place ≡ o → IfSome o (λ r. Updates records records' place (Some (g r))) → files_of places records' ≡ fin.insert (files_of places records) file (h (standing_at (files_of places records) file))
            by None none u = absurd (has_record places records are file place here none)
            by (Some r) is u =
                files_of-change places places records records' file place (g r) u are here stays
                ∙ ap (fin.insert (files_of places records) file) (stands r ∙ ap h (sym (ap (λ o. unwrap_or o nothing_known) (found places records file place r here is))))

-- the places and what they lead to stay
pub files_of-same : {S : Type 0} (places : HashMap ℕ ℕ S) (records records' : Slab Record) → SameValues records records' → files_of places records' ≡ files_of places records
files_of-same places records records' same = same_files _ _ (λ q. get-files_of places records' q ∙ under (hash.get nat_eq places q) ∙ sym (get-files_of places records q))
  where
    under : (o : Option ℕ) → option_map (standing_under records') o ≡ option_map (standing_under records) o
    under None = refl
    under (Some k) = ap (λ o. Some (unwrap_or (option_map (λ (r : Record). r.standing) o) nothing_known)) (same k)

-- a file of which something is known has a place
pub has_place : {S : Type 0} (places : HashMap ℕ ℕ S) (records : Slab Record) (files : Files) (file : ℕ) → files_of places records ≡ files → IsSome (fin.get files file) → hash.get nat_eq places file ≢ None
has_place places records files file view some none = no_some (sym (ap (λ m. fin.get m file) view) ∙ not_found places records file none) some
  where
    no_some : {X : Type 0} {o : Option X} → o ≡ None → IsSome o → ⊥
    no_some {o = None} e h = search rules
    no_some {o = Some x} e h = cc

-- a slab still fits once a record was taken out
pub fits_after : (records records' : Slab Record) (o : Option Record) → OnSome o (slab_len records' + 1 ≡ slab_len records) → IfNone o (records' ≡ records) → records'.capacity ≡ records.capacity → slab_len records ≤ records.capacity → slab_len records' ≤ records'.capacity
fits_after records records' None some none same fits = subst (λ (r : Slab Record). slab_len r ≤ r.capacity) (sym none) fits
fits_after records records' (Some r) some none same fits = omega (arith, some, same, fits)
