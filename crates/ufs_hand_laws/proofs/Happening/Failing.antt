-- A commit or a checkpoint that fails is a remake of its hand's parts.
use Rattle.std.proofs.Common.{◌≡◌, ℕ, ◌+◌, ◌≤◌, false, eqb, ◌∷◌, Option, Some, None, refl, ap, inl, inr, arith, Bool, true, eqb-true}
use Rattle.ufs_hand_laws.specs.Owned.{Has, times, one}
use Rattle.ufs_hand_laws.specs.Parts.{FilePart, NamesPart, StorePart, View, Start}
use Rattle.ufs_hand_laws.specs.Explained.{Showing}
use Rattle.ufs_hand_laws.specs.Marks.{value_after, IsSingle, RemakesOn, MayRemake}
use Rattle.ufs_hand_laws.specs.Events.{Failure, failed, failing, MayFail}
use Rattle.ufs_hand_laws.proofs.Happening.Staying.{store_remakes, same_file, blocks_stay, numbers_stay, disk_stays, same_parts_keep, same_parts_know, same_parts_load, lent_had, lent_has}

module _ (S : Showing) (k : Start) (n : ℕ) (v : View) (s0 : StorePart) (f : Failure) (may : MayFail S k v s0 f) where
  abbrev fails : View
  fails = failing n f s0 v

  module _ (single : IsSingle v) (p : NamesPart) (there : p ≡ value_after v.names p) where
    file_is : (g : ℕ) (x y : FilePart) → Has (g, x) v.files → Has (g, y) v.files → x ≡ y
    file_is = same_file v single

    new_once : ((m : ℕ) → times m s0.faults ≤ 1) → (m : ℕ) → times m (f.fault ∷ s0.faults) ≤ 1
    new_once few m = at (eqb m f.fault) refl
      where
        at : (b : Bool) → eqb m f.fault ≡ b → one b + times m s0.faults ≤ 1
        at true e = let t : times m s0.faults ≡ times f.fault s0.faults = ap (λ z. times z s0.faults) (eqb-true m f.fault e) in let z = may.new in omega arith
        at false e = let z = few m in omega arith

    fails_here : RemakesOn S k n v fails s0 (failed n f s0) p p
    fails_here = record {
      kept = blocks_stay v fails s0 (failed n f s0) p p (same_parts_keep v fails file_is) (λ g bs e. e) (λ g bs h. h) (λ kept. kept);
      rise = numbers_stay v fails s0 (failed n f s0) p p (λ g. refl) refl (same_parts_know v fails file_is) refl refl;
      disk = λ visible. disk_stays k v fails s0 (failed n f s0) (may.others visible) (same_parts_load v fails file_is) (λ g x a place b i o. inr (may.own visible g x a place b i o));
      shown = inr (record {
        through = f.through;
        last = inr may.last;
        mark = refl;
        past = refl;
        lent = λ g m a. absurd a;
        lent_names = omega arith;
        inside = λ visible h known had shows d i. may.inside visible h (lent_had k v single s0 p there h had) shows d i;
        end = λ visible h known has shows. may.inside visible h (lent_has k v single s0 p there h has) shows f.state may.last;
      });
      answers = record {
        single = new_once;
        faults = λ m. omega arith;
        stopped = λ m e. absurd (both may.running e);
        stops = λ m e. inr e;
        short = λ x h. h;
        shortages = λ x h. inl h;
      };
    }
      where
        both : {A : Type 0} {x : A} {o : Option A} → o ≡ None → o ≡ Some x → ⊥
        both a b = cc

  pub fail_remakes : MayRemake S k n v fails
  fail_remakes = store_remakes S k n v s0 (failed n f s0) (f.fault ∷ v.faults) (Some f.fault) v.shortages may.store refl fails_here
