-- What the store refuses is a remake of its hand's parts.
use Rattle.std.proofs.Common.{◌≡◌, ℕ, List, ◌++◌, refl, inl, inr, ⊎_elim, arith}
use Rattle.ufs_hand_laws.specs.Owned.{Has}
use Rattle.ufs_hand_laws.specs.Parts.{FilePart, NamesPart, StorePart, View, Start, Shortage}
use Rattle.ufs_hand_laws.specs.Explained.{Showing}
use Rattle.ufs_hand_laws.specs.Marks.{IsSingle, RemakesOn, MayRemake}
use Rattle.ufs_hand_laws.specs.Events.{answered, answering, MayAnswer}
use Rattle.ufs_hand_laws.proofs.Owning.{has_append, append_has}
use Rattle.ufs_hand_laws.proofs.Happening.Staying.{store_remakes, same_file, blocks_stay, numbers_stay, disk_stays, same_parts_keep, same_parts_know, same_parts_load, times_append}

module _ (S : Showing) (k : Start) (n : ℕ) (v : View) (s0 : StorePart) (faults : List ℕ) (shortages : List Shortage) (may : MayAnswer v s0 faults) where
  abbrev answers : View
  answers = answering n faults shortages s0 v

  abbrev a0 : StorePart
  a0 = answered faults shortages s0

  module _ (single : IsSingle v) (p : NamesPart) where
    its_file : (g : ℕ) (x y : FilePart) → Has (g, x) v.files → Has (g, y) v.files → x ≡ y
    its_file = same_file v single

    answers_here : RemakesOn S k n v answers s0 a0 p p
    answers_here = record {
      kept = blocks_stay v answers s0 a0 p p (same_parts_keep v answers its_file) (λ g bs e. e) (λ g bs h. h) (λ kept. kept);
      rise = numbers_stay v answers s0 a0 p p (λ g. refl) refl (same_parts_know v answers its_file) refl refl;
      disk = λ visible. disk_stays k v answers s0 a0 (λ b z l. refl) (same_parts_load v answers its_file) (λ g x a place b i o. inr refl);
      shown = inl (record { mark = refl; past = refl; lent = refl; lent_names = refl; state = refl; paths = refl; names = refl; files = λ g. refl });
      answers = record {
        single = λ l m. may.new m;
        faults = λ m. let a = times_append m faults v.faults in let b = times_append m faults s0.faults in omega arith;
        stopped = λ m e. e;
        stops = λ m e. inl e;
        short = λ x h. append_has x shortages s0.shortages (inr h);
        shortages = λ x h. ⊎_elim (λ a. inr (append_has x shortages s0.shortages (inl a))) (λ a. inl a) (has_append x shortages v.shortages h);
      };
    }

  pub answer_remakes : MayRemake S k n v answers
  answer_remakes = store_remakes S k n v s0 a0 (faults ++ v.faults) v.stop (shortages ++ v.shortages) may.store refl (λ single p there. answers_here single p)
