-- A write and a barrier are a remake of their hand's parts.
use Rattle.std.proofs.Common.{◌≡◌, ℕ, ◌≤◌, List, length, refl, ap, ◌∙◌, inr, ⊎_elim, arith}
use Rattle.ufs_model.specs.declared.data.Entry.{Entry}
use Rattle.ufs_hand_laws.specs.Owned.{Has}
use Rattle.ufs_hand_laws.specs.Parts.{FilePart, NamesPart, StorePart, View, Start}
use Rattle.ufs_hand_laws.specs.Explained.{Showing}
use Rattle.ufs_hand_laws.specs.Marks.{value_after, IsSingle, HasChanges, RemakesOn, MayRemake}
use Rattle.ufs_hand_laws.specs.Events.{Passage, passed, passing, HasHand, MayPass}
use Rattle.ufs_hand_laws.proofs.Happening.Staying.{store_remakes, same_file, names_here, answers_stay, blocks_stay, numbers_stay, disk_stays, same_parts_keep, same_parts_know, same_parts_load, lent_had}

module _ (S : Showing) (k : Start) (n : ℕ) (v : View) (s0 : StorePart) (lent : List (ℕ × ℕ)) (lent_names : ℕ) (c : Passage) (may : MayPass S k v s0 lent lent_names c) where
  abbrev passes : View
  passes = passing n lent lent_names c s0 v

  abbrev t0 : StorePart
  t0 = passed n lent lent_names c s0

  module _ (single : IsSingle v) (p : NamesPart) (there : p ≡ value_after v.names p) where
    file_is : (g : ℕ) (x y : FilePart) → Has (g, x) v.files → Has (g, y) v.files → x ≡ y
    file_is = same_file v single

    has_hand : (h : List Entry) → HasChanges k v p h → HasHand k v h
    has_hand h has = record {
      files = has.files;
      names = λ q a. has.names ∙ ap (λ (x : NamesPart). x.changes) (names_here v single p q there a);
    }

    lent_few : lent_names ≤ length p.changes
    lent_few = ⊎_elim (λ e. omega arith) (λ (x : (u : NamesPart) × Has (tt, u) v.names × (lent_names ≡ length u.changes)). let e = ap (λ (u : NamesPart). length u.changes) (names_here v single p x.0 there x.1) in let z = x.2 in omega arith) may.lends.names

    passes_here : RemakesOn S k n v passes s0 t0 p p
    passes_here = record {
      kept = blocks_stay v passes s0 t0 p p (same_parts_keep v passes file_is) (λ g bs e. e) (λ g bs h. h) (λ kept. kept);
      rise = numbers_stay v passes s0 t0 p p (λ g. refl) refl (same_parts_know v passes file_is) refl refl;
      disk = λ visible. disk_stays k v passes s0 t0 (may.others visible) (same_parts_load v passes file_is) (may.own visible);
      shown = inr (record {
        through = c.through;
        last = may.last;
        mark = refl;
        past = refl;
        lent = λ g m a. let x = may.lends.files g m a in (x.0, x.1, (let e = x.2 in omega arith));
        lent_names = lent_few;
        inside = λ visible h known had shows d i. may.inside visible h (lent_had k v single s0 p there h had) shows d i;
        end = λ visible h known has shows. may.end visible h (has_hand h has) shows;
      });
      answers = answers_stay v passes s0 t0 refl refl refl refl refl refl;
    }

  pub pass_remakes : MayRemake S k n v passes
  pass_remakes = store_remakes S k n v s0 t0 v.faults v.stop v.shortages may.store refl passes_here
