-- A checkpoint is a remake of its hand's parts.
use Rattle.std.proofs.Common.{◌≡◌, ℕ, ◌≤◌, sym, refl, ap, inr, arith}
use Rattle.ufs_hand_laws.specs.Owned.{Has, times}
use Rattle.ufs_hand_laws.specs.Parts.{FilePart, NamesPart, StorePart, View, Start}
use Rattle.ufs_hand_laws.specs.Explained.{Showing}
use Rattle.ufs_hand_laws.specs.Marks.{value_after, IsSingle, RemakesOn, MayRemake}
use Rattle.ufs_hand_laws.specs.Events.{Checkpoint, checkpointed, freed_names, checkpointing, MayCheckpoint}
use native.Mathlib.Decide.{dec_le}
use Rattle.ufs_hand_laws.proofs.Happening.Staying.{both_remake, same_file, answers_stay, blocks_stay, numbers_stay, disk_stays, same_parts_keep, same_parts_know, same_parts_load, times_append, times_has, has_times, lent_had}

module _ (S : Showing) (k : Start) (n : ℕ) (v : View) (p0 : NamesPart) (s0 : StorePart) (c : Checkpoint) (may : MayCheckpoint S k v p0 s0 c) where
  abbrev checked : View
  checked = checkpointing n p0 c s0 v

  abbrev t0 : StorePart
  t0 = checkpointed n p0 c s0

  abbrev q0 : NamesPart
  q0 = freed_names p0 c

  dirs_kept : ((b : ℕ) → Has b s0.dirs → Has b p0.blocks) → (b : ℕ) → Has b c.dirs → Has b c.blocks
  dirs_kept kept b h = by (dec_le 1 (times b c.blocks))
    where
      by : Dec (1 ≤ times b c.blocks) → Has b c.blocks
      by (yes l) = has_times b c.blocks l
      by (no l) = let a = times_has b p0.blocks (kept b (may.fewer b h)) in let e = may.blocks b in absurd (may.apart b h (has_times b c.freed (omega arith)))

  module _ (single : IsSingle v) where
    own_file : (g : ℕ) (x y : FilePart) → Has (g, x) v.files → Has (g, y) v.files → x ≡ y
    own_file = same_file v single

    names_there : p0 ≡ value_after v.names p0
    names_there = ap (λ l. value_after l p0) (sym may.names)

    checks_here : RemakesOn S k n v checked s0 t0 p0 q0
    checks_here = record {
      kept = blocks_stay v checked s0 t0 p0 q0 (same_parts_keep v checked own_file) (λ g bs e. e) (λ g bs h. h) dirs_kept;
      rise = numbers_stay v checked s0 t0 p0 q0 (λ g. refl) refl (same_parts_know v checked own_file) refl refl;
      disk = λ visible. disk_stays k v checked s0 t0 (may.others visible) (same_parts_load v checked own_file) (λ g x a place b i o. inr (may.own visible g x a place b i o));
      shown = inr (record {
        through = c.through;
        last = may.last;
        mark = refl;
        past = refl;
        lent = λ g m a. absurd a;
        lent_names = omega arith;
        inside = λ visible h known had shows d i. may.inside visible h (lent_had k v single s0 p0 names_there h had) shows d i;
        end = λ visible h known has shows. may.end visible h has.names shows;
      });
      answers = answers_stay v checked s0 t0 refl refl refl refl refl refl;
    }

  pub checkpoint_remakes : MayRemake S k n v checked
  checkpoint_remakes = both_remake S k n v p0 q0 s0 t0 may.names may.store refl (λ b. let a = times_append b p0.spare c.freed in let d = may.blocks b in omega arith) checks_here
