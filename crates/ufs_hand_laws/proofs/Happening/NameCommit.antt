-- A commit of names is a remake of its hand's parts.
use Rattle.std.proofs.Common.{◌≡◌, ℕ, ◌⊎◌, List, [], ◌∷◌, Option, Some, None, refl, ap, ◌∙◌, subst, inl, inr, arith}
use Rattle.ufs_hand_laws.specs.Owned.{Has, times, weigh}
use Rattle.ufs_hand_laws.specs.Parts.{FilePart, NamesPart, StorePart, View, Start, dropped_uses}
use Rattle.ufs_hand_laws.specs.Explained.{Showing}
use Rattle.ufs_hand_laws.specs.Marks.{IsSingle, RemakesOn, MayRemake}
use Rattle.ufs_hand_laws.specs.Events.{blocks_dropped, NamesCommit, names_committed, committed_names, naming, MayCommitNames}
use Rattle.ufs_hand_laws.proofs.Happening.Staying.{both_remake, same_file, answers_stay, disk_stays, same_parts_load, times_append}

weigh_dropped : (b : ℕ) (ds : List (ℕ × List ℕ)) → times b (blocks_dropped ds) ≡ weigh (dropped_uses b) ds
weigh_dropped b [] = refl
weigh_dropped b (d ∷ ds) = let a = times_append b d.1 (blocks_dropped ds) in let i = weigh_dropped b ds in omega arith

module _ (S : Showing) (k : Start) (n : ℕ) (v : View) (p0 : NamesPart) (s0 : StorePart) (c : NamesCommit) (may : MayCommitNames S k n v p0 s0 c) where
  abbrev named : View
  named = naming n p0 c s0 v

  abbrev t0 : StorePart
  t0 = names_committed n p0 c s0

  abbrev q0 : NamesPart
  q0 = committed_names p0 c

  module _ (one : IsSingle v) where
    file_is : (g : ℕ) (x y : FilePart) → Has (g, x) v.files → Has (g, y) v.files → x ≡ y
    file_is = same_file v one

    names_on_here : RemakesOn S k n v named s0 t0 p0 q0
    names_on_here = record {
      kept = record {
        live = λ g x y a b kept bs z ext h. subst (λ (u : FilePart). Has z u.blocks ⊎ Has z u.quarantine) (file_is g x y a b) (kept bs z (may.fewer g bs ext) h);
        away = λ g bs z e. may.fewer g bs e;
        dropped = λ g z kept bs b ext h. let x = kept bs b (may.fewer g bs ext) h in let none = may.gone g x.0 x.1 in absurd (both none ext);
        dirs = may.dirs;
      };
      rise = record {
        others = λ g z. refl;
        made = λ g x a l. (omega arith, l);
        only_born = λ g x a. inl refl;
        names_made = λ l. (l, omega arith);
        known = λ g x y a b l _. let e = ap (λ (u : FilePart). u.known) (file_is g x y a b) in (omega arith, omega arith);
        born = λ g x y a b e. inl (ap (λ (u : FilePart). u.born) (file_is g x y a b) ∙ e);
        names_known = λ l few. (omega arith, omega arith);
        names_born = may.born;
      };
      disk = λ visible. disk_stays k v named s0 t0 (may.others visible) (same_parts_load v named file_is) (λ g x a place b i o. inr (may.own visible g x a place b i o));
      shown = inr (record {
        through = c.through;
        last = may.last;
        mark = refl;
        past = refl;
        lent = λ g m a. absurd a;
        lent_names = omega arith;
        inside = λ visible h known had shows d i. may.inside visible h had.names shows d i;
        end = λ visible h known has shows. may.end visible h has.names shows;
      });
      answers = answers_stay v named s0 t0 refl refl refl refl refl refl;
    }
      where
        both : {A : Type 0} {x : A} {o : Option A} → o ≡ None → o ≡ Some x → ⊥
        both a b = cc

  pub naming_remakes : MayRemake S k n v named
  naming_remakes = both_remake S k n v p0 q0 s0 t0 may.names may.store refl (λ b. let a = times_append b p0.spare (blocks_dropped p0.dropped) in let d = weigh_dropped b p0.dropped in omega arith) names_on_here
