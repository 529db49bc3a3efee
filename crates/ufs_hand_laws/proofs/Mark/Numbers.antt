-- After a mark the committed numbers cover what is acknowledged.
use Rattle.std.proofs.Common.{◌≡◌, ℕ, ◌<◌, ◌≤◌, eqb, List, ◌∷◌, length, Some, ap, subst, ⊎_elim, arith}
use Rattle.std.specs.Prelude.{slice_index_or}
use native.Mathlib.Decide.{dec_le}
use Rattle.ufs_hand_laws.specs.Owned.{Has, count}
use Rattle.ufs_crash_laws.specs.Changes.{NameState, changes_of, name_changes}
use Rattle.ufs_hand_laws.specs.Covers.{IsBornBy}
use Rattle.ufs_hand_laws.specs.Parts.{FilePart, committed}
use Rattle.ufs_hand_laws.specs.CommittedNumbers.{AreCommittedNumbers}
use Rattle.ufs_hand_laws.specs.Marks.{IsMadeBy}
use Rattle.ufs_hand_laws.proofs.Owning.{has_count}
use Rattle.ufs_hand_laws.proofs.Keys.{itself, alike}
use Rattle.ufs_hand_laws.proofs.Covering.{covers_more, names_more, born_more, births_more}
use Rattle.ufs_hand_laws.proofs.Mark.Setting.{Mark, Remade, remaking}

module _ (mark : Mark) where
  open mark use {keeps, S, k, word, views, i, v, w, o, at, m}
  open remaking mark use {remade, single_files, r, names_are_kept, file_case, file_present}

  file_few : (g : ℕ) (x : FilePart) → o.world.file g ≡ Some x → committed o.world.store g ≤ length x.changes
  file_few g x is = let e = ap length (o.legal.files g x is).changes in let a = (o.committed_numbers.files g).made in omega arith

  names_few : o.world.store.names ≤ length o.world.names.changes
  names_few = let e = ap length o.legal.names.changes in let a = o.committed_numbers.names.made in omega arith

  file_made : (g : ℕ) (x : FilePart) → Has (g, x) v.files → (committed o.world.store g ≤ committed remade.store g) × (committed remade.store g ≤ length (changes_of g k.tree o.history))
  file_made g x h =
      let e = ap length (o.legal.files g x (o.one_hand.files.agree i v at g x h)).changes in let a = (o.committed_numbers.files g).made in
      let z = r.rise.made g x h (omega arith) in (z.0, (let y = z.1 in omega arith))

  rises_at : (g : ℕ) → (committed o.world.store g ≤ committed remade.store g) × (committed remade.store g ≤ length (changes_of g k.tree o.history))
  rises_at g = by (dec_le 1 (count eqb g v.files))
    where
      by : Dec (1 ≤ count eqb g v.files) → (committed o.world.store g ≤ committed remade.store g) × (committed remade.store g ≤ length (changes_of g k.tree o.history))
      by (yes c) = let x = has_count eqb itself alike g v.files c in file_made g x.0 x.1
      by (no c) = let s = r.rise.others g (omega arith) in let a = (o.committed_numbers.files g).made in (omega arith, omega arith)

  names_rise : (o.world.store.names ≤ remade.store.names) × (remade.store.names ≤ length (name_changes k.tree o.history))
  names_rise = let e = ap length o.legal.names.changes in let a = o.committed_numbers.names.made in let z = r.rise.names_made (omega arith) in (z.0, (let y = z.1 in omega arith))

  born_rises : (g : ℕ) → IsBornBy k.tree o.history g o.world.store.names → IsBornBy k.tree o.history g remade.store.names
  born_rises g = born_more k.tree o.history o.legal.legal.entries o.world.store.names remade.store.names names_rise.0 names_rise.1 g

  named_born : (g : ℕ) → IsMadeBy o.world.names remade.store.names g → IsBornBy k.tree o.history g remade.store.names
  named_born g made = subst (λ (q : NameState × List NameState). g < (slice_index_or (q.0 ∷ q.1) remade.store.names q.0).next) (λ j. (o.legal.names.opening j, o.legal.names.changes j)) made

  after_birth : (g : ℕ) → 1 ≤ committed remade.store g → Dec (1 ≤ count eqb g v.files) → IsBornBy k.tree o.history g remade.store.names
  after_birth g more (yes c) =
      let x = has_count eqb itself alike g v.files c in
      ⊎_elim (λ same. born_rises g (o.committed_numbers.after_birth g (omega arith)))
      (λ born. born_rises g (o.committed_numbers.born g x.0 (o.one_hand.files.agree i v at g x.0 x.1) born)) (r.rise.only_born g x.0 x.1)
  after_birth g more (no c) = let same = r.rise.others g (omega arith) in born_rises g (o.committed_numbers.after_birth g (omega arith))

  pub numbers_remade : AreCommittedNumbers k o.history remade
  numbers_remade = record {
    files = λ g. let z = rises_at g in record { made = z.1; covers = covers_more k.tree o.history g _ _ z.0 (o.committed_numbers.files g).covers };
    names = record { made = names_rise.1; covers = names_more k.tree o.history _ _ names_rise.0 o.committed_numbers.names.covers };
    births = births_more k.tree o.history o.legal.legal.entries _ _ names_rise.0 names_rise.1 o.committed_numbers.births;
    after_birth = λ g some. after_birth g some (dec_le 1 (count eqb g v.files));
    known = λ g y is. ⊎_elim
        (λ (c : (x : FilePart) × Has (g, x) v.files × (o.world.file g ≡ Some x) × Has (g, y) w.files × Remade x y). (r.rise.known g c.0 y c.1 c.3 (o.committed_numbers.known g c.0 c.2) (file_few g c.0 c.2)).1)
        (λ (c : (count eqb g v.files ≡ 0) × (o.world.file g ≡ Some y)). let a = o.committed_numbers.known g y c.1 in let s = r.rise.others g c.0 in omega arith) (file_case g y is);
    covers = λ g y is. ⊎_elim
        (λ (c : (x : FilePart) × Has (g, x) v.files × (o.world.file g ≡ Some x) × Has (g, y) w.files × Remade x y).
        covers_more k.tree o.history g _ _ (r.rise.known g c.0 y c.1 c.3 (o.committed_numbers.known g c.0 c.2) (file_few g c.0 c.2)).0 (o.committed_numbers.covers g c.0 c.2))
        (λ (c : (count eqb g v.files ≡ 0) × (o.world.file g ≡ Some y)). o.committed_numbers.covers g y c.1) (file_case g y is);
    born = λ g y is b. ⊎_elim
        (λ (c : (x : FilePart) × Has (g, x) v.files × (o.world.file g ≡ Some x) × Has (g, y) w.files × Remade x y).
        ⊎_elim (λ z. born_rises g (o.committed_numbers.born g c.0 c.2 z)) (λ z. born_rises g (o.committed_numbers.names_born g z)) (r.rise.born g c.0 y c.1 c.3 b))
        (λ (c : (count eqb g v.files ≡ 0) × (o.world.file g ≡ Some y)). born_rises g (o.committed_numbers.born g y c.1 b)) (file_case g y is);
    names_known = (r.rise.names_known o.committed_numbers.names_known names_few).1;
    names_cover = names_more k.tree o.history _ _ (r.rise.names_known o.committed_numbers.names_known names_few).0 o.committed_numbers.names_cover;
    names_born = λ g x. ⊎_elim (λ z. born_rises g (o.committed_numbers.names_born g z)) (λ z. named_born g z) (r.rise.names_born g x);
  }
