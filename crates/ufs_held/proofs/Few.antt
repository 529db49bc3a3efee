-- A hand has no more files than there are inodes.
use Rattle.std.proofs.Common.{◌≡◌, ◌≤◌, ◌<◌, ◌+◌, ◌||◌, ℕ, zero, suc, Bool, true, false, eqb, List, [], ◌∷◌, Option, Some, None, is_some, length, map, inl, inr, ap, sym, refl, ◌∙◌, subst, arith}
use Rattle.std.specs.FinMap as fin
use Rattle.std.specs.List.{AllByRecursion, IsDistinct, list_any}
use Rattle.std.specs.Prelude.{nat_le}
use Rattle.std.proofs.lemmas.Bool.{and_parts}
use Rattle.std.proofs.lemmas.Bool.Decides.{nat_tests}
use Rattle.std.proofs.lemmas.List.{length-map}
use Rattle.std.proofs.lemmas.Map.Steps.{length-le_from_distinct_below}
use Rattle.ufs_bitmap.specs.Blocks.{BlockSet}
use Rattle.ufs_layout.specs.declared.geometry.Geometry.{Geometry}
use Rattle.ufs_model.specs.History.{tree_after}
use Rattle.ufs_model.specs.PosixTree.{PosixTree}
use Rattle.ufs_hand_laws.specs.Owned.{Has, count, one}
use Rattle.ufs_hand_laws.proofs.Keys.{alike, itself}
use Rattle.ufs_hand_laws.proofs.Owning.{same_some}
use Rattle.ufs_joint.specs.Cells.{FileCell, Start, View}
use Rattle.ufs_joint.specs.Known.{Knows}
use Rattle.ufs_joint.specs.Whole.{HasFileCell}
use Rattle.ufs_name_tree.specs.NameTable.{file_at}
use Rattle.ufs_promise_laws.specs.Parts.{Parts}
use Rattle.ufs_promise_laws.specs.Sound.{IsSoundServer}
use Rattle.ufs_promise_laws.specs.Stored.{ArePartsOf}

some_of : {X : Type 0} (o : Option X) → is_some o ≡ true → (x : X) × (o ≡ Some x)
some_of None e = (let no : false ≡ true = e in absurd cc)
some_of (Some x) e = (x, refl)

-- ---- inodes count from 1

abbrev less : ℕ → ℕ
less zero = zero
less (suc n) = n

more_less : (n : ℕ) → 1 ≤ n → suc (less n) ≡ n
more_less zero least = absurd (omega (arith, least))
more_less (suc n) least = refl

-- Files under different numbers, each of them a server's, have different inodes.
module _ (p : Parts) (t : PosixTree) (are : ArePartsOf p t) (g : Geometry) (free : BlockSet) (sound : IsSoundServer g free p) (files : List (ℕ × FileCell)) (its : (n : ℕ) (c : FileCell) → Has (n, c) files → HasFileCell p n c) where
  abbrev inode_of : ℕ × FileCell → ℕ
  inode_of e = e.1.value.file.inode

  abbrev place_of : ℕ × FileCell → ℕ
  place_of e = less (inode_of e)

  placed : (e : ℕ × FileCell) → Has e files → file_at p.names.tree (inode_of e) ≡ Some e.0
  placed e has =
      let at = (its e.0 e.1 has).file_is in
      let of = are.files e.0 e.1.value.file at in
      let h = some_of (fin.get p.names.held e.0) (are.names.told e.0 ∙ ap (λ (k : ℕ). is_some (fin.get t.bytes k)) (sym of.0) ∙ ap is_some of.1.has) in
      ap (file_at p.names.tree) (are.inodes e.0 e.1.value.file h.0 at h.1) ∙ are.names.inodes.inode e.0 h.0 h.1

  inside : (e : ℕ × FileCell) → Has e files → (1 ≤ inode_of e) × (inode_of e ≤ g.inodes)
  inside e has =
      let both = and_parts (nat_le 1 (inode_of e)) (nat_le (inode_of e) g.inodes) (sound.each e.0 e.1.value.file (its e.0 e.1 has).file_is).inode in
      let least = both.0 in
      let most = both.1 in
      (grind (arith, nat_tests, least), grind (arith, nat_tests, most))

  ranged : (e : ℕ × FileCell) → Has e files → place_of e < g.inodes
  ranged e has =
      let both = inside e has in
      let is = more_less (inode_of e) both.0 in
      let most = both.1 in
      omega (arith, is, most)

  same_inode : (d e : ℕ × FileCell) → Has d files → Has e files → place_of d ≡ place_of e → inode_of d ≡ inode_of e
  same_inode d e has has' is = sym (more_less (inode_of d) (inside d has).0) ∙ ap suc is ∙ more_less (inode_of e) (inside e has').0

  others : (d : ℕ × FileCell) → Has d files → (es : List (ℕ × FileCell)) → ((e : ℕ × FileCell) → Has e es → Has e files) → count eqb d.0 es ≡ 0 → AllByRecursion (λ y. eqb (place_of d) y ≡ false) (map place_of es)
  others d here [] all none = tt
  others d here (e ∷ es) all none = (differs (eqb (place_of d) (place_of e)) refl, others d here es (λ x has. all x (inr has)) (omega (arith, clear)))
    where
      clear : one (eqb d.0 e.0) + count eqb d.0 es ≡ 0
      clear = none

      differs : (b : Bool) → eqb (place_of d) (place_of e) ≡ b → eqb (place_of d) (place_of e) ≡ false
      differs false is = is
      differs true is =
          let there = all e (inl refl) in
          let inode = same_inode d e here there (alike (place_of d) (place_of e) is) in
          let number : d.0 ≡ e.0 = same_some d.0 e.0 (sym (placed d here) ∙ ap (file_at p.names.tree) inode ∙ placed e there) in
          let one_is : one (eqb d.0 e.0) ≡ 1 = ap one (sym (ap (eqb d.0) number) ∙ itself d.0) in
          absurd (omega (arith, clear, one_is))

  distinct : (es : List (ℕ × FileCell)) → ((e : ℕ × FileCell) → Has e es → Has e files) → ((n : ℕ) → count eqb n es ≤ 1) → IsDistinct eqb (map place_of es)
  unfolding IsDistinct
  distinct [] all once = tt
  distinct (e ∷ es) all once =
      let most : one (eqb e.0 e.0) + count eqb e.0 es ≤ 1 = once e.0 in
      let is : one (eqb e.0 e.0) ≡ 1 = ap one (itself e.0) in (
        others e (all e (inl refl)) es (λ x has. all x (inr has)) (omega (arith, most, is)),
        distinct es (λ x has. all x (inr has)) (λ n. let a : one (eqb n e.0) + count eqb n es ≤ 1 = once n in omega (arith, a)),
      )

  within : (es : List (ℕ × FileCell)) → ((e : ℕ × FileCell) → Has e es → Has e files) → (q : ℕ) → list_any (eqb q) (map place_of es) ≡ true → q < g.inodes
  within [] all q any = (let no : false ≡ true = any in absurd cc)
  within (e ∷ es) all q any = by (eqb q (place_of e)) refl any (within es (λ x has. all x (inr has)) q)
    where
      by : (b : Bool) → eqb q (place_of e) ≡ b → (b || list_any (eqb q) (map place_of es)) ≡ true → (list_any (eqb q) (map place_of es) ≡ true → q < g.inodes) → q < g.inodes
      by true is found rest = subst (λ (k : ℕ). k < g.inodes) (sym (alike q (place_of e) is)) (ranged e (all e (inl refl)))
      by false is found rest = rest found

  pub few_files : ((n : ℕ) → count eqb n files ≤ 1) → length files ≤ g.inodes
  few_files once =
      let few = length-le_from_distinct_below (map place_of files) g.inodes (distinct files (λ e has. has) once) (within files (λ e has. has)) in
      let same = length-map files place_of in
      omega (arith, few, same)

pub few_known : (k : Start) (n : ℕ) (v : View) → Knows k n v → ((m : ℕ) → count eqb m v.files ≤ 1) → length v.files ≤ k.geometry.inodes
few_known k n v knows = few_files knows.parts (tree_after knows.start knows.history) knows.around.parts k.geometry knows.rest knows.around.server v.files knows.around.cells.files
