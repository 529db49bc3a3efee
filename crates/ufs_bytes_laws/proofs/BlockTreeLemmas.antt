-- Trees in which some blocks of a file have other bytes.
use Rattle.std.proofs.Common.{◌≡◌, ◌⊎◌, inl, inr, ℕ, Bool, true, Option, Some, None, List, [], length, ap, sym, refl, ◌∙◌, subst}
use Rattle.std.specs.Prelude.{slice_get, unwrap_or}
use Rattle.std.specs.Cmp.{nat_cmp_total}
use Rattle.std.specs.FinMap as map
use Rattle.std.specs.FinMap.{nat_cmp-IsAntisymmetric, same_map}
use Rattle.std.specs.Option.{option_map}
use Rattle.std.proofs.lemmas.List.{nil_from_length}
use Rattle.ufs_bytes_laws.specs.Alike.{AreAlike}
use Rattle.ufs_bytes_laws.proofs.MergedLemmas.{AreAsMany, length-merged, merged, merged_else, merged_marked, merged_same}
use Rattle.ufs_bytes_laws.proofs.TreeLemmas.{itself, other_bytes}
use Rattle.ufs_file.specs.Content.{own_bytes}
use Rattle.ufs_model.specs.FileBytes.{bytes_of}
use Rattle.ufs_model.specs.PosixTree.{Files, PosixTree}
use Rattle.ufs_model.proofs.Facts.Lookups.{inserted_else, inserted_here, one_or_apart}

-- one of two numbers, or another
pub same_number : (f g : ℕ) → (f ≡ g) ⊎ (f ≡ g → ⊥)
same_number f g = one_or_apart nat_cmp_total nat_cmp-IsAntisymmetric f g

abbrev files_with : Files → ℕ → List Bool → List ℕ → Option (List ℕ) → Files
files_with files file marks fresh None = files
files_with files file marks fresh (Some old) = map.insert files file (merged marks fresh old)

-- the tree with these bytes in the marked blocks of the file, if there is that file
abbrev pub with_blocks : PosixTree → ℕ → List Bool → List ℕ → PosixTree
with_blocks t file marks fresh = record t { bytes = files_with t.bytes file marks fresh (map.get t.bytes file) }

module _ (t : PosixTree) (file : ℕ) (marks : List Bool) (fresh : List ℕ) where
  abbrev after : PosixTree
  after = with_blocks t file marks fresh

  abbrev old : List ℕ
  old = bytes_of t.bytes file

  module _ (many : AreAsMany marks fresh (bytes_of t.bytes file)) where
    many_at : (o : Option (List ℕ)) → map.get t.bytes file ≡ o → AreAsMany marks fresh (unwrap_or o [])
    many_at o is = subst (λ (o : Option (List ℕ)). AreAsMany marks fresh (unwrap_or o [])) is many

    bytes_here : bytes_of after.bytes file ≡ merged marks fresh old
    bytes_here = by (map.get t.bytes file) refl
      where
        by : (o : Option (List ℕ)) → map.get t.bytes file ≡ o → bytes_of (files_with t.bytes file marks fresh o) file ≡ merged marks fresh (unwrap_or o [])
        by None is = ap (λ (o : Option (List ℕ)). unwrap_or o []) is ∙ sym (nil_from_length (merged marks fresh []) (length-merged marks fresh [] (many_at None is)))
        by (Some xs) is = ap (λ (o : Option (List ℕ)). unwrap_or o []) (inserted_here nat_cmp_total nat_cmp-IsAntisymmetric t.bytes file (merged marks fresh xs))

    bytes_else : (g : ℕ) → (g ≡ file → ⊥) → map.get after.bytes g ≡ map.get t.bytes g
    bytes_else g not = by (map.get t.bytes file)
      where
        by : (o : Option (List ℕ)) → map.get (files_with t.bytes file marks fresh o) g ≡ map.get t.bytes g
        by None = refl
        by (Some xs) = inserted_else nat_cmp_total nat_cmp-IsAntisymmetric t.bytes file (merged marks fresh xs) g not

    pub blocks_alike : AreAlike t after
    blocks_alike = by (map.get t.bytes file) refl
      where
        by : (o : Option (List ℕ)) → map.get t.bytes file ≡ o → AreAlike t (record t { bytes = files_with t.bytes file marks fresh o })
        by None is = itself t
        by (Some xs) is = other_bytes t file (merged marks fresh xs) (ap (option_map length) is ∙ ap Some (sym (length-merged marks fresh xs (many_at (Some xs) is))))

    pub blocks_marked : (place : ℕ) → slice_get marks place ≡ Some true → own_bytes (bytes_of after.bytes file) place ≡ own_bytes fresh place
    blocks_marked place is = ap (λ (l : List ℕ). own_bytes l place) bytes_here ∙ merged_marked marks fresh old many place is

    pub blocks_else : (g place : ℕ) → (g ≡ file → slice_get marks place ≡ Some true → ⊥) → own_bytes (bytes_of after.bytes g) place ≡ own_bytes (bytes_of t.bytes g) place
    blocks_else g place not = by (same_number g file)
      where
        by : (g ≡ file) ⊎ (g ≡ file → ⊥) → own_bytes (bytes_of after.bytes g) place ≡ own_bytes (bytes_of t.bytes g) place
        by (inl e) = subst (λ (g : ℕ). own_bytes (bytes_of after.bytes g) place ≡ own_bytes (bytes_of t.bytes g) place) (sym e)
            (ap (λ (l : List ℕ). own_bytes l place) bytes_here ∙ merged_else marks fresh old many place (not e))
        by (inr apart) = ap (λ (o : Option (List ℕ)). own_bytes (unwrap_or o []) place) (bytes_else g apart)

  -- Where the marked blocks have these bytes already it is the tree.
  pub blocks_same : ((place : ℕ) → slice_get marks place ≡ Some true → own_bytes fresh place ≡ own_bytes (bytes_of t.bytes file) place) → after ≡ t
  blocks_same same = ap (λ (bytes : Files). record t { bytes = bytes }) (by (map.get t.bytes file) refl)
    where
      by : (o : Option (List ℕ)) → map.get t.bytes file ≡ o → files_with t.bytes file marks fresh o ≡ t.bytes
      by None is = refl
      by (Some xs) is = same_map nat_cmp_total nat_cmp-IsAntisymmetric (map.insert t.bytes file (merged marks fresh xs)) t.bytes (λ g. each g (same_number g file))
        where
          its : merged marks fresh xs ≡ xs
          its = merged_same marks fresh xs (λ place is'. same place is' ∙ ap (λ (o : Option (List ℕ)). own_bytes (unwrap_or o []) place) is)

          each : (g : ℕ) → (g ≡ file) ⊎ (g ≡ file → ⊥) → map.get (map.insert t.bytes file (merged marks fresh xs)) g ≡ map.get t.bytes g
          each g (inl e) = ap (map.get (map.insert t.bytes file (merged marks fresh xs))) e ∙ inserted_here nat_cmp_total nat_cmp-IsAntisymmetric t.bytes file (merged marks fresh xs)
              ∙ ap Some its ∙ sym is ∙ ap (map.get t.bytes) (sym e)
          each g (inr apart) = inserted_else nat_cmp_total nat_cmp-IsAntisymmetric t.bytes file (merged marks fresh xs) g apart
