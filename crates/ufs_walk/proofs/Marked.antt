-- Marks of the inodes in a list.
use Rattle.std.proofs.Common.{◌≡◌, ℕ, zero, suc, refl, ◌+◌, ◌⊎◌, inl, inr, List, [], ◌∷◌, ◌++◌, map, replicate, Bool, true, false, Some, None, ap, sym, ◌∙◌}
use Rattle.std.specs.List.{slice_get}
use Rattle.ufs_image.proofs.Lists.{IsIn, in_one, in_left, in_right}
use Rattle.ufs_walk.specs.Walked.{Place, pairs_of}
use Rattle.ufs_walk.specs.declared.places.PathAt.{PathAt}
use Rattle.ufs_walk.proofs.Maps.{pairs_push}
use Rattle.std.proofs.lemmas.List.{map-append}

abbrev pub inodes_of : List PathAt → List ℕ
inodes_of ps = map (λ (p : Place). p.1) (pairs_of ps)

pub inodes_push : (xs : List PathAt) (x : PathAt) → inodes_of (xs ++ x ∷ []) ≡ inodes_of xs ++ x.inode ∷ []
inodes_push xs x = ap (map (λ (p : Place). p.1)) (pairs_push xs x) ∙ map-append (λ (p : Place). p.1) (pairs_of xs) ((x.path.items, x.inode) ∷ [])

-- Just the inodes of the list are marked, that of inode 1 first.
pub record IsMarked (marks : List Bool) (inodes : List ℕ) : Type 0 where
  pub sound : (place : ℕ) → slice_get marks place ≡ Some true → IsIn (place + 1) inodes
  pub all : (place : ℕ) → slice_get marks place ≡ Some false → IsIn (place + 1) inodes → ⊥

not_both : (b : Bool) → b ≡ true → b ≡ false → ⊥
not_both b is isnt = let clash : true ≡ false = sym is ∙ isnt in cc

pub one_marked : (old new : List Bool) (inodes : List ℕ) (x : ℕ) → IsMarked old inodes
    → ((place : ℕ) (b : Bool) → slice_get new place ≡ Some b → (slice_get old place ≡ Some b) ⊎ ((place + 1 ≡ x) × (b ≡ true)))
    → ((place : ℕ) → place + 1 ≡ x → slice_get new place ≡ Some false → slice_get old place ≡ None) → IsMarked new (inodes ++ x ∷ [])
one_marked old new inodes x was others here = record {
  sound = λ place e. elim (others place true e) [
    | inl before ↦ in_left (place + 1) inodes (x ∷ []) (was.sound place before)
    | inr now ↦ in_right (place + 1) inodes (x ∷ []) (inl now.0)
  ];
  all = λ place e there. elim (others place false e) [
    | inl before ↦ elim (in_one (place + 1) inodes (x ∷ []) there) [
      | inl left ↦ was.all place before left
      | inr right ↦ elim right [
        | inl same ↦ (let none : None ≡ Some false = sym (here place same e) ∙ before in cc)
        | inr none ↦ absurd none
      ]
    ]
    | inr now ↦ not_both false now.1 refl
  ];
}

pub get_replicate : (n place : ℕ) (b c : Bool) → slice_get (replicate n b) place ≡ Some c → c ≡ b
get_replicate zero place b c e = let no = e in cc
get_replicate (suc n) zero b c e = let same = e in cc
get_replicate (suc n) (suc place) b c e = get_replicate n place b c e

pub none_marked : (n : ℕ) (marks : List Bool) → marks ≡ replicate n false → IsMarked marks []
none_marked n marks is = record {
  sound = λ place e. absurd (not_both true refl (get_replicate n place false true (ap (λ (m : List Bool). slice_get m place) (sym is) ∙ e)));
  all = λ place e there. there;
}
