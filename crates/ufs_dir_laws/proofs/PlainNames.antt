-- A plain name that isn't too long may stand in a path.
use Rattle.std.proofs.Common.{◌≡◌, ℕ, List, [], ◌∷◌, Bool, true, false, length, ap, sym, refl, ◌∙◌, arith}
use Rattle.std.specs.Prelude.{◌==◌, ◌&&◌, not, nat_le, nat_lt}
use Rattle.std.specs.List.{list_all}
use Rattle.std.specs.Str.{bytes_eq}
use Rattle.std.proofs.lemmas.Bool.{and_parts, false_from_ne_true}
use Rattle.std.proofs.lemmas.Bool.Decides.{nat_tests}
use Rattle.std.proofs.lemmas.Slice.Eq.{bytes_eq-Decides}
use Rattle.ufs_image.specs.Damage.{is_plain_name}
use Rattle.ufs_model.specs.Paths.{in_range, is_dots}
use Rattle.ufs_path.specs.Names.{IsName}

-- what all pass that pass another test
weaker : {X : Type 0} (p q : X → Bool) (xs : List X) → ((x : X) → p x ≡ true → q x ≡ true) → list_all p xs ≡ true → list_all q xs ≡ true
weaker p q [] on all = refl
weaker p q (x ∷ xs) on all =
    let parts = and_parts (p x) (list_all p xs) all in
    ap (λ b. b && list_all q xs) (on x parts.0) ∙ weaker p q xs on parts.1

abbrev is_plain_byte : ℕ → Bool
is_plain_byte b = nat_le 33 b && (nat_le b 126 && not (b == 47))

no_slash : (b : ℕ) → is_plain_byte b ≡ true → not (b == 47) ≡ true
no_slash b e = (and_parts (nat_le b 126) _ (and_parts (nat_le 33 b) _ e).1).1

printable : (b : ℕ) → is_plain_byte b ≡ true → in_range b ≡ true
printable b e = let first = and_parts (nat_le 33 b) _ e in let last = (and_parts (nat_le b 126) _ first.1).0 in rw (first.0, last) refl

no_dots : (name : List ℕ) → not (bytes_eq name (46 ∷ [])) ≡ true → not (bytes_eq name (46 ∷ 46 ∷ [])) ≡ true → is_dots name ≡ false
no_dots [] one two = refl
no_dots (a ∷ []) one two = false_from_ne_true (a == 46) is_no
  where
    is_no : (a == 46) ≡ true → ⊥
    is_no e =
        let dot : a ≡ 46 = grind (arith, nat_tests, e) in
        let is = (bytes_eq-Decides (a ∷ []) (46 ∷ [])).1 (ap (λ b. b ∷ []) dot) in
        let no : false ≡ true = sym (ap not is) ∙ one in
        absurd cc
no_dots (a ∷ b ∷ []) one two = false_from_ne_true ((a == 46) && (b == 46)) is_no
  where
    is_no : ((a == 46) && (b == 46)) ≡ true → ⊥
    is_no e =
        let parts = and_parts (a == 46) (b == 46) e in
        let left = parts.0 in
        let right = parts.1 in
        let dot : a ≡ 46 = grind (arith, nat_tests, left) in
        let next : b ≡ 46 = grind (arith, nat_tests, right) in
        let is = (bytes_eq-Decides (a ∷ b ∷ []) (46 ∷ 46 ∷ [])).1 (λ i. dot i ∷ next i ∷ []) in
        let no : false ≡ true = sym (ap not is) ∙ two in
        absurd cc
no_dots (a ∷ b ∷ d ∷ rest) one two = refl

pub plain-name : (name : List ℕ) → is_plain_name name ≡ true → nat_lt 0 (length name) ≡ true → nat_le (length name) 58 ≡ true → IsName name
plain-name name plain some short =
    let parts = and_parts (list_all is_plain_byte name) _ plain in
    let dots = and_parts (not (bytes_eq name (46 ∷ []))) (not (bytes_eq name (46 ∷ 46 ∷ []))) parts.1 in
    record {
      some = grind (arith, nat_tests, some);
      short = grind (arith, nat_tests, short);
      no_slash = weaker is_plain_byte (λ b. not (b == 47)) name no_slash parts.0;
      printable = weaker is_plain_byte in_range name printable parts.0;
      no_dots = no_dots name dots.0 dots.1;
    }
