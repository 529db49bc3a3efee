-- Names that are noted in order.
use Rattle.std.proofs.Common.{◌≡◌, ℕ, List, [], ◌∷◌, Bool, true, false, ap, sym, refl, ◌∙◌}
use Rattle.std.specs.Prelude.{◌||◌}
use Rattle.std.specs.List.{list_any}
use Rattle.std.specs.declared.cmp.Ordering.{Ordering}
use Rattle.std.specs.declared.cmp.Ordering.TheVariants.{Less, Equal, Greater}
use Rattle.std.specs.Ordering.{nat_cmp, is_eq, match_ordering}
use Rattle.std.specs.Cmp.Lexicographic.{slice_cmp}
use Rattle.std.specs.Str.{bytes_eq}
use Rattle.std.specs.BTreeSet.{insert_key}
use Rattle.std.proofs.lemmas.Map.Text.{is_eq-slice_cmp}
use Rattle.std.proofs.lemmas.Bool.Decides.{same_from_decides}
use Rattle.std.proofs.lemmas.Slice.Eq.{bytes_eq-Decides}
use Rattle.ufs_damage.specs.Known.{is_among}
use denote.Ref.{Bor}

abbrev pub by_bytes : Bor (List ℕ) → Bor (List ℕ) → Ordering
by_bytes x y = slice_cmp nat_cmp x.now y.now

pub bytes_turned : (a b : List ℕ) → bytes_eq a b ≡ bytes_eq b a
bytes_turned a b = same_from_decides (bytes_eq a b) (bytes_eq b a) (bytes_eq-Decides a b) (λ t. sym ((bytes_eq-Decides b a).0 t), λ e. (bytes_eq-Decides b a).1 (sym e))

or_again : (a b : Bool) → (a || b) ≡ (a || (a || b))
or_again true b = refl
or_again false b = refl

or_between : (a b c : Bool) → (a || (b || c)) ≡ (b || (a || c))
or_between true true c = refl
or_between true false c = refl
or_between false b c = refl

pub among_inserted : (names : List (Bor (List ℕ))) (name : Bor (List ℕ)) (other : List ℕ) → is_among (insert_key by_bytes names name) other ≡ (bytes_eq name.now other || is_among names other)
among_inserted [] name other = refl
among_inserted (x ∷ xs) name other = by (by_bytes name x) refl (among_inserted xs name other)
  where
    by : (o : Ordering) → by_bytes name x ≡ o → is_among (insert_key by_bytes xs name) other ≡ (bytes_eq name.now other || is_among xs other)
        → is_among (match_ordering o (name ∷ x ∷ xs) (x ∷ xs) (x ∷ insert_key by_bytes xs name)) other ≡ (bytes_eq name.now other || is_among (x ∷ xs) other)
    by Less e more = refl
    by Equal e more =
        let equal : bytes_eq name.now x.now ≡ true = sym (is_eq-slice_cmp name.now x.now) ∙ ap is_eq e in
        let same : name.now ≡ x.now = (bytes_eq-Decides name.now x.now).0 equal in
        or_again (bytes_eq x.now other) (is_among xs other) ∙ ap (λ n. bytes_eq n other || (bytes_eq x.now other || is_among xs other)) (sym same)
    by Greater e more = ap (λ b. bytes_eq x.now other || b) more ∙ or_between (bytes_eq x.now other) (bytes_eq name.now other) (is_among xs other)

pub among_is : (names : List (Bor (List ℕ))) (name : Bor (List ℕ)) → list_any (λ (k : Bor (List ℕ)). is_eq (by_bytes name k)) names ≡ is_among names name.now
among_is [] name = refl
among_is (x ∷ xs) name =
    ap (λ b. b || list_any (λ (k : Bor (List ℕ)). is_eq (by_bytes name k)) xs) (is_eq-slice_cmp name.now x.now ∙ bytes_turned name.now x.now)
    ∙ ap (λ b. bytes_eq x.now name.now || b) (among_is xs name)
