-- Lists by all the numbers that there are.
use Rattle.std.proofs.Common.{◌≡◌, ◌≢◌, ℕ, zero, suc, ◌+◌, ◌<◌, ◌≤◌, true, List, [], ◌∷◌, length, map, set, refl, sym, ap, subst, ◌∙◌, arith}
use Rattle.std.specs.List.{range_with_len}
use Rattle.std.proofs.lemmas.List.FromFn.{get_or-map-range_with_len, length-map-range_with_len}
use Rattle.ufs_links.specs.Nodes.{has, nodes_in}
use Rattle.ufs_links.specs.NodeLists.{numbers_below, list_numbers, empty_lists}
use Rattle.ufs_links.proofs.StandLemmas.{list_below}

same_from : (f g : ℕ → List ℕ) (a n : ℕ) → ((k : ℕ) → a ≤ k → f k ≡ g k) → map f (range_with_len a n) ≡ map g (range_with_len a n)
same_from f g a zero each = refl
same_from f g a (suc n) each = let rest = same_from f g (a + 1) n (λ k le. each k (omega arith)) in let here = each a (omega arith) in λ i. here i ∷ rest i

set_from : (f g : ℕ → List ℕ) (a n l : ℕ) (v : List ℕ) → g (a + l) ≡ v → ((k : ℕ) → k ≢ a + l → g k ≡ f k) → set (map f (range_with_len a n)) l v ≡ map g (range_with_len a n)
set_from f g a zero l v at others = refl
set_from f g a (suc n) zero v at others =
    let place : a + 0 ≡ a = omega arith in
    let here : v ≡ g a = sym at ∙ ap g place in
    let rest = same_from f g (a + 1) n (λ k le. sym (others k (λ e. absurd (omega arith)))) in
    λ i. here i ∷ rest i
set_from f g a (suc n) (suc l) v at others =
    let place : a + suc l ≡ a + 1 + l = omega arith in
    let here : f a ≡ g a = sym (others a (λ e. absurd (omega arith))) in
    let rest = set_from f g (a + 1) n l v (ap g (sym place) ∙ at) (λ k ne. others k (λ e. ne (e ∙ place))) in
    λ i. here i ∷ rest i

-- one list is set
pub set_numbered : (f g : ℕ → List ℕ) (limit l : ℕ) (v : List ℕ) → g l ≡ v → ((k : ℕ) → k ≢ l → g k ≡ f k) → set (map f (numbers_below limit)) l v ≡ map g (numbers_below limit)
unfolding numbers_below
set_numbered f g limit l v at others =
    let place : 0 + l ≡ l = omega arith in set_from f g 0 limit l v (ap g place ∙ at) (λ k ne. others k (λ e. ne (e ∙ sym place)))

pub same_numbered : (f g : ℕ → List ℕ) (numbers : List ℕ) → ((k : ℕ) → f k ≡ g k) → map f numbers ≡ map g numbers
same_numbered f g [] each = refl
same_numbered f g (k ∷ numbers) each = λ i. each k i ∷ same_numbered f g numbers each i

pub map_numbered : (h : List ℕ → List ℕ) (f g : ℕ → List ℕ) (numbers : List ℕ) → ((k : ℕ) → g k ≡ h (f k)) → map h (map f numbers) ≡ map g numbers
map_numbered h f g [] each = refl
map_numbered h f g (k ∷ numbers) each = λ i. sym (each k) i ∷ map_numbered h f g numbers each i

pub at_numbered : (f : ℕ → List ℕ) (limit l : ℕ) → l < limit → nodes_in (map f (numbers_below limit)) l ≡ f l
unfolding numbers_below
at_numbered f limit l lt = get_or-map-range_with_len f 0 limit l l [] lt (omega arith)

pub length_numbered : (f : ℕ → List ℕ) (limit : ℕ) → length (map f (numbers_below limit)) ≡ limit
unfolding numbers_below
length_numbered f limit = length-map-range_with_len f 0 limit

-- what is on a list is on one with a number below the limit
pub on_numbered : (f : ℕ → List ℕ) (limit l n : ℕ) → has (nodes_in (map f (numbers_below limit)) l) n ≡ true → (l < limit) × (has (f l) n ≡ true)
on_numbered f limit l n h =
    let lt : l < limit = subst (λ k. l < k) (length_numbered f limit) (list_below (map f (numbers_below limit)) l n h) in
    (lt, subst (λ m. has m n ≡ true) (at_numbered f limit l lt) h)

empty_at : (numbers : List ℕ) (l : ℕ) → nodes_in (map (λ _. []) numbers) l ≡ []
empty_at [] l = refl
empty_at (k ∷ numbers) zero = refl
empty_at (k ∷ numbers) (suc l) = empty_at numbers l

pub empty_list : (l : ℕ) → nodes_in empty_lists l ≡ []
empty_list l = empty_at list_numbers l
