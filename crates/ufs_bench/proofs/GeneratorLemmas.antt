-- The words of a generator, taken in parts.
use Rattle.std.proofs.Common.{◌≡◌, ◌+◌, ◌++◌, ℕ, zero, suc, [], ◌∷◌, length, take, drop, refl, ap, ◌∙◌, arith}
use Rattle.rand_core.specs.Steps.{first_words}
use Rattle.rand_pcg.specs.Lcg.{Lcg}
use Rattle.rand_pcg.specs.Pcg.{pcg32}
use Rattle.ufs_bench.specs.Generator.{after_words, next_words}

one_up : (n : ℕ) → n + 1 ≡ suc n
one_up n = omega arith

suc_plus : (n m : ℕ) → suc n + m ≡ suc (n + m)
suc_plus n m = omega arith

zero_plus : (m : ℕ) → 0 + m ≡ m
zero_plus m = omega arith

pub no_words : (g : Lcg) → next_words 0 g ≡ []
unfolding first_words
no_words g = refl

pub after_none : (g : Lcg) → after_words 0 g ≡ g
unfolding after_words
after_none g = refl

more : (n : ℕ) (g : Lcg) → next_words (suc n) g ≡ next_words n g ++ (pcg32 (after_words n g)).0 ∷ []
unfolding first_words after_words
more zero g = refl
more (suc n) g = ap (λ ws. (pcg32 g).0 ∷ ws) (more n (pcg32 g).1)

-- one word more
pub one_more : (n : ℕ) (g : Lcg) → next_words (n + 1) g ≡ next_words n g ++ (pcg32 (after_words n g)).0 ∷ []
one_more n g = ap (λ k. next_words k g) (one_up n) ∙ more n g

after_more : (n : ℕ) (g : Lcg) → after_words (suc n) g ≡ (pcg32 (after_words n g)).1
unfolding after_words
after_more zero g = refl
after_more (suc n) g = after_more n (pcg32 g).1

pub after_one_more : (n : ℕ) (g : Lcg) → after_words (n + 1) g ≡ (pcg32 (after_words n g)).1
after_one_more n g = ap (λ k. after_words k g) (one_up n) ∙ after_more n g

-- behind some words, and then behind some more
pub after_plus : (n m : ℕ) (g : Lcg) → after_words (n + m) g ≡ after_words m (after_words n g)
unfolding after_words
after_plus zero m g = ap (λ k. after_words k g) (zero_plus m)
after_plus (suc n) m g = ap (λ k. after_words k g) (suc_plus n m) ∙ after_plus n m (pcg32 g).1

pub length_words : (n : ℕ) (g : Lcg) → length (next_words n g) ≡ n
unfolding first_words
length_words zero g = refl
length_words (suc n) g = ap suc (length_words n (pcg32 g).1)

-- the first of them, and those behind
pub front_words : (n m : ℕ) (g : Lcg) → take n (next_words (n + m) g) ≡ next_words n g
unfolding first_words
front_words zero m g = refl
front_words (suc n) m g = ap (λ k. take (suc n) (next_words k g)) (suc_plus n m) ∙ ap (λ ws. (pcg32 g).0 ∷ ws) (front_words n m (pcg32 g).1)

pub later_words : (n m : ℕ) (g : Lcg) → drop n (next_words (n + m) g) ≡ next_words m (after_words n g)
unfolding first_words after_words
later_words zero m g = ap (λ k. next_words k g) (zero_plus m)
later_words (suc n) m g = ap (λ k. drop (suc n) (next_words k g)) (suc_plus n m) ∙ later_words n m (pcg32 g).1
