-- The first bytes of a file, as its blocks are read.
use Rattle.std.proofs.Common.{◌≡◌, ℕ, ◌-◌, ◌<◌, ◌≤◌, inl, inr, List, ◌++◌, Option, Some, None, length, length-append, take, min, replicate, refl, ap, sym, ◌∙◌, arith}
use Rattle.std.proofs.lemmas.Bool.{cases_lt}
use Rattle.std.proofs.lemmas.List.{append-nil, length-replicate, take-append-le, take-take, take_all, length-take, length-take-le}
use Rattle.ufs_opening.specs.Heads.{IsFrontOf, IsHead, cut, enough_of}
use Rattle.ufs_opening.specs.declared.head.NodeHead.TheVariants.{File}

-- enough bytes of a list begin what is longer too
longer : (enough : ℕ) (bytes whole more : List ℕ) → enough ≤ length bytes → take enough bytes ≡ take enough whole → take enough bytes ≡ take enough (whole ++ more)
longer enough bytes whole more from same =
    let long : length (take enough whole) ≡ enough = ap length (sym same) ∙ length-take-le enough bytes from in
    let most = length-take enough whole in
    same ∙ sym (take-append-le enough whole more (omega (arith, long, most)))

pub front_done : (enough : ℕ) (bytes whole more : List ℕ) → enough ≤ length bytes → IsFrontOf enough bytes whole → IsFrontOf enough bytes (whole ++ more)
front_done enough bytes whole more from (inl same) = inr (from, longer enough bytes whole more from (ap (take enough) same))
front_done enough bytes whole more from (inr front) = inr (from, longer enough bytes whole more from front.1)

pub front_more : (enough : ℕ) (bytes whole more : List ℕ) → length bytes < enough → IsFrontOf enough bytes whole → IsFrontOf enough (bytes ++ more) (whole ++ more)
front_more enough bytes whole more few (inl same) = inl (ap (λ l. l ++ more) same)
front_more enough bytes whole more few (inr front) = let from = front.0 in absurd (omega (arith, few, from))

pub front_taken : (enough : ℕ) (bytes whole : List ℕ) → IsFrontOf enough bytes whole → take enough bytes ≡ take enough whole
front_taken enough bytes whole (inl same) = ap (take enough) same
front_taken enough bytes whole (inr front) = front.1

-- the lesser of two numbers of bytes
pub take_both : (most size n : ℕ) (bytes : List ℕ) → n ≡ min most size → take n bytes ≡ take most (take size bytes)
take_both most size n bytes is = elim (cases_lt size most) [
  | inl under ↦ (let same : n ≡ size = omega (arith, is, under) in
      let few = length-take size bytes in
      ap (λ k. take k bytes) same ∙ sym (take_all most (take size bytes) (omega (arith, few, under))))
  | inr over ↦ (let same : n ≡ most = omega (arith, is, over) in
      ap (λ k. take k bytes) same ∙ sym (take-take most size bytes over))
]

pub cut_enough : (most : Option ℕ) (size : ℕ) (bytes : List ℕ) → take (enough_of most size) bytes ≡ cut most (take size bytes)
cut_enough None size bytes = refl
cut_enough (Some most) size bytes = take_both most size (min most size) bytes refl

-- ---- heads of something: the front with zeros behind it

no_padding : (size : ℕ) (front : List ℕ) → size ≤ length front → front ++ replicate (size - length front) 0 ≡ front
no_padding size front all = let none : size - length front ≡ 0 = omega (arith, all) in ap (λ n. front ++ replicate n 0) none ∙ append-nil front

front_kept : (most : Option ℕ) (size : ℕ) (front : List ℕ) → length front ≡ enough_of most size → front ≡ cut most (front ++ replicate (size - length front) 0)
front_kept None size front long = sym (no_padding size front (omega (arith, long)))
front_kept (Some most) size front long = elim (cases_lt size most) [
  | inl under ↦ sym (ap (take most) (no_padding size front (omega (arith, long, under))) ∙ take_all most front (omega (arith, long)))
  | inr over ↦ sym (take-append-le most front (replicate (size - length front) 0) (omega (arith, long, over)) ∙ take_all most front (omega (arith, long)))
]

enough_within : (most : Option ℕ) (size : ℕ) → enough_of most size ≤ size
enough_within None size = omega arith
enough_within (Some most) size = omega arith

pub file_head : (most : Option ℕ) (size : ℕ) (front : List ℕ) → length front ≡ enough_of most size → IsHead most (File size front)
file_head most size front long = (Some (front ++ replicate (size - length front) 0), λ i. File (sized i) (front_kept most size front long i))
  where
    sized : size ≡ length (front ++ replicate (size - length front) 0)
    sized =
        let both = length-append front (replicate (size - length front) 0) in
        let rest = length-replicate {A = ℕ} (size - length front) 0 in
        let within = enough_within most size in
        omega (arith, both, rest, long, within)

-- enough of a file's blocks, where they hold it
pub all_there : (most : Option ℕ) (size : ℕ) (bytes whole : List ℕ) → bytes ≡ take (enough_of most size) whole → length (take size whole) ≡ size → length bytes ≡ enough_of most size
all_there most size bytes whole are long =
    let most_of = length-take size whole in
    let within = enough_within most size in
    ap length are ∙ length-take-le (enough_of most size) whole (omega (arith, most_of, long, within))
