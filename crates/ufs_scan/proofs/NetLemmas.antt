-- What folding takes of steps says what they do.
use Rattle.std.proofs.Common.{◌≡◌, ℕ, ◌+◌, ◌-◌, ◌<◌, ◌≤◌, List, [], ◌∷◌, Bool, true, false, length, take, get_or, ap, sym, ◌∙◌, arith}
use Rattle.std.specs.Prelude.{nat_lt, min, map}
use Rattle.std.specs.List.{filter}
use Rattle.std.specs.List.Sorted.{IsNonDecreasingBy, IsPartitionPoint}
use Rattle.std.proofs.lemmas.Bool.{lt-ltb}
use Rattle.std.proofs.lemmas.List.{get_or-map, get_or_default, length-map}
use Rattle.ufs_found.proofs.Windows.{before_point}
use Rattle.ufs_scan.specs.Edits.{StepValue, AreNets, effects, edited}
use Rattle.ufs_scan.specs.Nets.{net_of}
use Rattle.ufs_scan.specs.declared.net.Net.{Net}
use Rattle.ufs_scan.proofs.Edits.{net_last}

-- the front of a list, by what is taken of its elements
pub front_is : {X Y : Type 0} (f : X → Y) (p : Y → Bool) (xs : List X) (i : ℕ) → i ≤ length xs → IsPartitionPoint (λ y. p y ≡ true) (λ y. p y ≡ false) (map f xs) i → take i xs ≡ filter (λ x. p (f x)) xs
front_is f p xs i most point = before_point (λ x. p (f x)) xs i (
  (λ k d low lt. ap p (sym (get_or-map f xs k d (f d) (omega (arith, lt, most)))) ∙ point.0 k (f d) low lt),
  (λ k d low lt. ap p (sym (get_or-map f xs k d (f d) lt)) ∙ point.1 k (f d) low (omega (arith, lt, length-map xs f))),
)

-- where its net says how many are gained
pub behind_net : (steps : List StepValue) (nets : List Net) (last : Net) → nets ≡ map net_of steps → AreNets steps → 0 < length nets → last ≡ get_or nets (length nets - 1) last → last.gained < 255 → (count : ℕ)
    → min last.kept count + last.gained ≡ edited (effects steps) count
behind_net [] nets last same are some is less count = absurd (omega (arith, some, ap length same))
behind_net (s ∷ rest) nets last same are some is less count =
    (λ i. min (kept_is i) count + gained_is i)
    ∙ net_last (s ∷ rest) end are (omega arith) (get_or_default (s ∷ rest) (length (s ∷ rest) - 1) s end (omega arith)) count
  where
    end : StepValue
    end = get_or (s ∷ rest) (length (s ∷ rest) - 1) s

    long : length nets ≡ length (s ∷ rest)
    long = ap length same ∙ length-map (s ∷ rest) net_of

    last_is : last ≡ net_of end
    last_is = is ∙ (λ i. get_or (same i) (long i - 1) last) ∙ get_or-map net_of (s ∷ rest) (length (s ∷ rest) - 1) s last (omega arith)

    kept_is : last.kept ≡ end.kept
    kept_is = ap (λ (n : Net). n.kept) last_is

    gained_is : last.gained ≡ end.gained
    gained_is = let net : last.gained ≡ min end.gained 255 = ap (λ (n : Net). n.gained) last_is in omega (arith, net, less)

-- where the last stands below an index, all do
pub all_points : (nets : List Net) (last : Net) (index : ℕ) → IsNonDecreasingBy (λ (n : Net). n.index) nets → 0 < length nets → last ≡ get_or nets (length nets - 1) last → last.index < index
    → IsPartitionPoint (λ (n : Net). nat_lt n.index index ≡ true) (λ (n : Net). nat_lt n.index index ≡ false) nets (length nets)
all_points nets last index up some is less = (
  (λ k d low lt.
      let le = up k (length nets - 1) d (omega (arith, lt)) (omega (arith, some)) in
      let end : get_or nets (length nets - 1) d ≡ last = get_or_default nets (length nets - 1) d last (omega (arith, some)) ∙ sym is in
      lt-ltb _ index (omega (arith, le, less, ap (λ (n : Net). n.index) end))),
  (λ k d low lt. absurd (omega (arith, low, lt))),
)

-- lists that are taken of one another's elements
pub as_many : {V W C : Type 0} (items : V → W) (f : C → W) (vs : List V) (cs : List C) → map items vs ≡ map f cs → length vs ≡ length cs
as_many items f vs cs same = sym (length-map vs items) ∙ ap length same ∙ length-map cs f

pub one_of : {V W C : Type 0} (items : V → W) (f : C → W) (vs : List V) (cs : List C) → map items vs ≡ map f cs → (p : ℕ) → p < length cs → (v : V) → v ≡ get_or vs p v → (c : C) → c ≡ get_or cs p c → items v ≡ f c
one_of items f vs cs same p lt v v_is c c_is =
    ap items v_is ∙ sym (get_or-map items vs p v (f c) (omega (arith, lt, as_many items f vs cs same))) ∙ ap (λ l. get_or l p (f c)) same ∙ get_or-map f cs p c (f c) lt ∙ ap f (sym c_is)
