-- The workers' loads, and what a move does to them.
use Rattle.std.proofs.Common.{◌≡◌, ◌≢◌, ℕ, zero, suc, ◌+◌, ◌-◌, ◌*◌, ◌<◌, ◌≤◌, nat_eq, eqb, Bool, true, false, cond, ◌⊎◌, ⊎_elim, inl, inr, List, [], ◌∷◌, ◌++◌, length, map, refl, sym, ap, subst, ◌∙◌, true≢false, arith, take, All, ◌||◌, slice_index, replicate}
use Rattle.std.proofs.lemmas.Bool.Decides.{nat_tests, eqb_tells}
use Rattle.std.specs.List.{IsDistinct, AllByRecursion, list_any}
use Rattle.std.proofs.lemmas.Map.Steps.{length-le_from_distinct_below}
use Rattle.ufs_model.specs.declared.data.Load.{Load}
use Rattle.ufs_load.specs.declared.moves.Move.{Move}
use Rattle.ufs_load.specs.Plan.{part_on, load_of, IsMost, IsLeast, IsOneOf, MayGo, IsChosen, IsNextMove, on_worker, after, Lead, IsPlan}
use Rattle.ufs_load.specs.Laws.{AreOfFiles, IsBound}

pub load_of-push : (loads : List Load) (l : Load) (w : ℕ) → load_of (loads ++ l ∷ []) w ≡ load_of loads w + part_on l w
load_of-push [] l w = omega arith
load_of-push (x ∷ loads) l w = let h = load_of-push loads l w in omega arith

-- one worker more to look at
one_more : (v w : ℕ) → 2 ≤ w → v ≤ w + 1 - 1 → (v ≤ w - 1) ⊎ (v ≡ w)
one_more v w two le = ⊎_elim (λ (t : (eqb v w ≡ true) × (v ≡ w)). inr t.1) (λ (t : (eqb v w ≡ false) × (v ≢ w)). let ne = t.1 in inl (omega arith)) (eqb_tells v w)

module _ (f : ℕ → ℕ) (w b : ℕ) (two : 2 ≤ w) where
  pub most_stays : IsMost f (w - 1) b → f w ≤ f b → IsMost f (w + 1 - 1) b
  most_stays m le = record {
    there = m.there;
    within = let h = m.within in omega arith;
    most = λ v one up. ⊎_elim (λ (h : v ≤ w - 1). m.most v one h) (λ (e : v ≡ w). subst (λ k. f k ≤ f b) (sym e) le) (one_more v w two up);
    lowest = m.lowest;
  }

  pub most_moves : IsMost f (w - 1) b → f b < f w → IsMost f (w + 1 - 1) w
  most_moves m lt = record {
    there = omega arith;
    within = omega arith;
    most = λ v one up. ⊎_elim (λ (h : v ≤ w - 1). let t = m.most v one h in omega arith) (λ (e : v ≡ w). let t : f v ≡ f w = ap f e in omega arith) (one_more v w two up);
    lowest = λ v one low. let t = m.most v one (omega arith) in omega arith;
  }

  pub least_stays : IsLeast f (w - 1) b → f b ≤ f w → IsLeast f (w + 1 - 1) b
  least_stays m le = record {
    there = m.there;
    within = let h = m.within in omega arith;
    least = λ v one up. ⊎_elim (λ (h : v ≤ w - 1). m.least v one h) (λ (e : v ≡ w). subst (λ k. f b ≤ f k) (sym e) le) (one_more v w two up);
    lowest = m.lowest;
  }

  pub least_moves : IsLeast f (w - 1) b → f w < f b → IsLeast f (w + 1 - 1) w
  least_moves m lt = record {
    there = omega arith;
    within = omega arith;
    least = λ v one up. ⊎_elim (λ (h : v ≤ w - 1). let t = m.least v one h in omega arith) (λ (e : v ≡ w). let t : f v ≡ f w = ap f e in omega arith) (one_more v w two up);
    lowest = λ v one low. let t = m.least v one (omega arith) in omega arith;
  }

-- a load whose file is another's
away : (a : ℕ) (loads : List Load) (l : Load) → AllByRecursion (λ y. nat_eq a y ≡ false) (map (λ (x : Load). x.file) loads) → IsOneOf loads l → a ≢ l.file
away a [] l all one = absurd one
away a (x ∷ loads) l all one = ⊎_elim
    (λ (e : x ≡ l). λ t. let u : nat_eq a x.file ≡ true = (let v : a ≡ x.file = t ∙ ap (λ (y : Load). y.file) (sym e) in grind (arith, nat_tests)) in true≢false (sym u ∙ all.0))
    (λ (h : IsOneOf loads l). away a loads l all.1 h) one

stays : (file to : ℕ) (l : Load) → l.file ≢ file → on_worker file to l ≡ l
stays file to l ne = let e : nat_eq l.file file ≡ false = grind (arith, nat_tests) in rw e refl

unmoved : (file to : ℕ) (loads : List Load) → AllByRecursion (λ y. nat_eq file y ≡ false) (map (λ (x : Load). x.file) loads) → map (on_worker file to) loads ≡ loads
unmoved file to [] all = refl
unmoved file to (x ∷ loads) all =
    let ne : x.file ≢ file = λ e. let u : nat_eq file x.file ≡ true = grind (arith, nat_tests) in true≢false (sym u ∙ all.0) in
    λ i. stays file to x ne i ∷ unmoved file to loads all.1 i

goes : (file to : ℕ) (l : Load) → l.file ≡ file → on_worker file to l ≡ record { file = l.file; worker = to; count = l.count }
goes file to l at = let e : nat_eq l.file file ≡ true = grind (arith, nat_tests) in rw e refl

-- a move takes the count from one worker to another
moved_loads : (loads : List Load) (l : Load) (to w : ℕ) → AreOfFiles loads → IsOneOf loads l
    → load_of (map (on_worker l.file to) loads) w + part_on l w ≡ load_of loads w + part_on (record { file = l.file; worker = to; count = l.count }) w
unfolding IsDistinct
moved_loads [] l to w distinct one = absurd one
moved_loads (x ∷ loads) l to w distinct one = ⊎_elim
    (λ (e : x ≡ l).
    let f : x.file ≡ l.file = ap (λ (y : Load). y.file) e in
    let rest : map (on_worker l.file to) loads ≡ loads = unmoved l.file to loads (subst (λ k. AllByRecursion (λ y. nat_eq k y ≡ false) (map (λ (y : Load). y.file) loads)) f distinct.0) in
    let here : on_worker l.file to x ≡ record { file = l.file; worker = to; count = l.count } = goes l.file to x f ∙ ap (λ (y : Load). record { file = y.file; worker = to; count = y.count }) e in
    let a = ap (λ (y : Load). part_on y w) here in
    let b = ap (λ (y : List Load). load_of y w) rest in
    let d = ap (λ (y : Load). part_on y w) e in
    omega arith)
    (λ (h : IsOneOf loads l).
    let ne : x.file ≢ l.file = away x.file loads l distinct.0 h in
    let a = ap (λ (y : Load). part_on y w) (stays l.file to x ne) in
    let b = moved_loads loads l to w distinct.1 h in
    omega arith)
    one

part_here : (l : Load) (w : ℕ) → l.worker ≡ w → part_on l w ≡ l.count
part_here l w at = let e : nat_eq l.worker w ≡ true = grind (arith, nat_tests) in rw e refl

part_away : (l : Load) (w : ℕ) → l.worker ≢ w → part_on l w ≡ 0
part_away l w ne = let e : nat_eq l.worker w ≡ false = grind (arith, nat_tests) in rw e refl

-- what a move does to the workers' loads
pub record Moves (f g : ℕ → ℕ) (a b count : ℕ) : Type 0 where
  pub from : g a + count ≡ f a
  pub to : g b ≡ f b + count
  pub others : (w : ℕ) → w ≢ a → w ≢ b → g w ≡ f w
  pub positive : 0 < count
  pub below : count < f a - f b

pub move_moves : (loads : List Load) (workers : ℕ) (m : Move) → AreOfFiles loads → (n : IsNextMove loads workers m) → Moves (load_of loads) (load_of (after loads m)) m.from m.to n.load.count
move_moves loads workers m distinct n =
    let may = n.chosen.may in
    let positive : 0 < n.load.count = may.positive in
    let below : n.load.count < load_of loads m.from - load_of loads m.to = may.below in
    let apart : m.from ≢ m.to = λ e. let t : load_of loads m.from ≡ load_of loads m.to = ap (load_of loads) e in absurd (omega arith) in
    let each : (w : ℕ) → load_of (after loads m) w + part_on n.load w ≡ load_of loads w + part_on (record { file = n.load.file; worker = m.to; count = n.load.count }) w = λ w.
    subst (λ k. load_of (map (on_worker k m.to) loads) w + part_on n.load w ≡ load_of loads w + part_on (record { file = n.load.file; worker = m.to; count = n.load.count }) w) n.file
    (moved_loads loads n.load m.to w distinct may.one) in
    record {
      from = let h = each m.from in let a = part_here n.load m.from may.on in let b = part_away (record { file = n.load.file; worker = m.to; count = n.load.count }) m.from (λ e. apart (sym e)) in omega arith;
      to = let h = each m.to in let a = part_away n.load m.to (λ e. apart (sym may.on ∙ e)) in let b = part_here (record { file = n.load.file; worker = m.to; count = n.load.count }) m.to refl in omega arith;
      others = λ w na nb.
          let h = each w in let a = part_away n.load w (λ e. na (sym e ∙ may.on)) in let b = part_away (record { file = n.load.file; worker = m.to; count = n.load.count }) w (λ e. nb (sym e)) in omega arith;
      positive = positive;
      below = below;
    }

same_file : (file to : ℕ) (l : Load) → (on_worker file to l).file ≡ l.file
same_file file to l = ⊎_elim (λ (t : (eqb l.file file ≡ true) × (l.file ≡ file)). ap (λ (y : Load). y.file) (goes file to l t.1)) (λ (t : (eqb l.file file ≡ false) × (l.file ≢ file)). ap (λ (y : Load). y.file) (stays file to l t.1)) (eqb_tells l.file file)

same_files : (file to : ℕ) (loads : List Load) → map (λ (l : Load). l.file) (map (on_worker file to) loads) ≡ map (λ (l : Load). l.file) loads
same_files file to [] = refl
same_files file to (l ∷ loads) = λ i. same_file file to l i ∷ same_files file to loads i

pub after_files : (loads : List Load) (m : Move) → AreOfFiles loads → AreOfFiles (after loads m)
after_files loads m d = subst (IsDistinct nat_eq) (sym (same_files m.file m.to loads)) d

bound_stays : (loads : List Load) (workers most : ℕ) (m : Move) → AreOfFiles loads → IsNextMove loads workers m → IsBound loads workers most → IsBound (after loads m) workers most
bound_stays loads workers most m d n b w one up =
    let t = move_moves loads workers m d n in
    let here = b w one up in
    let top = b m.from n.from.there n.from.within in
    let tf = t.from in
    let tt' = t.to in
    let tb = t.below in
    ⊎_elim
    (λ (x : (eqb w m.from ≡ true) × (w ≡ m.from)). let e = ap (load_of (after loads m)) x.1 in omega arith)
    (λ (x : (eqb w m.from ≡ false) × (w ≢ m.from)). ⊎_elim
    (λ (y : (eqb w m.to ≡ true) × (w ≡ m.to)). let e = ap (load_of (after loads m)) y.1 in omega arith)
    (λ (y : (eqb w m.to ≡ false) × (w ≢ m.to)). let e = t.others w x.1 y.1 in omega arith)
    (eqb_tells w m.to))
    (eqb_tells w m.from)

pub lead_bound : (loads : List Load) (workers most : ℕ) (moves : List Move) (left : List Load) → AreOfFiles loads → IsBound loads workers most → Lead loads workers moves left → IsBound left workers most
lead_bound loads workers most [] left d b lead = subst (λ l. IsBound l workers most) (sym lead) b
lead_bound loads workers most (m ∷ moves) left d b lead = lead_bound (after loads m) workers most moves left (after_files loads m d) (bound_stays loads workers most m d lead.0 b) lead.1

pub lead-push : (loads : List Load) (workers : ℕ) (moves : List Move) (left : List Load) (m : Move) → Lead loads workers moves left → IsNextMove left workers m → Lead loads workers (moves ++ m ∷ []) (after left m)
lead-push loads workers [] left m lead n = (subst (λ l. IsNextMove l workers m) lead n, ap (λ l. after l m) lead)
lead-push loads workers (x ∷ moves) left m lead n = (lead.0, lead-push (after loads x) workers moves left m lead.1 n)

files_below : (loads : List Load) (q : ℕ) → All (λ (l : Load). l.file < 4294967296) loads → list_any (eqb q) (map (λ (l : Load). l.file) loads) ≡ true → q < 4294967296
files_below [] q all h = absurd (true≢false (sym h))
files_below (x ∷ loads) q all h = ⊎_elim
    (λ (t : (eqb q x.file ≡ true) × (q ≡ x.file)). subst (λ k. k < 4294967296) (sym t.1) (all 0 x (omega arith)))
    (λ (t : (eqb q x.file ≡ false) × (q ≢ x.file)). files_below loads q (λ k d lt. all (suc k) d (omega arith)) (subst (λ b. (b || list_any (eqb q) (map (λ (l : Load). l.file) loads)) ≡ true) t.0 h))
    (eqb_tells q x.file)

length_of_files : (loads : List Load) → length (map (λ (l : Load). l.file) loads) ≡ length loads
length_of_files [] = refl
length_of_files (x ∷ loads) = let h = length_of_files loads in omega arith

-- there are no more loads than files
pub few_loads : (loads : List Load) → AreOfFiles loads → All (λ (l : Load). l.file < 4294967296) loads → length loads ≤ 4294967296
few_loads loads d all =
    let h = length-le_from_distinct_below (map (λ (l : Load). l.file) loads) 4294967296 d (λ q t. files_below loads q all t) in
    let e = length_of_files loads in
    omega arith

pub length-after : (loads : List Load) (m : Move) → length (after loads m) ≡ length loads
length-after [] m = refl
length-after (x ∷ loads) m = let h = length-after loads m in omega arith

pub refilled : {X : Type 0} (n : ℕ) (xs ys : List X) → length xs ≡ n → take n (xs ++ ys) ≡ xs
refilled zero [] ys e = refl
refilled zero (x ∷ xs) ys e = absurd (omega arith)
refilled (suc n) [] ys e = absurd (omega arith)
refilled (suc n) (x ∷ xs) ys e = ap (λ l. x ∷ l) (refilled n xs ys (omega arith))

pub part_small : (l : Load) (w most : ℕ) → l.count ≤ most → part_on l w ≤ most
part_small l w most le = ⊎_elim
    (λ (t : (eqb l.worker w ≡ true) × (l.worker ≡ w)). let e = part_here l w t.1 in omega arith)
    (λ (t : (eqb l.worker w ≡ false) × (l.worker ≢ w)). let e = part_away l w t.1 in omega arith)
    (eqb_tells l.worker w)

pub zeros : (n w : ℕ) → slice_index (replicate n 0) w ≡ 0
zeros zero w = refl
zeros (suc n) zero = refl
zeros (suc n) (suc w) = zeros n w
