-- A commit's transaction, folded chain by chain, is folded as its records are.
use Rattle.std.proofs.Common.{◌≡◌, ◌≢◌, inl, inr, ℕ, zero, suc, ◌+◌, ◌-◌, ◌*◌, ◌<◌, ◌≤◌, List, [], ◌∷◌, ◌++◌, Bool, true, false, ◌&&◌, ◌||◌, Option, Some, None, length, take, drop, get_or, set, refl, ap, sym, ◌∙◌, subst, arith}
use Rattle.std.specs.Prelude.{if◌then◌else◌, ◌==◌, nat_lt, nat_le, min, map}
use Rattle.std.specs.List.{All, filter, list_any}
use Rattle.std.proofs.lemmas.Bool.{cases_eq, cases_lt, eq-eqb, eqb-true, ltb-true, ltb-false, or_parts, false≢true}
use Rattle.std.proofs.lemmas.List.{same_lists, get_or-set_same, get_or-set_other, get_or-map, get_or_default, get_or-drop, get_or-take, length-set, length-map, length-drop, length-take}
use Rattle.std.proofs.lemmas.List.Elements.{All-head, All-tail}
use Rattle.ufs_image.specs.Journal.{PlacedRecord}
use Rattle.ufs_layout.specs.declared.geometry.Geometry.{Geometry}
use Rattle.ufs_found.specs.Off.{lower, lowest_of}
use Rattle.ufs_scan.specs.Edits.{Effect, Edit, StepValue, key_of, effects, after, edited, outkept}
use Rattle.ufs_scan.specs.Chains.{chain_key, edits_in_chain, edits_at, AreChains}
use Rattle.ufs_scan.specs.Folding.{State, is_newer, is_fewer, told, steps_below, noted, folded_at, folded_from, IsFit, IsRange}
use Rattle.ufs_scan.specs.Standings.{no_standing, behind, rested, out_in}
use Rattle.ufs_scan.specs.declared.chains.Chain.{Chain}
use Rattle.ufs_scan.specs.declared.standing.Standing.{Standing}
use Rattle.ufs_scan.proofs.Edits.{filter_map_after, drop_taken}
use Rattle.ufs_scan.proofs.PerInode.{Below, below_itself, below_none, below_left, below_right, below_both, below_trans, below_back, below_front, below_end, below_append, advanced, advanced_old, advanced_newer, outs, doings, behind_at, long_behind, among, below_all}

-- ---- the fewer extents there are, the more keep too many

pub fewer : (es : List Effect) (a b : ℕ) → a ≤ b → Below (lowest_of (outkept es a)) (lowest_of (outkept es b))
fewer [] a b le = refl
fewer (e ∷ es) a b le = by (nat_lt a e.keep) (nat_lt b e.keep) refl refl (fewer es (after a e) (after b e) (omega (arith, le)))
  where
    xs : List ℕ
    xs = outkept es (after a e)

    ys : List ℕ
    ys = outkept es (after b e)

    by : (x y : Bool) → nat_lt a e.keep ≡ x → nat_lt b e.keep ≡ y → Below (lowest_of xs) (lowest_of ys) → Below (lowest_of ((if x then e.sector ∷ [] else []) ++ xs)) (lowest_of ((if y then e.sector ∷ [] else []) ++ ys))
    by true true x_is y_is is = below_both (lower (Some e.sector) (lowest_of xs)) (Some e.sector) (lowest_of ys) (below_left (Some e.sector) (lowest_of xs) (Some e.sector) (below_itself (Some e.sector))) (below_right (Some e.sector) (lowest_of xs) (lowest_of ys) is)
    by true false x_is y_is is = below_right (Some e.sector) (lowest_of xs) (lowest_of ys) is
    by false true x_is y_is is = (let high = ltb-false a e.keep x_is in let low = ltb-true b e.keep y_is in absurd (omega (arith, high, low, le)))
    by false false x_is y_is is = is

-- each in such a sector, or none
pub below_each : (low : Option ℕ) (es : List Effect) (count : ℕ) → All (λ (e : Effect). Below low (Some e.sector)) es → Below low (lowest_of (outkept es count))
below_each low [] count every = below_none low
below_each low (e ∷ es) count every =
    below_append low (if nat_lt count e.keep then e.sector ∷ [] else []) (outkept es (after count e)) (by (nat_lt count e.keep)) (below_each low es (after count e) (All-tail (λ (e : Effect). Below low (Some e.sector)) e es every))
  where
    by : (b : Bool) → Below low (lowest_of (if b then e.sector ∷ [] else []))
    by true = All-head (λ (e : Effect). Below low (Some e.sector)) e es every
    by false = below_none low

-- What a chain keeps too many of, with as few extents as it has met, is known.
abbrev pub Covered : Option ℕ → Chain → Option ℕ → Type 0
Covered low c least = (count : ℕ) → least ≡ Some count → Below low (lowest_of (outkept (effects c.steps.items) count))

pub covered_lower : (a b : Option ℕ) (c : Chain) (least : Option ℕ) → Below a b → Covered b c least → Covered a c least
covered_lower a b c least under is = λ count at. below_trans a b (lowest_of (outkept (effects c.steps.items) count)) under (is count at)

-- ---- one commit

module _ (g : Geometry) (edits : List Edit) (chains : List Chain) (are : AreChains edits chains) (fit : All (λ (c : Chain). IsFit g.inodes c) chains) (few : g.inodes < 4294967296)
    (within : All (λ (e : Edit). e.inode < 4294967296) edits) (n i T : ℕ) (ps : List PlacedRecord)
    (each : (k : ℕ) → k < g.inodes → doings g k ps ≡ map (λ (e : Edit). e.does) (filter (λ (e : Edit). nat_lt e.index i) (edits_at (T * 4294967296 + (k + 1)) edits)))
    (all : List Standing) (sized : length all ≡ g.inodes) (still : map rested all ≡ all) (low : Option ℕ) (tails : All (λ (e : Edit). e.txn ≡ T → i ≤ e.index → Below low (Some e.does.sector)) edits) where
  abbrev pub target : Option ℕ
  target = lower low (lowest_of (out_in g n ps all))

  abbrev pub one_at : ℕ → Standing
  one_at k = get_or all k no_standing

  abbrev pub run : Chain → List Effect
  run c = effects (steps_below i c.steps.items)

  abbrev pub found : List Effect → Standing → List ℕ
  found es s = if is_newer n es s then outkept es s.count else []

  at_rest : (k : ℕ) → k < length all → (one_at k).before ≡ (one_at k).number
  at_rest k lt = sym (ap (λ (s : Standing). s.before) (sym (get_or-map rested all k no_standing no_standing lt) ∙ ap (λ l. get_or l k no_standing) still))

  -- its edits, and what it does before the commit
  steps_are : (c : Chain) → edits_in_chain c ≡ edits_at (chain_key c) edits → 1 ≤ c.inode → c.txn ≡ T → edits_in_chain c ≡ edits_at (T * 4294967296 + (c.inode - 1 + 1)) edits
  steps_are c parts some is = let key : chain_key c ≡ T * 4294967296 + (c.inode - 1 + 1) = omega (arith, is, some) in parts ∙ ap (λ k. edits_at k edits) key

  map_twice : {X Y Z : Type 0} (f : X → Y) (h : Y → Z) (xs : List X) → map (λ x. h (f x)) xs ≡ map h (map f xs)
  map_twice f h [] = refl
  map_twice {X} {Y} {Z} f h (x ∷ xs) = ap (λ (l : List Z). h (f x) ∷ l) (map_twice f h xs)

  run_is : (c : Chain) → edits_in_chain c ≡ edits_at (chain_key c) edits → 1 ≤ c.inode → c.inode ≤ g.inodes → c.txn ≡ T → run c ≡ doings g (c.inode - 1) ps
  run_is c parts some most is =
      map_twice (λ (s : StepValue). s.edit) (λ (e : Edit). e.does) (steps_below i c.steps.items)
      ∙ ap (map (λ (e : Edit). e.does)) (sym (filter_map_after (λ (s : StepValue). s.edit) (λ (e : Edit). nat_lt e.index i) c.steps.items) ∙ ap (filter (λ (e : Edit). nat_lt e.index i)) (steps_are c parts some is))
      ∙ sym (each (c.inode - 1) (omega (arith, some, most)))

  -- told by effects, as records tell it
  told_is : (es : List Effect) (s : Standing) → s.before ≡ s.number → told n es s ≡ rested (advanced n es s)
  told_is [] s rest = λ k. record { before = rest k; number = s.number; count = s.count }
  told_is (e ∷ es) s rest = by (nat_lt s.number n) refl
    where
      by : (b : Bool) → nat_lt s.number n ≡ b → (if b then record { before = n; number = n; count = edited (e ∷ es) s.count } else s) ≡ rested (advanced n (e ∷ es) s)
      by true is = sym (ap rested (advanced_newer n e es s (ap (λ m. nat_lt m n) rest ∙ is)))
      by false is = (λ k. record { before = rest k; number = s.number; count = s.count }) ∙ sym (ap rested (advanced_old n (e ∷ es) s (ap (λ m. nat_lt m n) rest ∙ is)))

  found_is : (es : List Effect) (s : Standing) → s.before ≡ s.number → found es s ≡ outs n es s
  found_is [] s rest = by (nat_lt s.before n)
    where
      by : (b : Bool) → found [] s ≡ (if b then [] else [])
      by true = refl
      by false = refl
  found_is (e ∷ es) s rest = λ k. if nat_lt (sym rest k) n then outkept (e ∷ es) s.count else []

  -- ---- what holds before a place

  pub record Done (st : State) (c : Chain) : Type 0 where
    stands : get_or st.standings (c.inode - 1) no_standing ≡ told n (run c) (one_at (c.inode - 1))
    finds : Below st.lowest (lowest_of (found (run c) (one_at (c.inode - 1))))

  pub record SoFar (p : ℕ) (st : State) : Type 0 where
    long : length st.standings ≡ length all
    longs : length st.leasts ≡ length chains
    sound : Below target st.lowest
    first : Below st.lowest low
    covered : (q : ℕ) (d : Chain) → q < length chains → Covered st.lowest (get_or chains q d) (get_or st.leasts q None)
    done : (q : ℕ) (d : Chain) → q < p → q < length chains → (get_or chains q d).txn ≡ T → Done st (get_or chains q d)
    untouched : (k : ℕ) → ((q : ℕ) (d : Chain) → q < p → q < length chains → (get_or chains q d).txn ≡ T → (get_or chains q d).inode - 1 ≢ k) → get_or st.standings k no_standing ≡ one_at k

  -- what is asked, and what is known then
  record Asked (p : ℕ) (c : Chain) (before next : State) : Type 0 where
    standings : next.standings ≡ before.standings
    longs : length next.leasts ≡ length before.leasts
    under : Below next.lowest before.lowest
    sound : Below target next.lowest
    finds : Below next.lowest (lowest_of (found (run c) (one_at (c.inode - 1))))
    here : Covered next.lowest c (get_or next.leasts p None)
    others : (q : ℕ) → q ≢ p → get_or next.leasts q None ≡ get_or before.leasts q None

  -- those behind the commit's index are off
  tail_known : (c : Chain) → edits_in_chain c ≡ edits_at (chain_key c) edits → c.inode < 4294967296 → c.txn ≡ T → All (λ (e : Edit). i ≤ e.index → Below low (Some e.does.sector)) (edits_in_chain c)
  tail_known c parts small is = subst (λ (l : List Edit). All (λ (e : Edit). i ≤ e.index → Below low (Some e.does.sector)) l) (sym parts) (at_key edits within tails)
    where
      at_key : (es : List Edit) → All (λ (e : Edit). e.inode < 4294967296) es → All (λ (e : Edit). e.txn ≡ T → i ≤ e.index → Below low (Some e.does.sector)) es → All (λ (e : Edit). i ≤ e.index → Below low (Some e.does.sector)) (edits_at (chain_key c) es)
      at_key [] in_ every = λ k d lt. absurd (omega (arith, lt))
      at_key (e ∷ es) in_ every = by (key_of e == chain_key c) refl (at_key es (All-tail (λ (e : Edit). e.inode < 4294967296) e es in_) (All-tail (λ (e : Edit). e.txn ≡ T → i ≤ e.index → Below low (Some e.does.sector)) e es every))
        where
          by : (b : Bool) → (key_of e == chain_key c) ≡ b → All (λ (e : Edit). i ≤ e.index → Below low (Some e.does.sector)) (edits_at (chain_key c) es) → All (λ (e : Edit). i ≤ e.index → Below low (Some e.does.sector)) (if b then e ∷ edits_at (chain_key c) es else edits_at (chain_key c) es)
          by true same rest =
              let keys = eqb-true (key_of e) (chain_key c) same in
              let fits = All-head (λ (e : Edit). e.inode < 4294967296) e es in_ in
              let txn : e.txn ≡ T = omega (arith, keys, fits, small, is) in
              Rattle.std.proofs.lemmas.List.Elements.All-cons (λ (e : Edit). i ≤ e.index → Below low (Some e.does.sector)) e (edits_at (chain_key c) es) (All-head (λ (e : Edit). e.txn ≡ T → i ≤ e.index → Below low (Some e.does.sector)) e es every txn) rest
          by false differ rest = rest

  -- all that the chain keeps too many of
  whole_known : (lowest : Option ℕ) (steps : List StepValue) (count : ℕ) → Rattle.std.specs.List.Sorted.IsNonDecreasingBy (λ (s : StepValue). s.edit.index) steps → Below lowest low
      → All (λ (e : Edit). i ≤ e.index → Below low (Some e.does.sector)) (map (λ (s : StepValue). s.edit) steps) → Below lowest (lowest_of (outkept (effects (steps_below i steps)) count)) → Below lowest (lowest_of (outkept (effects steps) count))
  whole_known lowest [] count order under every is = is
  whole_known lowest (s ∷ steps) count order under every is =
      by (nat_lt s.edit.index i) refl is
      (whole_known lowest steps (after count s.edit.does) (Rattle.std.proofs.lemmas.List.Sorted.IsNonDecreasingBy-drop (λ (s : StepValue). s.edit.index) 1 (s ∷ steps) order) under
      (All-tail (λ (e : Edit). i ≤ e.index → Below low (Some e.does.sector)) s.edit (map (λ (s : StepValue). s.edit) steps) every))
    where
      later : All (λ (t : StepValue). s.edit.index ≤ t.edit.index) steps
      later = Rattle.ufs_found.proofs.Buckets.behind_head (λ (s : StepValue). s.edit.index) s steps order

      from_here : (ts : List StepValue) → i ≤ s.edit.index → All (λ (t : StepValue). s.edit.index ≤ t.edit.index) ts → All (λ (e : Edit). i ≤ e.index → Below low (Some e.does.sector)) (map (λ (s : StepValue). s.edit) ts) → All (λ (e : Effect). Below lowest (Some e.sector)) (effects ts)
      from_here [] high up each_ = λ k d lt. absurd (omega (arith, lt))
      from_here (t ∷ ts) high up each_ =
          let le = All-head (λ (t : StepValue). s.edit.index ≤ t.edit.index) t ts up in
          Rattle.std.proofs.lemmas.List.Elements.All-cons (λ (e : Effect). Below lowest (Some e.sector)) t.edit.does (effects ts)
          (below_trans lowest low (Some t.edit.does.sector) under (All-head (λ (e : Edit). i ≤ e.index → Below low (Some e.does.sector)) t.edit (map (λ (s : StepValue). s.edit) ts) each_ (omega (arith, le, high))))
          (from_here ts high (All-tail (λ (t : StepValue). s.edit.index ≤ t.edit.index) t ts up) (All-tail (λ (e : Edit). i ≤ e.index → Below low (Some e.does.sector)) t.edit (map (λ (s : StepValue). s.edit) ts) each_))

      by : (b : Bool) → nat_lt s.edit.index i ≡ b → Below lowest (lowest_of (outkept (effects (if b then s ∷ steps_below i steps else steps_below i steps)) count))
          → (Below lowest (lowest_of (outkept (effects (steps_below i steps)) (after count s.edit.does))) → Below lowest (lowest_of (outkept (effects steps) (after count s.edit.does)))) → Below lowest (lowest_of (outkept (effects (s ∷ steps)) count))
      by true less known more =
          below_append lowest (if nat_lt count s.edit.does.keep then s.edit.does.sector ∷ [] else []) (outkept (effects steps) (after count s.edit.does))
          (below_front lowest (if nat_lt count s.edit.does.keep then s.edit.does.sector ∷ [] else []) (outkept (effects (steps_below i steps)) (after count s.edit.does)) known)
          (more (below_end lowest (if nat_lt count s.edit.does.keep then s.edit.does.sector ∷ [] else []) (outkept (effects (steps_below i steps)) (after count s.edit.does)) known))
      by false beyond known more =
          let high = ltb-false s.edit.index i beyond in
          below_each lowest (effects (s ∷ steps)) count (from_here (s ∷ steps) high (Rattle.std.proofs.lemmas.List.Elements.All-cons (λ (t : StepValue). s.edit.index ≤ t.edit.index) s steps (omega arith) later) every)

  -- and of it what stands before the commit's index
  front_known : (lowest : Option ℕ) (steps : List StepValue) (count : ℕ) → Rattle.std.specs.List.Sorted.IsNonDecreasingBy (λ (s : StepValue). s.edit.index) steps → Below lowest (lowest_of (outkept (effects steps) count)) → Below lowest (lowest_of (outkept (effects (steps_below i steps)) count))
  front_known lowest [] count order is = is
  front_known lowest (s ∷ steps) count order is =
      by (nat_lt s.edit.index i) refl (front_known lowest steps (after count s.edit.does) (Rattle.std.proofs.lemmas.List.Sorted.IsNonDecreasingBy-drop (λ (s : StepValue). s.edit.index) 1 (s ∷ steps) order)
      (below_end lowest (if nat_lt count s.edit.does.keep then s.edit.does.sector ∷ [] else []) (outkept (effects steps) (after count s.edit.does)) is))
    where
      by : (b : Bool) → nat_lt s.edit.index i ≡ b → Below lowest (lowest_of (outkept (effects (steps_below i steps)) (after count s.edit.does))) → Below lowest (lowest_of (outkept (effects (if b then s ∷ steps_below i steps else steps_below i steps)) count))
      by true less rest =
          below_append lowest (if nat_lt count s.edit.does.keep then s.edit.does.sector ∷ [] else []) (outkept (effects (steps_below i steps)) (after count s.edit.does))
          (below_front lowest (if nat_lt count s.edit.does.keep then s.edit.does.sector ∷ [] else []) (outkept (effects steps) (after count s.edit.does)) is) rest
      by false beyond rest =
          let high = ltb-false s.edit.index i beyond in
          ap (λ l. lower lowest (lowest_of (outkept (effects l) count))) (Rattle.ufs_found.proofs.Buckets.filter_none (λ (t : StepValue). nat_lt t.edit.index i) steps
          (λ k d lt. let up = Rattle.ufs_found.proofs.Buckets.behind_head (λ (s : StepValue). s.edit.index) s steps order k d lt in Rattle.std.proofs.lemmas.Bool.le-ltb _ i (omega (arith, up, high))))
          ∙ below_none lowest

  -- ---- one chain

  asked_is : (p : ℕ) (c : Chain) (st : State) → length st.leasts ≡ length chains → p < length chains → edits_in_chain c ≡ edits_at (chain_key c) edits → IsFit g.inodes c → c.txn ≡ T
      → Below target st.lowest → Below st.lowest low → Covered st.lowest c (get_or st.leasts p None) → Asked p c st (noted n p (run c) (one_at (c.inode - 1)) st)
  asked_is p c st longs lt parts fits txn sound first covered = by (is_newer n (run c) one) (is_fewer one.count (get_or st.leasts p None)) refl refl
    where
      one : Standing
      one = one_at (c.inode - 1)

      inside : c.inode - 1 < length all
      inside = omega (arith, fits.low, fits.high, sized)

      fewest : Option ℕ
      fewest = lowest_of (outkept (run c) one.count)

      next : State
      next = record { standings = st.standings; leasts = set st.leasts p (Some one.count); lowest = lower st.lowest fewest }

      known : is_newer n (run c) one ≡ true → Below target fewest
      known newer = below_right low (lowest_of (out_in g n ps all)) fewest
          (ap (λ l. lower (lowest_of (out_in g n ps all)) (lowest_of l))
          (sym ((λ k. if newer k then outkept (run c) one.count else [])) ∙ found_is (run c) one (at_rest (c.inode - 1) inside) ∙ ap (λ es. outs n es one) (run_is c parts fits.low fits.high txn))
          ∙ among g (c.inode - 1) n ps all inside)

      met : (o : Option ℕ) → get_or st.leasts p None ≡ o → is_fewer one.count o ≡ false → Below st.lowest fewest
      met None at few_ = grind (arith, few_)
      met (Some least) at few_ =
          let le = ltb-false one.count least few_ in
          below_trans st.lowest (lowest_of (outkept (run c) least)) fewest (front_known st.lowest c.steps.items least fits.order (covered least at)) (fewer (run c) least one.count le)

      by : (a b : Bool) → is_newer n (run c) one ≡ a → is_fewer one.count (get_or st.leasts p None) ≡ b → Asked p c st (if a && b then next else st)
      by true true newer few_ = record {
        standings = refl;
        longs = length-set st.leasts p (Some one.count);
        under = below_left st.lowest fewest st.lowest (below_itself st.lowest);
        sound = below_both target st.lowest fewest sound (known newer);
        finds = ap (λ l. lower (lower st.lowest fewest) (lowest_of l)) (λ k. if newer k then outkept (run c) one.count else []) ∙ below_right st.lowest fewest fewest (below_itself fewest);
        here = λ count at.
            let same : one.count ≡ count = ap (λ o. Rattle.std.specs.Prelude.unwrap_or o 0) (sym (get_or-set_same st.leasts p (Some one.count) None (omega (arith, lt, longs))) ∙ at) in
            whole_known (lower st.lowest fewest) c.steps.items count fits.order (below_left st.lowest fewest low first) (tail_known c parts (omega (arith, fits.high, few)) txn)
            (ap (λ m. lower (lower st.lowest fewest) (lowest_of (outkept (run c) m))) (sym same) ∙ below_right st.lowest fewest fewest (below_itself fewest));
        others = λ q ne. get_or-set_other st.leasts p q (Some one.count) None ne;
      }
      by true false newer few_ = record {
        standings = refl;
        longs = refl;
        under = below_itself st.lowest;
        sound = sound;
        finds = ap (λ l. lower st.lowest (lowest_of l)) (λ k. if newer k then outkept (run c) one.count else []) ∙ met (get_or st.leasts p None) refl few_;
        here = covered;
        others = λ q ne. refl;
      }
      by false b older few_ = record {
        standings = refl;
        longs = refl;
        under = below_itself st.lowest;
        sound = sound;
        finds = ap (λ l. lower st.lowest (lowest_of l)) (λ k. if older k then outkept (run c) one.count else []) ∙ below_none st.lowest;
        here = covered;
        others = λ q ne. refl;
      }

  -- one place further
  step : (p : ℕ) (c : Chain) (st : State) → p < length chains → c ≡ get_or chains p c → c.txn ≡ T → SoFar p st → SoFar (p + 1) (folded_at n i p c st)
  step p c st lt is txn so = subst (λ (s : Standing). SoFar (p + 1) (after_one s)) (sym here) at_one
    where
      at_chain : (d : Chain) → get_or chains p d ≡ c
      at_chain d = get_or_default chains p d c lt ∙ sym is

      fits : IsFit g.inodes c
      fits = subst (λ (x : Chain). IsFit g.inodes x) (sym is) (fit p c lt)

      parts : edits_in_chain c ≡ edits_at (chain_key c) edits
      parts = subst (λ (x : Chain). edits_in_chain x ≡ edits_at (chain_key x) edits) (sym is) (are.parts p c lt)

      apart : (q : ℕ) (d : Chain) → q < p → (get_or chains q d).txn ≡ T → 1 ≤ (get_or chains q d).inode → (get_or chains q d).inode - 1 ≢ c.inode - 1
      apart q d less txn_q some same =
          let rising = are.rising q p d less lt in
          let key = ap chain_key (at_chain d) in
          let low_ = fits.low in
          omega (arith, rising, key, txn_q, txn, some, same, low_)

      some_at : (q : ℕ) (d : Chain) → q < length chains → 1 ≤ (get_or chains q d).inode
      some_at q d lt_q = (fit q d lt_q).low

      here : get_or st.standings (c.inode - 1) no_standing ≡ one_at (c.inode - 1)
      here = so.untouched (c.inode - 1) (λ q d less lt_q txn_q. apart q d less txn_q (some_at q d lt_q))

      asked : Asked p c st (noted n p (run c) (one_at (c.inode - 1)) st)
      asked = asked_is p c st so.longs lt parts fits txn so.sound so.first (subst (λ (x : Chain). Covered st.lowest x (get_or st.leasts p None)) (sym is) (so.covered p c lt))

      after_one : Standing → State
      after_one s = record { standings = set (noted n p (run c) s st).standings (c.inode - 1) (told n (run c) s); leasts = (noted n p (run c) s st).leasts; lowest = (noted n p (run c) s st).lowest }

      next : State
      next = noted n p (run c) (one_at (c.inode - 1)) st

      inside : c.inode - 1 < length next.standings
      inside = omega (arith, fits.low, fits.high, sized, so.long, ap length asked.standings)

      new : List Standing
      new = set next.standings (c.inode - 1) (told n (run c) (one_at (c.inode - 1)))

      done_now : Done (after_one (one_at (c.inode - 1))) c
      done_now = record { stands = get_or-set_same next.standings (c.inode - 1) (told n (run c) (one_at (c.inode - 1))) no_standing inside; finds = asked.finds }

      at_one : SoFar (p + 1) (after_one (one_at (c.inode - 1)))
      at_one = record {
        long = length-set next.standings (c.inode - 1) (told n (run c) (one_at (c.inode - 1))) ∙ ap length asked.standings ∙ so.long;
        longs = asked.longs ∙ so.longs;
        sound = asked.sound;
        first = below_trans next.lowest st.lowest low asked.under so.first;
        covered = λ q d lt_q. elim (cases_eq q p) [
          | inl same ↦ subst (λ (m : ℕ). Covered next.lowest (get_or chains m d) (get_or next.leasts m None)) (sym same) (subst (λ (x : Chain). Covered next.lowest x (get_or next.leasts p None)) (sym (at_chain d)) asked.here)
          | inr ne ↦ subst (λ (o : Option ℕ). Covered next.lowest (get_or chains q d) o) (sym (asked.others q ne)) (covered_lower next.lowest st.lowest (get_or chains q d) (get_or st.leasts q None) asked.under (so.covered q d lt_q))
        ];
        done = λ q d less lt_q txn_q. elim (cases_eq q p) [
          | inl same ↦ subst (λ (m : ℕ). Done (after_one (one_at (c.inode - 1))) (get_or chains m d)) (sym same) (subst (λ (x : Chain). Done (after_one (one_at (c.inode - 1))) x) (sym (at_chain d)) done_now)
          | inr ne ↦ (let old = so.done q d (omega (arith, less, ne)) lt_q txn_q in
              record {
                stands = get_or-set_other next.standings (c.inode - 1) ((get_or chains q d).inode - 1) (told n (run c) (one_at (c.inode - 1))) no_standing (apart q d (omega (arith, less, ne)) txn_q (some_at q d lt_q))
                    ∙ ap (λ l. get_or l ((get_or chains q d).inode - 1) no_standing) asked.standings ∙ old.stands;
                finds = below_trans next.lowest st.lowest _ asked.under old.finds;
              })
        ];
        untouched = λ k none.
            get_or-set_other next.standings (c.inode - 1) k (told n (run c) (one_at (c.inode - 1))) no_standing (λ same. none p c (omega arith) lt (ap (λ (x : Chain). x.txn) (at_chain c) ∙ txn) (ap (λ (x : Chain). x.inode - 1) (at_chain c) ∙ sym same))
            ∙ ap (λ l. get_or l k no_standing) asked.standings ∙ so.untouched k (λ q d less lt_q txn_q. none q d (omega (arith, less)) lt_q txn_q);
      }

  -- ---- all of them

  steps : (cs : List Chain) (p to : ℕ) (st : State) → to ≤ length chains → p ≤ to → cs ≡ drop p (take to chains) → ((q : ℕ) (d : Chain) → p ≤ q → q < to → (get_or chains q d).txn ≡ T) → SoFar p st → SoFar to (folded_from n i p cs st)
  steps [] p to st most le split txns so =
      let same : p ≡ to = omega (arith, most, le, ap length split, length-drop p (take to chains), length-take to chains) in
      subst (λ (m : ℕ). SoFar m st) same so
  steps (c ∷ cs) p to st most le split txns so =
      let less : p < to = omega (arith, most, le, ap length split, length-drop p (take to chains), length-take to chains) in
      let is : c ≡ get_or chains p c = ap (λ l. get_or l 0 c) split ∙ get_or-drop p (take to chains) 0 c ∙ ap (λ m. get_or (take to chains) m c) (omega arith) ∙ get_or-take to chains p c less in
      steps cs (p + 1) to (folded_at n i p c st) most (omega (arith, less)) (ap (drop 1) (split ∙ drop_taken chains p to c less most is)) (λ q d low_ lt. txns q d (omega (arith, low_)) lt)
      (step p c st (omega (arith, less, most)) is (ap (λ (x : Chain). x.txn) is ∙ txns p c (omega arith) less) so)

  begin : (from to : ℕ) → IsRange chains T from to → (st : State) → st.standings ≡ all → st.lowest ≡ low → length st.leasts ≡ length chains
      → ((q : ℕ) (d : Chain) → q < length chains → Covered st.lowest (get_or chains q d) (get_or st.leasts q None)) → SoFar from st
  begin from to range st stands lows longs covered = record {
    long = ap length stands;
    longs = longs;
    sound = ap (lower target) lows ∙ below_left low (lowest_of (out_in g n ps all)) low (below_itself low);
    first = subst (λ (o : Option ℕ). Below o low) (sym lows) (below_itself low);
    covered = covered;
    done = λ q d less lt_q txn_q. (let before = range.low q d less in absurd (omega (arith, before, txn_q)));
    untouched = λ k none. ap (λ l. get_or l k no_standing) stands;
  }

  -- the chain of an inode, where there is one
  there : (to : ℕ) (from : ℕ) → IsRange chains T from to → (st : State) → SoFar to st → (k : ℕ) → k < length all
      → (get_or st.standings k no_standing ≡ told n (doings g k ps) (one_at k)) × Below st.lowest (lowest_of (found (doings g k ps) (one_at k)))
  there to from range st so k lt = by (list_any has chains) refl
    where
      key : ℕ
      key = T * 4294967296 + (k + 1)

      has : Chain → Bool
      has c = chain_key c == T * 4294967296 + (k + 1)

      one_chain : (q : ℕ) (c : Chain) → q < length chains → c ≡ get_or chains q c → has c ≡ true → (get_or st.standings k no_standing ≡ told n (doings g k ps) (one_at k)) × Below st.lowest (lowest_of (found (doings g k ps) (one_at k)))
      one_chain q c lt_q is same =
          let keys = eqb-true (chain_key c) (T * 4294967296 + (k + 1)) same in
          let fits : IsFit g.inodes c = subst (λ (x : Chain). IsFit g.inodes x) (sym is) (fit q c lt_q) in
          let parts : edits_in_chain c ≡ edits_at (chain_key c) edits = subst (λ (x : Chain). edits_in_chain x ≡ edits_at (chain_key x) edits) (sym is) (are.parts q c lt_q) in
          let txn : c.txn ≡ T = omega (arith, keys, fits.low, fits.high, few, lt, sized) in
          let at : c.inode - 1 ≡ k = omega (arith, keys, fits.low, fits.high, few, lt, sized) in
          let within_to : q < to = elim (cases_lt q to) [
            | inl less ↦ less
            | inr beyond ↦ (let high = range.high q c beyond lt_q in absurd (omega (arith, high, ap (λ (x : Chain). x.txn) is, txn)))
          ] in
          let done : Done st c = subst (λ (x : Chain). Done st x) (sym is) (so.done q c within_to lt_q (ap (λ (x : Chain). x.txn) (sym is) ∙ txn)) in
          let runs : run c ≡ doings g k ps = run_is c parts fits.low fits.high txn ∙ ap (λ m. doings g m ps) at in (
            ap (λ m. get_or st.standings m no_standing) (sym at) ∙ done.stands ∙ (λ j. told n (runs j) (one_at (at j))),
            subst (λ (es : List Effect). Below st.lowest (lowest_of (found es (one_at k)))) runs (subst (λ (m : ℕ). Below st.lowest (lowest_of (found (run c) (one_at m)))) at done.finds),
          )

      none_at : (cs : List Chain) → list_any has cs ≡ false → (q : ℕ) (d : Chain) → q < length cs → has (get_or cs q d) ≡ false
      none_at [] none q d lt_q = absurd (omega (arith, lt_q))
      none_at (c ∷ cs) none zero d lt_q = (or_parts (has c) (list_any has cs) none).0
      none_at (c ∷ cs) none (suc q) d lt_q = none_at cs (or_parts (has c) (list_any has cs) none).1 q d (omega (arith, lt_q))

      some_at : (cs : List Chain) → list_any has cs ≡ true → (q : ℕ) × ((c : Chain) × ((q < length cs) × ((c ≡ get_or cs q c) × (has c ≡ true))))
      some_at [] some = grind (arith, some)
      some_at (c ∷ cs) some = pick (has c) refl some (some_at cs)
        where
          pick : (b : Bool) → has c ≡ b → (b || list_any has cs) ≡ true → (list_any has cs ≡ true → (q : ℕ) × ((c : Chain) × ((q < length cs) × ((c ≡ get_or cs q c) × (has c ≡ true)))))
              → (q : ℕ) × ((x : Chain) × ((q < length (c ∷ cs)) × ((x ≡ get_or (c ∷ cs) q x) × (has x ≡ true))))
          pick true is either more = (0, (c, (omega arith, (refl, is))))
          pick false is either more = let r = more either in (suc r.0, (r.1.0, (omega (arith, r.1.1.0), (r.1.1.1.0, r.1.1.1.1))))

      by : (b : Bool) → list_any has chains ≡ b → (get_or st.standings k no_standing ≡ told n (doings g k ps) (one_at k)) × Below st.lowest (lowest_of (found (doings g k ps) (one_at k)))
      by true some = let r = some_at chains some in one_chain r.0 r.1.0 r.1.1.0 r.1.1.1.0 r.1.1.1.1
      by false none =
          let nothing : doings g k ps ≡ [] = each k (omega (arith, lt, sized)) ∙ ap (λ (l : List Edit). map (λ (e : Edit). e.does) (filter (λ (e : Edit). nat_lt e.index i) l)) (are.every (T * 4294967296 + (k + 1)) none) in
          let same : get_or st.standings k no_standing ≡ one_at k = so.untouched k (λ q d less lt_q txn_q at.
          let low_ = (fit q d lt_q).low in
          let key_is : chain_key (get_or chains q d) ≡ T * 4294967296 + (k + 1) = omega (arith, txn_q, at, low_) in
          false≢true (sym (none_at chains none q d lt_q) ∙ eq-eqb (chain_key (get_or chains q d)) (T * 4294967296 + (k + 1)) key_is)) in
          (same ∙ ap (λ es. told n es (one_at k)) (sym nothing), subst (λ (es : List Effect). Below st.lowest (lowest_of (found es (one_at k)))) (sym nothing) (below_none st.lowest))

  -- What is folded chain by chain is what is folded record by record.
  pub record Whole (next : State) : Type 0 where
    pub standings : next.standings ≡ map rested (behind g n ps all)
    pub lowest : next.lowest ≡ target
    pub longs : length next.leasts ≡ length chains
    pub covered : (q : ℕ) (d : Chain) → q < length chains → Covered next.lowest (get_or chains q d) (get_or next.leasts q None)

  at_end : (from to : ℕ) → IsRange chains T from to → (next : State) → SoFar to next → Whole next
  at_end from to range next so = record {
    standings = same_lists next.standings (map rested (behind g n ps all)) (so.long ∙ sym (length-map (behind g n ps all) rested ∙ long_behind g n ps all)) (λ k d lt.
        let inside : k < length all = omega (arith, lt, so.long) in
        get_or_default next.standings k d no_standing lt
        ∙ (there to from range next so k inside).0 ∙ told_is (doings g k ps) (one_at k) (at_rest k inside) ∙ ap rested (sym (behind_at g k n ps all inside))
        ∙ sym (get_or-map rested (behind g n ps all) k no_standing d (omega (arith, inside, long_behind g n ps all))));
    lowest = below_back next.lowest target
        (below_both next.lowest low (lowest_of (out_in g n ps all)) so.first
        (below_all g n next.lowest ps all sized (λ k lt. ap (λ l. lower next.lowest (lowest_of l)) (sym (found_is (doings g k ps) (one_at k) (at_rest k lt))) ∙ (there to from range next so k lt).1)))
        so.sound;
    longs = so.longs;
    covered = so.covered;
  }

  pub commit_is : (from to : ℕ) → IsRange chains T from to → (st : State) → st.standings ≡ all → st.lowest ≡ low → length st.leasts ≡ length chains
      → ((q : ℕ) (d : Chain) → q < length chains → Covered st.lowest (get_or chains q d) (get_or st.leasts q None)) → Whole (folded_from n i from (drop from (take to chains)) st)
  commit_is from to range st stands lows longs covered =
      at_end from to range (folded_from n i from (drop from (take to chains)) st)
      (steps (drop from (take to chains)) from to st range.most range.order refl range.each (begin from to range st stands lows longs covered))
