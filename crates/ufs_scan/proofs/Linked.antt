-- Chains of what stands in order.
use Rattle.std.proofs.Common.{◌≡◌, ◌≢◌, inl, inr, ℕ, zero, suc, ◌+◌, ◌-◌, ◌<◌, ◌≤◌, List, [], ◌∷◌, ◌++◌, Bool, true, false, ◌&&◌, ◌||◌, length, get_or, refl, ap, sym, ◌∙◌, arith}
use Rattle.std.specs.Prelude.{if◌then◌else◌, ◌==◌, not, nat_le, map}
use Rattle.std.specs.List.{All, filter, list_any}
use Rattle.std.specs.List.Sorted.{IsNonDecreasingBy}
use Rattle.std.proofs.lemmas.Bool.{cases_eq, cases_lt, eq-eqb, ne_eqb, eqb-true, eqb-false, le-leb, lt-leb, leb-false, or_parts, and_right}
use Rattle.std.proofs.lemmas.List.{length-append}
use Rattle.std.proofs.lemmas.List.Elements.{All-append, All-cons, All-nil, All-head, All-tail, All-filter}
use Rattle.std.proofs.lemmas.List.Filters.{length-filter_both}
use Rattle.std.proofs.lemmas.List.Folds.{list_any-append, list_any_none}
use Rattle.std.proofs.Math.ListN.{get_or-append}
use Rattle.std.proofs.Math.Seq.{get_or-append_seam}
use Rattle.ufs_found.proofs.Buckets.{at, filter_both, filter_none}
use Rattle.ufs_scan.specs.Edits.{Edit, StepValue, key_of, AreNets}
use Rattle.ufs_scan.specs.Chains.{chain_key, edits_in_chain, edits_at, AreChains}
use Rattle.ufs_scan.specs.declared.chains.Chain.{Chain}
use Rattle.ufs_scan.proofs.Edits.{filter_map_after}
use Rattle.ufs_scan.proofs.PartsInOrder.{filter_alike}

abbrev pub step_key : StepValue → ℕ
step_key s = key_of s.edit

module _ {X : Type 0} (key : X → ℕ) where
  -- those with the lowest number
  lowest_part : (k : ℕ) (xs : List X) → All (λ x. k ≤ key x) xs → filter (λ x. nat_le (key x) k) xs ≡ filter (at key k) xs
  lowest_part k xs above = filter_alike (λ x. nat_le (key x) k) (at key k) xs (λ i d lt. by (key (get_or xs i d)) (above i d lt))
    where
      by : (n : ℕ) → k ≤ n → nat_le n k ≡ (n == k)
      by n le = elim (cases_eq n k) [
        | inl same ↦ le-leb n k (omega (arith, same)) ∙ sym (eq-eqb n k same)
        | inr ne ↦ lt-leb n k (omega (arith, le, ne)) ∙ sym (ne_eqb n k ne)
      ]

  -- without them
  none_left : (k : ℕ) (xs : List X) → filter (at key k) (filter (λ x. not (nat_le (key x) k)) xs) ≡ []
  none_left k xs = filter_both (λ x. not (nat_le (key x) k)) (at key k) (λ x. false) (λ x. by (key x)) xs ∙ filter_none (λ x. false) xs (λ i d lt. refl)
    where
      by : (n : ℕ) → (not (nat_le n k) && n == k) ≡ false
      by n = elim (cases_lt k n) [
        | inl lt ↦ and_right (not (nat_le n k)) (n == k) (ne_eqb n k (λ same. omega (arith, lt, same)))
        | inr le ↦ (λ i. not (le-leb n k le i) && n == k)
      ]

  others_left : (k other : ℕ) → other ≢ k → (xs : List X) → All (λ x. k ≤ key x) xs → filter (at key other) (filter (λ x. not (nat_le (key x) k)) xs) ≡ filter (at key other) xs
  others_left k other ne xs above =
      filter_both (λ x. not (nat_le (key x) k)) (at key other) (λ x. not (nat_le (key x) k) && at key other x) (λ x. refl) xs
      ∙ filter_alike (λ x. not (nat_le (key x) k) && at key other x) (at key other) xs (λ i d lt. by (key (get_or xs i d)) (above i d lt))
    where
      by : (n : ℕ) → k ≤ n → (not (nat_le n k) && n == other) ≡ (n == other)
      by n le = elim (cases_eq n other) [
        | inl same ↦ (λ i. not (lt-leb n k (omega (arith, le, ne, same)) i) && n == other)
        | inr differ ↦ and_right (not (nat_le n k)) (n == other) (ne_eqb n other differ) ∙ sym (ne_eqb n other differ)
      ]

-- so far
pub record IsLinked (steps rest : List StepValue) (chains : List Chain) : Type 0 where
  pub order : IsNonDecreasingBy step_key rest
  pub parts : All (λ (c : Chain). edits_in_chain c ≡ edits_at (chain_key c) (map (λ (s : StepValue). s.edit) steps)) chains
  pub nets : All (λ (c : Chain). AreNets c.steps.items) chains
  pub rising : (i j : ℕ) (d : Chain) → i < j → j < length chains → chain_key (get_or chains i d) < chain_key (get_or chains j d)
  pub above : All (λ (c : Chain). All (λ (s : StepValue). chain_key c < step_key s) rest) chains
  pub inside : (ok : StepValue → Bool) → All (λ (s : StepValue). ok s ≡ true) steps → All (λ (s : StepValue). ok s ≡ true) rest
  pub inodes : (ok : ℕ → Bool) → All (λ (s : StepValue). ok s.edit.inode ≡ true) steps → All (λ (c : Chain). ok c.inode ≡ true) chains
  pub left : (key : ℕ) → list_any (λ (c : Chain). chain_key c == key) chains ≡ false → filter (at step_key key) rest ≡ filter (at step_key key) steps

pub linked_none : (steps : List StepValue) → IsNonDecreasingBy step_key steps → IsLinked steps steps []
linked_none steps order = record {
  order = order;
  parts = All-nil (λ (c : Chain). edits_in_chain c ≡ edits_at (chain_key c) (map (λ (s : StepValue). s.edit) steps));
  nets = All-nil (λ (c : Chain). AreNets c.steps.items);
  rising = λ i j d less lt. absurd (omega (arith, lt));
  above = All-nil (λ (c : Chain). All (λ (s : StepValue). chain_key c < step_key s) steps);
  inside = λ ok every. every;
  inodes = λ ok every. All-nil (λ (c : Chain). ok c.inode ≡ true);
  left = λ key none. refl;
}

pub linked_all : (steps : List StepValue) (chains : List Chain) (rest : List StepValue) → rest ≡ [] → IsLinked steps rest chains → AreChains (map (λ (s : StepValue). s.edit) steps) chains
linked_all steps chains rest none so = record {
  parts = so.parts;
  nets = so.nets;
  rising = so.rising;
  every = λ key no_. filter_map_after (λ (s : StepValue). s.edit) (λ (e : Edit). key_of e == key) steps
      ∙ ap (map (λ (s : StepValue). s.edit)) (sym (so.left key no_) ∙ ap (filter (at step_key key)) none);
}

pub linked_more : (steps rest next : List StepValue) (chains : List Chain) (x : StepValue) (c : Chain) → 0 < length rest → x ≡ get_or rest 0 x → chain_key c ≡ step_key x → c.inode ≡ x.edit.inode
    → edits_in_chain c ≡ map (λ (s : StepValue). s.edit) (filter (λ (s : StepValue). nat_le (step_key s) (step_key x)) rest) → AreNets c.steps.items
    → next ≡ filter (λ (s : StepValue). not (nat_le (step_key s) (step_key x))) rest → IsNonDecreasingBy step_key next
    → IsLinked steps rest chains → IsLinked steps next (chains ++ c ∷ [])
linked_more steps rest next chains x c some is has inode edits net kept order so =
    record {
      order = order;
      parts = All-append (λ (c : Chain). edits_in_chain c ≡ edits_at (chain_key c) (map (λ (s : StepValue). s.edit) steps)) chains (c ∷ []) so.parts (single (λ (c : Chain). edits_in_chain c ≡ edits_at (chain_key c) (map (λ (s : StepValue). s.edit) steps)) c part);
      nets = All-append (λ (c : Chain). AreNets c.steps.items) chains (c ∷ []) so.nets (single (λ (c : Chain). AreNets c.steps.items) c net);
      rising = λ i j d less lt.
          let long : length (chains ++ c ∷ []) ≡ length chains + 1 = length-append chains (c ∷ []) in
          elim (cases_lt j (length chains)) [
            | inl below ↦ (let old : chain_key (get_or chains i d) < chain_key (get_or chains j d) = so.rising i j d less below in
                let one = get_or-append chains (c ∷ []) d i (omega (arith, less, below)) in
                let two = get_or-append chains (c ∷ []) d j below in
                omega (arith, old, ap chain_key one, ap chain_key two))
            | inr beyond ↦ (let at_end : j ≡ length chains = omega (arith, lt, beyond, long) in
                let one = get_or-append chains (c ∷ []) d i (omega (arith, less, at_end)) in
                let two : get_or (chains ++ c ∷ []) j d ≡ c = ap (λ n. get_or (chains ++ c ∷ []) n d) at_end ∙ get_or-append_seam chains c [] d in
                let low = below_x i d (omega (arith, less, at_end)) in
                omega (arith, low, has, ap chain_key one, ap chain_key two))
          ];
      above = All-append (λ (c : Chain). All (λ (s : StepValue). chain_key c < step_key s) next) chains (c ∷ []) (λ i d lt k e less. above_next i d lt k e less) (single (λ (c : Chain). All (λ (s : StepValue). chain_key c < step_key s) next) c new_above);
      inside = λ ok every. in_next (λ (s : StepValue). ok s ≡ true) (All-filter (λ (s : StepValue). not (nat_le (step_key s) (step_key x))) (λ (s : StepValue). ok s ≡ true) rest (so.inside ok every));
      inodes = λ ok every. All-append (λ (c : Chain). ok c.inode ≡ true) chains (c ∷ []) (so.inodes ok every)
          (single (λ (c : Chain). ok c.inode ≡ true) c (ap ok inode ∙ ap (λ (s : StepValue). ok s.edit.inode) is ∙ so.inside (λ (s : StepValue). ok s.edit.inode) every 0 x some));
      left = λ key none.
          let both = or_parts (list_any (λ (c : Chain). chain_key c == key) chains) (list_any (λ (c : Chain). chain_key c == key) (c ∷ [])) (sym (list_any-append (λ (c : Chain). chain_key c == key) chains (c ∷ [])) ∙ none) in
          let ne : key ≢ step_key x = λ same. eqb-false (chain_key c) key (or_parts (chain_key c == key) false both.1).0 (omega (arith, has, same)) in
          ap (filter (at step_key key)) kept ∙ others_left step_key (step_key x) key ne rest low_rest ∙ so.left key both.0;
    }
  where
    single : {X : Type 0} (P : X → Type 0) (y : X) → P y → All P (y ∷ [])
    single P y holds = All-cons P y [] holds (All-nil P)

    low_rest : All (λ (s : StepValue). step_key x ≤ step_key s) rest
    low_rest k d lt = let le = so.order 0 k d (omega arith) lt in omega (arith, le, ap step_key (is ∙ first_default rest x d some))
      where
        first_default : (xs : List StepValue) (a b : StepValue) → 0 < length xs → get_or xs 0 a ≡ get_or xs 0 b
        first_default [] a b some = absurd (omega (arith, some))
        first_default (y ∷ ys) a b some = refl

    below_x : (i : ℕ) (d : Chain) → i < length chains → chain_key (get_or chains i d) < step_key x
    below_x i d lt = let less = so.above i d lt 0 x some in omega (arith, less, ap step_key is)

    none_yet : list_any (λ (c : Chain). chain_key c == step_key x) chains ≡ false
    none_yet = list_any_none (λ (c : Chain). chain_key c == step_key x) chains (λ i d lt. ne_eqb _ (step_key x) (λ same. let less = below_x i d lt in omega (arith, less, same)))

    part : edits_in_chain c ≡ edits_at (chain_key c) (map (λ (s : StepValue). s.edit) steps)
    part = edits ∙ ap (map (λ (s : StepValue). s.edit)) (lowest_part step_key (step_key x) rest low_rest ∙ so.left (step_key x) none_yet)
        ∙ sym (filter_map_after (λ (s : StepValue). s.edit) (λ (e : Edit). key_of e == step_key x) steps) ∙ ap (λ n. edits_at n (map (λ (s : StepValue). s.edit) steps)) (sym has)

    in_next : (P : StepValue → Type 0) → All P (filter (λ (s : StepValue). not (nat_le (step_key s) (step_key x))) rest) → All P next
    in_next P every = λ k d lt. coe_at (sym kept) every k d lt
      where
        coe_at : {xs ys : List StepValue} → xs ≡ ys → All P xs → All P ys
        coe_at same all_ = Rattle.std.proofs.Common.subst (λ (l : List StepValue). All P l) same all_

    above_next : (i : ℕ) (d : Chain) → i < length chains → All (λ (s : StepValue). chain_key (get_or chains i d) < step_key s) next
    above_next i d lt = in_next (λ (s : StepValue). chain_key (get_or chains i d) < step_key s) (All-filter (λ (s : StepValue). not (nat_le (step_key s) (step_key x))) (λ (s : StepValue). chain_key (get_or chains i d) < step_key s) rest (so.above i d lt))

    new_above : All (λ (s : StepValue). chain_key c < step_key s) next
    new_above = in_next (λ (s : StepValue). chain_key c < step_key s) (λ k d lt.
        let passes = Rattle.std.proofs.lemmas.List.Elements.filter_passes (λ (s : StepValue). not (nat_le (step_key s) (step_key x))) rest k d lt in
        let high = leb-false _ (step_key x) (Rattle.std.proofs.lemmas.Bool.not-true _ passes) in omega (arith, high, has))

-- without the first
pub shorter : {X : Type 0} (p : X → Bool) (xs : List X) (x : X) → 0 < length xs → x ≡ get_or xs 0 x → p x ≡ false → length (filter p xs) < length xs
shorter p [] x some is fails = absurd (omega (arith, some))
shorter {X} p (y ∷ ys) x some is fails =
    let rest = length-filter_both p (λ z. not (p z)) (λ z. refl) ys in
    let here : filter p (y ∷ ys) ≡ filter p ys = (λ i. if (ap p (sym is) ∙ fails) i then y ∷ filter p ys else filter p ys) in
    omega (arith, rest, ap length here)

pub empty_list : {X : Type 0} (xs : List X) → length xs ≤ 0 → xs ≡ []
empty_list [] le = refl
empty_list (x ∷ xs) le = absurd (omega (arith, le))
