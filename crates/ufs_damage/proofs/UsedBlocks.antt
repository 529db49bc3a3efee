-- The used blocks of an image, by the marks of its blocks.
use Rattle.std.proofs.Common.{◌≡◌, ℕ, zero, suc, ◌+◌, ◌<◌, ◌≤◌, List, [], ◌∷◌, ◌++◌, Bool, true, false, cond, Option, Some, length, take, get_or, map, ap, sym, refl, ◌∙◌, arith}
use Rattle.std.specs.Prelude.{filter, ◌==◌, ◌||◌, ◌&&◌, not, if◌then◌else◌, is_some, nat_lt, slice_index_or}
use Rattle.std.specs.List.{slice_get, enumerate_from, list_any}
use Rattle.std.proofs.lemmas.Bool.{and_parts}
use Rattle.std.proofs.lemmas.List.{length-map, map-append}
use Rattle.std.proofs.lemmas.List.FromFn.{length-enumerate_from}
use Rattle.ufs_damage.proofs.Lists.{numbered_more}
use Rattle.std.proofs.lemmas.Bool.Decides.{nat_tests}
use Rattle.ufs_layout.specs.Areas.{IsGeometry, first_of_data}
use Rattle.ufs_layout.specs.InodeForm.{InodeForm, is_used}
use Rattle.ufs_layout.specs.declared.geometry.Geometry.{Geometry}
use Rattle.ufs_layout.proofs.Spelled.{some_if-some}
use Rattle.ufs_image.specs.Nodes.{Node, is_bad_form, leaves_data, blocks_of, is_taken}
use Rattle.ufs_image.specs.Damage.{holders}
use Rattle.ufs_image.proofs.Lists.{IsIn, from_filter_map}
use Rattle.ufs_image.proofs.Empty.{false_list_any, apart_false}
use Rattle.ufs_image.proofs.Found.{same_some}
use Rattle.ufs_image.proofs.Holders.{all_stay, block_in_data}
use Rattle.ufs_damage.specs.declared.marks.Held.{Held}
use Rattle.ufs_damage.specs.Marks.{held_of, AreMarks, times}
use Rattle.ufs_damage.specs.Told.{form_of, has_bad_extent, is_sound_form}
use Rattle.ufs_damage.specs.Kinds.{numbered, node_of, nodes_in}
use Rattle.ufs_damage.specs.Taken.{AreTaken, is_used_block, taken_marks}

first_held : (x : ℕ) (zs : List ℕ) → is_some (held_of (x ∷ zs)).first ≡ true
first_held x [] = refl
first_held x (z ∷ zs) = refl

held_append : (xs ys : List ℕ) → is_some (held_of (xs ++ ys)).first ≡ (is_some (held_of xs).first || is_some (held_of ys).first)
held_append [] ys = refl
held_append (x ∷ xs) ys = first_held x (xs ++ ys) ∙ ap (λ b. b || is_some (held_of ys).first) (sym (first_held x xs))

held_times : (i : ℕ) (bs : List ℕ) (k : ℕ) → is_some (held_of (times i bs k)).first ≡ list_any (λ c. c == k) bs
held_times i [] k = refl
held_times i (b ∷ bs) k = by (b == k) (held_times i bs k)
  where
    by : (t : Bool) → is_some (held_of (times i bs k)).first ≡ list_any (λ c. c == k) bs → is_some (held_of (map (λ (n : ℕ). i) (cond t (b ∷ filter (λ n. n == k) bs) (filter (λ n. n == k) bs)))).first ≡ (t || list_any (λ c. c == k) bs)
    by true more = first_held i (times i bs k)
    by false more = more

-- One of these nodes holds the block.
abbrev pub is_held_by : List Node → ℕ → Bool
is_held_by nodes k = list_any (λ (n : Node). list_any (λ c. c == k) (blocks_of n.1)) nodes

pub held_is : (nodes : List Node) (k : ℕ) → is_some (held_of (holders nodes k)).first ≡ is_held_by nodes k
held_is [] k = refl
held_is (n ∷ nodes) k = held_append (times n.0 (blocks_of n.1) k) (holders nodes k) ∙ (λ i. held_times n.0 (blocks_of n.1) k i || held_is nodes k i)

taken_at : (first a : ℕ) (held : List Held) (k : ℕ) (x : Held) → slice_get held k ≡ Some x → slice_index_or (map (is_used_block first) (enumerate_from a held)) k false ≡ is_used_block first (a + k, x)
taken_at first a [] k x e = let no = e in cc
taken_at first a (y ∷ held) zero x e = let on : a ≡ a + 0 = omega arith in λ i. is_used_block first (on i, same_some y x e i)
taken_at first a (y ∷ held) (suc k) x e = let on : a + 1 + k ≡ a + suc k = omega arith in taken_at first (a + 1) held k x e ∙ ap (λ n. is_used_block first (n, x)) on

taken_past : (first a : ℕ) (held : List Held) (k : ℕ) → length held ≤ k → slice_index_or (map (is_used_block first) (enumerate_from a held)) k false ≡ false
taken_past first a [] k le = refl
taken_past first a (y ∷ held) zero le = absurd (omega (arith, le))
taken_past first a (y ∷ held) (suc k) le = taken_past first (a + 1) held k (omega (arith, le))

-- the blocks of a sound node are before the last one
module _ (g : Geometry) (forms : List (Option InodeForm)) (b : ℕ) (past : g.blocks ≤ b) where
  not_bad : (o : Bool) → not o ≡ true → o ≡ false
  not_bad true e = let no = e in cc
  not_bad false e = refl

  stays : (inode : ℕ) (o : Option InodeForm) → is_sound_form g inode o ≡ true → list_any (leaves_data g) (form_of o).extents ≡ false
  stays inode o sound =
      let parts = and_parts (not (is_bad_form inode o)) (not (has_bad_extent g inode o) && is_used (form_of o)) sound in
      let more = and_parts (not (has_bad_extent g inode o)) (is_used (form_of o)) parts.1 in
      sym (ap (λ t. t && list_any (leaves_data g) (form_of o).extents) parts.0) ∙ not_bad (has_bad_extent g inode o) more.0

  not_held : (n : Node) → IsIn n (nodes_in g forms) → list_any (λ c. c == b) (blocks_of n.1) ≡ false
  not_held n there =
      let from = from_filter_map (node_of g) (numbered forms) n there in
      let parts = some_if-some (is_sound_form g from.0.0 from.0.1) (from.0.0, form_of from.0.1) n from.2 in
      let inside = all_stay g (form_of from.0.1).extents (stays from.0.0 from.0.1 parts.0) in
      ap (λ (m : Node). list_any (λ c. c == b) (blocks_of m.1)) (sym parts.1)
      ∙ false_list_any (λ c. c == b) (blocks_of (form_of from.0.1)) (λ c is. let low = (block_in_data g (form_of from.0.1).extents c inside is).1 in apart_false c b (λ e. omega (arith, e, low, past)))

  pub none_past : is_held_by (nodes_in g forms) b ≡ false
  none_past = false_list_any (λ (n : Node). list_any (λ c. c == b) (blocks_of n.1)) (nodes_in g forms) not_held

or_is : (t x : Bool) → (if t then true else x) ≡ (t || x)
or_is true x = refl
or_is false x = refl

pub are_taken : (g : Geometry) → IsGeometry g → (forms : List (Option InodeForm)) (held : List Held) → length held ≡ g.blocks → AreMarks held (holders (nodes_in g forms)) → AreTaken g (nodes_in g forms) (taken_marks (first_of_data g) held)
are_taken g good forms held sized are b = by (nat_lt b g.blocks) refl
  where
    by : (t : Bool) → nat_lt b g.blocks ≡ t → is_taken g (nodes_in g forms) b ≡ slice_index_or (taken_marks (first_of_data g) held) b false
    by true t =
        let less : b < length held = grind (arith, nat_tests, t, sized) in
        or_is (nat_lt b (first_of_data g)) (is_held_by (nodes_in g forms) b) ∙ ap (λ x. nat_lt b (first_of_data g) || x) (sym (held_is (nodes_in g forms) b))
        ∙ (let on : b ≡ 0 + b = omega arith in ap (λ n. is_used_block (first_of_data g) (n, held_of (holders (nodes_in g forms) b))) on)
        ∙ sym (taken_at (first_of_data g) 0 held b (held_of (holders (nodes_in g forms) b)) (are b less))
    by false t =
        let past : g.blocks ≤ b = grind (arith, nat_tests, t) in
        let left = good.data_left in
        let late : nat_lt b (first_of_data g) ≡ false = grind (arith, nat_tests, past, left) in
        ap (λ x. if x then true else is_held_by (nodes_in g forms) b) late ∙ none_past g forms b past
        ∙ sym (taken_past (first_of_data g) 0 held b (omega (arith, sized, past)))

pub marks_more : (first : ℕ) (held : List Held) (i : ℕ) (d : Held) → i < length held → taken_marks first (take (i + 1) held) ≡ taken_marks first (take i held) ++ is_used_block first (i, get_or held i d) ∷ []
marks_more first held i d less =
    ap (map (is_used_block first)) (numbered_more 0 i held i (get_or held i d) less (get_or_again held i d) (omega arith))
    ∙ map-append (is_used_block first) (enumerate_from 0 (take i held)) ((i, get_or held i d) ∷ [])
  where
    get_or_again : (xs : List Held) (k : ℕ) (x : Held) → get_or xs k x ≡ get_or xs k (get_or xs k x)
    get_or_again [] k x = refl
    get_or_again (y ∷ ys) zero x = refl
    get_or_again (y ∷ ys) (suc k) x = get_or_again ys k x

pub marks_length : (first : ℕ) (held : List Held) → length (taken_marks first held) ≡ length held
marks_length first held = length-map (enumerate_from 0 held) (is_used_block first) ∙ length-enumerate_from 0 held
