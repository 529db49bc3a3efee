-- What waits for its turn in a walk.
use Rattle.std.proofs.Common.{◌≡◌, ℕ, zero, suc, ◌<◌, ◌≤◌, inl, inr, ◌⊎◌, List, [], ◌∷◌, ◌++◌, Option, Some, None, length, get_or, refl, ap, sym, ◌∙◌, arith, append_assoc}
use Rattle.std.specs.Prelude.{flat_map}
use Rattle.std.specs.FinMap as map
use Rattle.std.specs.FinMap.{FinMap}
use Rattle.std.specs.List.{slice_get}
use Rattle.std.specs.Ordering.{nat_cmp}
use Rattle.std.specs.BTreeMap.{BTreeMap, get}
use Rattle.std.proofs.lemmas.List.{append-nil}
use Rattle.std.proofs.lemmas.Option.{slice_get_cases}
use Rattle.ufs_base.specs.Images.{Image}
use Rattle.ufs_layout.specs.declared.geometry.Geometry.{Geometry}
use Rattle.ufs_image.specs.Images.{form_at}
use Rattle.ufs_image.specs.Catalog.{IsInode}
use Rattle.ufs_image.specs.Nodes.{Dir}
use Rattle.ufs_image.specs.Opens.{names_in}
use Rattle.ufs_image.proofs.Lists.{IsIn}
use Rattle.ufs_image.proofs.Listed.{place_of_in}
use Rattle.ufs_model.specs.Order.{path_cmp}
use Rattle.ufs_walk.specs.Found.{HasNames, IsIndexOf, IsPlaceOf}
use Rattle.ufs_walk.specs.Waits.{below_in, left, names_at, names_found, names_of_dir}
use Rattle.ufs_walk.specs.Walked.{Place, place_and_below, places_below}
use Rattle.ufs_walk.specs.declared.turns.Waiting.{Waiting}

-- ---- the directories that were read are those of the image

flat_same : {X Y : Type 0} (f h : X → List Y) (xs : List X) → ((x : X) → IsIn x xs → f x ≡ h x) → flat_map f xs ≡ flat_map h xs
flat_same f h [] each = refl
flat_same f h (x ∷ xs) each = (λ i. each x (inl refl) i ++ flat_same f h xs (λ y there. each y (inr there)) i)

module _ (g : Geometry) (image : Image) (dirs : List Dir) (index : BTreeMap ℕ ℕ) (has : HasNames g image dirs) (indexed : IsIndexOf dirs index) where
  pub names_are : (inode : ℕ) → IsInode g inode → names_at dirs index inode ≡ names_in image inode (form_at g image inode)
  names_are inode in_range = by (get nat_cmp index inode) (indexed inode)
    where
      by : (o : Option ℕ) → IsPlaceOf dirs inode o → names_found dirs o ≡ names_in image inode (form_at g image inode)
      by None absent = sym (has.none inode in_range absent)
      by (Some place) placed = there (slice_get_cases dirs place).1
        where
          there : ((d : Dir) × (place < length dirs) × (slice_get dirs place ≡ Some d) × (get_or dirs place d ≡ d)) ⊎ ((length dirs ≤ place) × (slice_get dirs place ≡ None)) → names_of_dir (slice_get dirs place) ≡ names_in image inode (form_at g image inode)
          there (inl h) = ap names_of_dir h.2 ∙ has.each place h.0 h.2 ∙ ap (λ (k : ℕ). names_in image k (form_at g image k)) (placed.1 h.0 h.2)
          there (inr h) = let within = placed.0 in let past = h.0 in absurd (omega (arith, within, past))

  pub below_is : (depth : ℕ) (path : List ℕ) (inode : ℕ) → IsInode g inode → below_in depth dirs index path inode ≡ places_below depth g image path inode
  below_is zero path inode in_range = refl
  below_is (suc depth) path inode in_range =
      ap (flat_map (place_and_below (below_in depth dirs index) path)) (names_are inode in_range)
      ∙ flat_same (place_and_below (below_in depth dirs index) path) (place_and_below (places_below depth g image) path) (names_in image inode (form_at g image inode))
      (λ n there.
      let at = place_of_in n (names_in image inode (form_at g image inode)) there in
      ap (λ (l : List Place). (path ++ 47 ∷ n.1.name, n.1.inode) ∷ l) (below_is depth (path ++ 47 ∷ n.1.name) n.1.inode (has.named inode at.0 n in_range at.1)))

-- ---- one turn

module _ (dirs : List Dir) (index : BTreeMap ℕ ℕ) where
  abbrev pub with_below : Waiting → List Place
  with_below w = (w.path.items, w.inode) ∷ below_in w.depth dirs index w.path.items w.inode

  pub left_push : (ws : List Waiting) (w : Waiting) → left dirs index (ws ++ w ∷ []) ≡ with_below w ++ left dirs index ws
  left_push [] w = sym (append-nil (with_below w))
  left_push (v ∷ vs) w = ap (λ (l : List Place). l ++ with_below v) (left_push vs w) ∙ append_assoc (with_below w) (left dirs index vs) (with_below v)

  pub none_left : (ws : List Waiting) → length ws ≡ 0 → left dirs index ws ≡ []
  none_left [] none = refl
  none_left (w ∷ ws) none = absurd (omega (arith, none))

  -- the last that waits is taken, and what stands below it waits then
  pub turn_takes : (ws before now : List Waiting) (w : Waiting) (path : List ℕ) → before ≡ ws ++ w ∷ [] → path ≡ w.path.items → left dirs index now ≡ below_in w.depth dirs index path w.inode ++ left dirs index ws
      → left dirs index before ≡ (w.path.items, w.inode) ∷ left dirs index now
  turn_takes ws before now w path popped same pushed =
      ap (left dirs index) popped ∙ left_push ws w
      ∙ ap (λ (l : List Place). (w.path.items, w.inode) ∷ l) (sym (pushed ∙ ap (λ (p : List ℕ). below_in w.depth dirs index p w.inode ++ left dirs index ws) same))

-- so much of a list is noted, and the rest isn't
pub record IsPartlyNoted (all es : List Place) (found : FinMap path_cmp ℕ) (rest : List Place) : Type 0 where
  pub done : List Place
  pub noted : found ≡ map.from_entries (es ++ done)
  pub whole : done ++ rest ≡ all

pub none_noted : (all es : List Place) (found : FinMap path_cmp ℕ) → found ≡ map.from_entries es → IsPartlyNoted all es found all
none_noted all es found is = record { done = []; noted = is ∙ ap (map.from_entries {R = path_cmp}) (sym (append-nil es)); whole = refl }

pub one_noted : (all es : List Place) (found now : FinMap path_cmp ℕ) (p : Place) (before rest : List Place) → (w : IsPartlyNoted all es found before) → before ≡ p ∷ rest → now ≡ map.from_entries ((es ++ w.done) ++ p ∷ []) → IsPartlyNoted all es now rest
one_noted all es found now p before rest w split is = record {
  done = w.done ++ p ∷ [];
  noted = is ∙ ap (map.from_entries {R = path_cmp}) (append_assoc es w.done (p ∷ []));
  whole = append_assoc w.done (p ∷ []) rest ∙ ap (λ (l : List Place). w.done ++ l) (sym split) ∙ w.whole;
}

pub all_noted : (all es : List Place) (found : FinMap path_cmp ℕ) (rest : List Place) → IsPartlyNoted all es found rest → rest ≡ [] → found ≡ map.from_entries (es ++ all)
all_noted all es found rest w none = w.noted ∙ ap (λ (l : List Place). map.from_entries {R = path_cmp} (es ++ l)) (sym (append-nil w.done) ∙ ap (λ (l : List Place). w.done ++ l) (sym none) ∙ w.whole)

pub one_fewer : (before rest : List Place) (p : Place) → before ≡ p ∷ rest → length rest < length before
one_fewer before rest p split = let counted = ap (λ (l : List Place). length l) split in omega (arith, counted)
