-- Numbers that are given to the files of places in turn.
use Rattle.std.proofs.Common.{◌≡◌, ◌≢◌, ℕ, zero, suc, ◌+◌, ◌<◌, ◌≤◌, ◌⊎◌, inl, inr, eqb, Bool, true, false, cond, List, [], ◌∷◌, ◌++◌, length, Option, Some, None, get_or, set, refl, ap, sym, ◌∙◌, subst, arith, ⊎_elim}
use Rattle.std.specs.Prelude.{map, if◌then◌else◌}
use Rattle.std.specs.Ordering.{eq_by_cmp, is_lt}
use Rattle.std.specs.declared.cmp.Ordering.{Ordering}
use Rattle.std.specs.declared.cmp.Ordering.TheVariants.{Less, Equal, Greater}
use Rattle.std.specs.Cmp.{eq_by_cmp_equiv}
use Rattle.std.specs.Cmp.Lexicographic.{nat_list_cmp_total}
use Rattle.std.specs.FinMap.{find, is_sorted}
use Rattle.std.specs.FinMap.Entries.{below_all}
use Rattle.std.proofs.lemmas.Bool.{and_parts}
use Rattle.std.proofs.lemmas.Bool.Decides.{eqb_tells}
use Rattle.std.proofs.lemmas.List.{get_or-set_same, get_or-set_other, length-set}
use Rattle.ufs_image.proofs.Lists.{IsIn}
use Rattle.ufs_model.specs.Order.{path_cmp}
use Rattle.ufs_model.specs.Start.{paths_from, next_from}
use Rattle.ufs_model.specs.declared.data.Node.{Node}
use Rattle.ufs_model.specs.declared.data.Node.TheVariants.{Dir, File}
use Rattle.ufs_model.specs.declared.data.PathNode.{PathNode}
use Rattle.ufs_model.proofs.Facts.Lookups.{same_some, tied}
use Rattle.ufs_model.proofs.Facts.Orders.{path_same}
use Rattle.ufs_ledger.specs.Kept.{path_node_of}
use Rattle.ufs_walk.specs.Walked.{AreInodes, Place, pairs_of}
use Rattle.ufs_walk.specs.declared.places.PathAt.{PathAt}
use Rattle.ufs_image.specs.Catalog.{IsInode}
use Rattle.ufs_layout.specs.declared.geometry.Geometry.{Geometry}
use Rattle.ufs_start.specs.Numbers.{after, noted, numbers_from, next_number}

-- ---- keys

same_key : (q : List ℕ) → eq_by_cmp path_cmp q q ≡ true
same_key q = (eq_by_cmp_equiv nat_list_cmp_total).refl q

other_key : (q k : List ℕ) → q ≢ k → eq_by_cmp path_cmp q k ≡ false
other_key q k differ = by (eq_by_cmp path_cmp q k) refl
  where
    by : (b : Bool) → eq_by_cmp path_cmp q k ≡ b → b ≡ false
    by true e = absurd (differ (path_same q k (tied _ e)))
    by false e = refl

module _ {X : Type 0} where
  find_here : (q k : List ℕ) (v : X) (es : List (List ℕ × X)) → q ≡ k → find path_cmp q ((k, v) ∷ es) ≡ Some v
  find_here q k v es same = ap (λ b. cond b (Some v) (find path_cmp q es)) (ap (eq_by_cmp path_cmp q) (sym same) ∙ same_key q)

  find_behind : (q k : List ℕ) (v : X) (es : List (List ℕ × X)) → q ≢ k → find path_cmp q ((k, v) ∷ es) ≡ find path_cmp q es
  find_behind q k v es differ = ap (λ b. cond b (Some v) (find path_cmp q es)) (other_key q k differ)

-- ---- each path once, and each inode

abbrev pub PathsOnce : List Place → Type 0
PathsOnce [] = Unit {0}
PathsOnce (p ∷ ps) = ((q : Place) → IsIn q ps → q.0 ≢ p.0) × PathsOnce ps

abbrev pub AreOnce : List Place → Type 0
AreOnce [] = Unit {0}
AreOnce (p ∷ ps) = ((q : Place) → IsIn q ps → (q.0 ≢ p.0) × (q.1 ≢ p.1)) × AreOnce ps

not_below : (k : List ℕ) → is_lt (path_cmp k k) ≡ true → ⊥
not_below k less = by (path_cmp k k) (tied _ (same_key k)) less
  where
    by : (r : Ordering) → r ≡ Equal → is_lt r ≡ true → ⊥
    by Less e is = let no = e in absurd cc
    by Equal e is = absurd cc
    by Greater e is = absurd cc

above : (k : List ℕ) (ps : List Place) (q : Place) → below_all path_cmp k ps ≡ true → IsIn q ps → q.0 ≢ k
above k [] q below there same = absurd there
above k (p ∷ ps) q below (inl here) same =
    let less = (and_parts _ _ below).0 in
    not_below k (ap (λ (x : List ℕ). is_lt (path_cmp k x)) (sym same ∙ ap (λ (x : Place). x.0) here) ∙ less)
above k (p ∷ ps) q below (inr there) same = above k ps q (and_parts _ _ below).1 there same

pub rising_once : (ps : List Place) → is_sorted path_cmp ps ≡ true → PathsOnce ps
rising_once [] rising = tt
rising_once (p ∷ ps) rising = let parts = and_parts _ _ rising in (λ q there. above p.0 ps q parts.0 there, rising_once ps parts.1)

pub find_once : (ps : List Place) (p : Place) → PathsOnce ps → IsIn p ps → find path_cmp p.0 ps ≡ Some p.1
find_once [] p once there = absurd there
find_once (x ∷ ps) p once (inl same) = find_here p.0 x.0 x.1 ps (ap (λ (y : Place). y.0) same) ∙ ap (λ (y : Place). Some y.1) (sym same)
find_once (x ∷ ps) p once (inr there) = find_behind p.0 x.0 x.1 ps (once.0 p there) ∙ find_once ps p once.1 there

-- ---- numbers

abbrev node_by : Bool → ℕ → Node
node_by true next = Dir
node_by false next = File next

module _ (dir : ℕ → Bool) where
  abbrev paths_by : ℕ → List Place → List (List ℕ × Node)
  paths_by next [] = []
  paths_by next (p ∷ ps) = (p.0, node_by (dir p.1) next) ∷ paths_by (after (dir p.1) next) ps

  length-noted : (b : Bool) (next i : ℕ) (files : List (Option ℕ)) → length (noted b next i files) ≡ length files
  length-noted true next i files = refl
  length-noted false next i files = length-set files i (Some next)

  pub length-numbers : (next : ℕ) (ps : List Place) (files : List (Option ℕ)) → length (numbers_from dir next ps files) ≡ length files
  length-numbers next [] files = refl
  length-numbers next (p ∷ ps) files = length-numbers (after (dir p.1) next) ps (noted (dir p.1) next p.1 files) ∙ length-noted (dir p.1) next p.1 files

  other_noted : (b : Bool) (next i k : ℕ) (files : List (Option ℕ)) → k ≢ i → get_or (noted b next i files) k None ≡ get_or files k None
  other_noted true next i k files differ = refl
  other_noted false next i k files differ = get_or-set_other files i k (Some next) None differ

  -- an inode that isn't among these places keeps what it has
  kept : (next : ℕ) (ps : List Place) (files : List (Option ℕ)) (i : ℕ) → ((q : Place) → IsIn q ps → q.1 ≢ i) → get_or (numbers_from dir next ps files) i None ≡ get_or files i None
  kept next [] files i absent = refl
  kept next (p ∷ ps) files i absent =
      kept (after (dir p.1) next) ps (noted (dir p.1) next p.1 files) i (λ q there. absent q (inr there))
      ∙ other_noted (dir p.1) next p.1 i files (λ same. absent p (inl refl) (sym same))

  -- the file at a place has its number
  pub has_number : (next : ℕ) (ps : List Place) (files : List (Option ℕ)) → AreOnce ps → ((q : Place) → IsIn q ps → q.1 < length files) → (q : List ℕ) (i f : ℕ) → IsIn (q, i) ps
      → find path_cmp q (paths_by next ps) ≡ Some (File f) → get_or (numbers_from dir next ps files) i None ≡ Some f
  has_number next [] files once inside q i f there e = absurd there
  has_number next (p ∷ ps) files once inside q i f (inl same) e =
      let key : q ≡ p.0 = ap (λ (x : Place). x.0) same in
      let value : i ≡ p.1 = ap (λ (x : Place). x.1) same in
      let node : Some (node_by (dir p.1) next) ≡ Some (File f) = sym (find_here q p.0 (node_by (dir p.1) next) (paths_by (after (dir p.1) next) ps) key) ∙ e in
      kept (after (dir p.1) next) ps (noted (dir p.1) next p.1 files) i (λ x there is. (once.0 x there).1 (is ∙ value))
      ∙ ap (λ k. get_or (noted (dir p.1) next p.1 files) k None) value ∙ by (dir p.1) (same_some _ _ node)
    where
      by : (b : Bool) → node_by b next ≡ File f → get_or (noted b next p.1 files) p.1 None ≡ Some f
      by true is = absurd cc
      by false is = let number : next ≡ f = cc in get_or-set_same files p.1 (Some next) None (inside p (inl refl)) ∙ ap Some number
  has_number next (p ∷ ps) files once inside q i f (inr there) e =
      has_number (after (dir p.1) next) ps (noted (dir p.1) next p.1 files) once.1
      (λ x is. subst (λ n. x.1 < n) (sym (length-noted (dir p.1) next p.1 files)) (inside x (inr is))) q i f there
      (sym (find_behind q p.0 (node_by (dir p.1) next) (paths_by (after (dir p.1) next) ps) (once.0 (q, i) there).0) ∙ e)

  abbrev IsNumber : ℕ → List Place → ℕ → ℕ → Type 0
  IsNumber next ps i f = (q : List ℕ) × IsIn (q, i) ps × (find path_cmp q (paths_by next ps) ≡ Some (File f))

  -- and each number is one that was there, or that of the file at a place
  pub from_number : (next : ℕ) (ps : List Place) (files : List (Option ℕ)) → AreOnce ps → ((q : Place) → IsIn q ps → q.1 < length files) → (i f : ℕ)
      → get_or (numbers_from dir next ps files) i None ≡ Some f → (get_or files i None ≡ Some f) ⊎ IsNumber next ps i f
  from_number next [] files once inside i f e = inl e
  from_number next (p ∷ ps) files once inside i f e =
      by (from_number (after (dir p.1) next) ps (noted (dir p.1) next p.1 files) once.1 (λ x is. subst (λ n. x.1 < n) (sym (length-noted (dir p.1) next p.1 files)) (inside x (inr is))) i f e)
    where
      here : (b : Bool) → get_or (noted b next p.1 files) i None ≡ Some f → (get_or files i None ≡ Some f) ⊎ ((i ≡ p.1) × (node_by b next ≡ File f))
      here true is = inl is
      here false is = ⊎_elim
          (λ (same : (eqb i p.1 ≡ true) × (i ≡ p.1)).
          let number : Some next ≡ Some f = sym (get_or-set_same files p.1 (Some next) None (inside p (inl refl))) ∙ ap (λ k. get_or (set files p.1 (Some next)) k None) (sym same.1) ∙ is in
          inr (same.1, ap File (same_some next f number)))
          (λ (other : (eqb i p.1 ≡ false) × (i ≢ p.1)). inl (sym (get_or-set_other files p.1 i (Some next) None other.1) ∙ is))
          (eqb_tells i p.1)

      by : (get_or (noted (dir p.1) next p.1 files) i None ≡ Some f) ⊎ IsNumber (after (dir p.1) next) ps i f → (get_or files i None ≡ Some f) ⊎ IsNumber next (p ∷ ps) i f
      by (inl is) = ⊎_elim (λ (a : get_or files i None ≡ Some f). inl a)
          (λ (a : (i ≡ p.1) × (node_by (dir p.1) next ≡ File f)).
          let inode = a.0 in
          inr (p.0, inl (λ k. (p.0, inode k)), find_here p.0 p.0 (node_by (dir p.1) next) (paths_by (after (dir p.1) next) ps) refl ∙ ap Some a.1))
          (here (dir p.1) is)
      by (inr is) = inr (is.0, inr is.1, find_behind is.0 p.0 (node_by (dir p.1) next) (paths_by (after (dir p.1) next) ps) (once.0 (is.0, i) is.1).0 ∙ is.2)

  -- ---- one place more

  pub numbers_more : (next : ℕ) (ps : List Place) (p : Place) (files : List (Option ℕ)) → numbers_from dir next (ps ++ p ∷ []) files ≡ noted (dir p.1) (next_number dir next ps) p.1 (numbers_from dir next ps files)
  numbers_more next [] p files = refl
  numbers_more next (x ∷ ps) p files = numbers_more (after (dir x.1) next) ps p (noted (dir x.1) next x.1 files)

  pub next_more : (next : ℕ) (ps : List Place) (p : Place) → next_number dir next (ps ++ p ∷ []) ≡ after (dir p.1) (next_number dir next ps)
  next_more next [] p = refl
  next_more next (x ∷ ps) p = next_more (after (dir x.1) next) ps p

  -- ---- the numbers of a tree of paths

  module _ (bytes : ℕ → List ℕ) where
    abbrev pub node_there : ℕ → PathNode
    node_there i = path_node_of (if dir i then None else Some (bytes i))

    abbrev pub nodes_of : List Place → List (List ℕ × PathNode)
    nodes_of ps = map {B = List ℕ × PathNode} (λ (p : Place). (p.0, node_there p.1)) ps

    pub paths_are : (next : ℕ) (ps : List Place) → paths_from next (nodes_of ps) ≡ paths_by next ps
    paths_are next [] = refl
    paths_are next (p ∷ ps) = by (dir p.1) (bytes p.1) (paths_are (after (dir p.1) next) ps)
      where
        by : (b : Bool) (has : List ℕ) → paths_from (after b next) (nodes_of ps) ≡ paths_by (after b next) ps
            → paths_from next ((p.0, path_node_of (if b then None else Some has)) ∷ nodes_of ps) ≡ (p.0, node_by b next) ∷ paths_by (after b next) ps
        by true has rest = ap (λ l. (p.0, Dir) ∷ l) rest
        by false has rest = ap (λ l. (p.0, File next) ∷ l) rest

    pub next_is : (next : ℕ) (ps : List Place) → next_from next (nodes_of ps) ≡ next_number dir next ps
    next_is next [] = refl
    next_is next (p ∷ ps) = by (dir p.1) (bytes p.1) (next_is (after (dir p.1) next) ps)
      where
        by : (b : Bool) (has : List ℕ) → next_from (after b next) (nodes_of ps) ≡ next_number dir (after b next) ps
            → next_from next ((p.0, path_node_of (if b then None else Some has)) ∷ nodes_of ps) ≡ next_number dir (after b next) ps
        by true has rest = rest
        by false has rest = rest

-- ---- one place more of those that were found

pub inside_at : (g : Geometry) (ps : List PathAt) (k : ℕ) (d : PathAt) → k < length ps → AreInodes g (pairs_of ps) → IsInode g (get_or ps k d).inode
inside_at g [] k d less all = absurd (omega (arith, less))
inside_at g (p ∷ ps) zero d less all = all.0
inside_at g (p ∷ ps) (suc k) d less all = inside_at g ps k d (omega (arith, less)) all.1

pub after_few : (b : Bool) (next : ℕ) → after b next ≤ next + 1
after_few true next = omega arith
after_few false next = omega arith
