-- The text of whole paths: their components, what stands above them, and their last name.
use Rattle.std.proofs.Common.{◌≡◌, ℕ, zero, suc, ◌+◌, ◌-◌, ◌≤◌, List, [], ◌∷◌, ◌++◌, Bool, true, false, cond, not, ◌&&◌, eqb, length, take, drop, get_or, ap, sym, refl, ◌∙◌, arith, length-take, append_assoc}
use Rattle.std.proofs.lemmas.List.{append-nil}
use Rattle.std.specs.Str.{bytes_eq}
use Rattle.ufs_model.specs.Directories.{last_name}
use Rattle.ufs_model.specs.Paths.{components, whole_path, parent_of, IsWhole}
use Rattle.ufs_model.specs.PosixTree.{root}
use Rattle.ufs_model.proofs.Facts.Pieces.{IsPlain, ArePlain, is_free, front_of, front_cons, components_plain, plain_take, same_bytes}
use Rattle.ufs_path.specs.Texts.{joined}
use Rattle.ufs_path.proofs.Facts.Joined.{whole_path-joined}
use Rattle.ufs_tree.specs.Below.{front, IsNameStart}
use Rattle.ufs_tree.proofs.ListLemmas.{round_place}

-- ---- the last name

joined-last : (name : List ℕ) (names : List (List ℕ)) → joined (name ∷ names) ≡ joined (front_of (name ∷ names)) ++ 47 ∷ last_name (name ∷ names)
joined-last name [] = append-nil (47 ∷ name)
joined-last name (next ∷ names) =
    ap (λ rest. (47 ∷ name) ++ rest) (joined-last next names)
    ∙ sym (append_assoc (47 ∷ name) (joined (front_of (next ∷ names))) (47 ∷ last_name (next ∷ names)))
    ∙ ap (λ ns. joined ns ++ 47 ∷ last_name (next ∷ names)) (sym (front_cons name next names))

last_plain : (name : List ℕ) (names : List (List ℕ)) → ArePlain (name ∷ names) → IsPlain (last_name (name ∷ names))
last_plain name [] h = h.0
last_plain name (next ∷ names) h = last_plain next names h.1

front-whole : (names : List (List ℕ)) → ArePlain names → front (whole_path names) ≡ joined names
front-whole [] h = refl
front-whole ([] ∷ names) h = let no : false ≡ true = h.0.some in cc
front-whole ((b ∷ name) ∷ names) h = ap front (whole_path-joined (b ∷ name) names)

pub whole_joined : (path : List ℕ) → whole_path (components path) ≡ path → (path ≡ root → ⊥) → (ns : List (List ℕ)) → components path ≡ ns → path ≡ joined ns × (1 ≤ length ns)
whole_joined path spelled other [] is = absurd (other (sym spelled ∙ ap whole_path is))
whole_joined path spelled other (name ∷ names) is = (sym spelled ∙ ap whole_path is ∙ whole_path-joined name names, omega arith)

-- a whole path but the root is what stands above it, a slash and its last name
pub path_parts : (path : List ℕ) → IsWhole path → (path ≡ root → ⊥) → (path ≡ front (parent_of path) ++ 47 ∷ last_name (components path)) × IsPlain (last_name (components path))
path_parts path whole other = by (components path) (components_plain path) (whole_joined path whole.spelled other (components path) refl)
  where
    by : (ns : List (List ℕ)) → ArePlain ns → path ≡ joined ns × (1 ≤ length ns) → (path ≡ front (whole_path (front_of ns)) ++ 47 ∷ last_name ns) × IsPlain (last_name ns)
    by [] plain is = absurd (let h = is.1 in omega arith)
    by (name ∷ names) plain is = (
      is.0 ∙ joined-last name names ∙ ap (λ f. f ++ 47 ∷ last_name (name ∷ names)) (sym (front-whole (front_of (name ∷ names)) (plain_take _ (name ∷ names) plain))),
      last_plain name names plain,
    )

-- ---- the last slash

not_free : (a n : List ℕ) → is_free (a ++ 47 ∷ n) ≡ false
not_free [] n = refl
not_free (x ∷ a) n = ap (λ b. not (eqb x 47) && b) (not_free a n) ∙ none (not (eqb x 47))
  where
    none : (b : Bool) → (b && false) ≡ false
    none true = refl
    none false = refl

tail_of : {x y : ℕ} (xs ys : List ℕ) → ◌≡◌ {A = List ℕ} (x ∷ xs) (y ∷ ys) → xs ≡ ys
tail_of xs ys e = ap (drop 1) e

head_of : {x y : ℕ} (xs ys : List ℕ) → ◌≡◌ {A = List ℕ} (x ∷ xs) (y ∷ ys) → x ≡ y
head_of xs ys e = ap (λ l. get_or l 0 0) e

pub one_last_slash : (a n b m : List ℕ) → is_free n ≡ true → is_free m ≡ true → a ++ 47 ∷ n ≡ b ++ 47 ∷ m → (a ≡ b) × (n ≡ m)
one_last_slash [] n [] m p q e = (refl, tail_of n m e)
one_last_slash [] n (y ∷ b) m p q e = let no : false ≡ true = sym (not_free b m) ∙ ap is_free (sym (tail_of n (b ++ 47 ∷ m) e)) ∙ p in cc
one_last_slash (x ∷ a) n [] m p q e = let no : false ≡ true = sym (not_free a n) ∙ ap is_free (tail_of (a ++ 47 ∷ n) m e) ∙ q in cc
one_last_slash (x ∷ a) n (y ∷ b) m p q e =
    let rest = one_last_slash a n b m p q (tail_of (a ++ 47 ∷ n) (b ++ 47 ∷ m) e) in
    ((λ i. head_of (a ++ 47 ∷ n) (b ++ 47 ∷ m) e i ∷ rest.0 i), rest.1)

front_root : (dir : List ℕ) (names : List (List ℕ)) → dir ≡ whole_path names → ArePlain names → front dir ≡ [] → dir ≡ root
front_root dir [] is plain e = is
front_root dir (name ∷ names) is plain e =
    let no : 0 ≡ suc (length (name ++ joined names)) = ap length (sym e ∙ ap front is ∙ front-whole (name ∷ names) plain) in
    absurd (omega arith)

front_other : (dir f : List ℕ) → front dir ≡ f → 1 ≤ length f → dir ≡ f
front_other dir f e some = by (bytes_eq dir root) e
  where
    by : (t : Bool) → cond t [] dir ≡ f → dir ≡ f
    by true e = let no : 0 ≡ length f = ap length e in absurd (omega arith)
    by false e = e

module _ (path : List ℕ) (end : ℕ) (start : IsNameStart path end) (whole : IsWhole path) (other : path ≡ root → ⊥) where
  parts : (path ≡ front (parent_of path) ++ 47 ∷ last_name (components path)) × IsPlain (last_name (components path))
  parts = path_parts path whole other

  pub start_above : 1 ≤ end
  start_above = by end start
    where
      by : (n : ℕ) → IsNameStart path n → 1 ≤ n
      by zero s = let no : true ≡ false = sym s.free ∙ ap is_free parts.0 ∙ not_free (front (parent_of path)) (last_name (components path)) in cc
      by (suc n) s = omega arith

  divided : path ≡ take (end - 1) path ++ 47 ∷ drop end path
  divided =
      let above = start_above in
      let next : (end - 1) + 1 ≡ end = omega arith in
      round_place path (end - 1) 0 (omega (arith, start.within)) ∙ (λ i. take (end - 1) path ++ start.slash (omega arith) i ∷ drop (next i) path)

  same_parts : (take (end - 1) path ≡ front (parent_of path)) × (drop end path ≡ last_name (components path))
  same_parts = one_last_slash (take (end - 1) path) (drop end path) (front (parent_of path)) (last_name (components path)) start.free parts.1.free (sym divided ∙ parts.0)

  pub last_is : drop end path ≡ last_name (components path)
  last_is = same_parts.1

  pub parent_above : 2 ≤ end → take (end - 1) path ≡ parent_of path
  parent_above some =
      sym (front_other (parent_of path) (take (end - 1) path) (sym same_parts.0) (omega (arith, length-take (end - 1) path, start.within)))

  pub parent_root : end ≤ 1 → take 1 path ≡ parent_of path
  parent_root few =
      let above = start_above in
      let one : end ≡ 1 = omega arith in
      let none : take (end - 1) path ≡ [] = ap (λ n. take (n - 1) path) one in
      let is_root = front_root (parent_of path) (front_of (components path)) refl (plain_take _ (components path) (components_plain path)) (sym same_parts.0 ∙ none) in
      ap (take 1) (divided ∙ ap (λ f. f ++ 47 ∷ drop end path) none) ∙ sym is_root

-- a test of a path says so
pub other_path : (p q : List ℕ) → bytes_eq p q ≡ false → p ≡ q → bytes_eq q q ≡ true → ⊥
other_path p q e is self = let no : false ≡ true = sym e ∙ ap (λ r. bytes_eq r q) is ∙ self in cc

pub parent_few : (path : List ℕ) (end : ℕ) → IsNameStart path end → IsWhole path → end ≤ 1 → take 1 path ≡ parent_of path
parent_few path end start whole few = by (bytes_eq path root) refl
  where
    by : (b : Bool) → bytes_eq path root ≡ b → take 1 path ≡ parent_of path
    by true e = let is = same_bytes path root e in ap (take 1) is ∙ ap parent_of (sym is)
    by false e = parent_root path end start whole (λ is. other_path path root e is refl) few

pub parent_more : (path : List ℕ) (end : ℕ) → IsNameStart path end → IsWhole path → 2 ≤ end → take (end - 1) path ≡ parent_of path
parent_more path end start whole some = by (bytes_eq path root) refl
  where
    by : (b : Bool) → bytes_eq path root ≡ b → take (end - 1) path ≡ parent_of path
    by true e = let one : length path ≡ 1 = ap length (same_bytes path root e) in absurd (omega (arith, start.within))
    by false e = parent_above path end start whole (λ is. other_path path root e is refl) some
