-- A table of directories that is made of what was read.
use Rattle.std.proofs.Common.{◌≡◌, ◌≢◌, ℕ, zero, suc, ◌+◌, ◌<◌, ◌≤◌, List, [], ◌∷◌, ◌++◌, length, Option, Some, get_or, refl, ap, sym, ◌∙◌, subst, arith, ⊎_elim}
use Rattle.std.specs.List.{slice_get}
use Rattle.std.proofs.lemmas.Bool.{cases_lt}
use Rattle.std.proofs.lemmas.Option.{slice_get-get_or, slice_get_within}
use Rattle.std.proofs.lemmas.List.{get_or_past, get_or_append_left, length-append}
use Rattle.ufs_layout.specs.InodeForm.{InodeForm}
use Rattle.ufs_image.specs.Nodes.{Dir}
use Rattle.ufs_dirs.specs.Directory.{Directory}
use Rattle.ufs_dir_tree.specs.DirTable.{no_dir}
use Rattle.ufs_start.specs.Tables.{AreFrom, AreReadIn, AreSoundDirs, IsAsRead, form_in}

-- ---- a longer table

module _ (table : List Directory) (d : Directory) where
  seam : (l : List Directory) → get_or (l ++ d ∷ []) (length l) no_dir ≡ d
  seam [] = refl
  seam (x ∷ l) = seam l

  lower : (i : ℕ) → i < length table → get_or (table ++ d ∷ []) i no_dir ≡ get_or table i no_dir
  lower i less = get_or_append_left table (d ∷ []) no_dir i less

  last : (i : ℕ) → i ≡ length table → get_or (table ++ d ∷ []) i no_dir ≡ d
  last i is = ap (λ (n : ℕ). get_or (table ++ d ∷ []) n no_dir) is ∙ seam table

  past : (i : ℕ) → length table < i → get_or (table ++ d ∷ []) i no_dir ≡ no_dir
  past i less = let long = length-append table (d ∷ []) in get_or_past (table ++ d ∷ []) i no_dir (omega (arith, long, less))

  longer : (i : ℕ) → i < length table → i < length (table ++ d ∷ [])
  longer i less = let long = length-append table (d ∷ []) in omega (arith, long, less)

  -- no other directory has a block, where the last one has none or isn't this
  others_of : (i : ℕ) → (i ≡ length table → d ≡ no_dir) → get_or table i no_dir ≡ no_dir → get_or (table ++ d ∷ []) i no_dir ≡ no_dir
  others_of i none old = ⊎_elim (λ (less : i < length table). lower i less ∙ old) (λ (most : length table ≤ i). ⊎_elim (λ (above : length table < i). past i above) (λ (least : i ≤ length table). let same : i ≡ length table = omega (arith, most, least) in last i same ∙ none same) (cases_lt (length table) i)) (cases_lt i (length table))

pub none_read : (forms : List (Option InodeForm)) (read : List Dir) (table : List Directory) (d : Directory) → d ≡ no_dir → table ≡ d ∷ [] → AreReadIn forms read 0 table
none_read forms read table d bare is = record {
  within = λ p r less there. absurd (omega (arith, less));
  each = λ p r less there. absurd (omega (arith, less));
  others = λ i none. ap (λ (l : List Directory). get_or l i no_dir) (is ∙ ap (λ (x : Directory). x ∷ []) bare) ∙ by i;
}
  where
    by : (i : ℕ) → get_or (no_dir ∷ []) i no_dir ≡ no_dir
    by zero = refl
    by (suc i) = refl

module _ (forms : List (Option InodeForm)) (read : List Dir) (next : ℕ) (table after : List Directory) (d : Directory) (so_far : AreReadIn forms read next table) (is : after ≡ table ++ d ∷ []) where
  -- the first ones stand there still
  still : (p : ℕ) (r : Dir) → p < next → slice_get read p ≡ Some r → IsAsRead (form_in forms r.inode) r.slots (get_or (table ++ d ∷ []) r.inode no_dir)
  still p r less there = subst (IsAsRead (form_in forms r.inode) r.slots) (sym (lower table d r.inode (so_far.within p r less there))) (so_far.each p r less there)

  pub one_bare : d ≡ no_dir → AreReadIn forms read next after
  one_bare bare = subst (AreReadIn forms read next) (sym is) (record {
    within = λ p r less there. longer table d r.inode (so_far.within p r less there);
    each = still;
    others = λ i none. others_of table d i (λ same. bare) (so_far.others i none);
  })

  module _ (n : Dir) (this : slice_get read next ≡ Some n) (at : n.inode ≡ length table) (as_read : IsAsRead (form_in forms n.inode) n.slots d) where
    same_read : (p : ℕ) (r : Dir) → next ≤ p → p < next + 1 → slice_get read p ≡ Some r → n ≡ r
    same_read p r least most there = let same : p ≡ next = omega (arith, least, most) in same_some n r (sym this ∙ ap (slice_get read) (sym same) ∙ there)
      where
        same_some : (x y : Dir) → Some x ≡ Some y → x ≡ y
        same_some x y e = cc

    pub one_read : AreReadIn forms read (next + 1) after
    one_read = subst (AreReadIn forms read (next + 1)) (sym is) (record {
      within = λ p r less there. ⊎_elim (λ (below : p < next). longer table d r.inode (so_far.within p r below there))
          (λ (least : next ≤ p). subst (λ (x : Dir). x.inode < length (table ++ d ∷ [])) (same_read p r least less there) (let long = length-append table (d ∷ []) in omega (arith, long, at)))
          (cases_lt p next);
      each = λ p r less there. ⊎_elim (λ (below : p < next). still p r below there)
          (λ (least : next ≤ p). subst (λ (x : Dir). IsAsRead (form_in forms x.inode) x.slots (get_or (table ++ d ∷ []) x.inode no_dir)) (same_read p r least less there)
          (subst (IsAsRead (form_in forms n.inode) n.slots) (sym (last table d n.inode at)) as_read))
          (cases_lt p next);
      others = λ i none. others_of table d i (λ same. absurd (none next n (omega arith) this (at ∙ sym same))) (so_far.others i (λ p r less there. none p r (omega (arith, less)) there));
    })

-- ---- none is left

pub all_from : (forms : List (Option InodeForm)) (read : List Dir) → AreSoundDirs forms read → AreFrom read 0 1
all_from forms read sound p d from there = sound.from_one p d there

pub next_from : (read : List Dir) (next inode : ℕ) → AreFrom read next inode → ((d : Dir) → slice_get read next ≡ Some d → d.inode ≢ inode) → ((p q : ℕ) (d e : Dir) → p < q → slice_get read p ≡ Some d → slice_get read q ≡ Some e → d.inode < e.inode) → AreFrom read next (inode + 1)
next_from read next inode above other rising p d from there =
    let least = above p d from there in
    ⊎_elim (λ (less : inode < d.inode). omega (arith, less)) (λ (most : d.inode ≤ inode). absurd (by (omega (arith, least, most)))) (cases_lt inode d.inode)
  where
    -- it isn't the next one, and so the next one has a lower inode
    by : d.inode ≡ inode → ⊥
    by same = ⊎_elim
        (λ (behind : next < p).
        let first = slice_get-get_or read next d (let within = slice_get_within read p d there in omega (arith, behind, within)) in
        let less = rising next p (get_or read next d) d behind first there in
        let low = above next (get_or read next d) (omega arith) first in
        omega (arith, less, low, same))
        (λ (here : p ≤ next). let at : next ≡ p = omega (arith, from, here) in other d (ap (slice_get read) at ∙ there) same)
        (cases_lt next p)

pub passed_from : (read : List Dir) (next inode : ℕ) (n : Dir) → slice_get read next ≡ Some n → n.inode ≡ inode → ((p q : ℕ) (d e : Dir) → p < q → slice_get read p ≡ Some d → slice_get read q ≡ Some e → d.inode < e.inode) → AreFrom read (next + 1) (inode + 1)
passed_from read next inode n this at rising p d from there = let less = rising next p n d (omega (arith, from)) this there in omega (arith, less, at)

-- all are in the table where none of the image's inodes is left
pub all_read : (forms : List (Option InodeForm)) (read : List Dir) (next : ℕ) (table : List Directory) → AreSoundDirs forms read → AreFrom read next (length forms + 1) → AreReadIn forms read next table → AreReadIn forms read (length read) table
all_read forms read next table sound from are = record {
  within = λ p d less there. are.within p d (before p d there) there;
  each = λ p d less there. are.each p d (before p d there) there;
  others = λ i none. are.others i (λ p d less there. none p d (slice_get_within read p d there) there);
}
  where
    before : (p : ℕ) (d : Dir) → slice_get read p ≡ Some d → p < next
    before p d there = ⊎_elim (λ (less : p < next). less)
        (λ (behind : next ≤ p). let low = from p d behind there in let most = sound.within p d there in absurd (omega (arith, low, most)))
        (cases_lt p next)
