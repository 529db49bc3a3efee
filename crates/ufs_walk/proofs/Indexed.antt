-- A list of directories goes on by one.
use Rattle.std.proofs.Common.{◌≡◌, ◌≢◌, ℕ, zero, suc, ◌<◌, inl, inr, List, [], ◌∷◌, ◌++◌, Bool, true, false, cond, Option, Some, None, length, refl, ap, sym, ◌∙◌, subst, arith}
use Rattle.std.specs.List.{slice_get}
use Rattle.std.specs.Ordering.{nat_cmp, is_eq}
use Rattle.std.specs.Cmp.{eq_by_cmp_equiv, nat_cmp_total}
use Rattle.std.specs.FinMap.{nat_cmp-IsAntisymmetric}
use Rattle.std.proofs.lemmas.List.{length-append}
use Rattle.std.proofs.lemmas.Bool.{cases_lt}
use Rattle.std.proofs.lemmas.Option.{slice_get_within}
use Rattle.ufs_image.specs.Nodes.{Dir}
use Rattle.ufs_model.proofs.Facts.Lookups.{tied}
use Rattle.ufs_walk.specs.Found.{IsPlaceOf}

get_push : (ds : List Dir) (d : Dir) (p : ℕ) (e : Dir) → slice_get (ds ++ d ∷ []) p ≡ Some e → p < length ds → slice_get ds p ≡ Some e
get_push [] d p e is less = absurd (omega (arith, less))
get_push (x ∷ ds) d zero e is less = is
get_push (x ∷ ds) d (suc p) e is less = get_push ds d p e is (omega (arith, less))

get_last : (ds : List Dir) (d : Dir) (p : ℕ) (e : Dir) → slice_get (ds ++ d ∷ []) p ≡ Some e → length ds ≡ p → e ≡ d
get_last [] d zero e is at = let same = is in cc
get_last [] d (suc p) e is at = absurd (omega (arith, at))
get_last (x ∷ ds) d zero e is at = absurd (omega (arith, at))
get_last (x ∷ ds) d (suc p) e is at = get_last ds d p e is (omega (arith, at))

-- another inode's place stays
pub place_stays : (ds : List Dir) (d : Dir) (inode : ℕ) (o : Option ℕ) → d.inode ≢ inode → IsPlaceOf ds inode o → IsPlaceOf (ds ++ d ∷ []) inode o
place_stays ds d inode None other is = λ p e at. by p e at
  where
    by : (p : ℕ) (e : Dir) → slice_get (ds ++ d ∷ []) p ≡ Some e → e.inode ≢ inode
    by p e at same = elim (cases_lt p (length ds)) [
      | inl less ↦ is p e (get_push ds d p e at less) same
      | inr from ↦ other (ap (λ (x : Dir). x.inode) (sym (get_last ds d p e at (let short = slice_get_within (ds ++ d ∷ []) p e at in let long = length-append ds (d ∷ []) in omega (arith, from, short, long)))) ∙ same)
    ]
place_stays ds d inode (Some place) other is =
    (let long = length-append ds (d ∷ []) in omega (arith, is.0, long), λ e at. is.1 e (get_push ds d place e at is.0))

pub place_here : (ds : List Dir) (d : Dir) (place : ℕ) → length ds ≡ place → IsPlaceOf (ds ++ d ∷ []) d.inode (Some place)
place_here ds d place at =
    (let long = length-append ds (d ∷ []) in omega (arith, at, long), λ e there. ap (λ (x : Dir). x.inode) (get_last ds d place e there at))

pub index_more : (ds : List Dir) (d : Dir) (place key q : ℕ) (o : Option ℕ) → length ds ≡ place → key ≡ d.inode → IsPlaceOf ds q o → IsPlaceOf (ds ++ d ∷ []) q (cond (is_eq (nat_cmp key q)) (Some place) o)
index_more ds d place key q o at is so_far = by (is_eq (nat_cmp key q)) refl
  where
    by : (b : Bool) → is_eq (nat_cmp key q) ≡ b → IsPlaceOf (ds ++ d ∷ []) q (cond b (Some place) o)
    by true e = subst (λ (k : ℕ). IsPlaceOf (ds ++ d ∷ []) k (Some place)) (sym is ∙ nat_cmp-IsAntisymmetric key q (tied (nat_cmp key q) e)) (place_here ds d place at)
    by false e = place_stays ds d q o (λ same. let clash : false ≡ true = sym e ∙ ap (λ k. is_eq (nat_cmp k q)) (is ∙ same) ∙ (eq_by_cmp_equiv nat_cmp_total).refl q in absurd (grind (arith, clash))) so_far
