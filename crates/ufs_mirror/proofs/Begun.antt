-- Two legs whose labels were read: what opening makes of them.
use Rattle.std.proofs.Common.{◌≡◌, ◌≤◌, ◌<◌, ℕ, Bool, true, false, [], ◌∷◌, Some, None, refl, sym, ◌∙◌, ap, subst, arith}
use Rattle.std.specs.Prelude.{if◌then◌else◌, nat_lt, ◌==◌, ◌&&◌}
use Rattle.std.specs.List.{AllByRecursion}
use Rattle.std.proofs.lemmas.Bool.{lt-ltb, le-ltb, ne_eqb}
use Rattle.ufs_base.specs.Images.{Image}
use Rattle.ufs_disk.specs.Disk.{State, IsImage, seen}
use Rattle.ufs_disk.proofs.Images.{seen_is_image}
use Rattle.ufs_disk.proofs.Runs.{all_append, all_map}
use Rattle.ufs_mirror.specs.Joined.{IsCalm, IsFirstAt, IsSecondAt}
use Rattle.ufs_mirror.specs.Labels.{generation}
use Rattle.ufs_mirror.specs.Opens.{MayOpen, OpenRight, OpensOnly, OpensRight, opened, unlabelled}
use Rattle.ufs_mirror.specs.Pairs.{Pair, Pairs, Runs, all_pairs, state_of}
use Rattle.ufs_mirror.specs.Ready.{AreReady, greater}
use Rattle.ufs_mirror.specs.declared.legs.Picks.TheVariants.{First, Second}
use Rattle.ufs_mirror.proofs.Calm.{says_exactly}
use Rattle.ufs_mirror.proofs.Lone.{first_labelled, second_labelled}
use Rattle.ufs_mirror.proofs.Runs.{front_all}
use Rattle.ufs_mirror.proofs.Views.{seen_is, settled_first, settled_second}

and_false : (b : Bool) → (b && false) ≡ false
and_false true = refl
and_false false = refl

-- the first is picked
pub first_opens : (size : ℕ) (one other : Image) → 0 < generation (one size) → generation (other size) ≤ generation (one size) → opened size one other ≡ Some (unlabelled size one)
first_opens size one other some le = pick (generation (one size)) (generation (other size)) some le
  where
    pick : (n m : ℕ) → 0 < n → m ≤ n → (if n == 0 && m == 0 then None else if nat_lt n m then Some (unlabelled size other) else Some (unlabelled size one)) ≡ Some (unlabelled size one)
    pick n m some le =
        let no : (n == 0) ≡ false = ne_eqb n 0 (λ z. absurd (omega (arith, z, some))) in
        λ i. if no i && m == 0 then None else if le-ltb n m le i then Some (unlabelled size other) else Some (unlabelled size one)

-- the second is picked
pub second_opens : (size : ℕ) (one other : Image) → generation (one size) < generation (other size) → opened size one other ≡ Some (unlabelled size other)
second_opens size one other lt = pick (generation (one size)) (generation (other size)) lt
  where
    pick : (n m : ℕ) → n < m → (if n == 0 && m == 0 then None else if nat_lt n m then Some (unlabelled size other) else Some (unlabelled size one)) ≡ Some (unlabelled size other)
    pick n m lt =
        let no : (m == 0) ≡ false = ne_eqb m 0 (λ z. absurd (omega (arith, z, lt))) in
        ap (λ b. if n == 0 && b then None else if nat_lt n m then Some (unlabelled size other) else Some (unlabelled size one)) no
        ∙ ap (λ b. if b then None else if nat_lt n m then Some (unlabelled size other) else Some (unlabelled size one)) (and_false (n == 0))
        ∙ ap (λ b. if b then Some (unlabelled size other) else Some (unlabelled size one)) (lt-ltb n m lt)

-- neither has a label
pub none_opens : (size : ℕ) (one other : Image) → generation (one size) ≡ 0 → generation (other size) ≡ 0 → opened size one other ≡ None
none_opens size one other first second =
    λ i. if first i == 0 && second i == 0 then None else if nat_lt (first i) (second i) then Some (unlabelled size other) else Some (unlabelled size one)

pub greater_first : (one other : ℕ) → other ≤ one → greater one other ≡ one
greater_first one other le = ap (λ b. if b then other else one) (le-ltb one other le)

pub greater_second : (one other : ℕ) → one < other → greater one other ≡ other
greater_second one other lt = ap (λ b. if b then other else one) (lt-ltb one other lt)

module _ (size one other : ℕ) (a b : State) (ready : AreReady size one other a b) where
  pub begun_first : 0 < one → other ≤ one → IsFirstAt size one (record { first = a; second = b; picks = First })
  begun_first some le = record {
    labelled = first_labelled size one a b some (says_exactly size one (λ m. one ≤ m) a ready.first_settled ready.first_says (omega arith))
        (says_exactly size other (λ m. m ≤ one) b ready.second_settled ready.second_says le);
    settled = ready.first_settled;
    says = ready.first_says;
  }

  pub begun_second : one < other → IsSecondAt size other (record { first = a; second = b; picks = Second })
  begun_second lt = record {
    labelled = second_labelled size other a b (omega (arith, lt)) (says_exactly size one (λ m. m < other) a ready.first_settled ready.first_says lt)
        (says_exactly size other (λ m. other ≤ m) b ready.second_settled ready.second_says (omega arith));
    settled = ready.second_settled;
    says = ready.second_says;
  }

  -- what the mirror has then is what opening gives
  pub first_may_open : 0 < one → other ≤ one → (x y : State) → seen a ≡ seen x → seen b ≡ seen y
      → (image : Image) → IsImage (state_of size (record { first = a; second = b; picks = First })) image → MayOpen size x y image
  first_may_open some le x y one_is other_is image left = record {
    one = seen x;
    other = seen y;
    left = seen_is_image x;
    right = seen_is_image y;
    opens = subst (λ d. opened size d (seen y) ≡ Some image) one_is (subst (λ d. opened size (seen a) d ≡ Some image) other_is
        (first_opens size (seen a) (seen b) (omega (arith, some, ready.first_says)) (omega (arith, le, ready.first_says, ready.second_says))
        ∙ ap Some (sym (settled_first size a b First refl ready.first_settled image left ∙ seen_is size (record { first = a; second = b; picks = First })))));
  }

  pub second_may_open : one < other → (x y : State) → seen a ≡ seen x → seen b ≡ seen y
      → (image : Image) → IsImage (state_of size (record { first = a; second = b; picks = Second })) image → MayOpen size x y image
  second_may_open lt x y one_is other_is image left = record {
    one = seen x;
    other = seen y;
    left = seen_is_image x;
    right = seen_is_image y;
    opens = subst (λ d. opened size d (seen y) ≡ Some image) one_is (subst (λ d. opened size (seen a) d ≡ Some image) other_is
        (second_opens size (seen a) (seen b) (omega (arith, lt, ready.first_says, ready.second_says))
        ∙ ap Some (sym (settled_second size a b Second refl ready.second_settled image left ∙ seen_is size (record { first = a; second = b; picks = Second })))));
  }

-- a calm moment opens only to what the mirror may have
pub calm_opens : (size : ℕ) (P : Image → Type 0) (pair : Pair) → IsCalm size P pair → OpensOnly size P pair
calm_opens size P pair calm first second image left right is = calm.leaves image (calm.opens first second image left right is)

-- each moment so far
pub calm_right : (keeps : Bool) (size : ℕ) (P : Image → Type 0) (old new : Pairs) → old.earlier ≡ [] → Runs keeps (IsCalm size P) old new → OpenRight keeps size new
calm_right keeps size P old new none run = record {
  now = run.after.opens;
  before = λ kept. let b = run.between kept in
      front_all (OpensRight size) new.earlier (new.now ∷ [])
      (subst (AllByRecursion (OpensRight size)) (sym b.1)
      (all_append (OpensRight size) (all_pairs old) b.0
      (all_append (OpensRight size) old.earlier (old.now ∷ []) (subst (AllByRecursion (OpensRight size)) (sym none) tt) (run.before.opens, tt))
      (all_map (IsCalm size P) (OpensRight size) (λ pair is. is.opens) b.0 b.2)));
}
