-- What an order leaves as it was.
use Rattle.std.proofs.Common.{◌≡◌, ◌≤◌, ℕ, zero, suc, eqb, Bool, true, false, cond, List, [], length, refl, ap, sym, ◌∙◌, subst, arith}
use Rattle.std.specs.Bool.{OnFalse, OnTrue}
use Rattle.std.specs.Prelude.{not, ◌≢◌, ◌∷◌}
use Rattle.ufs_owner.specs.Owners.{has_none, owner_at, recalled}
use Rattle.ufs_owner.specs.declared.owner.Owner.{Owner}
use Rattle.ufs_owner.specs.declared.owner.Owner.TheVariants.{Primary, Worker, Coming, Going}
use Rattle.ufs_home.specs.Home.{HomeState}
use Rattle.ufs_home.specs.Moves.{IsMoved, order_of}
use Rattle.ufs_home.specs.Owning.{AreKnown}
use Rattle.ufs_home.specs.declared.moved.Moved.{Moved}
use Rattle.ufs_home.specs.declared.moved.Moved.TheVariants as moved
use Rattle.ufs_home.proofs.Knowing.{known_owner, of_worker, still_from}
use Rattle.ufs_home.proofs.Posting.{posted_length}

pub waited_is : (b : Bool) (xs : List ℕ) → OnTrue b (xs ≢ []) → OnFalse b (xs ≡ []) → b ≡ not (has_none xs)
waited_is true [] some none = absurd (some refl)
waited_is true (x ∷ xs) some none = refl
waited_is false [] some none = refl
waited_is false (x ∷ xs) some none = absurd cc

-- what is sent goes to a worker
pub sent_some : (o : Owner) (waited : Bool) (to : ℕ) → order_of o waited to ≡ moved.Sent → 1 ≤ to
sent_some Primary waited zero is = absurd cc
sent_some Primary waited (suc n) is = omega arith
sent_some (Worker w) waited to is = absurd (by (eqb w to) is)
  where
    by : (b : Bool) → cond b moved.Nothing moved.Recalled ≡ moved.Sent → ⊥
    by true is = cc
    by false is = cc
sent_some (Going w) waited to is = absurd (by (eqb w to) is)
  where
    by : (b : Bool) → cond b moved.Nothing moved.Recalled ≡ moved.Sent → ⊥
    by true is = cc
    by false is = cc
sent_some (Coming w) waited to is = absurd cc

pub known_moved : (workers : ℕ) (h g : HomeState) (file to : ℕ) (m : Moved) → AreKnown workers h.owners → to ≤ workers → (m ≡ moved.Sent → 1 ≤ to) → IsMoved h g file to m → AreKnown workers g.owners
known_moved workers h g file to moved.Sent all few some is =
    subst (λ (s : HomeState). AreKnown workers s.owners) (sym is.2) (known_owner workers h.owners file (Going to) 0 all (of_worker workers to (some refl) few) (omega arith))
known_moved workers h g file to moved.Recalled all few some is =
    let one = all file in
    subst (λ (s : HomeState). AreKnown workers s.owners) (sym is) (known_owner workers h.owners file (recalled (owner_at h.owners file)) to all (still_from workers (owner_at h.owners file) one.owner) few)
known_moved workers h g file to moved.Renoted all few some is =
    let one = all file in
    subst (λ (s : HomeState). AreKnown workers s.owners) (sym is) (known_owner workers h.owners file (owner_at h.owners file) to all one.owner few)
known_moved workers h g file to moved.Nothing all few some is = subst (λ (s : HomeState). AreKnown workers s.owners) (sym is) all
known_moved workers h g file to (moved.Lack lack) all few some is = subst (λ (s : HomeState). AreKnown workers s.owners) (sym is) all

-- there are letters to as many workers
pub boxes_moved : (h g : HomeState) (file to : ℕ) (m : Moved) → IsMoved h g file to m → length g.letters ≡ length h.letters
boxes_moved h g file to moved.Sent is = ap (λ (s : HomeState). length s.letters) is.2 ∙ posted_length h.letters to _
boxes_moved h g file to moved.Recalled is = ap (λ (s : HomeState). length s.letters) is ∙ posted_length h.letters _ _
boxes_moved h g file to moved.Renoted is = ap (λ (s : HomeState). length s.letters) is
boxes_moved h g file to moved.Nothing is = ap (λ (s : HomeState). length s.letters) is
boxes_moved h g file to (moved.Lack lack) is = ap (λ (s : HomeState). length s.letters) is
