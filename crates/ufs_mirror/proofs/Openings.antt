-- What opening does to two legs, step by step.
use Rattle.std.proofs.Common.{◌≡◌, ◌≤◌, ◌<◌, ℕ, Bool, List, [], refl, subst, ◌∙◌}
use Rattle.std.specs.Prelude.{◌&&◌}
use Rattle.ufs_base.specs.Images.{Image}
use Rattle.ufs_disk.specs.Disk.{State, IsImage, Leaves}
use Rattle.ufs_disk.specs.Moments.{Moments}
use Rattle.ufs_disk.proofs.Runs as disk
use Rattle.ufs_mirror.specs.Calls.{Rests}
use Rattle.ufs_mirror.specs.Joined.{IsCalm}
use Rattle.ufs_mirror.specs.Opens.{MayOpen, Opening, OpensOnly}
use Rattle.ufs_mirror.specs.Pairs.{Pair, Pairs, Runs, pairs_of, state_of, watched}
use Rattle.ufs_mirror.specs.Ready.{AreReady}
use Rattle.ufs_mirror.specs.declared.legs.Picks.{Picks}
use Rattle.ufs_mirror.specs.declared.legs.Picks.TheVariants.{First, Second}
use Rattle.ufs_mirror.proofs.Begun.{calm_opens, first_may_open, second_may_open}
use Rattle.ufs_mirror.proofs.Runs.{started, weaker}

pub rests_same : (keeps : Bool) (a : Moments) → Rests keeps a a
rests_same keeps a = record { content = refl; crash = disk.started keeps (IsImage a.state) a (λ image left. left) }

pub rests_joined : (keeps : Bool) (a b c : Moments) → Rests keeps a b → Rests keeps b c → Rests keeps a c
rests_joined keeps a b c one other = record {
  content = other.content ∙ one.content;
  crash = disk.goes_on_quietly keeps (IsImage a.state) a b c one.crash other.crash;
}

may_more : (size : ℕ) (a b x y : State) → Leaves (IsImage a) x → Leaves (IsImage b) y → (image : Image) → MayOpen size x y image → MayOpen size a b image
may_more size a b x y one_left other_left image may = record {
  one = may.one;
  other = may.other;
  left = one_left may.one may.left;
  right = other_left may.other may.right;
  opens = may.opens;
}

calm_weaker : (size : ℕ) (P Q : Image → Type 0) → ((image : Image) → P image → Q image) → (pair : Pair) → IsCalm size P pair → IsCalm size Q pair
calm_weaker size P Q follows pair calm = record { leaves = λ image left. follows image (calm.leaves image left); opens = calm.opens }

module _ (one other : Bool) (size : ℕ) (a b x y : Moments) (first_rests : Rests one a x) (second_rests : Rests other b y) (pairs : Pairs) where
  pub more_calm : Opening one other (IsCalm size (MayOpen size x.state y.state)) x y pairs → Opening one other (IsCalm size (MayOpen size a.state b.state)) a b pairs
  more_calm opening = record {
    begun = opening.begun;
    first_rests = rests_joined one a x opening.begun.first first_rests opening.first_rests;
    second_rests = rests_joined other b y opening.begun.second second_rests opening.second_rests;
    run = weaker (one && other) (IsCalm size (MayOpen size x.state y.state)) (IsCalm size (MayOpen size a.state b.state))
        (calm_weaker size (MayOpen size x.state y.state) (MayOpen size a.state b.state) (may_more size a.state b.state x.state y.state first_rests.crash.after second_rests.crash.after))
        (pairs_of [] opening.begun) pairs opening.run;
  }

  pub more_open : Opening one other (OpensOnly size (MayOpen size x.state y.state)) x y pairs → Opening one other (OpensOnly size (MayOpen size a.state b.state)) a b pairs
  more_open opening = record {
    begun = opening.begun;
    first_rests = rests_joined one a x opening.begun.first first_rests opening.first_rests;
    second_rests = rests_joined other b y opening.begun.second second_rests opening.second_rests;
    run = weaker (one && other) (OpensOnly size (MayOpen size x.state y.state)) (OpensOnly size (MayOpen size a.state b.state))
        (λ pair only first second image left right is. may_more size a.state b.state x.state y.state first_rests.crash.after second_rests.crash.after image (only first second image left right is))
        (pairs_of [] opening.begun) pairs opening.run;
  }

-- nothing was done
pub unopened : (one other : Bool) (size : ℕ) (a b : Moments) (picks : Picks) → Opening one other (OpensOnly size (MayOpen size a.state b.state)) a b (pairs_of [] (record { first = a; second = b; picks = picks }))
unopened one other size a b picks = record {
  begun = record { first = a; second = b; picks = picks };
  first_rests = rests_same one a;
  second_rests = rests_same other b;
  run = started (one && other) (OpensOnly size (MayOpen size a.state b.state)) (pairs_of [] (record { first = a; second = b; picks = picks }))
      (λ first second image left right is. record { one = first; other = second; left = left; right = right; opens = is });
}

module _ (one other : Bool) (size n m : ℕ) (a b : Moments) (ready : AreReady size n m a.state b.state) (pairs : Pairs) where
  pub first_calmly : 0 < n → m ≤ n → Runs (one && other) (IsCalm size (IsImage (state_of size (record { first = a.state; second = b.state; picks = First })))) (pairs_of [] (record { first = a; second = b; picks = First })) pairs
      → Opening one other (IsCalm size (MayOpen size a.state b.state)) a b pairs
  first_calmly some le run = record {
    begun = record { first = a; second = b; picks = First };
    first_rests = rests_same one a;
    second_rests = rests_same other b;
    run = weaker (one && other) (IsCalm size (IsImage (state_of size (record { first = a.state; second = b.state; picks = First })))) (IsCalm size (MayOpen size a.state b.state))
        (calm_weaker size (IsImage (state_of size (record { first = a.state; second = b.state; picks = First }))) (MayOpen size a.state b.state)
        (first_may_open size n m a.state b.state ready some le a.state b.state refl refl)) _ pairs run;
  }

  pub second_calmly : n < m → Runs (one && other) (IsCalm size (IsImage (state_of size (record { first = a.state; second = b.state; picks = Second })))) (pairs_of [] (record { first = a; second = b; picks = Second })) pairs
      → Opening one other (IsCalm size (MayOpen size a.state b.state)) a b pairs
  second_calmly lt run = record {
    begun = record { first = a; second = b; picks = Second };
    first_rests = rests_same one a;
    second_rests = rests_same other b;
    run = weaker (one && other) (IsCalm size (IsImage (state_of size (record { first = a.state; second = b.state; picks = Second })))) (IsCalm size (MayOpen size a.state b.state))
        (calm_weaker size (IsImage (state_of size (record { first = a.state; second = b.state; picks = Second }))) (MayOpen size a.state b.state)
        (second_may_open size n m a.state b.state ready lt a.state b.state refl refl)) _ pairs run;
  }

-- a calm opening opens only to what it may
pub only_calm : (one other : Bool) (size : ℕ) (P : Image → Type 0) (a b : Moments) (pairs : Pairs) → Opening one other (IsCalm size P) a b pairs → Opening one other (OpensOnly size P) a b pairs
only_calm one other size P a b pairs opening = record {
  begun = opening.begun;
  first_rests = opening.first_rests;
  second_rests = opening.second_rests;
  run = weaker (one && other) (IsCalm size P) (OpensOnly size P) (calm_opens size P) (pairs_of [] opening.begun) pairs opening.run;
}

-- before anything was noted; the sample says what the legs are
pub noted_none : {E : Type 0} → E → (f g : E → Moments) (keeps : Bool) (R : Pair → Type 0) (log : List (E × Picks)) (l : E) (picks : Picks) (new : Pairs) → log ≡ []
    → Runs keeps R (watched f g log l picks) new → Runs keeps R (pairs_of [] (record { first = f l; second = g l; picks = picks })) new
noted_none sample f g keeps R log l picks new is run = subst (λ noted. Runs keeps R (watched f g noted l picks) new) is run
