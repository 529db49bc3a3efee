-- What a store counts goes on, in one turn after another.
use Rattle.std.proofs.Common.{◌≡◌, ◌≤◌, ◌+◌, ℕ, true, false, is_some, Option, Some, None, refl, sym, subst, arith}
use Rattle.ufs_joint.specs.Cells.{View}
use Rattle.ufs_store.specs.Refusals.{IsTold}
use Rattle.ufs_turns.specs.Lent.{HasGoneBy, Runs, Tally, tally_in}

goes_twice : (s m t : Tally) (told : Option ℕ) (a b c d : ℕ) → HasGoneBy None a b s m → HasGoneBy told c d m t → HasGoneBy told (a + c) (b + d) s t
goes_twice s m t told a b c d one then =
    let e = one.epoch in
    let f = one.epoch_most in
    let g = then.epoch in
    let h = then.epoch_most in
    let i = one.number in
    let j = one.number_most in
    let k = then.number in
    let l = then.number_most in
    record {
      count = subst (λ (n : ℕ). IsTold n t.faults told) one.count then.count;
      epoch = omega (arith, e, g);
      epoch_most = omega (arith, f, h);
      number = omega (arith, i, k);
      number_most = omega (arith, j, l);
    }

-- the first of two turns told no fault
pub runs_twice : (had mid has : Option View) (told : Option ℕ) (a b c d : ℕ) → is_some mid ≡ is_some had → Runs had mid None a b → Runs mid has told c d → Runs had has told (a + c) (b + d)
runs_twice None mid has told a b c d telling first second = tt
runs_twice (Some v) None has told a b c d telling first second = (let clash : false ≡ true = telling in absurd cc)
runs_twice (Some v) (Some u) None told a b c d telling first second = tt
runs_twice (Some v) (Some u) (Some w) told a b c d telling first second = goes_twice (tally_in v.store) (tally_in u.store) (tally_in w.store) told a b c d first second

goes_then : (s m t : Tally) (told : Option ℕ) (a b c d : ℕ) → HasGoneBy told a b s m → HasGoneBy None c d m t → HasGoneBy told (a + c) (b + d) s t
goes_then s m t told a b c d one then =
    let e = one.epoch in
    let f = one.epoch_most in
    let g = then.epoch in
    let h = then.epoch_most in
    let i = one.number in
    let j = one.number_most in
    let k = then.number in
    let l = then.number_most in
    record {
      count = subst (λ (n : ℕ). IsTold s.faults n told) (sym then.count) one.count;
      epoch = omega (arith, e, g);
      epoch_most = omega (arith, f, h);
      number = omega (arith, i, k);
      number_most = omega (arith, j, l);
    }

-- the second of them told none
pub runs_then : (had mid has : Option View) (told : Option ℕ) (a b c d : ℕ) → is_some mid ≡ is_some had → Runs had mid told a b → Runs mid has None c d → Runs had has told (a + c) (b + d)
runs_then None mid has told a b c d telling first second = tt
runs_then (Some v) None has told a b c d telling first second = (let clash : false ≡ true = telling in absurd cc)
runs_then (Some v) (Some u) None told a b c d telling first second = tt
runs_then (Some v) (Some u) (Some w) told a b c d telling first second = goes_then (tally_in v.store) (tally_in u.store) (tally_in w.store) told a b c d first second

-- no more than so is no more than more
pub runs_more : (had has : Option View) (told : Option ℕ) (a b c d : ℕ) → a ≤ c → b ≤ d → Runs had has told a b → Runs had has told c d
runs_more None has told a b c d less fewer ran = tt
runs_more (Some v) None told a b c d less fewer ran = tt
runs_more (Some v) (Some w) told a b c d less fewer ran =
    let f = ran.epoch_most in
    let j = ran.number_most in
    record { count = ran.count; epoch = ran.epoch; epoch_most = omega (arith, less, f); number = ran.number; number_most = omega (arith, fewer, j) }

-- nothing is done
pub runs_still : (o : Option View) (a b : ℕ) → Runs o o None a b
runs_still None a b = tt
runs_still (Some v) a b = record { count = refl; epoch = omega arith; epoch_most = omega arith; number = omega arith; number_most = omega arith }
