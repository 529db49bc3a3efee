-- What ends take was put by ends.
use Rattle.std.proofs.Common.{◌≡◌, ℕ, zero, suc, ◌≤◌, ◌==◌, Bool, true, false, cond, List, [], ◌∷◌, ◌++◌, length, sym, refl, ◌∙◌, subst, arith}
use Rattle.std.proofs.lemmas.Bool.Decides.{nat_tests}
use mathlib.Core.Option.{Option, none, some, some-ne-none}
use lib.ListN.{get_elem?}
use Rattle.ufs_ring.specs.declared.ruled.Trail.{Trail}
use Rattle.ufs_ring.specs.Orders.{AllPass, HavePut, HaveTaken, Keeps, by, items_of}

module _ {T : Type 0} (test : T → Bool) where
  -- the first end's item, and the others'
  own_first : (p : ℕ) (x : T) (es : List (ℕ × T)) → AllPass test (by p ((p, x) ∷ es)) → test x ≡ true
  own_first p x es all = let e : (p == p) ≡ true = grind (arith, nat_tests) in (subst (λ (b : Bool). AllPass test (cond b (x ∷ by p es) (by p es))) e all).0

  fewer : (b : Bool) (x : T) (xs : List T) → AllPass test (cond b (x ∷ xs) xs) → AllPass test xs
  fewer true x xs all = all.1
  fewer false x xs all = all

  more : (b : Bool) (x : T) (xs : List T) → test x ≡ true → AllPass test xs → AllPass test (cond b (x ∷ xs) xs)
  more true x xs one all = (one, all)
  more false x xs one all = all

  -- all moves pass where those of each end do
  all_moves : (log : List (ℕ × T)) → ((p : ℕ) → AllPass test (by p log)) → AllPass test (items_of log)
  all_moves [] each = tt
  all_moves (e ∷ es) each = (own_first e.0 e.1 es (each e.0), all_moves es (λ p. fewer (e.0 == p) e.1 (by p es) (each p)))

  each_moves : (log : List (ℕ × T)) (p : ℕ) → AllPass test (items_of log) → AllPass test (by p log)
  each_moves [] p all = tt
  each_moves (e ∷ es) p all = more (e.0 == p) e.1 (by p es) all.0 (each_moves es p all.1)

  front : (xs ys : List T) → AllPass test (xs ++ ys) → AllPass test xs
  front [] ys all = tt
  front (x ∷ xs) ys all = (all.0, front xs ys all.1)

  past : (ends : List (Trail T)) (p : ℕ) → get_elem? ends p ≡ none → length ends ≤ p
  past [] p is = omega arith
  past (v ∷ vs) zero is = absurd (some-ne-none v is)
  past (v ∷ vs) (suc p) is = let h = past vs p is in omega (arith, h)

  pub taken_pass : (items : List T) (ends : List (Trail T)) → Keeps items ends → HavePut test ends → HaveTaken test ends
  taken_pass items ends k put p v at =
      let all_put = all_moves k.put (λ q. of q (get_elem? ends q) refl) in
      subst (AllPass test) (sym (k.fits p v at).takes) (each_moves k.taken p (front (items_of k.taken) items (subst (AllPass test) k.order all_put)))
    where
      of : (q : ℕ) (o : Option (Trail T)) → get_elem? ends q ≡ o → AllPass test (by q k.put)
      of q (some u) is = subst (AllPass test) (k.fits q u is).puts (put q u is)
      of q none is = subst (AllPass test) (sym (k.new_put q (past ends q is))) tt
