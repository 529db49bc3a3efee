-- A server that is listed, and a hint that is renewed, where there is memory for it.
use Rattle.std.proofs.Common.{◌≡◌, ◌⊎◌, ◌<◌, ◌≤◌, ℕ, true, false, inl, inr, Option, Some, None, [], ◌∷◌, ◌++◌, length, ap, refl, arith, Result, Ok, Err, OnErr}
use Rattle.std.specs.Prelude.{IsOk, IsSome, OnOk}
use Rattle.smallvec.specs.SmallVec.{HasRoomFor, SmallVec}
use Rattle.ufs_hints.specs.Hints.{Pairs, hint_of, renewed}
use Rattle.ufs_model.specs.declared.data.Actor.{Actor}
use Rattle.ufs_caller.specs.Lists.{IsListed}

not_true : false ≡ true → ⊥
not_true is = cc

pub lists : {T E : Type 0} (r : Result T E) (old new : SmallVec Actor) (server : Actor) → OnOk r (new.items ≡ old.items ++ server ∷ []) → OnErr r (new ≡ old) → (HasRoomFor old 1 → IsOk r) → 8 ≤ old.capacity → IsListed old.items server new.items
lists (Ok t) old new server went stays fits room = record { may = inl went; room = λ _. went }
lists (Err e) old new server went stays fits room = record {
  may = inr (ap (λ (v : SmallVec Actor). v.items) stays);
  room = λ few. absurd (not_true (fits (let few' : length old.items < 8 = few in omega (arith, few', room))));
}

has_none : (o : Option Actor) → (IsSome o → ⊥) → o ≡ None
has_none None not = refl
has_none (Some x) not = absurd (not (some_is x))
  where
    some_is : (y : Actor) → IsSome (Some y)
    some_is y = refl

pub renews : {T E : Type 0} (r : Result T E) (file : ℕ) (owner : Actor) (old new : Pairs) → OnOk r (new ≡ renewed file owner old) → OnErr r (new ≡ old) → (IsSome (hint_of file old) → IsOk r) → (new ≡ renewed file owner old) ⊎ ((hint_of file old ≡ None) × (new ≡ old))
renews (Ok t) file owner old new kept lacked had = inl kept
renews (Err e) file owner old new kept lacked had = inr (has_none (hint_of file old) (λ some. not_true (had some)), lacked)
