-- A client's request that is kept: where it may go, and the client once it went or stayed.
use Rattle.std.proofs.Common.{◌≡◌, ℕ, List, Option, Some, None, sym, refl, ◌∙◌, subst}
use Rattle.std.specs.Prelude.{IfSome}
use Rattle.ufs_fds.specs.Descriptors.{Descs}
use Rattle.ufs_hints.specs.Hints.{Pairs}
use Rattle.ufs_joint.specs.Cells.{Start, View}
use Rattle.ufs_model.specs.declared.data.Op.{Op}
use Rattle.ufs_msg.specs.Requests.{Asked}
use Rattle.ufs_msg.specs.There.{IsServerThere, MayServe}
use Rattle.ufs_caller.specs.Callers.{Errand}
use Rattle.ufs_caller.specs.Tied.{IsPlaceTied, IsTied, IsTripTied, errand_of}
use Rattle.ufs_caller.specs.declared.told.Told.{Told}
use Rattle.ufs_caller.specs.declared.trip.Trip.{Trip}
use Rattle.ufs_caller.proofs.Redirects.{place}
use Rattle.ufs_caller.proofs.Tries.{stays_as}

none_some : {A : Type 0} (x : A) → None ≡ Some x → ⊥
none_some x e = cc

-- where contracts see a request under way, there is one
pub has_trip : (hand : View) (kept : Option Asked) (o : Option Trip) (e : Errand) → errand_of hand kept o ≡ Some e → ((t : Trip) → o ≡ Some t → ⊥) → ⊥
has_trip hand kept None e is not = none_some e is
has_trip hand kept (Some t) e is not = not t refl

-- what the post gave back is what was kept
pub only_it : (X : Type 0) (kept kept' : Option Asked) → IfSome kept' (λ _. X) → (X → kept' ≡ kept) → (r : Asked) → kept' ≡ Some r → kept ≡ Some r
only_it X kept kept' stays same r e = sym (same (stays_as X kept' r e stays)) ∙ e

module _ (k : Start) (number : ℕ) (told : List Told) (table : Descs) (left : List Op) (hand : View) (kept : Option Asked) (o : Option Trip) (hints : Pairs) (room : ℕ) (tied : IsTied k number told table left hand kept o hints room) (trip : Trip) (is : o ≡ Some trip) where
  abbrev was : IsTripTied k number told table hand kept trip
  was = place k number told table left hand kept o hints room tied trip is

  pub to_there : IsServerThere k trip.to
  to_there = was.there

  pub may_go : (r : Asked) → kept ≡ Some r → IfSome kept (λ x. MayServe trip.to x.ask)
  may_go r had = subst (λ (x : Option Asked). IfSome x (λ y. MayServe trip.to y.ask)) (sym had) ((was.kept_may r had).may)

  pub tied_after : (kept' : Option Asked) → ((r : Asked) → kept' ≡ Some r → kept ≡ Some r) → IsTied k number told table left hand kept' o hints room
  tied_after kept' only = record {
    low = tied.low;
    there = tied.there;
    closed = tied.closed;
    ranged = tied.ranged;
    place = subst (IsPlaceTied k number told table hand kept') (sym is) on;
    servers = tied.servers;
    made = tied.made;
    bounded = tied.bounded;
    few = tied.few;
    room_is = tied.room_is;
  }
    where
      on : IsTripTied k number told table hand kept' trip
      on = record {
        request = was.request;
        away = was.away;
        there = was.there;
        via = was.via;
        file = was.file;
        kept_may = λ r e. was.kept_may r (only r e);
      }
