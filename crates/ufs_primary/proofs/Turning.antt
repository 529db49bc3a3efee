-- What a turn of the primary leaves, put together.
use Rattle.std.proofs.Common.{◌≡◌, Option, Some, None, refl, subst}
use Rattle.ufs_joint.specs.Cells.{FileCell}
use Rattle.ufs_at_primary.specs.OfHome.{HomeState}
use Rattle.ufs_msg.specs.declared.letter.Letter.{Letter}
use Rattle.ufs_primary.specs.Letters.{IsFrontDone, IsNextDone, IsSettled}
use Rattle.ufs_primary.specs.declared.turn.PrimaryTurn.{PrimaryTurn}

module _ {Q : Type 0} (same : Q → Q → Type 0) (gets : Q → Letter FileCell → Q → Type 0) (none : Q → Type 0) (h g : HomeState) (waits : Option FileCell) where
  -- the front letter, where a file waits for room and where none does
  pub front_is : (o : Option FileCell) (p : Q) (x : Option PrimaryTurn) (c : FileCell) → o ≡ Some c → IsSettled h g waits c x → IsFrontDone same gets none o h g waits p p x
  front_is None p x c is settled = absurd cc
  front_is (Some d) p x c is settled = (subst (λ (e : FileCell). IsSettled h g waits e x) (one d c is) settled, refl)
    where
      one : (d c : FileCell) → Some d ≡ Some c → c ≡ d
      one d c is = cc

  pub next_is : (o : Option FileCell) (p q : Q) (x : Option PrimaryTurn) → o ≡ None → IsNextDone same gets none h g waits p q x → IsFrontDone same gets none o h g waits p q x
  next_is None p q x is next = next
  next_is (Some c) p q x is next = absurd cc
