-- A guest has a file for an excuse.
use Rattle.std.proofs.Common.{◌≡◌, ℕ, ◌++◌, true, false, cond, Bool, leb, leb-true, [], ◌∷◌, Option, Some, None, sym, refl, ap, ◌∙◌, arith}
use Rattle.std.proofs.lemmas.List.{append-nil}
use Rattle.ufs_bitmap.specs.Blocks.{BlockSet}
use Rattle.ufs_file_commits.specs.State.{DurableState}
use Rattle.ufs_hand_laws.specs.Parts.{ClientPart, either, later}
use Rattle.ufs_joint.specs.Cells.{FileCell, View, both_of}
use Rattle.ufs_held.specs.Asking.{IsGuest}
use Rattle.ufs_held.specs.Held.{HasFileAlone, IsHeld}

later_none : (n : ℕ) → later n 0 ≡ n
later_none n = by (leb n 0) refl
  where
    by : (d : Bool) → leb n 0 ≡ d → cond d 0 n ≡ n
    by true e = let l = leb-true n 0 e in omega (arith, l)
    by false e = refl

either_none : (a : Option ℕ) → either a None ≡ a
either_none None = refl
either_none (Some n) = refl

module _ (guest own : View) (client : ℕ) (part : ClientPart) (n : ℕ) (pool : BlockSet) (c : FileCell) (came : IsGuest client part n pool guest) (alone : HasFileAlone c own) where
  -- what was seen and told, all at the file's hand
  abbrev pub own_told : View
  own_told = record own { seen = later guest.seen own.seen; faults = guest.faults ++ own.faults; stop = either guest.stop own.stop }

  abbrev pub guest_untold : View
  guest_untold = record guest { seen = 0; faults = []; stop = None }

  pub same_joined : both_of guest own ≡ both_of own_told guest_untold
  same_joined = λ i. record {
    clients = ((λ k. came.clients k ++ alone.clients k) ∙ sym (λ k. alone.clients k ++ came.clients k)) i;
    asked = ((λ k. came.asked k ++ alone.asked k) ∙ sym (λ k. alone.asked k ++ came.asked k)) i;
    files = ((λ k. came.files k ++ alone.files k) ∙ sym (λ k. alone.files k ++ came.files k)) i;
    pools = ((λ k. came.pools k ++ alone.pools k) ∙ sym (λ k. alone.pools k ++ came.pools k)) i;
    names = ((λ k. came.names k ++ alone.names k) ∙ sym (λ k. alone.names k ++ came.names k)) i;
    store = ((λ k. came.store k ++ alone.store k) ∙ sym (λ k. alone.store k ++ came.store k)) i;
    seen = sym (later_none (later guest.seen own.seen)) i;
    faults = sym (append-nil (guest.faults ++ own.faults)) i;
    stop = sym (either_none (either guest.stop own.stop)) i;
  }

  pub guest_there : IsGuest client part n pool guest_untold
  guest_there = record { clients = came.clients; asked = came.asked; files = came.files; pools = came.pools; names = came.names; store = came.store }

  abbrev pub file_there : (y : DurableState) → c.value ≡ y → IsHeld y own_told
  file_there y value = record {
    cell = c;
    clients = alone.clients;
    asked = alone.asked;
    files = alone.files ∙ ap (λ (q : DurableState). (q.file.file, c) ∷ []) value;
    pools = alone.pools;
    names = alone.names;
    store = alone.store;
    value = value;
  }
