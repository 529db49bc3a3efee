-- After a change of leases each part is in one hand.
use Rattle.std.proofs.Common.{eqb, set, Some, refl, ◌∙◌}
use Rattle.ufs_hand_laws.specs.Parts.{View, only_one}
use Rattle.ufs_hand_laws.specs.OneHand.{IsHeld, DoPartsStay}
use Rattle.ufs_hand_laws.proofs.Owning.{same_holds}
use Rattle.ufs_hand_laws.proofs.Exchange.{kind_exchanged, one_exchanged}
use Rattle.ufs_hand_laws.proofs.Lease.Setting.{LeaseStep, leasing, client_counts, file_counts, names_counts}

module _ (step : LeaseStep) where
  open step use {S, k, word, views, i, v, o, at, go}
  open leasing step use {w, next, client_was, file_was, names_were, client_present, file_present}

  pub held_next : IsHeld (set views i w) next
  held_next = record {
    clients = kind_exchanged views i v w at o.world o.one_hand (λ (u : View). u.clients) o.world.client o.one_hand.clients (client_counts step);
    asked = same_holds eqb (λ (u : View). u.asked) o.world.asked views i v w at refl o.one_hand.asked;
    files = kind_exchanged views i v w at o.world o.one_hand (λ (u : View). u.files) o.world.file o.one_hand.files (file_counts step);
    pools = same_holds eqb (λ (u : View). u.pools) o.world.pool views i v w at refl o.one_hand.pools;
    names = one_exchanged views i v w at o.world o.one_hand (λ (u : View). u.names) o.world.names o.one_hand.names (names_counts step);
    store = same_holds only_one (λ (u : View). u.store) (λ _. Some o.world.store) views i v w at refl o.one_hand.store;
  }

  pub parts_next : DoPartsStay k next
  parts_next = record { clients = λ n. client_present n ∙ o.parts.clients n; asked = o.parts.asked; pools = o.parts.pools }
