-- After a mark each part is in one hand.
use Rattle.std.proofs.Common.{eqb, set, ◌∙◌}
use Rattle.ufs_hand_laws.specs.Parts.{View}
use Rattle.ufs_hand_laws.specs.OneHand.{IsHeld, DoPartsStay}
use Rattle.ufs_hand_laws.proofs.Owning.{replaced_present, same_holds}
use Rattle.ufs_hand_laws.proofs.Keys.{itself, alike}
use Rattle.ufs_hand_laws.proofs.Exchange.{kind_exchanged, one_exchanged}
use Rattle.ufs_hand_laws.proofs.Mark.Setting.{Mark, remaking}

module _ (mark : Mark) where
  open mark use {keeps, S, k, word, views, i, v, w, o, at, m}
  open remaking mark use {remade, single_files, r, names_are_kept, file_case, file_present}

  pub held_remade : IsHeld (set views i w) remade
  held_remade = record {
    clients = same_holds eqb (λ (u : View). u.clients) o.world.client views i v w at m.clients o.one_hand.clients;
    asked = same_holds eqb (λ (u : View). u.asked) o.world.asked views i v w at m.asked o.one_hand.asked;
    files = kind_exchanged views i v w at o.world o.one_hand (λ (u : View). u.files) o.world.file o.one_hand.files m.file_names;
    pools = kind_exchanged views i v w at o.world o.one_hand (λ (u : View). u.pools) o.world.pool o.one_hand.pools m.pool_names;
    names = one_exchanged views i v w at o.world o.one_hand (λ (u : View). u.names) o.world.names o.one_hand.names m.has_names;
    store = one_exchanged views i v w at o.world o.one_hand (λ (u : View). u.store) o.world.store o.one_hand.store m.has_store;
  }

  pub parts_remade : DoPartsStay k remade
  parts_remade = record {
    clients = o.parts.clients;
    asked = o.parts.asked;
    pools = λ c. replaced_present eqb itself alike (λ (u : View). u.pools) o.world.pool views i v w at o.one_hand.pools c (m.pool_names c) ∙ o.parts.pools c;
  }
