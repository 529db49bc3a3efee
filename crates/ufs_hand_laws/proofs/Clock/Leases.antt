-- After a tick the leases that live are true.
use Rattle.std.proofs.Common.{arith}
use Rattle.ufs_model.specs.declared.data.Lease.{Lease}
use Rattle.ufs_model.specs.declared.data.PartName.{PartName}
use Rattle.ufs_model.specs.declared.data.PartName.TheVariants as name
use Rattle.ufs_hand_laws.specs.LeasesTrue.{IsListed}
use Rattle.ufs_hand_laws.specs.LeasesTrue.{AreLeasesTrue}
use Rattle.ufs_model.specs.History.{tree_after}
use Rattle.ufs_hand_laws.proofs.Clock.Setting.{Tick, ticks}

module _ (tick : Tick) where
  open tick use {look, by, n, has}
  open tick.look use {S, k, word, views, i, v, o, at}
  open ticks tick use {w, later, next}

  listed : (x : Lease) (p : PartName) → IsListed o.world.file o.world.names x p → IsListed next.file next.names x p
  listed x (name.File g) is = is
  listed x name.Names is = is
  listed x (name.Client c) is = tt
  listed x (name.Asked c) is = tt
  listed x name.Store is = tt

  pub tick_leases : AreLeasesTrue later.clock (tree_after k.tree o.history) next.client next.file next.names
  tick_leases = record {
    listed = λ c p x is h q. listed x x.part (o.leases_true.listed c p x is h (omega arith));
    true' = λ c p x is h q. o.leases_true.true' c p x is h (omega arith);
    held = λ c p x is h q. o.leases_true.held c p x is h (omega arith);
    own = o.leases_true.own;
    ends = o.leases_true.ends;
  }
