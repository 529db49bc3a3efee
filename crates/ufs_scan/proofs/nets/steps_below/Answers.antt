use Rattle.std.proofs.Common.{◌≡◌, true, false, subst, sym, arith, length, ap, nat_lt}
use Rattle.std.specs.List.Sorted.{IsNonDecreasingBy, IsPartitionPoint}
use Rattle.std.proofs.lemmas.List.{length-map}
use Rattle.ufs_scan.specs.Nets.{net_of}
use Rattle.ufs_scan.specs.declared.net.Net.{Net}
use Rattle.ufs_scan.proofs.ChainsFit.{up_of}
use Rattle.ufs_scan.proofs.NetLemmas.{front_is}
use Rattle.ufs_scan.proofs.nets.steps_below.Goals as goal

pub count_below-to-requires : goal.count_below-to-requires
count_below-to-requires c = subst (IsNonDecreasingBy (λ (n : Net). n.index)) (sym c.requires.nets) (up_of net_of (λ (n : Net). n.index) c.args.steps.now c.requires.order)

pub returns-clause-kept : goal.returns-clause-kept
returns-clause-kept c =
    front_is net_of (λ (n : Net). nat_lt n.index c.args.index) c.args.steps.now c.count_below-to.result (omega (arith, c.count_below-to.ensures.bound, ap length c.requires.nets, length-map c.args.steps.now net_of))
    (subst (λ l. IsPartitionPoint (λ (n : Net). nat_lt n.index c.args.index ≡ true) (λ (n : Net). nat_lt n.index c.args.index ≡ false) l c.count_below-to.result) c.requires.nets c.count_below-to.ensures.point)
