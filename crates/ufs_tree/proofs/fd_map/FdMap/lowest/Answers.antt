use Rattle.std.proofs.Common.{◌≡◌, ℕ, true, ap, ◌∙◌, sym, arith}
use Rattle.std.specs.Prelude.{is_some}
use Rattle.std.specs.FinMap as map
use Rattle.ufs_tree.proofs.FdLemmas.{lowest_first, free_from_taken}
use Rattle.ufs_tree.proofs.fd_map.FdMap.lowest.Goals as goal

pub loop-fd-init : goal.loop-fd-init
loop-fd-init c = lowest_first c.args.self.now c.args.client

pub loop-fd-preserved : goal.loop-fd-preserved
loop-fd-preserved c =
    let taken : is_some (map.get c.args.self.now (c.args.client, c.loop-fd.fd)) ≡ true =
    ap is_some (ap (λ (k : ℕ). map.get c.args.self.now (c.args.client, k)) (sym c.from.ensures) ∙ sym c.get.ensures) ∙ c.if-is_none.ensures in
    c.loop-fd.invariant ∙ free_from_taken c.args.self.now c.args.client c.loop-fd.fd (omega arith) taken
