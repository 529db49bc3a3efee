use Rattle.std.proofs.Common.{ap, arith}
use Rattle.std.specs.FinSet as set
use Rattle.ufs_links.specs.Linked.{Linked}
use Rattle.ufs_links.proofs.KeptLemmas.{len-nodes}
use Rattle.ufs_links.proofs.links.Links.reserve.Goals as goal

pub returns-then-nodes-clause-lack : goal.returns-then-nodes-clause-lack
returns-then-nodes-clause-lack c =
    let all = len-nodes c.self.inside c.self.invariant in
    let given = ap (λ (v : Linked). set.len v.given) c.self.view_is in
    let released = c.len.ensures in
    let many = c.if-nodes.true in
    omega (arith, all, given, released, many)

pub returns-in_err-reserve_nodes-clause-at_end : goal.returns-in_err-reserve_nodes-clause-at_end
returns-in_err-reserve_nodes-clause-at_end c few end =
    let all = len-nodes c.self.inside c.self.invariant in
    let given = ap (λ (v : Linked). set.len v.given) c.self.view_is in
    let released = c.len.ensures in
    let fits = c.if-nodes.false in
    let less = c.if-n-spare.false in
    absurd (omega (arith, all, given, released, fits, less, end))

pub returns-in_err-reserve_nodes-2-clause-at_end : goal.returns-in_err-reserve_nodes-2-clause-at_end
returns-in_err-reserve_nodes-2-clause-at_end c few end =
    let all = len-nodes c.self.inside c.self.invariant in
    let given = ap (λ (v : Linked). set.len v.given) c.self.view_is in
    let released = c.len.ensures in
    let fits = c.if-nodes.false in
    let less = c.if-n-spare.false in
    absurd (omega (arith, all, given, released, fits, less, end))

pub returns-in_err-reserve-clause-at_end : goal.returns-in_err-reserve-clause-at_end
returns-in_err-reserve-clause-at_end c few end =
    let all = len-nodes c.self.inside c.self.invariant in
    let given = ap (λ (v : Linked). set.len v.given) c.self.view_is in
    let released = c.len.ensures in
    let fits = c.if-nodes.false in
    let less = c.if-n-spare.false in
    absurd (omega (arith, all, given, released, fits, less, end))

pub returns-clause-at_end : goal.returns-clause-at_end
returns-clause-at_end c few end =
    let all = len-nodes c.self.inside c.self.invariant in
    let given = ap (λ (v : Linked). set.len v.given) c.self.view_is in
    let released = c.len.ensures in
    let fits = c.if-nodes.false in
    let less = c.if-n-spare.false in
    absurd (omega (arith, all, given, released, fits, less, end))
