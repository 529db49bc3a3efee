use Rattle.std.proofs.Common.{length, ap, sym, ◌∙◌, subst, arith}
use Rattle.std.specs.Prelude.{not, nat_le, map, filter}
use Rattle.std.proofs.lemmas.Bool.{le-leb, not_from_true}
use Rattle.ufs_scan.specs.Edits.{key_of}
use Rattle.ufs_scan.proofs.Linked.{IsLinked, linked_none, linked_more, linked_all, shorter, empty_list}
use Rattle.ufs_scan.proofs.chains.chains_of.Goals as goal

pub loop-first-init : goal.loop-first-init
loop-first-init c = subst (λ l. IsLinked c.args.steps.now c.args.steps.now l) (sym c.new-chains.ensures.items) (linked_none c.args.steps.now c.requires)

pub loop-first-smaller : goal.loop-first-smaller
loop-first-smaller c =
    let less = shorter (λ s. not (nat_le (key_of s.edit) c.key-key.result)) c.loop-first.rest.now c.in-Some.first.now c.in-Some.ensures.item.3.0 c.in-Some.ensures.item.1
    (not_from_true _ (le-leb _ c.key-key.result (omega (arith, c.key-key.ensures)))) in
    let same = ap length c.behind_key-rest.ensures.kept in
    omega (arith, less, same)

pub loop-first-preserved : goal.loop-first-preserved
loop-first-preserved c =
    let first = c.in-Some.first.now in
    subst (λ l. IsLinked c.args.steps.now c.behind_key-rest.result.now l) (sym c.in_ok-push.ensures.items)
    (linked_more c.args.steps.now c.loop-first.rest.now c.behind_key-rest.result.now c.loop-first.chains.items c.in-Some.first.now
    (record { txn = c.txn.result; inode = c.inode.result; steps = c.in_ok-linked.field-0 })
    c.in-Some.ensures.item.3.0 c.in-Some.ensures.item.1 (omega (arith, c.txn.ensures, c.inode.ensures)) c.inode.ensures
    (c.in_ok-linked.ensures.edits ∙ ap (map (λ s. s.edit)) (c.up_to_key.ensures ∙ ap (λ n. filter (λ s. nat_le (key_of s.edit) n) c.loop-first.rest.now) c.key-key.ensures))
    c.in_ok-linked.ensures.nets
    (c.behind_key-rest.ensures.kept ∙ ap (λ n. filter (λ s. not (nat_le (key_of s.edit) n)) c.loop-first.rest.now) c.key-key.ensures)
    c.behind_key-rest.ensures.in_order c.loop-first.invariant)

pub returns-clause-inodes : goal.returns-clause-inodes
returns-clause-inodes c = c.loop-first.invariant.inodes

pub returns-clause-chains : goal.returns-clause-chains
returns-clause-chains c = linked_all c.args.steps.now c.loop-first.chains.items c.loop-first.rest.now (empty_list c.loop-first.rest.now c.in_default.ensures.item.3) c.loop-first.invariant
