use Rattle.std.proofs.Common.{◌≡◌, List, length, sym, ap, ◌∙◌, arith}
use Rattle.std.specs.List.{list_all}
use Rattle.ufs_layout.specs.Records.{is_record}
use Rattle.ufs_layout.specs.declared.records.LogRecord.{LogRecord}
use Rattle.ufs_ilog.specs.Changes.{in_order, is_in_order}
use Rattle.ufs_ilog.proofs.OrderLemmas.{onto, onto_none, onto_last, onto_done, ordered, all_ordered}
use Rattle.ufs_ilog.proofs.change.Change.in_order.Goals as goal

pub loop-done-init : goal.loop-done-init
loop-done-init c = record {
  rest = omega (arith, c.len-count.ensures);
  so_far = ap (onto c.args.records.items) c.in_ok-ordered.ensures.items ∙ onto_none c.args.records.items;
}

pub loop-done-preserved : goal.loop-done-preserved
loop-done-preserved c = record {
  rest = omega (arith, c.in-Some.ensures.len, c.loop-done.invariant.rest);
  so_far =
      ap (onto c.pop.new.self.items) c.in_ok-put_in_order.ensures ∙ sym (onto_last c.pop.new.self.items c.in-Some.last c.loop-done.ordered.items)
      ∙ ap (λ (xs : List LogRecord). onto xs c.loop-done.ordered.items) (sym c.in-Some.ensures.items) ∙ c.loop-done.invariant.so_far;
}

pub unreachable-requires : goal.unreachable-requires
unreachable-requires c = omega (arith, c.in_default.ensures.cases.0, c.loop-done.invariant.rest, c.loop-done-test.true)

is_ordered : (c : goal.After-drop-records-2) → c.from_vec.result ≡ in_order c.args.records.items
is_ordered c =
    let none : length c.loop-done.records.items ≡ 0 = omega (arith, c.loop-done.invariant.rest, c.loop-done-test.false) in
    c.from_vec.ensures ∙ onto_done c.loop-done.records.items c.loop-done.ordered.items (in_order c.args.records.items) none c.loop-done.invariant.so_far

pub returns-clause-records : goal.returns-clause-records
returns-clause-records c = is_ordered c

pub returns-clause-form : goal.returns-clause-form
returns-clause-form c = ap (list_all is_record) (is_ordered c) ∙ all_ordered is_record c.args.records.items c.requires.form

pub returns-clause-order : goal.returns-clause-order
returns-clause-order c = ap is_in_order (is_ordered c) ∙ ordered c.args.records.items
