use Rattle.std.proofs.Common.{rules, ℕ, List, ◌++◌, take, drop, suc, ◌∙◌, sym, subst}
use Rattle.ufs_model.specs.History.{joined}
use Rattle.ufs_model.specs.declared.data.Entry.{Entry}
use Rattle.ufs_print.specs.Pieces.{GotFront, IsPassed, PutLines}
use Rattle.ufs_print.specs.Printed.{entry_lines}
use Rattle.ufs_print.proofs.PieceLemmas.{front_more, front_passed, lines_more, lines_passed, passed_both}
use Rattle.ufs_print.proofs.PrintLemmas.{with_list, all_lists, entries_ended}
use Rattle.ufs_print.proofs.transcripts.print_lists.Goals as goal

pub returns-in_err-print_client-clause-memory : goal.returns-in_err-print_client-clause-memory
returns-in_err-print_client-clause-memory g c is =
    let held = g.K.Sink.held in
    let i = c.loop-list.list-index in
    let told = c.args.told.now in
    let list = c.list-item.result in
    let before = entry_lines c.args.kind (joined (take i told)) in
    let own = subst (λ (l : List Entry). PutLines (held c.loop-list.sink) (held c.print_client.new.sink) c.print_client.new.waiting c.loop-list.waiting (entry_lines c.args.kind l)) c.as_slice.ensures (c.in_err-print_client.ensures.memory (search rules)) in
    let got = lines_passed (held c.args.sink.now) (held c.loop-list.sink) (held c.print_client.new.sink) c.args.waiting.now c.loop-list.waiting c.print_client.new.waiting before c.loop-list.invariant.put (entry_lines c.args.kind list) (entries_ended c.args.kind (joined (take i told))) own in
    subst (λ (whole : List ℕ). PutLines (held c.args.sink.now) (held c.print_client.new.sink) c.print_client.new.waiting c.args.waiting.now whole) (sym (all_lists c.args.kind told i list c.loop-list-test.true c.list-item.is))
    (lines_more (held c.args.sink.now) (held c.print_client.new.sink) c.print_client.new.waiting c.args.waiting.now (before ++ entry_lines c.args.kind list) (entry_lines c.args.kind (joined (drop (suc i) told))) got)

pub returns-in_err-print_client-clause-cut : goal.returns-in_err-print_client-clause-cut
returns-in_err-print_client-clause-cut g c is =
    let held = g.K.Sink.held in
    let i = c.loop-list.list-index in
    let told = c.args.told.now in
    let list = c.list-item.result in
    let before = entry_lines c.args.kind (joined (take i told)) in
    let own = subst (λ (l : List Entry). GotFront (held c.loop-list.sink) (held c.print_client.new.sink) (c.loop-list.waiting ++ entry_lines c.args.kind l)) c.as_slice.ensures (c.in_err-print_client.ensures.cut (search rules)) in
    let got = front_passed (held c.args.sink.now) (held c.loop-list.sink) (held c.print_client.new.sink) c.args.waiting.now c.loop-list.waiting c.print_client.new.waiting before c.loop-list.invariant.put (entry_lines c.args.kind list) own in
    subst (λ (whole : List ℕ). GotFront (held c.args.sink.now) (held c.print_client.new.sink) (c.args.waiting.now ++ whole)) (sym (all_lists c.args.kind told i list c.loop-list-test.true c.list-item.is))
    (front_more (held c.args.sink.now) (held c.print_client.new.sink) c.args.waiting.now (before ++ entry_lines c.args.kind list) (entry_lines c.args.kind (joined (drop (suc i) told))) got)

pub loop-list-preserved : goal.loop-list-preserved
loop-list-preserved g c =
    let held = g.K.Sink.held in
    let i = c.loop-list.list-index in
    let told = c.args.told.now in
    let list = c.list-item.result in
    let before = entry_lines c.args.kind (joined (take i told)) in
    let own = subst (λ (l : List Entry). IsPassed (held c.loop-list.sink) (held c.print_client.new.sink) c.print_client.new.waiting (c.loop-list.waiting ++ entry_lines c.args.kind l)) c.as_slice.ensures c.in_ok-print_client.ensures.ok in
    record {
      same = c.in_ok-print_client.ensures.told (λ x. cc) ∙ c.loop-list.invariant.same;
      put =
          subst (λ (whole : List ℕ). IsPassed (held c.args.sink.now) (held c.print_client.new.sink) c.print_client.new.waiting (c.args.waiting.now ++ whole)) (sym (with_list c.args.kind told i list c.loop-list-test.true c.list-item.is))
          (passed_both (held c.args.sink.now) (held c.loop-list.sink) (held c.print_client.new.sink) c.args.waiting.now c.loop-list.waiting c.print_client.new.waiting before c.loop-list.invariant.put (entry_lines c.args.kind list) own);
    }
