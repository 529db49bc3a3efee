use Rattle.std.proofs.Common.{◌≡◌, List, ℕ, ap, sym, ◌∙◌, subst}
use Rattle.ufs_print.specs.TreeLines.{head_lines, tree_lines}
use Rattle.ufs_command.specs.Seen.{formatting, writing}
use Rattle.ufs_command.specs.Endings.{EndsPrinting, EndsTree, ending_of, line_of}
use Rattle.ufs_command.proofs.AnswerLemmas.{answer_map, answer_line}
use Rattle.ufs_command.specs.Lacked.{LacksReading}
use Rattle.ufs_command.proofs.LackedLemmas.{reading_refused}
use Rattle.ufs_print.proofs.TextLemmas.{tree_lines_are}
use Rattle.ufs_command.proofs.TreeLemmas.{tree_shown, tree_refused, calm_by}
use Rattle.ufs_command.proofs.tree.tree.Goals as goal

pub returns-in-Ok-clause-answer : goal.returns-in-Ok-clause-answer
returns-in-Ok-clause-answer g c =
    let d = formatting g.D.Disk.visible g.D.Disk.size g.D.Disk.moments g.D.Disk.faults c.args.disk.now c.tree_heads.new.disk in
    let is = c.in-Ok.ensures.heads in
    let same : head_lines c.as_slice.result.now ≡ tree_lines is.tree = ap head_lines c.as_slice.ensures.value ∙ tree_lines_are c.in-Ok.heads.items is.tree is.same in
    answer_map (EndsPrinting (head_lines c.as_slice.result.now)) (EndsTree d) (writing g.K.Sink.held g.K.Sink.faults c.args.sink.now c.print_whole.new.sink) c.print_whole.result.status
    (λ ending text e. tree_shown d is.tree is.opened c.in-Ok.ensures.passed ending text (subst (λ (l : List ℕ). EndsPrinting l ending text) same e)) c.print_whole.ensures.answer

pub returns-in-Err-clause-answer : goal.returns-in-Err-clause-answer
returns-in-Err-clause-answer g c =
    let d = formatting g.D.Disk.visible g.D.Disk.size g.D.Disk.moments g.D.Disk.faults c.args.disk.now c.tree_heads.new.disk in
    let f = c.in-Err.fault in
    answer_line (EndsTree d) (ending_of f) (line_of f) (writing g.K.Sink.held g.K.Sink.faults c.args.sink.now c.tell_refusal.new.sink) c.tell_refusal.result
    (tree_refused d f c.in-Err.ensures.cause c.in-Err.ensures.refused) c.tell_refusal.ensures.answer

pub returns-in-Err-clause-disk_told : goal.returns-in-Err-clause-disk_told
returns-in-Err-clause-disk_told g c other sink =
    calm_by (g.D.Disk.faults c.args.disk.now) (g.D.Disk.faults c.tree_heads.new.disk) c.in-Err.fault c.tell_refusal.result c.in-Err.ensures.cause c.tell_refusal.ensures.status other sink

pub returns-in-Err-clause-lacked : goal.returns-in-Err-clause-lacked
returns-in-Err-clause-lacked g c =
    subst (λ o. LacksReading c.tell_refusal.result o) (sym c.lack_of.ensures) (reading_refused c.in-Err.fault c.tell_refusal.result c.in-Err.ensures.memory c.tell_refusal.ensures.status)
