use Rattle.std.proofs.Common.{◌≡◌, ◌≢◌, [], length, sym, ◌∙◌, rules}
use Rattle.std.proofs.lemmas.Result.{on_ok_weaker}
use Rattle.ufs_disk.specs.Moments.{reads}
use Rattle.ufs_disk.proofs.Runs.{started}
use Rattle.ufs_disk.specs.Disk.{IsImage}
use Rattle.ufs_overlay.specs.Over.{records_of}
use Rattle.ufs_overlay.proofs.ListLemmas.{empty_list, some_list}
use Rattle.ufs_overlay.proofs.Writing.{quiet_put, write_reads, step_quiet, step_written}
use Rattle.ufs_overlay.proofs.overlay.Overlay.write_sector.Goals as goal

pub returns-then-is_empty-clause-ok : goal.returns-then-is_empty-clause-ok
returns-then-is_empty-clause-ok g c visible added has k =
    let none : records_of c.args.self.now.geometry c.args.sector added ≡ [] = sym (has.each c.args.sector) ∙ sym c.at.ensures ∙ empty_list c.at.result.now (sym c.is_empty.ensures ∙ c.if-is_empty.true) in
    quiet_put c.args.self.now.geometry added has.rising c.args.sector (reads (g.D.Disk.moments c.args.disk.now)) k none

pub returns-then-is_empty-clause-crash : goal.returns-then-is_empty-clause-crash
returns-then-is_empty-clause-crash g c visible added has =
    let old = g.D.Disk.moments c.args.disk.now in
    step_quiet g.D.Disk.keeps c.args.self.now.geometry added c.args.sector old old (started g.D.Disk.keeps (IsImage old.state) old (λ image left. left))

pub returns-in_err-value-clause-crash : goal.returns-in_err-value-clause-crash
returns-in_err-value-clause-crash g c visible added has = step_quiet g.D.Disk.keeps c.args.self.now.geometry added c.args.sector (g.D.Disk.moments c.args.disk.now) (g.D.Disk.moments c.value.new.disk) (c.value.ensures.crash visible)

pub returns-clause-ok : goal.returns-clause-ok
returns-clause-ok g c visible added has =
    let sized : length c.value.new.buf ≡ 512 = search rules in
    on_ok_weaker c.write.result
    (λ written. write_reads c.args.self.now.geometry added c.args.sector c.value.new.buf (reads (g.D.Disk.moments c.args.disk.now)) (reads (g.D.Disk.moments c.value.new.disk)) (reads (g.D.Disk.moments c.write.new.self))
    sized (c.in_ok-value.ensures.value visible added has) (c.value.ensures.content visible) written)
    (c.write.ensures.ok visible)

pub returns-clause-crash : goal.returns-clause-crash
returns-clause-crash g c visible added has =
    let sized : length c.value.new.buf ≡ 512 = search rules in
    let touched : records_of c.args.self.now.geometry c.args.sector added ≢ [] = λ none. some_list c.at.result.now (sym c.is_empty.ensures ∙ c.if-is_empty.false) (c.at.ensures ∙ has.each c.args.sector ∙ none) in
    step_written g.D.Disk.keeps c.args.self.now.geometry added c.args.sector c.value.new.buf (g.D.Disk.moments c.args.disk.now) (g.D.Disk.moments c.value.new.disk) (g.D.Disk.moments c.write.new.self)
    sized touched (c.in_ok-value.ensures.value visible added has) (c.value.ensures.crash visible) (c.write.ensures.crash visible)
