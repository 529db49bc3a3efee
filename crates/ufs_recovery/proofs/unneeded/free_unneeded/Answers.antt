use Rattle.std.proofs.lemmas.Result.{IfErr-weaker, err_from_is_err_and, on_ok_weaker}
use Rattle.ufs_disk.specs.Moments.{reads}
use Rattle.ufs_recovery.specs.Orphans.{LacksForPlan}
use Rattle.ufs_recovery.specs.Recovered.{LacksForRecovery}
use Rattle.ufs_recovery.proofs.Ends.{only_outside, opens_there}
use Rattle.ufs_recovery.proofs.PlanLacks.{lacks_recovery, memory_for_recovery, not_at_end, numbers_by_memory, numbers_by_outside}
use Rattle.ufs_recovery.proofs.Phases.{always_ok, on_ok_both}
use Rattle.ufs_recovery.proofs.Reread.{IsReadWhole, clean_behind, kept_behind, recovered_behind}
use Rattle.ufs_recovery.proofs.SuperblockPut.{keeps_settled}
use Rattle.ufs_metadata.specs.Faults.{IsOutside}
use Rattle.ufs_metadata.specs.Reading.{IsReadOnly}
use Rattle.ufs_metadata.proofs.Quiet.{read_more}
use Rattle.ufs_recovery.specs.Recovered.{IsAtEnd, LacksNumbers}
use Rattle.ufs_recovery.proofs.unneeded.free_unneeded.Goals as goal

pub returns-in_err-opened-clause-tree : goal.returns-in_err-opened-clause-tree
returns-in_err-opened-clause-tree g c visible proper = keeps_settled _ (g.D.Disk.size c.args.disk.now) _ _ proper.settled (c.open.ensures.read_only visible).crash

pub returns-in_err-opened-clause-outside : goal.returns-in_err-opened-clause-outside
returns-in_err-opened-clause-outside g c visible proper =
    let p = err_from_is_err_and c.from_residual.result c.from_residual.ensures.1 in
    rw (p.1, p.2) (only_outside (g.D.Disk.size c.args.disk.now) (reads (g.D.Disk.moments c.args.disk.now)) proper c.in_err-opened.field-0.0 (c.in_err-opened.ensures.refused visible))

pub returns-clause-clean : goal.returns-clause-clean
returns-clause-clean g c visible =
    let here = c.in_ok-opened.ensures in
    let is : IsReadWhole (g.D.Disk.size c.args.disk.now) (reads (g.D.Disk.moments c.args.disk.now)) c.in_ok-opened.opened.volume c.in_ok-opened.opened.findings =
    record { taken = here.taken visible; added = here.added visible; highest = here.highest visible; found = here.found visible; whole = here.whole visible } in
    on_ok_weaker c.write_back.result (λ both proper.
    clean_behind _ _ _ c.open.ensures.size (g.D.Disk.moments c.args.disk.now) (g.D.Disk.moments c.open.new.disk) (g.D.Disk.moments c.write_back.new.disk) (c.open.ensures.read_only visible) _ _ is both.1 proper both.0)
    (on_ok_both _ _ c.write_back.result (c.write_back.ensures.settled visible) (c.write_back.ensures.written visible))

pub returns-clause-tree : goal.returns-clause-tree
returns-clause-tree g c visible =
    let here = c.in_ok-opened.ensures in
    let is : IsReadWhole (g.D.Disk.size c.args.disk.now) (reads (g.D.Disk.moments c.args.disk.now)) c.in_ok-opened.opened.volume c.in_ok-opened.opened.findings =
    record { taken = here.taken visible; added = here.added visible; highest = here.highest visible; found = here.found visible; whole = here.whole visible } in
    kept_behind _ _ _ c.open.ensures.size (g.D.Disk.moments c.args.disk.now) (g.D.Disk.moments c.open.new.disk) (g.D.Disk.moments c.write_back.new.disk) (c.open.ensures.read_only visible) _ _ is (c.write_back.ensures.tree visible)

pub returns-clause-recovered : goal.returns-clause-recovered
returns-clause-recovered g c visible =
    let here = c.in_ok-opened.ensures in
    let is : IsReadWhole (g.D.Disk.size c.args.disk.now) (reads (g.D.Disk.moments c.args.disk.now)) c.in_ok-opened.opened.volume c.in_ok-opened.opened.findings =
    record { taken = here.taken visible; added = here.added visible; highest = here.highest visible; found = here.found visible; whole = here.whole visible } in
    on_ok_weaker c.write_back.result (recovered_behind _ _ _ c.open.ensures.size (g.D.Disk.moments c.args.disk.now) (g.D.Disk.moments c.open.new.disk) (g.D.Disk.moments c.write_back.new.disk) (c.open.ensures.read_only visible) _ _ is) (c.write_back.ensures.written visible)

pub returns-clause-opened : goal.returns-clause-opened
returns-clause-opened g c visible = always_ok c.write_back.result
    (opens_there (g.D.Disk.size c.args.disk.now) (reads (g.D.Disk.moments c.args.disk.now)) c.in_ok-opened.opened.volume (c.in_ok-opened.ensures.taken visible) (c.in_ok-opened.ensures.whole visible))

pub returns-in_err-opened-clause-lack : goal.returns-in_err-opened-clause-lack
returns-in_err-opened-clause-lack g c visible =
    let p = err_from_is_err_and c.from_residual.result c.from_residual.ensures.1 in
    rw (p.1, p.2) (memory_for_recovery (reads (g.D.Disk.moments c.args.disk.now)) c.in_err-opened.field-0.0 c.in_err-opened.ensures.memory)

pub returns-clause-lack : goal.returns-clause-lack
returns-clause-lack g c visible =
    let here = c.in_ok-opened.ensures in
    let image = reads (g.D.Disk.moments c.args.disk.now) in
    let v = c.in_ok-opened.opened.volume in
    let f = c.in_ok-opened.opened.findings in
    let is : IsReadWhole (g.D.Disk.size c.args.disk.now) image v f = record { taken = here.taken visible; added = here.added visible; highest = here.highest visible; found = here.found visible; whole = here.whole visible } in
    IfErr-weaker c.write_back.result (LacksForPlan v.superblock.superblock f.forms v.highest) (LacksForRecovery image) (lacks_recovery (g.D.Disk.size c.args.disk.now) image v f is) c.write_back.ensures.lack

pub returns-in_err-opened-clause-early : goal.returns-in_err-opened-clause-early
returns-in_err-opened-clause-early g c visible =
    let p = err_from_is_err_and c.from_residual.result c.from_residual.ensures.1 in
    rw (p.1, p.2) (not_at_end c.in_err-opened.field-0.0 c.in_err-opened.ensures.memory)

pub returns-clause-early : goal.returns-clause-early
returns-clause-early g c visible =
    let keeps = g.D.Disk.keeps in
    let old = g.D.Disk.moments c.args.disk.now in
    let mid = g.D.Disk.moments c.open.new.disk in
    let new = g.D.Disk.moments c.write_back.new.disk in
    IfErr-weaker c.write_back.result (λ f. IsAtEnd f → IsReadOnly keeps mid new) (λ f. IsAtEnd f → IsReadOnly keeps old new)
    (λ f stays at. read_more keeps old mid new (c.open.ensures.read_only visible) (stays at)) (c.write_back.ensures.early visible)

pub returns-in_err-opened-clause-numbers : goal.returns-in_err-opened-clause-numbers
returns-in_err-opened-clause-numbers g c =
    let p = err_from_is_err_and c.from_residual.result c.from_residual.ensures.1 in
    rw (p.1, p.2) (numbers_by_memory c.in_err-opened.field-0.0 c.in_err-opened.ensures.memory)

pub returns-clause-numbers : goal.returns-clause-numbers
returns-clause-numbers g c = IfErr-weaker c.write_back.result IsOutside LacksNumbers numbers_by_outside c.write_back.ensures.outside
