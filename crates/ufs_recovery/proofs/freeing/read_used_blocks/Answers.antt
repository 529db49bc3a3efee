use Rattle.std.proofs.Common.{sym, subst}
use Rattle.std.proofs.lemmas.Result.{IfErr-weaker, IfOk-weaker}
use Rattle.ufs_metadata.specs.Faults.{HasFaultCause}
use Rattle.ufs_disk.specs.Moments.{reads}
use Rattle.ufs_recovery.proofs.freeing.read_used_blocks.Goals as goal

pub returns-clause-taken : goal.returns-clause-taken
returns-clause-taken g c visible = IfOk-weaker c.used_blocks.result _ _
    (λ t leads. leads (reads (g.D.Disk.moments c.args.disk.now)) (c.in_ok-findings.ensures.found visible)) c.used_blocks.ensures.taken

pub returns-clause-cause : goal.returns-clause-cause
returns-clause-cause g c = IfErr-weaker c.used_blocks.result _ _
    (λ f calm. subst (λ n. HasFaultCause (g.D.Disk.faults c.args.disk.now) n f) (sym c.in_ok-findings.ensures.passed) (calm (g.D.Disk.faults c.args.disk.now))) c.used_blocks.ensures.calm
