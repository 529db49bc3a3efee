use Rattle.std.proofs.Common.{◌≡◌, subst, ◌∙◌}
use Rattle.std.specs.Prelude.{IfOk}
use Rattle.ufs_disk.specs.Disk.{IsImage, IsSettled}
use Rattle.ufs_disk.proofs.Runs as disk
use Rattle.ufs_mirror.specs.Labels.{generation}
use Rattle.ufs_mirror.proofs.Pieces.{on_ok, settled_rests}
use Rattle.ufs_mirror.proofs.opening.generation_of.Goals as goal

pub returns-in-Ok-clause-number : goal.returns-in-Ok-clause-number
returns-in-Ok-clause-number g c v =
    subst (λ d. IfOk c.read_generation.result (λ n. n ≡ generation (d c.args.sector))) (c.in-Ok.ensures.content v) (c.read_generation.ensures.number v)

pub returns-in-Ok-clause-rests : goal.returns-in-Ok-clause-rests
returns-in-Ok-clause-rests g c v =
    let rests = c.read_generation.ensures.rests v in
    record {
      content = rests.content ∙ c.in-Ok.ensures.content v;
      crash = disk.goes_on_quietly g.D.Disk.keeps (IsImage (g.D.Disk.moments c.args.leg.now).state) (g.D.Disk.moments c.args.leg.now) (g.D.Disk.moments c.barrier.new.self) (g.D.Disk.moments c.read_generation.new.leg) (c.in-Ok.ensures.crash v) rests.crash;
    }

pub returns-in-Ok-clause-settled : goal.returns-in-Ok-clause-settled
returns-in-Ok-clause-settled g c v =
    let rests = c.read_generation.ensures.rests v in
    on_ok c.read_generation.result (IsSettled (g.D.Disk.moments c.read_generation.new.leg).state)
    (settled_rests (g.D.Disk.moments c.barrier.new.self) (g.D.Disk.moments c.read_generation.new.leg) rests.content rests.crash.after (c.in-Ok.ensures.ok v))
