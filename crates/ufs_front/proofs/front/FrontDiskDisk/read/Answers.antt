use Rattle.std.proofs.Common.{ℕ, ◌*◌, List, length, take, drop, ap, ◌∙◌}
use Rattle.ufs_front.specs.Padded.{padded}
use Rattle.ufs_front.proofs.Paddings.{read_sectors}
use Rattle.ufs_front.proofs.front.FrontDiskDisk.read.Goals as goal

pub returns-clause-bytes : goal.returns-clause-bytes
returns-clause-bytes c visible =
    let m = length c.args.buf.now in
    c.copy_out.ensures
    ∙ ap (λ (l : List ℕ). padded m (take m (drop (512 * c.args.sector) l))) c.deref.ensures.value
    ∙ read_sectors c.args.self.now.sectors c.args.sector m c.args.self.now.held.items c.requires.whole c.requires.inside
