use Rattle.std.proofs.Common.{◌≡◌, ◌*◌, ◌/◌, take, drop, length, sym, ◌∙◌, arith, rules}
use Rattle.ufs_disk.proofs.Flat.{read_flat}
use Rattle.ufs_disk.proofs.plain.PlainDiskDisk.read.Goals as goal

pub returns-clause-bytes : goal.returns-clause-bytes
returns-clause-bytes c visible =
    let n = length c.args.buf.now / 512 in
    let whole : length c.args.buf.now ≡ 512 * n = omega (arith, c.requires.whole) in
    let got : c.copy_out.new.buf ≡ take (512 * n) (drop (512 * c.args.sector) c.args.self.now.bytes.items) = search (rules, whole) in
    got ∙ sym (read_flat c.args.self.now.bytes.items n c.args.sector)
