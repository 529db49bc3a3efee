use Rattle.std.proofs.Common.{◌≡◌, ℕ, ◌+◌, length, subst, arith}
use Rattle.ufs_start.specs.Tables.{AreFrom}
use Rattle.ufs_start.proofs.TableLemmas.{all_read}
use Rattle.ufs_start.proofs.tables.all_dirs.Goals as goal

pub returns-clause-read : goal.returns-clause-read
returns-clause-read c =
    let f = c.args.findings.now in
    let i = c.loop-inode.invariant in
    let most = c.loop-inode.auto.inode-end (omega arith) in
    let last : c.loop-inode.inode ≡ length f.forms + 1 = omega (arith, c.loop-inode-test.false, most, c.requires.counted) in
    all_read f.forms f.dirs c.loop-inode.next c.loop-inode.table.items c.requires.sound (subst (λ (n : ℕ). AreFrom f.dirs c.loop-inode.next n) last i.from) i.so_far
