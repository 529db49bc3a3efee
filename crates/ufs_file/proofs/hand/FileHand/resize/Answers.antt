use Rattle.std.proofs.Common.{◌≡◌, ◌/◌, arith, ℕ, subst, length, min}
use Rattle.ufs_file.specs.Content.{AreThere, block_count}
use Rattle.ufs_file.proofs.hand.FileHand.resize.Goals as goal

pub lengthen-requires-clause-there : goal.lengthen-requires-clause-there
lengthen-requires-clause-there c longer =
    let same : min c.args.size (length c.args.self.now.content.bytes) ≡ length c.args.self.now.content.bytes = omega (arith, longer) in
    subst (λ (n : ℕ). AreThere c.args.self.now.content.there (n / 4096) (block_count n)) same c.requires.there
