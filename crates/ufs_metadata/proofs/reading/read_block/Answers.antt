use Rattle.std.proofs.Common.{◌≡◌, ◌<◌, ◌+◌, ◌*◌, ◌/◌, ℕ, length, take, drop, ap, ◌∙◌, arith}
use Rattle.std.proofs.lemmas.Grind.{common_steps}
use Rattle.ufs_disk.specs.Disk.{bytes_from}
use Rattle.ufs_disk.specs.Moments.{reads}
use Rattle.ufs_disk.proofs.Images.{seen_is_image}
use Rattle.ufs_metadata.specs.Reading.{AreSectors}
use Rattle.ufs_metadata.proofs.Blocks.{pieces_are}
use Rattle.ufs_metadata.proofs.Pieces.{joined}
use Rattle.ufs_metadata.proofs.reading.read_block.Goals as goal

pub returns-clause-sectors : goal.returns-clause-sectors
returns-clause-sectors g c visible image is =
    let home = reads (g.D.Disk.moments c.args.disk.now) in
    let first = 8 * c.args.block in
    let inside : (k : ℕ) → k < 8 → first + k < g.D.Disk.size c.args.disk.now = λ k lt. omega (arith, c.requires.inside, lt) in
    let long : (k : ℕ) → k < 8 → length (home (first + k)) ≡ 512 = λ k lt. ((g.met.D.Disk.whole visible c.args.disk.now).within _ (inside k lt) _ (seen_is_image (g.D.Disk.moments c.args.disk.now).state _)).sized in
    let bytes : c.read_at.new.buf ≡ bytes_from home first 8 = c.in_ok-read_at.ensures.bytes visible ∙ ap (λ n. bytes_from home first (n / 512)) c.requires.sized in
    let are : AreSectors home first c.read_at.new.buf = λ i less. ap (λ b. take 512 (drop (512 * i) b)) bytes ∙ pieces_are home first 8 long i less in
    c.apply_block.ensures home image is are

pub returns-clause-bytes : goal.returns-clause-bytes
returns-clause-bytes g c visible image is =
    let sized : length c.apply_block.new.buf ≡ 4096 = grind (arith, common_steps) in
    joined image (8 * c.args.block) 8 c.apply_block.new.buf sized (returns-clause-sectors g c visible image is)
