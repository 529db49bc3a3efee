use Rattle.std.proofs.Common.{◌≡◌, ◌+◌, ◌*◌, ◌<◌, ℕ, length, sym, ◌∙◌, arith}
use Rattle.std.proofs.lemmas.Bool.Decides.{Decides-eqb}
use Rattle.std.proofs.lemmas.Slice.Eq.{slice_eq-Decides}
use Rattle.ufs_disk.specs.Disk.{IsPartlyWritten, bytes_from, sectors_of}
use Rattle.ufs_disk.specs.Moments.{reads}
use Rattle.ufs_disk.proofs.Images.{mixed_fewer, seen_is_image, unmixed}
use Rattle.ufs_disk.proofs.Runs.{goes_on, weaker}
use Rattle.ufs_recovery.proofs.Rewritten.{own_bytes}
use Rattle.ufs_recovery.proofs.bitmap.put_bits.Goals as goal

pub returns-in_err-read-clause-crash : goal.returns-in_err-read-clause-crash
returns-in_err-read-clause-crash g c visible =
    weaker _ _ _ (unmixed (8 * c.args.block) (sectors_of c.args.bytes.now) (g.D.Disk.moments c.args.disk.now).state) _ _ (c.read.ensures.crash visible)

pub returns-then-eq-clause-written : goal.returns-then-eq-clause-written
returns-then-eq-clause-written g c visible =
    let home = reads (g.D.Disk.moments c.args.disk.now) in
    let first = 8 * c.args.block in
    let inside : (k : ℕ) → k < 8 → first + k < g.D.Disk.size c.args.disk.now = λ k less. let all = c.requires in omega (arith, all, less) in
    let long : (k : ℕ) → k < 8 → length (home (first + k)) ≡ 512 = λ k less. ((g.met.D.Disk.whole visible c.args.disk.now).within _ (inside k less) _ (seen_is_image (g.D.Disk.moments c.args.disk.now).state _)).sized in
    let same : c.read.new.buf ≡ c.args.bytes.now = (slice_eq-Decides Decides-eqb _ _ _ c.eq.ensures).0 c.if-eq.true in
    let found : c.read.new.buf ≡ bytes_from home first 8 = c.in_ok-read.ensures.bytes visible in
    c.read.ensures.content visible ∙ sym (own_bytes first c.args.bytes.now home (omega arith) (sym same ∙ found) long)

pub returns-then-eq-clause-crash : goal.returns-then-eq-clause-crash
returns-then-eq-clause-crash g c visible =
    weaker _ _ _ (unmixed (8 * c.args.block) (sectors_of c.args.bytes.now) (g.D.Disk.moments c.args.disk.now).state) _ _ (c.read.ensures.crash visible)

pub returns-clause-crash : goal.returns-clause-crash
returns-clause-crash g c visible =
    let old = (g.D.Disk.moments c.args.disk.now).state in
    let mid = (g.D.Disk.moments c.read.new.self).state in
    let first = 8 * c.args.block in
    goes_on _ (IsPartlyWritten first c.args.bytes.now old) (IsPartlyWritten first c.args.bytes.now mid) _ _ _
    (weaker _ _ _ (unmixed first (sectors_of c.args.bytes.now) old) _ _ (c.read.ensures.crash visible)) (c.write.ensures.crash visible)
    (mixed_fewer first (sectors_of c.args.bytes.now) old mid (c.read.ensures.crash visible).after)
