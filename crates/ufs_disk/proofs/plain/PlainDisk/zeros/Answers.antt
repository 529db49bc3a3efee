use Rattle.std.proofs.Common.{◌≡◌, ℕ, ◌++◌, length, replicate, sym, ◌∙◌, ap, subst, arith, length-append}
use Rattle.std.proofs.lemmas.List.{length-replicate}
use Rattle.ufs_disk.specs.Bytes.{AreZeros}
use Rattle.ufs_disk.proofs.Zeros.{zeros_append, zeros_replicate}
use Rattle.ufs_disk.proofs.plain.PlainDisk.zeros.Goals as goal

pub loop-sector-preserved : goal.loop-sector-preserved
loop-sector-preserved c =
    let old = c.loop-sector.bytes.items in
    let is : c.extend_from_slice.new.self.items ≡ old ++ replicate 512 0 = c.in_ok-extend_from_slice.ensures.items in
    record {
      sized = ap length is ∙ length-append old (replicate 512 0) ∙ omega (arith, c.loop-sector.invariant.sized, length-replicate {A = ℕ} 512 0);
      zeros = subst AreZeros (sym is) (zeros_append old (replicate 512 0) c.loop-sector.invariant.zeros (zeros_replicate 512));
    }
