use Rattle.std.proofs.Common.{◌≡◌, ℕ, ◌+◌, ◌*◌, List, ◌++◌, length, take, drop, flat_map, ap, sym, ◌∙◌, arith, length-append}
use Rattle.ufs_layout.specs.DentryForm.{dentry_bytes}
use Rattle.ufs_dirs.proofs.CodecLemmas.{written_next, row_next}
use Rattle.ufs_dirs.proofs.codec.put_slots.Goals as goal

pub loop-k-preserved : goal.loop-k-preserved
loop-k-preserved c =
    let slots = c.args.slots.now in
    let k : ℕ = c.loop-k.k in
    let e = c.index-slots-k.result in
    let more : flat_map dentry_bytes (take (k + 1) slots) ≡ flat_map dentry_bytes (take k slots) ++ dentry_bytes e = row_next dentry_bytes slots k e c.loop-k-test.true c.index-slots-k.is in
    record {
      written = c.put_slot.ensures.spelling ∙ written_next (flat_map dentry_bytes (take k slots)) (dentry_bytes e) c.loop-k.buf c.args.buf.now k c.loop-k.invariant.sized c.loop-k.invariant.written ∙ ap (λ (m : List ℕ). m ++ drop (64 * (k + 1)) c.args.buf.now) (sym more);
      sized = ap (λ (m : List ℕ). length m) more ∙ length-append (flat_map dentry_bytes (take k slots)) (dentry_bytes e) ∙ omega (arith, c.loop-k.invariant.sized, c.put_slot.ensures.size);
    }
