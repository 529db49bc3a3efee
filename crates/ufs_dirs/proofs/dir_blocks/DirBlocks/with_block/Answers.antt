use Rattle.std.proofs.Common.{◌≡◌, ℕ, ◌+◌, List, [], ◌∷◌, ◌++◌, length, replicate, ap, sym, ◌∙◌, subst, arith, length-set}
use Rattle.ufs_layout.specs.DentryForm.{free_slot}
use Rattle.ufs_dirs.specs.Directory.{Directory, IsDirectory, entry_at}
use Rattle.ufs_dirs.specs.Reading.{IsSlotFault, ReadsSlot, slot_bytes}
use Rattle.ufs_dirs.proofs.KeptLemmas.{size_added}
use Rattle.ufs_dirs.proofs.ReadLemmas.{more_read, none_read, on_ok, slot_piece, whole_read}
use Rattle.ufs_dirs.proofs.dir_blocks.DirBlocks.with_block.Goals as goal

pub loop-k-init : goal.loop-k-init
loop-k-init c =
    let old = c.args.self in
    let new = c.add_block.new.self in
    let added : new ≡ record { blocks = old.blocks ++ c.args.block ∷ []; slots = old.slots ++ replicate 64 free_slot } = on_ok c.add_block.result _ (sym c.is_err.ensures.value ∙ c.if-is_err.false) c.add_block.ensures.ok in
    let is : IsDirectory new = subst IsDirectory c.dir-2.view_is c.dir-2.invariant.0.directory in
    let size : c.len-first.result ≡ length old.slots = omega (arith, c.len-first.ensures, ap (λ (d : Directory). length d.slots) c.dir.view_is) in
    record {
      so_far = none_read old new c.args.block c.args.bytes.now is added;
      first = size;
      size = ap (λ (d : Directory). length d.slots) added ∙ size_added old.slots ∙ omega (arith, size);
    }

pub returns-in-Err-clause-fault : goal.returns-in-Err-clause-fault
returns-in-Err-clause-fault c = (c.loop-k.dir, c.loop-k-test.true, c.loop-k.invariant.so_far, subst (λ (b : List ℕ). IsSlotFault c.loop-k.dir.slots b c.in-Err.fault) (slot_piece c.args.bytes.now c.loop-k.k) c.in-Err.ensures.fault)

pub loop-k-preserved : goal.loop-k-preserved
loop-k-preserved c =
    let old = c.args.self in
    let d = c.loop-k.dir in
    let new = c.read_slot-read.new.self in
    let k : ℕ = c.loop-k.k in
    let place : ℕ = c.len-first.result + k in
    let reads : ReadsSlot d new place (slot_bytes c.args.bytes.now k) = subst (ReadsSlot d new place) (slot_piece c.args.bytes.now k) c.in_default.ensures.ok in
    let at : place ≡ length old.slots + k = omega (arith, c.loop-k.invariant.first) in
    record {
      so_far = more_read old d new c.args.block c.args.bytes.now k place c.loop-k.invariant.so_far c.read_slot-read.ensures.whole at (omega (arith, c.loop-k.invariant.size, c.loop-k-test.true)) reads;
      first = c.loop-k.invariant.first;
      size = ap (λ (x : Directory). length x.slots) reads.slots ∙ length-set d.slots place (entry_at new.slots place) ∙ c.loop-k.invariant.size;
    }

pub returns-clause-bytes : goal.returns-clause-bytes
returns-clause-bytes c =
    let is : IsDirectory c.args.self = subst IsDirectory c.dir.view_is c.dir.invariant.0.directory in
    whole_read c.args.self c.loop-k.dir c.args.block c.args.bytes.now c.loop-k.k is c.requires.sized (omega (arith, c.loop-k-test.false, c.loop-k.auto.k-end)) c.loop-k.invariant.so_far
