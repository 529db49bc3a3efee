use Rattle.std.proofs.Common.{◌≡◌, ℕ, ◌/◌, ◌%◌, ◌≤◌, ◌-◌, true, false, eq-eqb, get_or, ap, sym, ◌∙◌, arith}
use Rattle.std.specs.Int.{bit_at}
use Rattle.std.specs.FinSet as set
use Rattle.std.proofs.lemmas.Bool.{ne_eqb}
use Rattle.std.proofs.lemmas.Nat.Bits.{shr_and_one}
use Rattle.ufs_bitmap.specs.Blocks.{BlockSet}
use Rattle.ufs_bitmap.specs.Words.{Members}
use Rattle.ufs_bitmap.specs.Space.{is_clear}
use Rattle.ufs_bitmap.proofs.SetLemmas.{IsPicked, picked_none, picked_one, picked_not, picked_all, picked_between}
use Rattle.ufs_bitmap.proofs.free_space.Bitmap.from_bytes.Goals as goal
use Rattle.ufs_bitmap.proofs.free_space.Bitmap.from_bytes.Goals.{then-bytes-block-eq0, else-bytes-block-eq0}

pub loop-block-init : goal.loop-block-init
loop-block-init c = record {
  room = omega (arith, c.in_ok-free.ensures.limit, c.div_ceil.ensures);
  not_past = omega arith;
  so_far = λ b. ap (λ (s : BlockSet). set.contains s b) c.in_ok-free.ensures.blocks ∙ picked_none (is_clear c.args.bytes.now) c.args.first b;
}

pub loop-block-preserved : goal.loop-block-preserved
loop-block-preserved c =
    let e : ℕ = c.loop-block.block in
    let test = is_clear c.args.bytes.now in
    let from : c.args.first ≤ e = c.loop-block.auto.block in
    record {
      room = elim c.if-bytes-block-eq0.branch [
        | then-bytes-block-eq0 w ↦ omega (arith, c.loop-block.invariant.room, ap (λ (m : Members). m.limit) (w.free-is ∙ w.insert.ensures))
        | else-bytes-block-eq0 w ↦ omega (arith, c.loop-block.invariant.room, ap (λ (m : Members). m.limit) w.free-is)
      ];
      not_past = omega arith;
      so_far = elim c.if-bytes-block-eq0.branch [
        | then-bytes-block-eq0 w ↦ λ b.
            let pass : test e ≡ true = eq-eqb (bit_at (get_or c.args.bytes.now (e / 8) 0) (e % 8)) 0 (sym (shr_and_one (get_or c.args.bytes.now (e / 8) 0) (e % 8)) ∙ w.if-bytes-block-eq0.true) in
            ap (λ (m : Members). set.contains m.blocks b) (w.free-is ∙ w.insert.ensures) ∙ picked_one c.loop-block.free.blocks test c.args.first e from pass c.loop-block.invariant.so_far b
        | else-bytes-block-eq0 w ↦ λ b.
            let fails : test e ≡ false = ne_eqb (bit_at (get_or c.args.bytes.now (e / 8) 0) (e % 8)) 0 (λ z. w.if-bytes-block-eq0.false (shr_and_one (get_or c.args.bytes.now (e / 8) 0) (e % 8) ∙ z)) in
            ap (λ (m : Members). set.contains m.blocks b) w.free-is ∙ picked_not c.loop-block.free.blocks test c.args.first e fails c.loop-block.invariant.so_far b
      ];
    }

-- all blocks of the range have been looked at
all_seen : (c : goal.After-loop-block) → IsPicked c.loop-block.free.blocks (is_clear c.args.bytes.now) c.args.first c.args.blocks
all_seen c =
    let e : c.loop-block.block - c.args.first ≡ c.args.blocks - c.args.first = omega arith in
    picked_all c.loop-block.free.blocks (is_clear c.args.bytes.now) c.args.first c.loop-block.block c.args.blocks c.loop-block.auto.block e c.loop-block.invariant.so_far

pub invariant_of-result : goal.invariant_of-result
invariant_of-result c =
    (c.requires.small, c.loop-block.invariant.room, picked_between c.loop-block.free.blocks (is_clear c.args.bytes.now) c.args.first c.args.blocks (all_seen c))

pub returns-clause-free : goal.returns-clause-free
returns-clause-free c = all_seen c
