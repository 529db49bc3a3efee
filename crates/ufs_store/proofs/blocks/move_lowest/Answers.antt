use Rattle.std.proofs.Common.{◌≡◌, ◌-◌, inr, ap, refl, sym, subst}
use Rattle.std.specs.FinSet as set
use Rattle.ufs_extent.specs.declared.Run.{Run}
use Rattle.ufs_bitmap.specs.Blocks.{BlockSet, run_set}
use Rattle.ufs_bitmap.specs.Space.{Space}
use Rattle.ufs_store.specs.Blocks.{MovesLowest}
use Rattle.ufs_store.proofs.Moves.{IsMoving, starts_moving, goes_on_moving, none_gained, ends_moving, ranged}
use Rattle.ufs_store.proofs.blocks.move_lowest.Goals as goal

pub loop-left-init : goal.loop-left-init
loop-left-init c = record { range = refl; moving = starts_moving c.args.want c.args.from.now.free c.args.pool.now }

pub give-requires-clause-apart : goal.give-requires-clause-apart
give-requires-clause-apart c =
    none_gained c.args.want c.loop-left.left c.args.from.now.free c.loop-left.from.free c.args.pool.now c.loop-left.pool c.in-Some.run' c.loop-left.invariant.moving c.in-Some.ensures.run c.in-Some.ensures.lowest c.requires

pub loop-left-preserved : goal.loop-left-preserved
loop-left-preserved c =
    let r : Run = c.in-Some.run' in
    let kept : BlockSet = c.loop-left.from.free in
    let pool : BlockSet = c.loop-left.pool in
    let taken : c.take_run.new.self ≡ record (c.loop-left.from) { free = set.difference kept (run_set r) } = c.in-Some.ensures.taken in
    let fewer : c.take_run.new.self.free ≡ set.difference kept (run_set r) = ap (λ (s : Space). s.free) taken in
    record {
      range = ranged c.args.from.now c.loop-left.from c.take_run.new.self (set.difference kept (run_set r)) c.loop-left.invariant.range taken;
      moving = subst (λ (x : BlockSet × BlockSet). IsMoving c.args.want (c.loop-left.left - r.length) c.args.from.now.free x.0 c.args.pool.now x.1) (λ i. (sym fewer i, sym c.give.ensures i))
          (goes_on_moving c.args.want c.loop-left.left c.args.from.now.free kept c.args.pool.now pool r c.loop-left.invariant.moving c.in-Some.ensures.run c.in-Some.ensures.lowest);
    }

pub returns-in_default-clause-moved : goal.returns-in_default-clause-moved
returns-in_default-clause-moved c =
    let kept : BlockSet = c.loop-left.from.free in
    let none : kept ≡ set.empty = c.in_default.ensures.none.0 refl in
    subst (λ (x : BlockSet). MovesLowest c.args.want c.args.from.now.free x c.args.pool.now c.loop-left.pool) (sym (ap (λ (s : Space). s.free) c.in_default.ensures.same))
    (ends_moving c.args.want c.loop-left.left c.args.from.now.free kept c.args.pool.now c.loop-left.pool c.loop-left.invariant.moving (inr none))
