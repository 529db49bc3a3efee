use Rattle.std.proofs.Common.{◌≡◌, ◌+◌, ◌∙◌, [], ℕ, List, refl, sym, subst, arith, length, true, false, Bool}
use Rattle.ufs_audit.specs.Ends.{Filled, Moved}
use Rattle.ufs_audit.proofs.ReadLemmas.{IsPartLine, part_none, part_filled, part_more, line_ended, line_last, line_long, moved_longer}
use Rattle.ufs_audit.proofs.reader.next_line.Goals as goal

pub loop-alloc-init : goal.loop-alloc-init
loop-alloc-init g c = record {
  same = refl;
  part = subst (λ (l : List ℕ). IsPartLine (g.S.Source.left c.args.source.now) (g.S.Source.left c.args.source.now) c.args.ahead.now c.args.ahead.now l) (sym c.new-line.ensures.items)
      (part_none (g.S.Source.left c.args.source.now) c.args.ahead.now);
}

pub returns-then-not-branch-clause-line : goal.returns-then-not-branch-clause-line
returns-then-not-branch-clause-line g c =
    let left = g.S.Source.left in
    let i = c.loop-alloc.invariant in
    let filled = subst (λ (b : Bool). Filled (left c.loop-alloc.source) (left c.fill.new.source) c.loop-alloc.ahead c.fill.new.self b) c.if-not-branch.true c.in_ok-fill.ensures.filled in
    line_last (left c.args.source.now) (left c.fill.new.source) c.args.ahead.now c.fill.new.self c.loop-alloc.line.items c.args.most
    (part_filled (left c.args.source.now) (left c.loop-alloc.source) (left c.fill.new.source) c.args.ahead.now c.loop-alloc.ahead c.fill.new.self c.loop-alloc.line.items i.part filled.0) filled.1.1 filled.1.0

pub returns-then-branch-clause-line : goal.returns-then-branch-clause-line
returns-then-branch-clause-line g c =
    let left = g.S.Source.left in
    let i = c.loop-alloc.invariant in
    let filled = subst (λ (b : Bool). Filled (left c.loop-alloc.source) (left c.fill.new.source) c.loop-alloc.ahead c.fill.new.self b) c.if-not-branch.false c.in_ok-fill.ensures.filled in
    let moved = subst (λ (b : Bool). Moved c.fill.new.self c.move_line.new.self c.loop-alloc.line.items c.move_line.new.line.items b) c.if-branch.true c.in_ok-move_line.ensures in
    line_ended (left c.args.source.now) (left c.fill.new.source) c.args.ahead.now c.fill.new.self c.move_line.new.self c.loop-alloc.line.items c.move_line.new.line.items c.args.most
    (part_filled (left c.args.source.now) (left c.loop-alloc.source) (left c.fill.new.source) c.args.ahead.now c.loop-alloc.ahead c.fill.new.self c.loop-alloc.line.items i.part filled.0) moved

pub loop-alloc-preserved : goal.loop-alloc-preserved
loop-alloc-preserved g c =
    let left = g.S.Source.left in
    let i = c.loop-alloc.invariant in
    let filled = subst (λ (b : Bool). Filled (left c.loop-alloc.source) (left c.fill.new.source) c.loop-alloc.ahead c.fill.new.self b) c.if-not-branch.false c.in_ok-fill.ensures.filled in
    let moved = subst (λ (b : Bool). Moved c.fill.new.self c.move_line.new.self c.loop-alloc.line.items c.move_line.new.line.items b) c.if-branch.false c.in_ok-move_line.ensures in
    record {
      same = c.in_ok-fill.ensures.counted (λ bad. cc) ∙ i.same;
      part = part_more (left c.args.source.now) (left c.fill.new.source) c.args.ahead.now c.fill.new.self c.move_line.new.self c.loop-alloc.line.items c.move_line.new.line.items
          (part_filled (left c.args.source.now) (left c.loop-alloc.source) (left c.fill.new.source) c.args.ahead.now c.loop-alloc.ahead c.fill.new.self c.loop-alloc.line.items i.part filled.0) moved;
    }

pub loop-alloc-smaller : goal.loop-alloc-smaller
loop-alloc-smaller g c =
    let left = g.S.Source.left in
    let filled = subst (λ (b : Bool). Filled (left c.loop-alloc.source) (left c.fill.new.source) c.loop-alloc.ahead c.fill.new.self b) c.if-not-branch.false c.in_ok-fill.ensures.filled in
    let moved = subst (λ (b : Bool). Moved c.fill.new.self c.move_line.new.self c.loop-alloc.line.items c.move_line.new.line.items b) c.if-branch.false c.in_ok-move_line.ensures in
    let longer = moved_longer c.fill.new.self c.move_line.new.self c.loop-alloc.line.items c.move_line.new.line.items filled.1 moved in
    let test = c.loop-alloc-test.true in
    omega (arith, longer, test)

pub returns-clause-line : goal.returns-clause-line
returns-clause-line g c =
    let left = g.S.Source.left in
    let i = c.loop-alloc.invariant in
    let long = c.loop-alloc-test.false in
    line_long (left c.args.source.now) (left c.loop-alloc.source) c.args.ahead.now c.loop-alloc.ahead c.loop-alloc.line.items c.args.most i.part (omega (arith, long))
