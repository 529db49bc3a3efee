use Rattle.std.proofs.Common.{ℕ, List, [], ◌∷◌, ◌++◌, ap, ◌∙◌, arith}
use Rattle.std.specs.FinMap as map
use Rattle.ufs_model.specs.Order.{path_cmp}
use Rattle.ufs_walk.specs.Waits.{left}
use Rattle.ufs_walk.proofs.Waits.{turn_takes, none_left, none_noted, one_noted, all_noted, one_fewer}
use Rattle.ufs_walk.proofs.walk.note_all.Goals as goal

pub loop-next-init : goal.loop-next-init
loop-next-init c es is = none_noted (left c.args.dirs.now c.args.index.now c.args.waiting.items) es c.args.found.now is

pub loop-next-smaller : goal.loop-next-smaller
loop-next-smaller c =
    one_fewer _ _ (c.in-Some.next.path.items, c.in-Some.next.inode)
    (turn_takes c.args.dirs.now c.args.index.now c.pop.new.self.items c.loop-next.waiting.items c.push_below.new.waiting.items c.in-Some.next c.as_slice-path.result.now c.in-Some.ensures.items c.as_slice-path.ensures.value c.in_ok-push_below.ensures)

pub loop-next-preserved : goal.loop-next-preserved
loop-next-preserved c es is =
    let w = c.loop-next.invariant es is in
    one_noted (left c.args.dirs.now c.args.index.now c.args.waiting.items) es c.loop-next.found c.note.new.self (c.in-Some.next.path.items, c.in-Some.next.inode) (left c.args.dirs.now c.args.index.now c.loop-next.waiting.items) (left c.args.dirs.now c.args.index.now c.push_below.new.waiting.items) w
    (turn_takes c.args.dirs.now c.args.index.now c.pop.new.self.items c.loop-next.waiting.items c.push_below.new.waiting.items c.in-Some.next c.as_slice-path.result.now c.in-Some.ensures.items c.as_slice-path.ensures.value c.in_ok-push_below.ensures)
    (c.in_ok-note.ensures (es ++ w.done) w.noted ∙ ap (λ (p : List ℕ). map.from_entries {R = path_cmp} ((es ++ w.done) ++ (p, c.in-Some.next.inode) ∷ [])) c.as_slice-path.ensures.value)

pub returns : goal.returns
returns c es is =
    let none = c.in_default.ensures.cases.0 in
    let counted = c.loop-next.waiting.ok.0 in
    all_noted (left c.args.dirs.now c.args.index.now c.args.waiting.items) es c.loop-next.found (left c.args.dirs.now c.args.index.now c.loop-next.waiting.items) (c.loop-next.invariant es is)
    (none_left c.args.dirs.now c.args.index.now c.loop-next.waiting.items (omega (arith, none, counted)))
