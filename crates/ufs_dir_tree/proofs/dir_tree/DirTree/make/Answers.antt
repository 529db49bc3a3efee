use Rattle.std.proofs.Common.{ap, sym, refl, ◌∙◌}
use Rattle.ufs_dir_tree.specs.DirTable.{DirTable}
use Rattle.ufs_dir_tree.proofs.SpaceLemmas.{empty_of_none, some_of_len}
use Rattle.ufs_dir_tree.proofs.GivesRoom.{space_cause}
use Rattle.ufs_dir_tree.proofs.dir_tree.DirTree.make.Goals as goal

pub returns-then-count-eq0-clause-cause : goal.returns-then-count-eq0-clause-cause
returns-then-count-eq0-clause-cause c = sym (ap (λ (t : DirTable). t.free) c.self.view_is) ∙ empty_of_none c.self.inside.free.free (sym c.count.ensures ∙ c.if-count-eq0.true)

pub take-requires : goal.take-requires
take-requires c e =
    some_of_len c.self.inside.free.free (λ none. c.if-count-eq0.false (c.count.ensures ∙ none)) (ap (λ (t : DirTable). t.free) c.self.view_is ∙ sym c.make_room.ensures.free ∙ e)

pub returns-in-Err-clause-cause : goal.returns-in-Err-clause-cause
returns-in-Err-clause-cause c =
    space_cause c.args.self.now c.args.dir c.args.pool.now c.in-Err.excuse
    (λ e. some_of_len c.self.inside.free.free (λ none. c.if-count-eq0.false (c.count.ensures ∙ none)) (ap (λ (t : DirTable). t.free) c.self.view_is ∙ e))
    c.in-Err.ensures.cause

pub returns-then-count-eq0-clause-listed : goal.returns-then-count-eq0-clause-listed
returns-then-count-eq0-clause-listed c other = absurd (other refl)
