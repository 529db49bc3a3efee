use Rattle.std.proofs.Common.{◌≡◌, ℕ, true, ap, sym, subst, ◌∙◌}
use Rattle.std.specs.FinSet as set
use Rattle.ufs_bitmap.specs.Taking.{set_of}
use Rattle.ufs_file_commits.specs.State.{DurableState, file_committed, state_of}
use Rattle.ufs_file.specs.Hand.{IsOf}
use Rattle.ufs_joint.specs.Cells.{FileCell}
use Rattle.ufs_model.specs.declared.data.Reply.TheVariants as reply
use Rattle.ufs_turns.specs.Lent.{AreTold}
use Rattle.ufs_held.specs.Held.{first_cell}
use Rattle.ufs_held.proofs.After.{kept_value, named_in, seen_value}
use Rattle.ufs_held.proofs.held.HeldFile.sync.Goals as goal

pub sync_lent-requires-clause-guest : goal.sync_lent-requires-clause-guest
sync_lent-requires-clause-guest g c =
    let f = c.requires.guest in
    let named = named_in (state_of c.self.inside.hand c.self.inside.commits) c.self.inside.right c.self.invariant.0 c.args.self.now c.self.view_is in
    (f.0, f.1, f.2, f.3, f.4, λ e. f.5 (e ∙ sym named))

pub sync_lent-requires-clause-named : goal.sync_lent-requires-clause-named
sync_lent-requires-clause-named g c =
    subst (IsOf c.args.ask.desc) (named_in (state_of c.self.inside.hand c.self.inside.commits) c.self.inside.right c.self.invariant.0 c.args.self.now c.self.view_is) c.requires.named

pub sync_lent-requires-clause-born : goal.sync_lent-requires-clause-born
sync_lent-requires-clause-born g c = ap (λ (q : FileCell). q.born) c.self.view_is ∙ c.requires.born

pub returns-clause-guest : goal.returns-clause-guest
returns-clause-guest g c = λ part n pool came off.
    let named = named_in (state_of c.self.inside.hand c.self.inside.commits) c.self.inside.right c.self.invariant.0 c.args.self.now c.self.view_is in
    c.sync_lent.ensures.guest part n pool came (λ e. off (e ∙ sym named))

pub returns-clause-committed : goal.returns-clause-committed
returns-clause-committed g c done =
    let old = seen_value (state_of c.self.inside.hand c.self.inside.commits) c.self.inside.right c.self.invariant.0 c.args.self.now c.self.view_is in
    let new = kept_value (state_of c.sync_lent.new.file c.sync_lent.new.commits) c.sync_lent.new.right c.sync_lent.ensures.held in
    sym new ∙ c.sync_lent.ensures.committed done ∙ ap file_committed old

pub returns-clause-kept : goal.returns-clause-kept
returns-clause-kept g c excused = c.sync_lent.ensures.kept excused ∙ c.self.view_is

pub returns-clause-rest : goal.returns-clause-rest
returns-clause-rest g c =
    let y = state_of c.sync_lent.new.file c.sync_lent.new.commits in
    let new = kept_value y c.sync_lent.new.right c.sync_lent.ensures.held in
    c.sync_lent.ensures.cell ∙ (λ i. record (c.self.view_is i) { value = new i; known = (first_cell y c.sync_lent.new.right.files).known })

pub returns-clause-freed : goal.returns-clause-freed
returns-clause-freed g c done =
    let old = seen_value (state_of c.self.inside.hand c.self.inside.commits) c.self.inside.right c.self.invariant.0 c.args.self.now c.self.view_is in
    subst (λ (q : DurableState). AreTold (g.T.Turns.tells c.args.door.now) (g.T.Turns.tells c.sync_lent.new.door) (λ had has. has ≡ set.union had (set_of q.dropped))) old (c.sync_lent.ensures.freed done)
