use Rattle.std.proofs.Common.{◌≡◌, ℕ, List, Some, true, false, ap, sym, subst, ◌∙◌}
use Rattle.ufs_file_commits.specs.Serving.{IsServedKept}
use Rattle.ufs_file_commits.specs.State.{DurableState, state_of, whole_of}
use Rattle.ufs_file.specs.Content.{IsContentOf}
use Rattle.ufs_file.specs.Hand.{FileState, IsOf}
use Rattle.ufs_model.specs.FileCalls.{file_step}
use Rattle.ufs_model.specs.History.{is_excused}
use Rattle.ufs_model.specs.declared.data.Desc.{Desc}
use Rattle.ufs_model.specs.declared.data.Excuse.{Excuse}
use Rattle.ufs_model.specs.declared.data.Reply.TheVariants as reply
use Rattle.ufs_joint.specs.Cells.{FileCell}
use Rattle.ufs_held.specs.Serving.{IsReadFor, IsServeCause, read_as}
use Rattle.ufs_held.proofs.After.{kept_value, named_in, seen_value}
use Rattle.ufs_held.proofs.held.HeldFile.serve.Goals as goal

pub serve_lent-requires-clause-guest : goal.serve_lent-requires-clause-guest
serve_lent-requires-clause-guest g c =
    let f = c.requires.guest in
    let named = named_in (state_of c.self.inside.hand c.self.inside.commits) c.self.inside.right c.self.invariant.0 c.args.self.now c.self.view_is in
    (f.0, f.1, f.2, f.3, λ e. f.4 (e ∙ sym named))

pub serve_lent-requires-clause-named : goal.serve_lent-requires-clause-named
serve_lent-requires-clause-named g c =
    subst (IsOf c.args.ask.desc) (named_in (state_of c.self.inside.hand c.self.inside.commits) c.self.inside.right c.self.invariant.0 c.args.self.now c.self.view_is) c.requires.named

pub returns-clause-guest : goal.returns-clause-guest
returns-clause-guest g c = λ part n came off.
    let named = named_in (state_of c.self.inside.hand c.self.inside.commits) c.self.inside.right c.self.invariant.0 c.args.self.now c.self.view_is in
    c.serve_lent.ensures.guest part n came (λ e. off (e ∙ sym named))

pub returns-clause-number : goal.returns-clause-number
returns-clause-number g c =
    let old = seen_value (state_of c.self.inside.hand c.self.inside.commits) c.self.inside.right c.self.invariant.0 c.args.self.now c.self.view_is in
    let new = kept_value (state_of c.serve_lent.new.file c.serve_lent.new.commits) c.serve_lent.new.right c.serve_lent.ensures.held in
    ap (λ (q : DurableState). q.file.file) (sym new) ∙ c.serve_lent.ensures.number ∙ ap (λ (q : DurableState). q.file.file) old

pub returns-clause-served : goal.returns-clause-served
returns-clause-served g c =
    let old = seen_value (state_of c.self.inside.hand c.self.inside.commits) c.self.inside.right c.self.invariant.0 c.args.self.now c.self.view_is in
    let new = kept_value (state_of c.serve_lent.new.file c.serve_lent.new.commits) c.serve_lent.new.right c.serve_lent.ensures.held in
    let result = c.serve_lent.result in
    let ask = c.args.ask in
    subst (λ (q : DurableState × DurableState). is_excused result.entry.reply ≡ false → (d : Desc) → ask.desc ≡ Some d → (read : FileState) × IsReadFor q.0.file read d ask.op × ((bytes : List ℕ) → IsContentOf read.content bytes → IsServedKept (whole_of bytes (read_as read q.0)) (whole_of (file_step bytes d ask.op).bytes q.1) c.args.pool.now c.serve_lent.new.pool d ask.op result.entry.reply result.desc))
    (λ i. (old i, new i)) c.serve_lent.ensures.served

pub returns-clause-excused : goal.returns-clause-excused
returns-clause-excused g c =
    let old = seen_value (state_of c.self.inside.hand c.self.inside.commits) c.self.inside.right c.self.invariant.0 c.args.self.now c.self.view_is in
    let new = kept_value (state_of c.serve_lent.new.file c.serve_lent.new.commits) c.serve_lent.new.right c.serve_lent.ensures.held in
    let result = c.serve_lent.result in
    let ask = c.args.ask in
    subst (λ (q : DurableState × DurableState). (e : Excuse) → result.entry.reply ≡ reply.Excused e → (d : Desc) → ask.desc ≡ Some d → IsServeCause q.0.file q.1.file c.args.pool.now d ask.op e) (λ i. (old i, new i)) c.serve_lent.ensures.excused

pub returns-clause-read : goal.returns-clause-read
returns-clause-read g c =
    let old = seen_value (state_of c.self.inside.hand c.self.inside.commits) c.self.inside.right c.self.invariant.0 c.args.self.now c.self.view_is in
    let new = kept_value (state_of c.serve_lent.new.file c.serve_lent.new.commits) c.serve_lent.new.right c.serve_lent.ensures.held in
    let result = c.serve_lent.result in
    let ask = c.args.ask in
    subst (λ (q : DurableState × DurableState). is_excused result.entry.reply ≡ true → (d : Desc) → ask.desc ≡ Some d → IsReadFor q.0.file q.1.file d ask.op) (λ i. (old i, new i)) c.serve_lent.ensures.read

pub returns-clause-kept : goal.returns-clause-kept
returns-clause-kept g c excused =
    let old = seen_value (state_of c.self.inside.hand c.self.inside.commits) c.self.inside.right c.self.invariant.0 c.args.self.now c.self.view_is in
    let new = kept_value (state_of c.serve_lent.new.file c.serve_lent.new.commits) c.serve_lent.new.right c.serve_lent.ensures.held in
    c.serve_lent.ensures.kept excused ∙ (λ i. record (c.self.view_is i) { value = read_as (new i).file (old i) })

pub returns-clause-known : goal.returns-clause-known
returns-clause-known g c = c.serve_lent.ensures.known ∙ ap (λ (q : FileCell). q.known) c.self.view_is

pub returns-clause-born : goal.returns-clause-born
returns-clause-born g c = c.serve_lent.ensures.born ∙ ap (λ (q : FileCell). q.born) c.self.view_is
