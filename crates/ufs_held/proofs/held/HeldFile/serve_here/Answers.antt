use Rattle.std.proofs.Common.{◌≡◌, ℕ, List, Some, None, false, ap, sym, subst, ◌∙◌}
use Rattle.ufs_file_commits.specs.Serving.{IsServedKept}
use Rattle.ufs_file_commits.specs.State.{DurableState, state_of, whole_of}
use Rattle.ufs_file.specs.Content.{IsContentOf}
use Rattle.ufs_file.specs.Hand.{HasNeeded, IsExcusedFor, IsOf, whole_as}
use Rattle.ufs_model.specs.FileCalls.{file_refusal, file_step}
use Rattle.ufs_model.specs.History.{is_excused}
use Rattle.ufs_model.specs.declared.data.Desc.{Desc}
use Rattle.ufs_model.specs.declared.data.Excuse.{Excuse}
use Rattle.ufs_model.specs.declared.data.Reply.TheVariants as reply
use Rattle.ufs_joint.specs.Cells.{FileCell}
use Rattle.ufs_held.proofs.After.{kept_value, named_in, seen_value}
use Rattle.ufs_held.proofs.held.HeldFile.serve_here.Goals as goal

pub serve_ready-requires-clause-guest : goal.serve_ready-requires-clause-guest
serve_ready-requires-clause-guest g c =
    let f = c.requires.guest in
    let named = named_in (state_of c.self.inside.hand c.self.inside.commits) c.self.inside.right c.self.invariant.0 c.args.self.now c.self.view_is in
    (f.0, f.1, f.2, f.3, λ e. f.4 (e ∙ sym named))

pub serve_ready-requires-clause-named : goal.serve_ready-requires-clause-named
serve_ready-requires-clause-named g c =
    subst (IsOf c.args.ask.desc) (named_in (state_of c.self.inside.hand c.self.inside.commits) c.self.inside.right c.self.invariant.0 c.args.self.now c.self.view_is) c.requires.named

pub serve_ready-requires-clause-there : goal.serve_ready-requires-clause-there
serve_ready-requires-clause-there g c =
    let old = seen_value (state_of c.self.inside.hand c.self.inside.commits) c.self.inside.right c.self.invariant.0 c.args.self.now c.self.view_is in
    subst (λ (q : DurableState). (d : Desc) → c.args.ask.desc ≡ Some d → file_refusal q.file.content.bytes d c.args.ask.op ≡ None → HasNeeded q.file.content d c.args.ask.op) (sym old) c.requires.there

pub returns-clause-guest : goal.returns-clause-guest
returns-clause-guest g c = λ part n came off.
    let named = named_in (state_of c.self.inside.hand c.self.inside.commits) c.self.inside.right c.self.invariant.0 c.args.self.now c.self.view_is in
    c.serve_ready.ensures.guest part n came (λ e. off (e ∙ sym named))

pub returns-clause-number : goal.returns-clause-number
returns-clause-number g c =
    let old = seen_value (state_of c.self.inside.hand c.self.inside.commits) c.self.inside.right c.self.invariant.0 c.args.self.now c.self.view_is in
    let new = kept_value (state_of c.serve_ready.new.file c.serve_ready.new.commits) c.serve_ready.new.right c.serve_ready.ensures.held in
    ap (λ (q : DurableState). q.file.file) (sym new) ∙ c.serve_ready.ensures.number ∙ ap (λ (q : DurableState). q.file.file) old

pub returns-clause-served : goal.returns-clause-served
returns-clause-served g c =
    let x = state_of c.self.inside.hand c.self.inside.commits in
    let y = state_of c.serve_ready.new.file c.serve_ready.new.commits in
    let old = seen_value x c.self.inside.right c.self.invariant.0 c.args.self.now c.self.view_is in
    let new = kept_value y c.serve_ready.new.right c.serve_ready.ensures.held in
    let result = c.serve_ready.result in
    let ask = c.args.ask in
    subst (λ (q : DurableState × DurableState). is_excused result.entry.reply ≡ false → (d : Desc) → ask.desc ≡ Some d → (bytes : List ℕ) → IsContentOf q.0.file.content bytes → IsServedKept (whole_of bytes q.0) (whole_of (file_step bytes d ask.op).bytes q.1) c.args.pool.now c.serve_ready.new.pool d ask.op result.entry.reply result.desc)
    (λ i. (old i, new i)) c.serve_ready.ensures.served

pub returns-clause-excused : goal.returns-clause-excused
returns-clause-excused g c =
    let x = state_of c.self.inside.hand c.self.inside.commits in
    let old = seen_value x c.self.inside.right c.self.invariant.0 c.args.self.now c.self.view_is in
    let result = c.serve_ready.result in
    let ask = c.args.ask in
    subst (λ (q : DurableState). (e : Excuse) → result.entry.reply ≡ reply.Excused e → (d : Desc) → ask.desc ≡ Some d → (bytes : List ℕ) → IsContentOf q.file.content bytes → IsExcusedFor (whole_as bytes q.file) d ask.op c.args.pool.now e)
    old c.serve_ready.ensures.excused

pub returns-clause-kept : goal.returns-clause-kept
returns-clause-kept g c excused = c.serve_ready.ensures.kept excused ∙ c.self.view_is

pub returns-clause-known : goal.returns-clause-known
returns-clause-known g c = c.serve_ready.ensures.known ∙ ap (λ (q : FileCell). q.known) c.self.view_is

pub returns-clause-born : goal.returns-clause-born
returns-clause-born g c = c.serve_ready.ensures.born ∙ ap (λ (q : FileCell). q.born) c.self.view_is
