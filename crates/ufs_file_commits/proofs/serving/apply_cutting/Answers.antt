use Rattle.std.proofs.Common.{◌≡◌, ◌∙◌, ◌++◌, List, None, Some, ap, arith, length, subst, sym, take}
use Rattle.ufs_bitmap.specs.Blocks.{BlockSet}
use Rattle.ufs_bitmap.specs.Taking.{IsApart}
use Rattle.ufs_bitmap.proofs.SetLemmas.{has-empty}
use Rattle.ufs_extent.specs.declared.Run.{Run}
use Rattle.ufs_extent.specs.Runs.{blocks_of, last_runs}
use Rattle.ufs_model.specs.FileCalls.{file_refusal}
use Rattle.ufs_model.specs.History.{is_excused}
use Rattle.ufs_model.specs.declared.data.Desc.{Desc}
use Rattle.ufs_model.proofs.PosixReplyLemmas.{plain_unexcused}
use Rattle.ufs_file_commits.specs.Serving.{IsApplied, noted_as}
use Rattle.ufs_file_commits.specs.State.{CommitState, DurableState, state_of}
use Rattle.ufs_file_commits.proofs.Requests.{allowed_where_changed, applied_cutting, applied_not, applied_uncut}
use Rattle.ufs_file_commits.proofs.serving.apply_cutting.Goals as goal
use Rattle.ufs_file_commits.proofs.serving.apply_cutting.Goals.{After-apply-applied, After-is_whole}

-- ---- where memory runs out before the file is asked

module _ (c : After-is_whole) where
  allowed : (d : Desc) → c.args.ask.desc ≡ Some d → file_refusal c.args.hand.now.content.bytes d c.args.ask.op ≡ None
  allowed d is = allowed_where_changed c.args.hand.now d c.args.ask.op c.is_whole.ensures.sized (λ e. let fewer = c.requires.fewer in let kept = c.requires.kept d is in omega (arith, fewer, kept, e))

pub returns-in-Err : goal.returns-in-Err
returns-in-Err c pool =
    let made = c.out_of_memory in
    applied_not (state_of c.args.hand.now c.args.commits.now) pool c.args.ask c.args.by c.args.ticket made.result.entry made.result.desc made.ensures.entry made.ensures.reply made.ensures.desc
    c.requires.noted c.is_whole.ensures.few (allowed (goal.at.returns-in-Err c).After-is_whole)

pub returns-in-Err-drop_too : goal.returns-in-Err-drop_too
returns-in-Err-drop_too c pool =
    let f = state_of c.args.hand.now c.args.commits.now in
    let made = c.out_of_memory-in-Err-drop_too in
    subst (λ (x : CommitState). IsApplied f (state_of c.args.hand.now x) pool pool c.args.ask c.args.by c.args.ticket made.result.entry made.result.desc) (sym c.in-Err-drop_too.ensures.err)
    (applied_not f pool c.args.ask c.args.by c.args.ticket made.result.entry made.result.desc made.ensures.entry made.ensures.reply made.ensures.desc
    c.requires.noted c.is_whole.ensures.few (allowed (goal.at.returns-in-Err-drop_too c).After-is_whole))

-- ---- where the file is asked

pub apply-applied-requires-clause-apart : goal.apply-applied-requires-clause-apart
apply-applied-requires-clause-apart c =
    subst (λ (p : BlockSet). IsApart p (blocks_of c.args.hand.now.extents)) (sym c.in-Ok.ensures.own) (record { absent = λ b e. has-empty b; once = c.requires.noted.apart.once })

module _ (c : After-apply-applied) where
  abbrev was : DurableState
  was = state_of c.args.hand.now c.args.commits.now

  abbrev rest : List Run
  rest = last_runs c.args.hand.now.extents c.args.blocks

  abbrev IsBehind : BlockSet → CommitState → Type 0
  IsBehind pool commits = IsApplied was (state_of c.apply-applied.new.self commits) pool pool c.args.ask c.args.by c.args.ticket c.apply-applied.result.entry c.apply-applied.result.desc

  too : c.drop_too.new.self ≡ record (c.args.commits.now) { dropped = c.args.commits.now.dropped ++ rest }
  too = c.in_default.ensures.ok ∙ ap (λ (rs : List Run). record (c.args.commits.now) { dropped = c.args.commits.now.dropped ++ rs }) (c.as_slice.ensures.items ∙ c.in-Ok.ensures.rest)

pub returns-in-Excused : goal.returns-in-Excused
returns-in-Excused c pool =
    let at = (goal.at.returns-in-Excused c).After-apply-applied in
    let made = c.apply-applied in
    let whole = c.is_whole-in-Excused.ensures in
    let count = ap length (c.as_slice-count.ensures.items ∙ ap (λ (x : CommitState). x.dropped) c.commits.view_is) in
    let dropped : c.drop_first.new.self ≡ record (c.args.commits.now) { dropped = take (length c.args.commits.now.dropped) (c.args.commits.now.dropped ++ rest at) } =
    c.drop_first.ensures ∙ (λ i. record (too at i) { dropped = take (count i) (too at i).dropped }) in
    subst (IsBehind at pool) (sym dropped)
    (applied_uncut (was at) made.new.self c.in-Ok.cut.own made.new.pool c.args.ask c.args.by c.args.ticket made.result.entry made.result.desc c.requires.noted made.ensures
    (record { marks = whole.marks; held = whole.held; written = whole.written }) c.args.blocks c.requires.fewer c.requires.kept pool c.is_whole.ensures.sized (rest at) (ap is_excused c.in-Excused.is))

pub returns : goal.returns
returns c pool =
    let at = (goal.at.returns c).After-apply-applied in
    let made = c.apply-applied in
    let known : c.note.new.self ≡ record (c.args.commits.now) { log = noted_as made.new.self c.args.commits.now.log; dropped = c.args.commits.now.dropped ++ rest at } =
    c.note.ensures.noted ∙ ap (λ (x : CommitState). record x { log = noted_as made.new.self x.log }) (too at) in
    subst (IsBehind at pool) (sym known)
    (applied_cutting (was at) made.new.self c.in-Ok.cut.own made.new.pool c.args.ask c.args.by c.args.ticket made.result.entry made.result.desc c.requires.noted made.ensures
    (record { marks = c.note.ensures.marks; held = c.note.ensures.held; written = c.note.ensures.written }) c.args.blocks c.requires.fewer c.requires.kept pool
    (plain_unexcused made.result.entry.reply c.in_default-reply.not-Excused))
