use Rattle.std.proofs.Common.{◌≡◌, ◌<◌, ◌^◌, ℕ, true, false, ap, refl, sym, subst, ◌∙◌}
use Rattle.std.specs.FinSet as set
use Rattle.ufs_bitmap.specs.Blocks.{BlockSet}
use Rattle.ufs_files.specs.Files.{Files}
use Rattle.ufs_file.specs.Hand.{IsEntryOf}
use Rattle.ufs_model.specs.Excuses.{ExcuseFits}
use Rattle.ufs_model.specs.History.{is_excused}
use Rattle.ufs_model.specs.PosixTree.{PosixTree}
use Rattle.ufs_model.specs.declared.data.Ask.{Ask}
use Rattle.ufs_model.specs.declared.data.Excuse.{Excuse}
use Rattle.ufs_model.specs.declared.data.Reply.{Reply}
use Rattle.ufs_model.specs.declared.data.Reply.TheVariants as answer
use Rattle.ufs_names.specs.Calls.{IsAsked, IsOfNames}
use Rattle.ufs_names.specs.Space.{AreApart, IsCause}
use Rattle.ufs_noted.specs.Noted.{HasApplied, Noted}
use Rattle.ufs_noted.proofs.noted.NotedNames.apply_lent.Goals as goal

-- ---- the first answer is told

pub returns-then-not-lacks_block-clause-cause : goal.returns-then-not-lacks_block-clause-cause
returns-then-not-lacks_block-clause-cause c x is =
    let a = c.apply_once-first.ensures.cause x is in
    (a.0, record { within = a.1; none = λ need had lacks bare. absurd (c.lacks_block.ensures.no c.if-not-lacks_block.true need had (is ∙ ap answer.Excused lacks)) }, a.3)

-- ---- it changed nothing, and the second is

pub apply_once-requires-clause-client : goal.apply_once-requires-clause-client
apply_once-requires-clause-client c =
    let e = c.lacks_block.ensures.yes c.if-not-lacks_block.false in
    let ask = c.again.ensures c.args.ask c.args.by 0 c.apply_once-first.ensures.entry (c.apply_once-first.ensures.desc e) refl refl in
    subst (λ (a : Ask). a.client < 16) (sym ask) c.requires.client

pub apply_once-requires-clause-numbers : goal.apply_once-requires-clause-numbers
apply_once-requires-clause-numbers c =
    let e = c.lacks_block.ensures.yes c.if-not-lacks_block.false in
    subst (λ (n : Noted). n.names.next < 2 ^ 31) (sym (c.apply_once-first.ensures.unchanged e)) c.requires.numbers

pub apply_once-requires-clause-kind : goal.apply_once-requires-clause-kind
apply_once-requires-clause-kind c =
    let e = c.lacks_block.ensures.yes c.if-not-lacks_block.false in
    let ask = c.again.ensures c.args.ask c.args.by 0 c.apply_once-first.ensures.entry (c.apply_once-first.ensures.desc e) refl refl in
    subst IsOfNames (sym ask) c.requires.kind

pub apply_once-requires-clause-asked : goal.apply_once-requires-clause-asked
apply_once-requires-clause-asked c =
    let e = c.lacks_block.ensures.yes c.if-not-lacks_block.false in
    let first = c.apply_once-first.ensures in
    let ask = c.again.ensures c.args.ask c.args.by 0 first.entry (first.desc e) refl refl in
    let a = c.requires.asked in
    (a.0, subst (λ (q : Noted × (Ask × Files)). IsAsked a.0 q.0.names q.1.0 q.1.1) (λ i. (sym (first.unchanged e) i, (sym ask i, sym (first.files e) i))) a.1)

pub apply_once-requires-clause-apart : goal.apply_once-requires-clause-apart
apply_once-requires-clause-apart c lent within =
    let e = c.lacks_block.ensures.yes c.if-not-lacks_block.false in
    let first = c.apply_once-first.ensures in
    subst (λ (q : Noted × Files). AreApart q.0.names.tree.dirs q.1 lent) (λ i. (sym (first.unchanged e) i, sym (first.files e) i)) (c.requires.apart lent (λ block is. ap (λ (s : BlockSet). set.contains s block) (sym (first.untaken e)) ∙ within block is))

pub returns-clause-entry : goal.returns-clause-entry
returns-clause-entry c =
    let e = c.lacks_block.ensures.yes c.if-not-lacks_block.false in
    let ask = c.again.ensures c.args.ask c.args.by 0 c.apply_once-first.ensures.entry (c.apply_once-first.ensures.desc e) refl refl in
    subst (λ (a : Ask). IsEntryOf a c.args.by 0 c.apply_once.result.entry) ask c.apply_once.ensures.entry

pub returns-clause-served : goal.returns-clause-served
returns-clause-served c served =
    let e = c.lacks_block.ensures.yes c.if-not-lacks_block.false in
    let first = c.apply_once-first.ensures in
    let ask = c.again.ensures c.args.ask c.args.by 0 first.entry (first.desc e) refl refl in
    let r = c.apply_once in
    subst (λ (q : (Ask × Noted) × (Files × BlockSet)). HasApplied q.0.0 q.0.1 r.new.self q.1.0 r.new.files q.1.1 r.new.pool r.result.entry.reply r.result.desc)
    (λ i. ((ask i, first.unchanged e i), (first.files e i, first.untaken e i))) (r.ensures.served served)

pub returns-clause-cause : goal.returns-clause-cause
returns-clause-cause c x is =
    let e = c.lacks_block.ensures.yes c.if-not-lacks_block.false in
    let first = c.apply_once-first.ensures in
    let ask = c.again.ensures c.args.ask c.args.by 0 first.entry (first.desc e) refl refl in
    let a = c.apply_once.ensures.cause x is in (
      a.0,
      record {
        within = λ block here. ap (λ (s : BlockSet). set.contains s block) (sym (first.untaken e)) ∙ a.1 block here;
        none = λ need had lacks bare. sym (first.untaken e) ∙ a.2 refl bare;
      },
      subst (λ (q : Noted × Ask). IsCause q.0.names.tree.dirs a.0 q.1.op x) (λ i. (first.unchanged e i, ask i)) a.3,
    )

pub returns-clause-fits : goal.returns-clause-fits
returns-clause-fits c x is =
    let e = c.lacks_block.ensures.yes c.if-not-lacks_block.false in
    let first = c.apply_once-first.ensures in
    let ask = c.again.ensures c.args.ask c.args.by 0 first.entry (first.desc e) refl refl in
    subst (λ (q : Noted × (Ask × Files)). (t : PosixTree) → IsAsked t q.0.names q.1.0 q.1.1 → ExcuseFits t q.1.0.client q.1.0.op x) (λ i. (first.unchanged e i, (ask i, first.files e i))) (c.apply_once.ensures.fits x is)

pub returns-clause-unchanged : goal.returns-clause-unchanged
returns-clause-unchanged c excused = c.apply_once.ensures.unchanged excused ∙ c.apply_once-first.ensures.unchanged (c.lacks_block.ensures.yes c.if-not-lacks_block.false)

pub returns-clause-files : goal.returns-clause-files
returns-clause-files c excused = c.apply_once.ensures.files excused ∙ c.apply_once-first.ensures.files (c.lacks_block.ensures.yes c.if-not-lacks_block.false)

pub returns-clause-untaken : goal.returns-clause-untaken
returns-clause-untaken c excused = c.apply_once.ensures.untaken excused ∙ c.apply_once-first.ensures.untaken (c.lacks_block.ensures.yes c.if-not-lacks_block.false)

pub returns-clause-desc : goal.returns-clause-desc
returns-clause-desc c excused =
    let e = c.lacks_block.ensures.yes c.if-not-lacks_block.false in
    let ask = c.again.ensures c.args.ask c.args.by 0 c.apply_once-first.ensures.entry (c.apply_once-first.ensures.desc e) refl refl in
    c.apply_once.ensures.desc excused ∙ ap (λ (a : Ask). a.desc) ask
