use Rattle.std.proofs.Common.{◌≡◌, ◌++◌, [], ℕ, List, refl, sym, ◌∙◌, false, true, rules, subst, ◌+◌, ◌<◌, Bool, cond}
use Rattle.ufs_audit.specs.Ends.{TextLine}
use Rattle.ufs_audit.proofs.ReadLemmas.{reads_none, passes_on, rest_step}
use Rattle.ufs_audit.proofs.auditor.read_rest.Goals as goal

pub loop-more-init : goal.loop-more-init
loop-more-init g c = record {
  same = refl;
  text = [];
  reads = reads_none (g.S.Source.left c.args.source.now) c.args.ahead.now c.args.room.now;
  last = λ bad. cc;
}

pub loop-more-preserved : goal.loop-more-preserved
loop-more-preserved g c =
    let left = g.S.Source.left in
    let i = c.loop-more.invariant in
    let line = subst (λ (l : List ℕ). TextLine (left c.loop-more.source) (left c.text_line.new.source) c.loop-more.ahead c.text_line.new.ahead c.loop-more.room c.text_line.new.room l) (sym c.as_slice.ensures.value) c.in_ok-line.ensures.line in
    let step = rest_step (left c.args.source.now) (left c.loop-more.source) (left c.text_line.new.source) c.args.ahead.now c.loop-more.ahead c.text_line.new.ahead c.args.room.now c.loop-more.room c.text_line.new.room
    i.text c.as_slice.result.now c.without_last.result c.is_some-more.result i.reads line c.without_last.ensures.some c.without_last.ensures.none c.is_some-more.ensures in
    record {
      same = c.in_ok-line.ensures.counted (λ bad. cc) ∙ i.same;
      text = i.text ++ c.as_slice.result.now;
      reads = step.reads;
      last = step.last;
    }

pub loop-more-smaller : goal.loop-more-smaller
loop-more-smaller g c =
    let left = g.S.Source.left in
    let i = c.loop-more.invariant in
    let line = subst (λ (l : List ℕ). TextLine (left c.loop-more.source) (left c.text_line.new.source) c.loop-more.ahead c.text_line.new.ahead c.loop-more.room c.text_line.new.room l) (sym c.as_slice.ensures.value) c.in_ok-line.ensures.line in
    subst (λ (more : Bool). cond c.is_some-more.result (c.text_line.new.room + 1) 0 < cond more (c.loop-more.room + 1) 0) (sym c.loop-more-test.true)
    (rest_step (left c.args.source.now) (left c.loop-more.source) (left c.text_line.new.source) c.args.ahead.now c.loop-more.ahead c.text_line.new.ahead c.args.room.now c.loop-more.room c.text_line.new.room
    i.text c.as_slice.result.now c.without_last.result c.is_some-more.result i.reads line c.without_last.ensures.some c.without_last.ensures.none c.is_some-more.ensures).smaller

pub returns-in_err-line-clause-long : goal.returns-in_err-line-clause-long
returns-in_err-line-clause-long g c is =
    let left = g.S.Source.left in
    let i = c.loop-more.invariant in
    passes_on (left c.args.source.now) (left c.loop-more.source) (left c.text_line.new.source) c.args.ahead.now c.loop-more.ahead c.text_line.new.ahead c.args.room.now c.loop-more.room i.text i.reads
    (c.in_err-line.ensures.long (search rules))

pub returns-clause-rest : goal.returns-clause-rest
returns-clause-rest g c = let i = c.loop-more.invariant in (i.text, i.reads, i.last c.loop-more-test.false)
