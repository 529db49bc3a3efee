use Rattle.std.proofs.Common.{◌≡◌, ◌++◌, ◌∷◌, [], ℕ, List, length, arith, refl, ap, sym, subst, ◌∙◌, ◌<◌, ◌≤◌, ◌+◌, ◌⊎◌, inl, inr, rules, true, false}
use Rattle.ufs_audit.specs.Audit.{text_of, IsEnded}
use Rattle.ufs_lines.specs.Replies.{IsReplyLine}
use Rattle.ufs_audit.specs.Ends.{Reads}
use Rattle.ufs_audit.proofs.ReadLemmas.{reads_none, reads_on, reads_as, passes_on}
use Rattle.ufs_audit.proofs.AnswerLemmas.{AreOwn, own_begins, own_more, own_lacks, own_whole, text_of-push}
use Rattle.ufs_audit.proofs.answers.own_answers.Goals as goal

-- of the slice that is looked at, and of the number that is counted
as_read : (client seq index : ℕ) (a b : List ℕ) → a ≡ b → seq ≡ index → IsEnded b × IsReplyLine client index b → IsEnded a × IsReplyLine client seq a
as_read client seq index a b same numbered is =
    subst (λ (n : ℕ). IsEnded a × IsReplyLine client n a) (sym numbered) (subst (λ (l : List ℕ). IsEnded l × IsReplyLine client index l) (sym same) is)

pub loop-op-init : goal.loop-op-init
loop-op-init g c = record {
  same = refl;
  reads = subst (λ (l : List (List ℕ)). Reads (g.S.Source.left c.args.source.now) (g.S.Source.left c.args.source.now) c.args.ahead.now c.args.ahead.now c.args.room.now c.args.room.now (text_of l)) (sym c.new-lines.ensures.items)
      (reads_none (g.S.Source.left c.args.source.now) c.args.ahead.now c.args.room.now);
  own = subst (AreOwn c.args.client 0) (sym c.new-lines.ensures.items) (own_begins c.args.client);
  numbered = refl;
}

pub returns-in_err-line-clause-long : goal.returns-in_err-line-clause-long
returns-in_err-line-clause-long g c is =
    let left = g.S.Source.left in
    passes_on (left c.args.source.now) (left c.loop-op.source) (left c.text_line.new.source) c.args.ahead.now c.loop-op.ahead c.text_line.new.ahead c.args.room.now c.loop-op.room
    (text_of c.loop-op.lines.items) c.loop-op.invariant.reads (c.in_err-line.ensures.long (search rules))

pub returns-then-not-branch-clause-found : goal.returns-then-not-branch-clause-found
returns-then-not-branch-clause-found g c =
    let left = g.S.Source.left in
    let i = c.loop-op.invariant in
    let line = c.in_ok-line.line.items in
    let items = ap length c.as_slice-op-items.ensures.value in
    let less = c.loop-op-test.true in (
      text_of c.loop-op.lines.items ++ line,
      reads_on (left c.args.source.now) (left c.loop-op.source) (left c.text_line.new.source) c.args.ahead.now c.loop-op.ahead c.text_line.new.ahead c.args.room.now c.loop-op.room c.text_line.new.room
          (text_of c.loop-op.lines.items) line i.reads c.in_ok-line.ensures.line.reads,
      own_lacks c.args.client c.loop-op._op-index c.args.requests.now c.loop-op.lines.items line (left c.text_line.new.source) c.text_line.new.ahead i.own (omega (arith, items, less)) c.in_ok-line.ensures.line.stops
          (λ is. let t : true ≡ false = sym (c.in_ok-is_answer.ensures.1 (as_read c.args.client c.loop-op.seq c.loop-op._op-index c.as_slice.result.now line c.as_slice.ensures.value i.numbered is)) ∙ c.if-not-branch.true in cc),
    )

pub loop-op-preserved : goal.loop-op-preserved
loop-op-preserved g c =
    let left = g.S.Source.left in
    let i = c.loop-op.invariant in
    let line = c.in_ok-line.line.items in
    let n = i.numbered in
    let is = as_read c.args.client c.loop-op._op-index c.loop-op.seq line c.as_slice.result.now (sym c.as_slice.ensures.value) (sym n) (c.in_ok-is_answer.ensures.0 c.if-not-branch.false) in
    let pushed : c.push.new.self.items ≡ c.loop-op.lines.items ++ line ∷ [] = c.in_ok-push.ensures.items ∙ ap (λ (l : List ℕ). c.loop-op.lines.items ++ l ∷ []) c.from_vec.ensures in
    record {
      same = c.in_ok-line.ensures.counted (λ bad. cc) ∙ i.same;
      reads = reads_as (left c.args.source.now) (left c.text_line.new.source) c.args.ahead.now c.text_line.new.ahead c.args.room.now c.text_line.new.room
          (text_of c.loop-op.lines.items ++ line) (text_of c.push.new.self.items) (sym (text_of-push c.loop-op.lines.items line) ∙ ap text_of (sym pushed))
          (reads_on (left c.args.source.now) (left c.loop-op.source) (left c.text_line.new.source) c.args.ahead.now c.loop-op.ahead c.text_line.new.ahead c.args.room.now c.loop-op.room c.text_line.new.room
          (text_of c.loop-op.lines.items) line i.reads c.in_ok-line.ensures.line.reads);
      own = subst (AreOwn c.args.client (c.loop-op._op-index + 1)) (sym pushed) (own_more c.args.client c.loop-op._op-index c.loop-op.lines.items line i.own is.0 is.1);
      numbered = omega (arith, n);
    }

pub returns-clause-found : goal.returns-clause-found
returns-clause-found g c =
    let i = c.loop-op.invariant in
    let items = ap length c.as_slice-op-items.ensures.value in
    let past = c.loop-op-test.false in
    let most = c.loop-op.auto._op-index-end in
    (i.reads, own_whole c.args.client c.loop-op._op-index c.args.requests.now c.loop-op.lines.items i.own (omega (arith, items, past, most)))
