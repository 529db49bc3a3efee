use Rattle.std.proofs.Common.{ℕ, List, arith, take, drop, sym, subst, ◌∙◌}
use Rattle.std.proofs.Math.Seq.{take-add}
use Rattle.std.specs.Io.KnownBytes.{Appends}
use Rattle.ufs_print.proofs.WriteLemmas.{appends_both, appends_kept, front_taken}
use Rattle.ufs_print.proofs.write.write_all.Goals as goal

pub loop-at-preserved : goal.loop-at-preserved
loop-at-preserved g c =
    let at = c.loop-at.at in
    let count = c.in-Ok.count in
    let text = c.args.text.now in
    let held = g.K.Sink.held in
    let count-fits = c.in-Ok.ensures.bound in
    let bytes = subst (λ (p : List ℕ). Appends (held c.loop-at.sink) (held c.write.new.self) p) (c.next_piece.ensures.first count count-fits) c.in-Ok.ensures.bytes in
    let both = appends_both (held c.args.sink.now) (held c.loop-at.sink) (held c.write.new.self) (take at text) (take count (drop at text)) c.loop-at.invariant.written bytes in
    let within = c.next_piece.ensures.within in
    record {
      within = omega (arith, count-fits, within, c.loop-at.invariant.within);
      same = c.in-Ok.ensures.cause.passed ∙ c.loop-at.invariant.same;
      written = subst (λ (xs : List ℕ). Appends (held c.args.sink.now) (held c.write.new.self) xs) (sym (take-add at count text)) both;
    }

pub returns-in-Err-clause-err : goal.returns-in-Err-clause-err
returns-in-Err-clause-err g c =
    let at = c.loop-at.at in
    let text = c.args.text.now in
    let held = g.K.Sink.held in
    (take at text, front_taken at text, appends_kept (held c.args.sink.now) (held c.loop-at.sink) (held c.write.new.self) (take at text) c.loop-at.invariant.written c.in-Err.ensures.bytes)
