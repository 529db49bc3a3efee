use Rattle.std.proofs.Common.{arith, rules, ◌≡◌, ◌++◌, ℕ, List, ap, ◌∙◌, subst, take}
use Rattle.std.specs.Prelude.{flat_map}
use Rattle.std.proofs.lemmas.List.{take_all}
use Rattle.ufs_print.specs.Pieces.{GotFront, IsPassed}
use Rattle.ufs_print.proofs.DamageLemmas.{lines_own, on_err, own_line, told_lines}
use Rattle.ufs_print.proofs.ListLines.{cut_there, more_put}
use Rattle.ufs_print.proofs.damage_lines.put_damage.Goals as goal

pub loop-damage-preserved : goal.loop-damage-preserved
loop-damage-preserved g c =
    let held = g.K.Sink.held in
    let line = c.as_bytes.ensures.value ∙ (search rules) ∙ c.damage_line-line.ensures in
    record {
      same = c.in_ok-put.ensures.cause.passed ∙ c.loop-damage.invariant.same;
      put = more_put own_line c.args.list.now c.loop-damage.damage-index _ c.loop-damage-test.true (search rules)
          (held c.args.sink.now) (held c.loop-damage.sink) (held c.put.new.sink) c.args.waiting.now c.loop-damage.waiting c.put.new.waiting c.loop-damage.invariant.put
          (subst (λ (text : List ℕ). IsPassed (held c.loop-damage.sink) (held c.put.new.sink) c.put.new.waiting (c.loop-damage.waiting ++ text)) line c.in_ok-put.ensures.ok);
    }

pub returns-in_err-put-clause-err : goal.returns-in_err-put-clause-err
returns-in_err-put-clause-err g c =
    let held = g.K.Sink.held in
    let line = c.as_bytes.ensures.value ∙ (search rules) ∙ c.damage_line-line.ensures in
    on_err c.from_residual.result (subst (λ (text : List ℕ). GotFront (held c.args.sink.now) (held c.put.new.sink) (c.args.waiting.now ++ text)) (lines_own c.args.list.now)
    (cut_there own_line c.args.list.now c.loop-damage.damage-index _ c.loop-damage-test.true (search rules)
    (held c.args.sink.now) (held c.loop-damage.sink) (held c.put.new.sink) c.args.waiting.now c.loop-damage.waiting c.put.new.waiting c.loop-damage.invariant.put
    (subst (λ (text : List ℕ). GotFront (held c.loop-damage.sink) (held c.put.new.sink) (c.loop-damage.waiting ++ text)) line c.in_err-put.ensures.err)))

pub returns-clause-ok : goal.returns-clause-ok
returns-clause-ok g c =
    let held = g.K.Sink.held in
    let ds = c.args.list.now in
    let all : flat_map own_line (take c.loop-damage.damage-index ds) ≡ told_lines ds = ap (flat_map own_line) (take_all c.loop-damage.damage-index ds (omega (arith, c.loop-damage-test.false))) ∙ lines_own ds in
    subst (λ (text : List ℕ). IsPassed (held c.args.sink.now) (held c.loop-damage.sink) c.loop-damage.waiting (c.args.waiting.now ++ text)) all c.loop-damage.invariant.put
