use Rattle.std.proofs.Common.{rules, ◌≡◌, ℕ, List, [], ◌++◌, sym, subst}
use Rattle.std.specs.Io.KnownBytes.{Appends}
use Rattle.ufs_print.specs.Pieces.{IsPassed}
use Rattle.ufs_print.proofs.PieceLemmas.{both_written}
use Rattle.ufs_print.proofs.pieces.put.Goals as goal

pub returns-clause-ok : goal.returns-clause-ok
returns-clause-ok g c =
    let held = g.K.Sink.held in
    let kept : c.take.new.self ≡ c.args.waiting.now = search rules in
    let none : c.take-2.new.self ≡ [] = search rules in
    let first = subst (λ (w : List ℕ). Appends (held c.args.sink.now) (held c.write_waiting.new.sink) w) kept c.in_ok-write_waiting.ensures.ok in
    subst (λ (w : List ℕ). IsPassed (held c.args.sink.now) (held c.write_all.new.sink) w (c.args.waiting.now ++ c.args.text.now)) (sym none)
    (both_written (held c.args.sink.now) (held c.write_waiting.new.sink) (held c.write_all.new.sink) c.args.waiting.now c.args.text.now first c.in_ok-write_all.ensures.ok)
