use Rattle.std.proofs.Common.{ap, nat_eq, sym, ◌∙◌}
use Rattle.std.specs.List.{list_any}
use Rattle.ufs_owner.proofs.AwayLemmas.{all_home, away_has_place, still_left}
use Rattle.ufs_owner.proofs.records.Records.some_out.Goals as goal

pub loop-file-init : goal.loop-file-init
loop-file-init c = λ q away.
    ap (list_any (nat_eq q)) c.into_iter-file-iterator.ensures.into_iter_gives ∙ sym (c.keys-file-items.ensures.has q)
    ∙ away_has_place c.self.inside.places c.self.inside.records c.args.self.now.files (ap (λ k. k.files) c.self.view_is) q away

pub loop-file-preserved : goal.loop-file-preserved
loop-file-preserved c = λ q away.
    still_left c.args.self.now.files c.in-Some.file.now c.next.new.self (sym c.is_away.ensures ∙ c.if-is_away.false) q away
    (ap (list_any (nat_eq q)) (sym c.in-Some.ensures.steps) ∙ c.loop-file.invariant q away)

pub returns-clause-none : goal.returns-clause-none
returns-clause-none c = λ q. all_home c.args.self.now.files (λ r away. ap (list_any (nat_eq r)) (sym c.in-None.ensures.steps.0) ∙ c.loop-file.invariant r away) q
