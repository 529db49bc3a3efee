use Rattle.std.proofs.Common.{sym, ◌∙◌}
use Rattle.std.specs.Prelude.{map}
use Rattle.ufs_found.proofs.OffLemmas.{shares_is}
use Rattle.ufs_found.proofs.off.shares_number.Goals as goal

pub returns-in-Some : goal.returns-in-Some
returns-in-Some c = c.is_shared.ensures ∙ sym (shares_is (map (λ b. b.now) c.args.numbers.now) c.args.f.now c.in-Some.number (sym c.commit.ensures ∙ c.in-Some.is))
