use Rattle.std.proofs.Common.{ap, ◌∙◌, ◌==◌, not, length}
use Rattle.std.specs.Prelude.{unwrap_or}
use Rattle.ufs_lease.proofs.NameLemmas.{found_or_len}
use Rattle.ufs_lease.proofs.path.slashes.Goals as goal

pub returns-clause-count : goal.returns-clause-count
returns-clause-count c = c.unwrap_or.ensures ∙ ap (λ o. unwrap_or o (length c.args.text.now)) c.first_name_byte.ensures ∙ found_or_len (λ b. not (b == 47)) c.args.text.now
