use Rattle.std.proofs.Common.{ap, ◌∙◌, ◌==◌, length}
use Rattle.std.specs.Prelude.{unwrap_or}
use Rattle.ufs_lease.proofs.NameLemmas.{found_or_len}
use Rattle.ufs_lease.proofs.path.name_len.Goals as goal

pub returns-clause-count : goal.returns-clause-count
returns-clause-count c = c.unwrap_or.ensures ∙ ap (λ o. unwrap_or o (length c.args.text.now)) c.first_slash.ensures ∙ found_or_len (λ b. b == 47) c.args.text.now
