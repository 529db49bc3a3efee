use Rattle.std.proofs.Common.{sym, ◌∙◌}
use Rattle.ufs_owner.proofs.KeptLemmas.{standing_kept}
use Rattle.ufs_owner.proofs.records.Records.forget_unknown.Goals as goal

pub returns-else-not-knows-clause-files : goal.returns-else-not-knows-clause-files
returns-else-not-knows-clause-files c = standing_kept c.args.self.now.files c.args.file c.requires (sym c.knows.ensures ∙ c.if-not-knows.false)
