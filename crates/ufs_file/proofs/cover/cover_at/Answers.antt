use Rattle.std.proofs.Common.{◌∙◌, subst}
use Rattle.std.specs.Prelude.{IfSome}
use Rattle.std.proofs.lemmas.List.Elements.{All-pop}
use Rattle.ufs_file.specs.Table.{IsZeros}
use Rattle.ufs_file.proofs.CoverLemmas.{zeros_itself}
use Rattle.ufs_file.proofs.cover.cover_at.Goals as goal

pub returns-clause-bytes : goal.returns-clause-bytes
returns-clause-bytes c =
    c.fill_at.ensures.bytes
    ∙ zeros_itself c.args.table.now.items c.args.k c.in-Some.bytes.items c.requires.whole c.requires.absent
    (subst (λ r. IfSome r IsZeros) c.in-Some.is (All-pop IsZeros _ _ _ c.pop.ensures.items c.requires.zeros).1)
