use Rattle.std.proofs.Common.{not, ap, ◌∙◌}
use Rattle.ufs_damage.specs.Known.{is_among}
use Rattle.ufs_damage.proofs.Known.{among_inserted, among_is}
use Rattle.ufs_damage.proofs.names.note_name.Goals as goal

pub returns-clause-fresh : goal.returns-clause-fresh
returns-clause-fresh c = c.in_ok-fresh.ensures.added ∙ ap not (among_is c.args.known.now.keys c.args.name)

pub returns-clause-noted : goal.returns-clause-noted
returns-clause-noted c other = ap (λ ks. is_among ks other) c.in_ok-fresh.ensures.keys ∙ among_inserted c.args.known.now.keys c.args.name other
