use Rattle.ufs_name_tree.proofs.NoteChains.{notes_same}
use Rattle.std.proofs.Common.{◌≡◌, true, ap, sym, ◌∙◌}
use Rattle.ufs_model.specs.History.{is_excused}
use Rattle.ufs_names.proofs.ReplyLemmas.{served_plain}
use Rattle.ufs_names.specs.NamesPart.{NamesPart}
use Rattle.ufs_names.proofs.NotedLemmas.{one_told}
use Rattle.ufs_names.proofs.names.Names.apply.Goals as goal
use Rattle.ufs_names.proofs.names.Names.apply.Goals.{After-answered}

-- what was served is no excuse
plain : (c : After-answered) → is_excused c.answered.result.entry.reply ≡ true → ⊥
plain c e =
    let asked = c.requires.asked in
    served_plain asked.0 c.args.ask c.serve.new.self c.args.files.now c.serve.new.files c.in-Ok.served.reply c.in-Ok.served.desc (c.in-Ok.ensures.ok asked.0 asked.1)
    (sym (ap is_excused c.answered.ensures.reply) ∙ e)

pub returns-in-Ok-clause-cause : goal.returns-in-Ok-clause-cause
returns-in-Ok-clause-cause c x e = absurd (plain c (ap is_excused e))

pub returns-in-Ok-clause-fits : goal.returns-in-Ok-clause-fits
returns-in-Ok-clause-fits c x e t asked = absurd (plain c (ap is_excused e))

pub returns-in-Ok-clause-unchanged : goal.returns-in-Ok-clause-unchanged
returns-in-Ok-clause-unchanged c e = absurd (plain c e)

pub returns-in-Ok-clause-files : goal.returns-in-Ok-clause-files
returns-in-Ok-clause-files c e = absurd (plain c e)

pub returns-in-Ok-clause-pool : goal.returns-in-Ok-clause-pool
returns-in-Ok-clause-pool c e = absurd (plain c e)

pub returns-in-Err-clause-noted : goal.returns-in-Err-clause-noted
returns-in-Err-clause-noted c = notes_same c.args.self.now.tree c.serve.new.self.tree c.args.pool.now (one_told c.args.self.now.tree c.args.self.now.held c.requires.asked.1.part.inodes) (ap (λ (n : NamesPart). n.tree) c.in-Err.ensures.err)
