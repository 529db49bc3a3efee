use Rattle.ufs_joint.proofs.NamesExcuses.{names_excuses_may_draw}
use Rattle.ufs_joint.proofs.laws.a_names_excuse_is_drawn.Goals as goal

pub returns : goal.returns
returns c = names_excuses_may_draw c.draw_law.ensures.excused
