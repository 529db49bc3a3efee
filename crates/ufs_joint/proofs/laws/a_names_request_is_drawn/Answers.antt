use Rattle.ufs_joint.proofs.NamesDraws.{names_requests_may_draw}
use Rattle.ufs_joint.proofs.laws.a_names_request_is_drawn.Goals as goal

pub returns : goal.returns
returns c =
    names_requests_may_draw c.lent_law.ensures.served c.served_names_law.ensures.request c.served_names_law.ensures.parts c.served_names_law.ensures.sound c.beside_law.ensures.files c.args.geometry.now c.names_draw_law.ensures.lent
