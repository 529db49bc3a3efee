use Rattle.ufs_caller.proofs.Rooms.{renews}
use Rattle.ufs_caller.proofs.client.renew.Goals as goal

pub returns : goal.returns
returns c = renews c.renew.result c.args.file c.args.server c.args.hints.now c.renew.new.self c.renew.ensures.kept c.renew.ensures.lacked c.renew.ensures.had
