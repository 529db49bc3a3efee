use Rattle.std.proofs.Common.{[], refl, ◌++◌, ◌∷◌}
use Rattle.ufs_owner.specs.Owners.{waiting_at}
use Rattle.ufs_home.proofs.Stating.{still_home, waits_known, waits_so, waits_not}
use Rattle.ufs_home.proofs.home.Home.wait.Goals as goal

pub invariant_of-self : goal.invariant_of-self
invariant_of-self g c =
    let f = c.self.inside in
    let h = c.self.invariant in
    still_home g.N.Naming.start f.workers f.owners.files c.wait.new.self.files f.boxes.items f.boxes.items c.self.invariant
    (waits_known f.workers f.owners c.wait.new.self c.args.file (waiting_at f.owners.files c.args.file ++ c.args.client ∷ []) c.wait.result c.wait.ensures.ok c.wait.ensures.err h.known) refl

pub returns-clause-ok : goal.returns-clause-ok
returns-clause-ok g c =
    let f = c.self.inside in
    waits_so c.args.self.now f.shelf f.owners c.wait.new.self f.boxes.items c.self.view_is c.args.file c.args.client c.wait.result c.wait.ensures.ok

pub returns-clause-err : goal.returns-clause-err
returns-clause-err g c =
    let f = c.self.inside in
    waits_not c.args.self.now f.shelf f.owners c.wait.new.self f.boxes.items c.self.view_is c.args.file c.args.client c.wait.result c.wait.ensures.err
