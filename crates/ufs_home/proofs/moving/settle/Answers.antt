use Rattle.std.proofs.Common.{◌≡◌}
use Rattle.ufs_home.specs.Home.{come_on, home_of}
use Rattle.ufs_home.proofs.Stating.{came_so, on_ok_at}
use Rattle.ufs_home.proofs.moving.settle.Goals as goal

pub returns-then-to-eq0-clause-come : goal.returns-then-to-eq0-clause-come
returns-then-to-eq0-clause-come g c =
    came_so (home_of c.args.shelf.now c.args.owners.now.files c.args.boxes.now.items) (home_of c.take_in.new.shelf c.take_in.new.owners.files c.args.boxes.now.items) c.args.parcel c.take_in.result 0 (on_ok_at (λ bs. home_of c.take_in.new.shelf c.take_in.new.owners.files bs ≡ come_on (home_of c.args.shelf.now c.args.owners.now.files bs) c.args.parcel 0) c.take_in.result c.args.boxes.now.items c.take_in.ensures.come) c.take_in.ensures.to

pub returns-clause-come : goal.returns-clause-come
returns-clause-come g c =
    came_so (home_of c.args.shelf.now c.args.owners.now.files c.args.boxes.now.items) (home_of c.pass_on.new.shelf c.pass_on.new.owners.files c.pass_on.new.boxes.items) c.args.parcel c.pass_on.result c.goes_on_to-to.result c.pass_on.ensures.come c.pass_on.ensures.to
