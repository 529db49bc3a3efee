use Rattle.std.proofs.Common.{[], ◌∷◌, Option, Some, None, sym, subst}
use Rattle.ufs_held.specs.Together.{HasThemToo}
use Rattle.ufs_held.proofs.Together.{none_too}
use Rattle.ufs_joint.specs.Cells.{FileCell, View}
use Rattle.ufs_home.specs.Lending.{one_in}
use Rattle.ufs_home.proofs.Joining.{joined_one}
use Rattle.ufs_home.proofs.shelf.join_place.Goals as goal

pub returns-in-Some : goal.returns-in-Some
returns-in-Some g c =
    let file : FileCell = c.in-Some.file in
    let right = c.into_hand.result in
    subst (λ (o : Option FileCell). HasThemToo (one_in o) c.args.hand.now c.join.new.self) (sym c.in-Some.is)
    (subst (λ (v : View). HasThemToo (file ∷ []) c.args.hand.now v) (sym c.join.ensures) (joined_one c.args.hand.now file right c.into_hand.ensures.alone c.into_hand.ensures.calm))

pub returns-in-None : goal.returns-in-None
returns-in-None g c = subst (λ (o : Option FileCell). HasThemToo (one_in o) c.args.hand.now c.args.hand.now) (sym c.in-None.is) (none_too c.args.hand.now)
