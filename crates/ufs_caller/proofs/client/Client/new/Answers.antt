use Rattle.std.proofs.Common.{List, [], None, sym, subst, ◌∙◌}
use Rattle.std.specs.Vec.{vec_capacity}
use Rattle.ufs_fds.specs.Descriptors.{Descs}
use Rattle.ufs_hints.specs.Hints.{Pairs}
use Rattle.ufs_model.specs.declared.data.Op.{Op}
use Rattle.ufs_caller.specs.Tied.{IsTied}
use Rattle.ufs_caller.specs.declared.told.Told.{Told}
use Rattle.ufs_caller.proofs.Beginnings.{starts}
use Rattle.ufs_caller.proofs.client.Client.new.Goals as goal

pub invariant_of-result : goal.invariant_of-result
invariant_of-result g c =
    let r = c.requires in
    let parts = c.into_parts-told.result in
    let e = c.into_parts-told.ensures in
    let room = vec_capacity parts.told in (
      subst (λ (x : (List Told × List Op) × (Descs × Pairs)). IsTied g.N.Naming.start c.args.number x.0.0 x.1.0 x.0.1 c.args.hand None None x.1.1 room) (λ i. ((sym e.told i, sym e.left i), (sym c.new.ensures i, sym e.hints i)))
          (starts g.N.Naming.start c.args.number c.args.hand c.args.room room r.low r.there r.closed r.home e.few e.bounded e.fits),
      record { formed = r.formed; its = r.its },
    )
