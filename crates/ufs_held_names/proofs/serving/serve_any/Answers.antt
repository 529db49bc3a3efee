use Rattle.std.proofs.Common.{None, Option, Some, subst}
use Rattle.ufs_joint.specs.Cells.{FileCell}
use Rattle.ufs_held_names.specs.Asked.{IsNamedApart, IsNeeded, number_of}
use Rattle.ufs_held_names.proofs.serving.serve_any.Goals as goal

pub serve_with-requires-clause-guest : goal.serve_with-requires-clause-guest
serve_with-requires-clause-guest g c =
    let f = c.requires.guest in
    (f.0, f.1, f.2, f.3, subst (IsNamedApart f.1 c.args.noted.now.names.next) c.in-Some.is f.4)

pub serve_with-requires-clause-needed : goal.serve_with-requires-clause-needed
serve_with-requires-clause-needed g c = subst (λ (o : Option FileCell). IsNeeded c.args.noted.now.names c.args.ask (number_of o)) c.in-Some.is c.requires.needed

pub serve_alone-requires-clause-guest : goal.serve_alone-requires-clause-guest
serve_alone-requires-clause-guest g c =
    let f = c.requires.guest in
    (f.0, f.1, f.2, f.3, subst (IsNamedApart f.1 c.args.noted.now.names.next) c.in-None.is f.4)
