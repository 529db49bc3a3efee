use Rattle.std.proofs.Common.{◌≡◌, Option, Some, ap, arith, is_some, refl, sym, subst, ◌∙◌}
use Rattle.std.specs.Prelude.{IfSome, IsSome}
use Rattle.ufs_joint.specs.Cells.{FileCell}
use Rattle.ufs_model.specs.declared.data.Actor.TheVariants.{Worker}
use Rattle.ufs_msg.specs.Answers.{Told}
use Rattle.ufs_msg.specs.declared.answer.Answer.TheVariants as answer
use Rattle.ufs_serving.specs.Serving.{IsServedBy}
use Rattle.ufs_worker.specs.Worker.{filled, placed}
use Rattle.ufs_worker.proofs.Places.{flat, get-filled, numbered_set, of_cell, set-filled, some_is, told, written}
use Rattle.ufs_worker.proofs.shelf.Shelf.serve.Goals as goal

pub unreachable-requires : goal.unreachable-requires
unreachable-requires g c =
    let e = ap is_some (told c.args.self.now c.self.inside.leaving.items c.self.inside.places c.self.view_is c.args.file ∙ ap flat (sym c.in-None.ensures.value)) in
    let h = c.requires.here in
    cc

pub serve_in-requires-clause-here : goal.serve_in-requires-clause-here
serve_in-requires-clause-here g c =
    subst IsSome (told c.args.self.now c.self.inside.leaving.items c.self.inside.places c.self.view_is c.args.file ∙ ap flat (sym c.in-Some.ensures.value)) c.requires.here

pub serve_in-requires-clause-named : goal.serve_in-requires-clause-named
serve_in-requires-clause-named g c =
    of_cell c.in-Some.place.now c.args.request.ask.desc c.args.file c.requires.named (λ x is.
    c.self.invariant.0 c.args.file x (get-filled c.self.inside.places.entries c.args.file ∙ ap flat (sym c.in-Some.ensures.value) ∙ is))

pub returns-clause-served : goal.returns-clause-served
returns-clause-served g c = λ x at.
    let a = c.args.self.now in
    let es = c.self.inside.places in
    let letters = c.self.inside.leaving.items in
    let q = c.serve_in.new.place in
    let here : c.in-Some.place.now ≡ Some x = ap flat c.in-Some.ensures.value ∙ sym (told a letters es c.self.view_is c.args.file) ∙ at in
    let s = subst (λ (o : Option FileCell). IfSome o (λ k. (d : FileCell) × (t : Told) × (c.serve_in.result ≡ answer.Served t)
    × IsServedBy g.N.Naming.start.is_visible (g.T.Turns.tells c.args.door.now) (g.T.Turns.tells c.serve_in.new.door) (Worker c.args.me) k d c.args.pool.now c.serve_in.new.pool c.args.request.ask t × (q ≡ Some d))) here c.serve_in.ensures.served in (
      s.0,
      s.1,
      s.2,
      s.3,
      written a letters es c.self.view_is c.args.file (c.get_mut.follows.lender q).entries c.in-Some.place.now q c.in-Some.ensures.value (c.get_mut.follows.holds q).0 ∙ ap (λ (o : Option FileCell). record a { files = placed a.files c.args.file o }) s.4,
    )

pub invariant_of-self : goal.invariant_of-self
invariant_of-self g c =
    let es = c.self.inside.places.entries in
    let q = c.serve_in.new.place in
    let p = some_is c.in-Some.place.now (subst IsSome (told c.args.self.now c.self.inside.leaving.items c.self.inside.places c.self.view_is c.args.file ∙ ap flat (sym c.in-Some.ensures.value)) c.requires.here) in
    let s = subst (λ (o : Option FileCell). IfSome o (λ k. (d : FileCell) × (t : Told) × (c.serve_in.result ≡ answer.Served t)
    × IsServedBy g.N.Naming.start.is_visible (g.T.Turns.tells c.args.door.now) (g.T.Turns.tells c.serve_in.new.door) (Worker c.args.me) k d c.args.pool.now c.serve_in.new.pool c.args.request.ask t × (q ≡ Some d))) p.1 c.serve_in.ensures.served in
    let number = c.self.invariant.0 c.args.file p.0 (get-filled es c.args.file ∙ ap flat (sym c.in-Some.ensures.value) ∙ p.1) in
    let put = ap filled (c.get_mut.follows.holds q).0 ∙ set-filled es c.args.file q (subst IsSome c.in-Some.ensures.value refl) ∙ ap (placed (filled es) c.args.file) s.4 in
    let r = c.self.invariant.1 in
    let n = (c.get_mut.follows.holds q).2 in
    (numbered_set (c.get_mut.follows.lender q).entries es c.args.file s.0 c.self.invariant.0 (s.3.number ∙ number) put, omega (arith, r, n))
