use Rattle.std.proofs.Common.{List, Some, ap, sym, subst, ◌∙◌}
use Rattle.std.specs.FinMap as fin
use Rattle.ufs_joint.specs.Cells.{FileCell}
use Rattle.ufs_home.specs.Lending.{AreAway, put_all}
use Rattle.ufs_home.specs.Places.{Places}
use Rattle.ufs_home.proofs.Lending.{first_empty, first_low, no_items, rest_away}
use Rattle.ufs_home.proofs.lent.put_back_all.Goals as goal

pub loop-held-init : goal.loop-held-init
loop-held-init g c =
    let gives = c.into_iter-held-iterator.ensures.into_iter_gives in
    record { away = subst (AreAway c.args.shelf.now) (sym gives.0) c.requires; put = ap (put_all c.args.shelf.now) gives.0 }

pub of_held-requires : goal.of_held-requires
of_held-requires g c =
    let steps = c.in-Some.ensures.steps in
    first_low c.loop-held.shelf c.in-Some.held c.next.new.self.rest.items (subst (AreAway c.loop-held.shelf) steps.0 c.loop-held.invariant.away)

pub fill-requires : goal.fill-requires
fill-requires g c =
    let steps = c.in-Some.ensures.steps in
    ap (λ (x : FileCell). fin.get c.loop-held.shelf x.value.file.file) c.of_held.ensures
    ∙ first_empty c.loop-held.shelf c.in-Some.held c.next.new.self.rest.items (subst (AreAway c.loop-held.shelf) steps.0 c.loop-held.invariant.away)

pub loop-held-preserved : goal.loop-held-preserved
loop-held-preserved g c =
    let shelf = c.loop-held.shelf in
    let held : FileCell = c.in-Some.held in
    let rest : List FileCell = c.next.new.self.rest.items in
    let steps = c.in-Some.ensures.steps in
    let put = c.fill.ensures ∙ ap (λ (x : FileCell). fin.insert shelf x.value.file.file (Some x)) c.of_held.ensures in
    record {
      away = subst (λ (p : Places). AreAway p rest) (sym put) (rest_away shelf held rest (subst (AreAway shelf) steps.0 c.loop-held.invariant.away));
      put = ap (λ (p : Places). put_all p rest) put ∙ ap (put_all shelf) (sym steps.0) ∙ c.loop-held.invariant.put;
    }

pub returns : goal.returns
returns g c =
    let rest = c.loop-held.held-iterator.rest in
    let none = no_items rest.items (sym rest.ok.0 ∙ c.in-None.ensures.steps.0) in
    ap (put_all c.loop-held.shelf) (sym none) ∙ c.loop-held.invariant.put
