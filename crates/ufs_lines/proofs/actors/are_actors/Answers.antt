use Rattle.std.proofs.Common.{◌≡◌, ◌++◌, ◌∷◌, ◌∙◌, ◌<◌, ℕ, List, Ok, None, ap, sym, subst, refl, length, arith, true, false}
use Rattle.std.proofs.lemmas.List.{length-append}
use Rattle.std.specs.Prelude.{◌↔◌}
use Rattle.ufs_lines.specs.Trace.{AreActors}
use Rattle.ufs_lines.proofs.Results.{if_ok}
use Rattle.ufs_lines.proofs.WordLemmas.{first_of, more_are, one_is, only_of}
use Rattle.ufs_lines.proofs.actors.are_actors.Goals as goal

pub returns-then-not-branch : goal.returns-then-not-branch
returns-then-not-branch c = (
  (λ bad. cc),
  (λ are.
      let first = first_of c.loop-piece.rest.now c.in-Some.piece.front.now c.in-Some.piece.rest.now c.in-Some.ensures.some (c.loop-piece.invariant.1 are) in
      let yes = c.in_ok-is_actor.ensures.1 first.0 in
      cc),
)

pub loop-piece-preserved : goal.loop-piece-preserved
loop-piece-preserved c =
    let cut = c.in-Some.ensures.some in
    let front = c.in-Some.piece.front.now in
    let rest = c.in-Some.piece.rest.now in
    let one = c.in_ok-is_actor.ensures.0 c.if-not-branch.false in (
      (λ are. c.loop-piece.invariant.0 (subst AreActors (sym cut.1) (more_are front rest one are))),
      (λ are. (first_of c.loop-piece.rest.now front rest cut (c.loop-piece.invariant.1 are)).1),
    )

pub returns : goal.returns
returns c =
    if_ok c.is_actor-2.result
    (λ is e. (
      (λ t. c.loop-piece.invariant.0 (one_is c.loop-piece.rest.now (e.0 t))),
      (λ are. e.1 (only_of c.loop-piece.rest.now (c.in_default.ensures.none refl) (c.loop-piece.invariant.1 are))),
    )) c.is_actor-2.ensures
