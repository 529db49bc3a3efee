use Rattle.std.proofs.Common.{◌≡◌, ◌+◌, ◌∷◌, drop, refl, ap, sym, ◌∙◌, subst, arith, drop-cons, add-one}
use Rattle.std.specs.Prelude.{map}
use Rattle.std.specs.List.{All}
use Rattle.ufs_found.specs.Off.{lower}
use Rattle.ufs_scan.specs.Folding.{State, IsFit}
use Rattle.ufs_scan.specs.declared.chains.Chain.{Chain}
use Rattle.ufs_scan.proofs.Commits.{Going, sum_of, going, going_on, going_end}
use Rattle.ufs_scan.proofs.folding.lowest_off.Goals as goal

pub loop-commit-init : goal.loop-commit-init
loop-commit-init c = record {
  standings = refl;
  leasts = c.in_ok-leasts.ensures.sized;
  going = λ g all parts can. going g all parts c.args.chains.now (map (λ b. b.now) c.args.commits.now) c.args.known (record { standings = c.args.start.items; leasts = c.in_ok-leasts.leasts.items; lowest = c.args.known }) can refl
      (c.in_ok-leasts.ensures.sized) c.in_ok-leasts.ensures.none;
}

pub fold_commit-requires-clause-fit : goal.fold_commit-requires-clause-fit
fold_commit-requires-clause-fit c = subst (λ n. All (λ (x : Chain). IsFit n x) c.args.chains.now) (sym c.loop-commit.invariant.standings) c.requires.fit

pub fold_commit-requires-clause-leasts : goal.fold_commit-requires-clause-leasts
fold_commit-requires-clause-leasts c = omega (arith, c.loop-commit.invariant.leasts)

pub loop-commit-preserved : goal.loop-commit-preserved
loop-commit-preserved c =
    let split : drop c.loop-commit.commit-index c.args.commits.now ≡ c.commit-item.result ∷ drop (c.loop-commit.commit-index + 1) c.args.commits.now =
    drop-cons c.args.commits.now c.loop-commit.commit-index c.commit-item.result (omega (arith, c.loop-commit-test.true)) ∙ (λ i. sym c.commit-item.is i ∷ drop (sym (add-one c.loop-commit.commit-index) i) c.args.commits.now) in
    record {
      standings = c.fold_commit.ensures.standings ∙ c.loop-commit.invariant.standings;
      leasts = c.fold_commit.ensures.leasts ∙ c.loop-commit.invariant.leasts;
      going = λ g all parts can.
          going_on g all parts c.args.chains.now (map (λ b. b.now) c.args.commits.now) c.args.start.items c.args.known _ c.commit-item.result.now (map (λ b. b.now) (drop (c.loop-commit.commit-index + 1) c.args.commits.now)) c.loop-commit.fold c.fold_commit.new.self
          can (subst (λ n. All (λ (x : Chain). IsFit n x) c.args.chains.now) can.sized c.requires.fit) c.fold_commit.ensures.folded
          (subst (λ l. Going g all parts c.args.chains.now c.args.known (lower c.args.known (sum_of g all (map (λ b. b.now) c.args.commits.now) c.args.start.items)) (map (λ b. b.now) l) c.loop-commit.fold) split (c.loop-commit.invariant.going g all parts can));
    }

pub returns : goal.returns
returns c = λ g all parts can. ap (λ (s : State). s.lowest) c.fold.view_is ∙ going_end g all parts c.args.chains.now c.args.known _ (λ b. b.now) c.args.commits.now c.loop-commit.commit-index c.loop-commit-test.false c.loop-commit.fold (c.loop-commit.invariant.going g all parts can)
