use Rattle.std.proofs.Common.{◌≡◌, ℕ, ◌<◌, ◌+◌, List, [], ◌∷◌, ◌++◌, length, take, get_or, ap, sym, ◌∙◌}
use Rattle.std.specs.Prelude.{map}
use Rattle.std.proofs.lemmas.List.{map-append, take_all, take_more}
use Rattle.ufs_scan.specs.Gathered.{transaction_in}
use Rattle.ufs_scan.proofs.gathered.gather.Goals as goal

more : {X Y Z : Type 0} (f : Y → Z) (now : X → Y) (xs : List X) (i : ℕ) (x : X) → i < length xs → x ≡ get_or xs i x → map f (map now (take (i + 1) xs)) ≡ map f (map now (take i xs)) ++ f (now x) ∷ []
more f now xs i x lt is =
    ap (λ l. map f (map now l)) (take_more xs i x lt ∙ ap (λ y. take i xs ++ y ∷ []) (sym is))
    ∙ ap (map f) (map-append now (take i xs) (x ∷ [])) ∙ map-append f (map now (take i xs)) (now x ∷ [])

pub returns : goal.returns
returns c = λ all has.
    c.loop-one.invariant all has
    ∙ ap (λ l. map (transaction_in all) (map (λ b. b.now) l)) (take_all c.loop-one.one-index c.args.commits.now c.loop-one-test.false)

pub loop-one-preserved : goal.loop-one-preserved
loop-one-preserved c = λ all has.
    c.in_ok-push.ensures.items
    ∙ (λ i. c.loop-one.invariant all has i ++ c.with_parts.ensures all has i ∷ [])
    ∙ sym (more (transaction_in all) (λ b. b.now) c.args.commits.now c.loop-one.one-index c.one-item.result c.loop-one-test.true c.one-item.is)
