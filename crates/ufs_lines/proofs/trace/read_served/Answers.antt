use Rattle.std.proofs.Common.{◌≡◌, ◌++◌, ℕ, List, Ok, None, Option, IfSome, ap, sym, subst, ◌∙◌, refl, Bor}
use Rattle.std.specs.List.{AllByRecursion}
use Rattle.ufs_model.specs.declared.data.Actor.{Actor}
use Rattle.ufs_script.specs.Output.{actor_text, via_text}
use Rattle.ufs_lines.specs.Trace.{IsActor, IsWhy, end_text, excuse_told}
use Rattle.ufs_lines.specs.declared.told.Why.{Why}
use Rattle.ufs_lines.proofs.WordLemmas.{server_word}
use Rattle.ufs_lines.proofs.trace.read_served.Goals as goal

pub returns-in_default-clause-none : goal.returns-in_default-clause-none
returns-in_default-clause-none c = λ none s t.
    let cut = server_word c.args.text.now c.first_word-word.result.front.now c.first_word-word.result.rest.now s c.first_word-word.ensures t in
    c.in_ok-by.ensures.none (ap Ok c.in_default.is) s.by t.2 cut.line_is

pub returns-in_default-2-clause-none : goal.returns-in_default-2-clause-none
returns-in_default-2-clause-none c = λ none s t.
    let cut = server_word c.args.text.now c.first_word-word.result.front.now c.first_word-word.result.rest.now s c.first_word-word.ensures t in
    (c.in_ok-tail.ensures.all t.0 (excuse_told s.why) t.1 cut.more_is).0 c.in_default-2.is

pub returns-in_default-3-clause-none : goal.returns-in_default-3-clause-none
returns-in_default-3-clause-none c = λ none s t.
    let cut = server_word c.args.text.now c.first_word-word.result.front.now c.first_word-word.result.rest.now s c.first_word-word.ensures t in
    let tail = subst (λ (o : Option (Bor (List ℕ))). IfSome o (λ rest. rest.now ≡ end_text (excuse_told s.why))) c.in-Some-2.is (c.in_ok-tail.ensures.all t.0 (excuse_told s.why) t.1 cut.more_is).1 in
    c.in_ok-why.ensures.none (ap Ok c.in_default-3.is) s.why t.3 tail

pub returns-clause-some : goal.returns-clause-some
returns-clause-some c =
    let word = c.first_word-word.result.front.now in
    let rest = c.first_word-word.result.rest.now in
    let by = subst (λ (o : Option Actor). IfSome o (λ actor. IsActor actor × (word ≡ actor_text actor))) c.in-Some.is c.in_ok-by.ensures.some in
    let via = subst (λ (o : Option (Bor (List ℕ))). IfSome o (λ tail. (via : List Actor) × AllByRecursion IsActor via × (rest ≡ via_text via ++ tail.now))) c.in-Some-2.is c.in_ok-tail.ensures.some in
    let why = subst (λ (o : Option Why). IfSome o (λ why. IsWhy why × (c.in-Some-2.tail.now ≡ end_text (excuse_told why)))) c.in-Some-3.is c.in_ok-why.ensures.some in
    (via.0, via.1, by.0, why.0, c.first_word-word.ensures.is ∙ (λ i. by.1 i ++ via.2 i) ∙ ap (λ (l : List ℕ). actor_text c.in-Some.by ++ (via_text via.0 ++ l)) why.1)
