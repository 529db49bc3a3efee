use Rattle.std.proofs.Common.{◌≡◌, ◌≤◌, ◌<◌, ◌^◌, ◌++◌, ℕ, List, Ok, None, Option, IfSome, ap, sym, subst, ◌∙◌, refl, arith, false}
use Rattle.std.specs.Prelude.{codes}
use Rattle.std.specs.Fmt.{decimal}
use Rattle.ufs_model.specs.Excuses.{is_memory}
use Rattle.ufs_model.specs.declared.data.Excuse.{Excuse}
use Rattle.ufs_script.specs.Output.{excuse_words}
use Rattle.ufs_lines.specs.Trace.{IsExcuse}
use Rattle.ufs_lines.proofs.WordLemmas.{no_other}
use Rattle.ufs_lines.proofs.excuses.read_other.Goals as goal

pub returns-in-Some-clause-some : goal.returns-in-Some-clause-some
returns-in-Some-clause-some c =
    let printed = subst (λ (o : Option ℕ). IfSome o (λ n. c.args.words.now ≡ codes "device " ++ decimal n)) c.in-Some.is c.in_ok-fault.ensures.some in
    let few = subst (λ (o : Option ℕ). IfSome o (λ n. n ≤ 18446744073709551615)) c.in-Some.is c.in_ok-fault.ensures.few in
    (omega (arith, few), printed, refl)

pub returns-in-Some-2-clause-some : goal.returns-in-Some-2-clause-some
returns-in-Some-2-clause-some c =
    let printed = subst (λ (o : Option ℕ). IfSome o (λ n. c.args.words.now ≡ codes "stopped " ++ decimal n)) c.in-Some-2.is c.in_ok-fault-2.ensures.some in
    let few = subst (λ (o : Option ℕ). IfSome o (λ n. n ≤ 18446744073709551615)) c.in-Some-2.is c.in_ok-fault-2.ensures.few in
    (omega (arith, few), printed, refl)

pub returns-then-same_bytes-clause-some : goal.returns-then-same_bytes-clause-some
returns-then-same_bytes-clause-some c = (tt, c.if-same_bytes.ensures.0 refl, refl)

pub returns-in-Some-3-clause-some : goal.returns-in-Some-3-clause-some
returns-in-Some-3-clause-some c =
    subst (λ (o : Option Excuse). IfSome o (λ x. IsExcuse x × (c.args.words.now ≡ excuse_words x) × (is_memory x ≡ false))) c.in-Some-3.is c.in_ok-blocks.ensures.some

pub returns-clause-none : goal.returns-clause-none
returns-clause-none c = λ none.
    no_other c.args.words.now
    (c.in_ok-fault.ensures.none (ap Ok c.in_default.is))
    (c.in_ok-fault-2.ensures.none (ap Ok c.in_default-2.is))
    (λ is. let bad = c.if-same_bytes.ensures.1 is in cc)
    (c.in_ok-blocks.ensures.none (ap Ok c.in_default-3.is))
    (c.read_extents.ensures.none none)
