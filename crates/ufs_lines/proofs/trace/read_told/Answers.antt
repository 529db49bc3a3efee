use Rattle.std.proofs.Common.{◌≡◌, ◌≤◌, ◌<◌, ◌^◌, ◌++◌, ◌∷◌, ℕ, List, Ok, None, Option, IfSome, ap, sym, subst, ◌∙◌, refl, arith, Bor}
use Rattle.std.specs.Prelude.{codes}
use Rattle.std.specs.Fmt.{decimal}
use Rattle.ufs_script.specs.Output.{actor_text, via_text}
use Rattle.ufs_lines.specs.Trace.{end_text, excuse_told}
use Rattle.ufs_lines.specs.Trace.{TellsServer}
use Rattle.ufs_lines.specs.declared.trace.Server.{Server}
use Rattle.ufs_lines.proofs.WordLemmas.{decimal_free, behind_ticket, behind_number, line_is, ticket_rest, request_cut, request_parts, server_of, told_join}
use Rattle.ufs_lines.proofs.trace.read_told.Goals as goal

pub returns-in_default-cut_text-clause-none : goal.returns-in_default-cut_text-clause-none
returns-in_default-cut_text-clause-none c = λ none told t.
    let front = subst (λ (o : Option (Bor (List ℕ))). IfSome o (λ rest. c.args.line.now ≡ codes "# " ++ (decimal c.args.ticket ++ 32 ∷ rest.now))) c.in-Some.is c.in_ok-rest.ensures.some in
    let client = t.2.client in
    c.in_default-cut_text.ensures.none refl (decimal told.client) (decimal told.seq ++ behind_number told t.0)
    (decimal_free 46 told.client (omega arith) (omega (arith, client)), ticket_rest c.args.ticket c.args.line.now c.in-Some.rest.now told front t)

pub returns-in_default-2-clause-none : goal.returns-in_default-2-clause-none
returns-in_default-2-clause-none c = λ none told t.
    let front = subst (λ (o : Option (Bor (List ℕ))). IfSome o (λ rest. c.args.line.now ≡ codes "# " ++ (decimal c.args.ticket ++ 32 ∷ rest.now))) c.in-Some.is c.in_ok-rest.ensures.some in
    let client = t.2.client in
    let cut = request_cut c.args.ticket c.args.line.now c.in-Some.rest.now c.in-Some-cut_text.request.front.now c.in-Some-cut_text.request.rest.now told front c.in-Some-cut_text.ensures.some t in
    c.in_ok-client.ensures.none (ap Ok c.in_default-2.is) told.client (omega (arith, client)) cut.line_is

pub returns-in_default-3-clause-none : goal.returns-in_default-3-clause-none
returns-in_default-3-clause-none c = λ none told t.
    let front = subst (λ (o : Option (Bor (List ℕ))). IfSome o (λ rest. c.args.line.now ≡ codes "# " ++ (decimal c.args.ticket ++ 32 ∷ rest.now))) c.in-Some.is c.in_ok-rest.ensures.some in
    let seq = t.2.seq in
    let parts = request_parts c.args.ticket c.args.line.now c.in-Some.rest.now c.in-Some-cut_text.request.front.now c.in-Some-cut_text.request.rest.now c.first_word-number.result.front.now c.first_word-number.result.rest.now told front c.in-Some-cut_text.ensures.some c.first_word-number.ensures t in
    c.in_ok-seq.ensures.none (ap Ok c.in_default-3.is) told.seq (omega (arith, seq)) parts.number_is

pub returns-in_default-behind-clause-none : goal.returns-in_default-behind-clause-none
returns-in_default-behind-clause-none c = λ none told t.
    let front = subst (λ (o : Option (Bor (List ℕ))). IfSome o (λ rest. c.args.line.now ≡ codes "# " ++ (decimal c.args.ticket ++ 32 ∷ rest.now))) c.in-Some.is c.in_ok-rest.ensures.some in
    let parts = request_parts c.args.ticket c.args.line.now c.in-Some.rest.now c.in-Some-cut_text.request.front.now c.in-Some-cut_text.request.rest.now c.first_word-number.result.front.now c.first_word-number.result.rest.now told front c.in-Some-cut_text.ensures.some c.first_word-number.ensures t in
    c.in_default-behind.ensures.none refl (actor_text told.by ++ (via_text t.0 ++ end_text (excuse_told told.why))) parts.tail_is

pub returns-in_default-4-clause-none : goal.returns-in_default-4-clause-none
returns-in_default-4-clause-none c = λ none told t.
    let front = subst (λ (o : Option (Bor (List ℕ))). IfSome o (λ rest. c.args.line.now ≡ codes "# " ++ (decimal c.args.ticket ++ 32 ∷ rest.now))) c.in-Some.is c.in_ok-rest.ensures.some in
    let parts = request_parts c.args.ticket c.args.line.now c.in-Some.rest.now c.in-Some-cut_text.request.front.now c.in-Some-cut_text.request.rest.now c.first_word-number.result.front.now c.first_word-number.result.rest.now told front c.in-Some-cut_text.ensures.some c.first_word-number.ensures t in
    let text = Rattle.std.proofs.lemmas.List.append_cancel_left (codes " by ") c.in-Some-behind.text.now (actor_text told.by ++ (via_text t.0 ++ end_text (excuse_told told.why))) (sym c.in-Some-behind.ensures.some ∙ parts.tail_is) in
    c.in_ok-served.ensures.none (ap Ok c.in_default-4.is) (server_of told) (t.0, t.1, t.2.by, t.2.why, text)

pub returns-clause-some : goal.returns-clause-some
returns-clause-some c =
    let front = subst (λ (o : Option (Bor (List ℕ))). IfSome o (λ rest. c.args.line.now ≡ codes "# " ++ (decimal c.args.ticket ++ 32 ∷ rest.now))) c.in-Some.is c.in_ok-rest.ensures.some in
    let request = c.in-Some-cut_text.request.front.now in
    let word = c.first_word-number.result.front.now in
    let client = subst (λ (o : Option ℕ). IfSome o (λ n. request ≡ decimal n)) c.in-Some-2.is c.in_ok-client.ensures.some in
    let few_client = subst (λ (o : Option ℕ). IfSome o (λ n. n ≤ 255)) c.in-Some-2.is c.in_ok-client.ensures.few in
    let seq = subst (λ (o : Option ℕ). IfSome o (λ n. word ≡ decimal n)) c.in-Some-3.is c.in_ok-seq.ensures.some in
    let few_seq = subst (λ (o : Option ℕ). IfSome o (λ n. n ≤ 4294967295)) c.in-Some-3.is c.in_ok-seq.ensures.few in
    let served = subst (λ (o : Option Server). IfSome o (λ s. TellsServer s c.in-Some-behind.text.now)) c.in-Some-4.is c.in_ok-served.ensures.some in
    told_join c.args.ticket c.args.line.now c.in-Some.rest.now request c.in-Some-cut_text.request.rest.now word c.first_word-number.result.rest.now c.in-Some-behind.text.now
    record { client = c.in-Some-2.client; seq = c.in-Some-3.seq; by = c.in-Some-4.served.by; why = c.in-Some-4.served.why }
    front c.in-Some-cut_text.ensures.some client c.first_word-number.ensures seq c.in-Some-behind.ensures.some
    record { client = omega (arith, few_client); seq = omega (arith, few_seq); by = served.2; why = served.3 } served
