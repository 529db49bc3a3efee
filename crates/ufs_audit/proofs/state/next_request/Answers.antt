use Rattle.std.proofs.Common.{◌≡◌, ◌∙◌, ◌<◌, ℕ, List, Some, refl, sym, ap, subst, length, arith}
use Rattle.std.specs.Prelude.{slice_get}
use Rattle.ufs_audit.proofs.RequestLemmas.{got, looked, no_client, no_count, other_count, next_some, next_none, next_bounded, next_few, next_within}
use Rattle.ufs_audit.proofs.state.next_request.Goals as goal

pub returns-in_err-requests-clause-none : goal.returns-in_err-requests-clause-none
returns-in_err-requests-clause-none c = λ _ op count.
    let past = c.in_err-requests.ensures.lookup.3 in
    let client = c.from-client.ensures in
    no_client c.args.clients.now c.args.counts.now c.args.told.now op (omega (arith, past, client)) count

pub returns-in_err-count-clause-none : goal.returns-in_err-count-clause-none
returns-in_err-count-clause-none c = λ _ op count.
    let past = c.in_err-count.ensures.lookup.3 in
    let client = c.from-client.ensures in
    no_count c.args.clients.now c.args.counts.now c.args.told.now op (omega (arith, past, client)) count
