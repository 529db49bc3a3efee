use Rattle.std.proofs.Common.{◌≡◌, ◌∙◌, ℕ, List, refl, sym, ap, length, arith}
use Rattle.std.proofs.lemmas.Option.{slice_get_past}
use Rattle.ufs_audit.proofs.RequestLemmas.{got, served_by, none_served}
use Rattle.ufs_audit.proofs.state.is_served.Goals as goal

pub returns-in_default-get : goal.returns-in_default-get
returns-in_default-get c = ((λ bad. cc), (λ e. absurd (none_served c.args.clients.now c.args.counts.now c.args.client (slice_get_past c.args.counts.now c.args.client c.in_default-get.ensures.lookup.3) e)))
