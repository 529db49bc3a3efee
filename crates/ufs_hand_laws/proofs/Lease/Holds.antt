-- After a change of leases the names know who holds which file.
use Rattle.std.proofs.Common.{ap, ◌∙◌}
use Rattle.ufs_hand_laws.specs.Parts.{NamesPart, is_holder}
use Rattle.ufs_hand_laws.specs.Holds.{AreHoldsTrue}
use Rattle.ufs_hand_laws.proofs.Lease.Setting.{LeaseStep, leasing}

module _ (step : LeaseStep) where
  open step use {S, k, word, views, i, v, o, at, go}
  open leasing step use {w, next, client_was, file_was, names_were, client_present, file_present}

  pub holds_next : AreHoldsTrue k o.history next
  holds_next = λ c f. ap (λ (z : NamesPart). is_holder z.holds c f) names_were ∙ o.holds c f
