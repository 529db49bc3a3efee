-- After a change of leases no hand is ahead of the word.
use Rattle.std.proofs.Common.{◌≤◌, set, ap, ◌∙◌, arith}
use Rattle.ufs_hand_laws.specs.Parts.{NamesPart, View}
use Rattle.ufs_hand_laws.proofs.Owning.{all_set}
use Rattle.ufs_hand_laws.specs.ClockTrue.{IsClockTrue}
use Rattle.ufs_hand_laws.proofs.Lease.Setting.{LeaseStep, leasing}

module _ (step : LeaseStep) where
  open step use {S, k, word, views, i, v, o, at, go}
  open leasing step use {w, next, client_was, file_was, names_were, client_present, file_present}

  pub clock_next : IsClockTrue word (set views i w) next
  clock_next = record {
    word_is = ap (λ (z : NamesPart). z.clock) names_were ∙ o.clock.word_is;
    seen = all_set (λ (u : View). (u.seen ≤ word.tickets) × (u.clock ≤ word.clock)) views i w o.clock.seen (let a = (o.clock.seen i v at).1 in (omega arith, a));
  }
