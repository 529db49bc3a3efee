-- Requests that waited are taken up.
use Rattle.std.proofs.Common.{◌≡◌, ℕ, List, Option, Some, None, MatchOption, refl, sym, ◌∙◌}
use Rattle.ufs_msg.specs.Requests.{Asked}
use Rattle.ufs_at_primary.specs.Noted.{unwaited}
use Rattle.ufs_at_primary.specs.Stock.{StockState}
use Rattle.ufs_primary.specs.Turns.{IsTakenUp}
use Rattle.ufs_primary.specs.Waiting.{AllWait, TakesOldest, Waits}

pub taken_up : (s t : StockState) (old new : List Waits) (one : Waits) (r : Asked) (file client : ℕ) → r ≡ one.request → file ≡ one.file → client ≡ r.ask.client → TakesOldest s.home.owners old new one → t ≡ record s { home = unwaited s.home file client } → IsTakenUp s t old new r
taken_up s t old new one r file client is at who taken rest = record { one = one; is = sym is; taken = taken; rest = rest ∙ (λ i. record s { home = unwaited s.home (at i) (who i) }) }

pub wait_all : (s : StockState) (old new : List Waits) (o : Option Asked) → o ≡ None → AllWait s.home.owners old × (new ≡ old) → MatchOption o (AllWait s.home.owners old × (new ≡ old) × (s ≡ s)) (IsTakenUp s s old new)
wait_all s old new (Some r) none is = absurd cc
wait_all s old new None none is = (is.0, is.1, refl)
