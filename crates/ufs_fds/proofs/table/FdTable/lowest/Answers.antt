use Rattle.std.proofs.Common.{◌≡◌, ◌+◌, ◌^◌, ◌<◌, ◌≤◌, ℕ, IsSome, sym, ap, arith, subst}
use Rattle.std.specs.Int.{trailing_ones, w64}
use Rattle.std.specs.FinMap as map
use Rattle.ufs_fds.specs.Descriptors.{Descs}
use Rattle.ufs_fds.proofs.LowestLemmas.{IsLowest, lowest_by_bits, all_open, lowest_free-Some, lowest_free-None}
use Rattle.ufs_fds.proofs.table.FdTable.lowest.Goals as goal

pub returns-then-self-clause-full : goal.returns-then-self-clause-full
returns-then-self-clause-full c = subst (λ (m : Descs). (k : ℕ) → 3 ≤ k → k ≤ 66 → IsSome (map.get m k)) c.self.view_is (all_open c.self.inside.used c.self.inside.slots c.self.invariant c.if-self.true)

pub returns-then-self-clause-posix : goal.returns-then-self-clause-posix
returns-then-self-clause-posix c = λ fds client are. lowest_free-None fds client _ are (returns-then-self-clause-full c)

lowest : (c : goal.After-trailing_ones) → IsLowest c.args.self.now (3 + c.trailing_ones.result)
lowest c =
    let less : c.self.inside.used + 1 < 2 ^ 64 = omega arith in
    let by_bits = lowest_by_bits c.self.inside.used c.self.inside.slots c.self.invariant less in
    let number : 3 + trailing_ones w64 c.self.inside.used ≡ 3 + c.trailing_ones.result = ap (λ n. 3 + n) (sym c.trailing_ones.ensures) in
    subst (λ (n : ℕ). IsLowest c.args.self.now n) number (subst (λ (m : Descs). IsLowest m (3 + trailing_ones w64 c.self.inside.used)) c.self.view_is by_bits)

pub returns-clause-free : goal.returns-clause-free
returns-clause-free c = (lowest c).free

pub returns-clause-lower : goal.returns-clause-lower
returns-clause-lower c = (lowest c).lower

pub returns-clause-posix : goal.returns-clause-posix
returns-clause-posix c = λ fds client are. lowest_free-Some fds client _ _ are (lowest c)
