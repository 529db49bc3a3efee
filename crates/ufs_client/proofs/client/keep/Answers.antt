use Rattle.std.proofs.Common.{◌≡◌, ℕ, ◌≤◌, sym, ◌∙◌, ap, arith, None}
use Rattle.std.specs.FinMap as map
use Rattle.ufs_model.specs.PosixTree.{Fds}
use Rattle.ufs_client.specs.Clients.{AreRanged}
use Rattle.ufs_client.proofs.TableLemmas.{kept, closed, none, not_some}
use Rattle.ufs_client.proofs.client.keep.Goals as goal
use Rattle.ufs_client.proofs.client.keep.Goals.{then-fd-via-then-fd, then-fd-via-else-fd+then-fd-2}

-- a number that isn't one of 3 to 66 is no descriptor
off_range : (fds : Fds) (client fd : ℕ) → AreRanged fds client → ((3 ≤ fd) × (fd ≤ 66) → ⊥) → map.get fds (client, fd) ≡ None
off_range fds client fd range off = not_some _ (λ there. off (range fd there))

pub returns-then-fd : goal.returns-then-fd
returns-then-fd c = λ old new client are after before ranged.
    let off : (3 ≤ c.in-Some.fd) × (c.in-Some.fd ≤ 66) → ⊥ = λ inside. elim c.then-fd.branch [
      | then-fd-via-then-fd w ↦ omega (arith, w.if-fd.true, inside.0)
      | then-fd-via-else-fd+then-fd-2 w ↦ omega (arith, w.if-fd-2.true, inside.1)
    ] in
    none old new client c.args.fds.now _ c.args.desc are after c.in-Some.fd (sym c.fd_told.ensures ∙ c.in-Some.is) (off_range new client c.in-Some.fd ranged off) (sym (are c.in-Some.fd) ∙ off_range old client c.in-Some.fd before off)

pub returns-in-Some-desc : goal.returns-in-Some-desc
returns-in-Some-desc c = λ old new client are after before ranged fd.
    kept old new client c.args.fds.now _ c.args.desc are after c.in-Some.fd (sym c.fd_told.ensures ∙ c.in-Some.is) c.in-Some-desc.desc c.in-Some-desc.is fd
    ∙ ap (λ m. map.get m fd) (sym c.set.ensures)

pub returns-then-is_open : goal.returns-then-is_open
returns-then-is_open c = λ old new client are after before ranged fd.
    closed old new client c.args.fds.now _ c.args.desc are after c.in-Some.fd (sym c.fd_told.ensures ∙ c.in-Some.is) c.in-None.is fd
    ∙ ap (λ m. map.get m fd) (sym c.close.ensures)
