use Rattle.std.proofs.Common.{◌∙◌, ℕ, sym, subst, arith}
use Rattle.std.specs.Prelude.{IsTrue}
use Rattle.ufs_layout.specs.declared.geometry.Geometry.{Geometry}
use Rattle.ufs_journal.specs.Kept.{IsReady, IsUnused}
use Rattle.ufs_disk.proofs.Noted.{on_err}
use Rattle.ufs_ledger.specs.Ledger.{Ledger}
use Rattle.ufs_ledger.specs.Committing.{IsLedgerBy, MayGoOn}
use Rattle.ufs_ledger.proofs.Committing.{unused_less, on_ok_cases}
use Rattle.ufs_ledger.proofs.CommitSteps.{IsBarred, IsAppending, IsCommitting, IsStopped, IsEnded, stopped1, stopped2, ended3}
use Rattle.ufs_ledger.proofs.calls.commit_records.Given.{Over}
use Rattle.ufs_ledger.proofs.calls.commit_records.Goals as goal
use Rattle.ufs_ledger.proofs.calls.commit_records.Goals.{After-barrier, After-append, After-from_residual, After-from_residual-in_err-append, After-commit}

module _ (g : Over) (visible : IsTrue g.D.Disk.visible) (l : Ledger) where
  -- ---- each step

  barred : (c : After-barrier g) → IsLedgerBy c.args.journal.now (g.D.Disk.size c.args.disk.now) (g.D.Disk.moments c.args.disk.now).state l → MayGoOn c.args.journal.now (g.D.Disk.moments c.args.disk.now).state l c.args.txn c.args.records.now
      → IsBarred (g.D.Disk.size c.args.disk.now) g.D.Disk.keeps c.args.journal.now l c.args.txn c.args.records.now (g.D.Disk.moments c.args.disk.now) (g.D.Disk.moments c.barrier.new.self)
  barred c by go = record { by = by; go = go; folds = c.fold_law.ensures.folds; one_more = c.fold_law.ensures.one_more; run = c.barrier.ensures.crash visible; same = c.barrier.ensures.content visible }

  appending : (c : After-append g) → IsAppending g.D.Disk.keeps c.args.journal.now c.args.txn (g.D.Disk.moments c.barrier.new.self) (g.D.Disk.moments c.append.new.disk)
  appending c = record { still = c.in_ok-barrier.ensures.ok visible; run = c.append.ensures.crash visible }

  committing : (c : After-commit g) → IsCommitting g.D.Disk.keeps c.args.journal.now c.append.new.self c.args.txn c.args.records.now (g.D.Disk.moments c.barrier.new.self) (g.D.Disk.moments c.append.new.disk) (g.D.Disk.moments c.commit.new.disk)
  committing c = record {
    same = c.append.ensures.same;
    ready = c.in_ok-append.ensures.ready visible;
    opened = c.in_ok-append.ensures.open visible;
    run = λ ready. c.commit.ensures.crash visible ready c.args.records.now;
  }

  -- ---- each end

  barrier_ends : (c : After-from_residual g) → IsLedgerBy c.args.journal.now (g.D.Disk.size c.args.disk.now) (g.D.Disk.moments c.args.disk.now).state l → MayGoOn c.args.journal.now (g.D.Disk.moments c.args.disk.now).state l c.args.txn c.args.records.now → IsStopped (g.D.Disk.size c.args.disk.now) g.D.Disk.keeps c.args.journal.now l c.args.records.now (g.D.Disk.moments c.args.disk.now) (g.D.Disk.moments c.barrier.new.self)
  barrier_ends c by go = let at = goal.at.returns-in_err-barrier-clause-crash g c in stopped1 (barred at.After-barrier by go)

  append_ends : (c : After-from_residual-in_err-append g) → IsLedgerBy c.args.journal.now (g.D.Disk.size c.args.disk.now) (g.D.Disk.moments c.args.disk.now).state l → MayGoOn c.args.journal.now (g.D.Disk.moments c.args.disk.now).state l c.args.txn c.args.records.now → IsStopped (g.D.Disk.size c.args.disk.now) g.D.Disk.keeps c.args.journal.now l c.args.records.now (g.D.Disk.moments c.args.disk.now) (g.D.Disk.moments c.append.new.disk)
  append_ends c by go = let at = goal.at.returns-in_err-append-clause-crash g c in stopped2 (barred at.After-barrier by go) (appending at.After-append)

  ends : (c : After-commit g) → IsLedgerBy c.args.journal.now (g.D.Disk.size c.args.disk.now) (g.D.Disk.moments c.args.disk.now).state l → MayGoOn c.args.journal.now (g.D.Disk.moments c.args.disk.now).state l c.args.txn c.args.records.now → IsEnded (g.D.Disk.size c.args.disk.now) g.D.Disk.keeps c.args.journal.now c.append.new.self l c.args.txn c.args.records.now (g.D.Disk.moments c.args.disk.now) (g.D.Disk.moments c.barrier.new.self) (g.D.Disk.moments c.append.new.disk) (g.D.Disk.moments c.commit.new.disk)
  ends c by go = let at = goal.at.returns-clause-crash g c in ended3 (barred at.After-barrier by go) (appending at.After-append) (committing c)

pub returns-in_err-barrier-clause-crash : goal.returns-in_err-barrier-clause-crash
returns-in_err-barrier-clause-crash g c visible l by go = (barrier_ends g visible l c by go).crash

pub returns-in_err-barrier-clause-data : goal.returns-in_err-barrier-clause-data
returns-in_err-barrier-clause-data g c visible l by go = (barrier_ends g visible l c by go).kept

pub returns-in_err-barrier-clause-err : goal.returns-in_err-barrier-clause-err
returns-in_err-barrier-clause-err g c visible = on_err c.from_residual.result _ (λ l by go. (barrier_ends g visible l c by go).ledger (g.D.Disk.size c.barrier.new.self) cc)

pub returns-in_err-append-clause-crash : goal.returns-in_err-append-clause-crash
returns-in_err-append-clause-crash g c visible l by go = (append_ends g visible l c by go).crash

pub returns-in_err-append-clause-data : goal.returns-in_err-append-clause-data
returns-in_err-append-clause-data g c visible l by go = (append_ends g visible l c by go).kept

pub returns-in_err-append-clause-err : goal.returns-in_err-append-clause-err
returns-in_err-append-clause-err g c visible = on_err c.from_residual-in_err-append.result _ (λ l by go. (append_ends g visible l c by go).ledger (g.D.Disk.size c.append.new.disk) cc)

pub returns-clause-crash : goal.returns-clause-crash
returns-clause-crash g c visible l by go = (ends g visible l c by go).stopped.crash

pub returns-clause-data : goal.returns-clause-data
returns-clause-data g c visible l by go = (ends g visible l c by go).stopped.kept

pub returns-clause-err : goal.returns-clause-err
returns-clause-err g c visible = on_err c.commit.result _ (λ l by go. (ends g visible l c by go).stopped.ledger (g.D.Disk.size c.commit.new.disk) cc)

pub returns-clause-ok : goal.returns-clause-ok
returns-clause-ok g c visible = on_ok_cases c.commit.result _ (λ at l by go.
    let end = ends g visible l c by go in
    end.ledger (g.D.Disk.size c.commit.new.disk) (cc) (at _ (c.commit.ensures.settled visible)) (at _ (c.commit.ensures.committed visible end.ready c.args.records.now end.opened end.applies)))

pub returns-clause-next : goal.returns-clause-next
returns-clause-next g c visible below = on_ok_cases c.commit.result _ (λ at l by go.
    let end = ends g visible l c by go in
    let n = c.commit.new.self in
    let grown = at _ (c.commit.ensures.next) in
    let number = c.append.ensures.same.2 in
    let kept = c.commit.ensures.same in
    record {
      is = end.ledger (g.D.Disk.size c.commit.new.disk) (cc) (at _ (c.commit.ensures.settled visible)) (at _ (c.commit.ensures.committed visible end.ready c.args.records.now end.opened end.applies));
      none = by.none;
      in_use = by.in_use;
      geometry = by.geometry ∙ sym (kept.0 ∙ c.append.ensures.same.0);
      epoch = by.epoch ∙ sym (kept.1 ∙ c.append.ensures.same.1);
      later = omega (arith, by.later, grown, number, below);
      ready = subst (λ (x : Geometry × ℕ × ℕ). IsReady x.0 x.1 x.2 n.number (g.D.Disk.moments c.commit.new.disk).state) (λ i. (sym kept.0 i, sym kept.1 i, sym kept.2 i)) (at _ (c.commit.ensures.ready visible end.ready c.args.records.now end.opened (omega (arith, number, below))));
    })

pub returns-clause-unused : goal.returns-clause-unused
returns-clause-unused g c visible = on_ok_cases c.commit.result _ (λ at l by go other ne is.
    let j = c.args.journal.now in
    let end = ends g visible l c by go in
    let free1 = unused_less j.geometry j.epoch other (g.D.Disk.moments c.args.disk.now).state (g.D.Disk.moments c.barrier.new.self).state (c.barrier.ensures.crash visible).after is in
    let free2 = c.append.ensures.unused visible end.ready1 end.unused1 other ne free1 in
    let kept = c.append.ensures.same in
    let free3 = c.commit.ensures.unused visible c.args.records.now end.opened other ne (subst (λ (x : Geometry × ℕ). IsUnused x.0 x.1 other (g.D.Disk.moments c.append.new.disk).state) (λ i. (sym kept.0 i, sym kept.1 i)) free2) in
    subst (λ (x : Geometry × ℕ). IsUnused x.0 x.1 other (g.D.Disk.moments c.commit.new.disk).state) (λ i. (kept.0 i, kept.1 i)) free3)
