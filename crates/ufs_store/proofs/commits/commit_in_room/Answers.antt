use Rattle.std.proofs.Common.{◌≡◌, ◌≢◌, ◌+◌, ℕ, List, [], ◌∷◌, ◌++◌, refl, sym, subst, arith}
use Rattle.std.specs.Prelude.{IsTrue}
use Rattle.ufs_layout.specs.Superblock.{geometry_of}
use Rattle.ufs_layout.specs.declared.geometry.Geometry.{Geometry}
use Rattle.ufs_layout.specs.declared.records.LogRecord.{LogRecord}
use Rattle.ufs_layout.specs.declared.records.Committed.{Committed}
use Rattle.ufs_overlay.specs.Seen as overlaid
use Rattle.ufs_journal.specs.Kept.{IsUnused}
use Rattle.ufs_overlay.specs.Over.{rise_above}
use Rattle.ufs_ledger.specs.Changes.{committing, settled}
use Rattle.ufs_ledger.specs.Committing.{MayGoOn}
use Rattle.ufs_store.proofs.Stages.{by_two}
use Rattle.ufs_store.proofs.Kept.{below_next, numbers_from_one, rises_on}
use Rattle.ufs_store.proofs.Numbers.{below_more, committed_below}
use Rattle.ufs_store.proofs.commits.commit_in_room.Goals as goal

pub returns-in-Ok-clause-crash : goal.returns-in-Ok-clause-crash
returns-in-Ok-clause-crash g c visible l has may =
    let t : Committed = record { number = c.args.tables.now.journal.number; records = c.args.records.now } in
    by_two (g.D.Disk.size c.args.disk.now) g.D.Disk.keeps l (committing t (settled l)) (g.D.Disk.moments c.args.disk.now) (g.D.Disk.moments c.commit_records.new.disk)
    (c.commit_records.ensures.crash visible l has.by (record { unused = has.unused c.args.tables.now.txn (omega arith); may = may }))

pub returns-in-Err-clause-crash : goal.returns-in-Err-clause-crash
returns-in-Err-clause-crash g c visible l has may =
    let t : Committed = record { number = c.args.tables.now.journal.number; records = c.args.records.now } in
    by_two (g.D.Disk.size c.args.disk.now) g.D.Disk.keeps l (committing t (settled l)) (g.D.Disk.moments c.args.disk.now) (g.D.Disk.moments c.commit_records.new.disk)
    (c.commit_records.ensures.crash visible l has.by (record { unused = has.unused c.args.tables.now.txn (omega arith); may = may }))

pub returns-in-Ok-clause-ok : goal.returns-in-Ok-clause-ok
returns-in-Ok-clause-ok g c visible l has may =
    let j = c.args.tables.now.journal in
    let k = c.commit_records.new.journal in
    let t : Committed = record { number = j.number; records = c.args.records.now } in
    let new = (g.D.Disk.moments c.commit_records.new.disk).state in
    let go : MayGoOn j (g.D.Disk.moments c.args.disk.now).state l c.args.tables.now.txn c.args.records.now = record { unused = has.unused c.args.tables.now.txn (omega arith); may = may } in
    let grown = c.in-Ok.ensures.rises in
    let under = c.requires.numbers in
    let more : k.number ≡ j.number + 1 = omega (arith, grown, under) in
    let rising : IsTrue (rise_above 0 (l.now.log ++ t ∷ [])) = rises_on 0 l.now.log t has.added.rising has.numbered (numbers_from_one c.args.tables.now) in
    record {
      going = c.requires.going;
      by = c.in-Ok.ensures.next visible under l has.by go;
      superblock_is = has.superblock_is;
      added = subst (λ (rs : List LogRecord). overlaid.HasAdded c.add_records.new.self (l.now.log ++ (record { number = j.number; records = rs }) ∷ [])) c.as_slice.ensures
          (c.in_ok-add_records.ensures.ok l.now.log has.added (subst (λ (rs : List LogRecord). IsTrue (rise_above 0 (l.now.log ++ (record { number = j.number; records = rs }) ∷ []))) (sym c.as_slice.ensures) rising));
      numbered = below_next l.now.log t j.number k.number has.numbered refl more;
      unused = λ other past.
          let same : j.geometry ≡ k.geometry = sym c.commit_records.ensures.geometry in
          let epoch : j.epoch ≡ k.epoch = sym c.commit_records.ensures.epoch in
          let apart : other ≢ c.args.tables.now.txn = λ is. omega (arith, is, past) in
          subst (λ (x : Geometry × ℕ). IsUnused x.0 x.1 other new) (λ i. (same i, epoch i))
          (c.in-Ok.ensures.unused visible l has.by go other apart (has.unused other (omega (arith, past))));
      settled = λ _ block. refl;
      older = committed_below (geometry_of l.superblock) t l.now.catalog k.number (omega (arith, more)) (below_more (geometry_of l.superblock) (geometry_of l.superblock) l.now.catalog j.number k.number refl (omega (arith, more)) has.older);
      fits = omega (arith, more, under);
    }

-- ---- its numbers

pub returns-in-Ok-clause-raised : goal.returns-in-Ok-clause-raised
returns-in-Ok-clause-raised g c =
    let up = c.in-Ok.ensures.rises in
    let under = c.requires.numbers in
    record { epoch = omega arith; epoch_most = omega arith; number = omega (arith, up, under); number_most = omega (arith, up, under) }

pub returns-in-Err-clause-raised : goal.returns-in-Err-clause-raised
returns-in-Err-clause-raised g c =
    let same = c.in-Err.ensures.number_stays in
    record { epoch = omega arith; epoch_most = omega arith; number = omega (arith, same); number_most = omega (arith, same) }
