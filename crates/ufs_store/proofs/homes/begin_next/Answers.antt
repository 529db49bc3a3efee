use Rattle.std.proofs.Common.{◌∙◌, ◌+◌, ◌∷◌, [], false, refl, sym, subst, arith, ◌≡◌, ap, ℕ}
use Rattle.ufs_disk.specs.Moments.{LeavesOnly, reads}
use Rattle.ufs_image.specs.Images.{block_at}
use Rattle.ufs_layout.specs.Superblock.{geometry_of}
use Rattle.ufs_layout.specs.declared.superblock.Super.{Super}
use Rattle.ufs_ledger.specs.Changes.{beginning, emptied, home_of}
use Rattle.ufs_ledger.specs.Committing.{IsLedgerBy}
use Rattle.ufs_store.specs.Ledgers.{IsLeftByAny}
use Rattle.ufs_store.specs.Tables.{state_of}
use Rattle.ufs_store.proofs.Raised.{raises_none}
use Rattle.ufs_store.proofs.Stages.{by_two}
use Rattle.ufs_store.proofs.Kept.{unused_at_first, home_is_settled}
use Rattle.ufs_store.proofs.Numbers.{below_more}
use Rattle.ufs_store.proofs.homes.begin_next.Goals as goal

pub returns-in-Ok-clause-crash : goal.returns-in-Ok-clause-crash
returns-in-Ok-clause-crash g c visible l has =
    let old = g.D.Disk.moments c.args.disk.now in
    let new = g.D.Disk.moments c.checkpoint.new.disk in
    let size = g.D.Disk.size c.args.disk.now in
    let home = block_at (home_of l (reads old)) in
    subst (λ (h : Super). LeavesOnly g.D.Disk.keeps (IsLeftByAny size (l ∷ beginning h home l ∷ [])) old new) c.in-Some.ensures.superblock
    (by_two size g.D.Disk.keeps l (beginning c.in-Some.superblock home l) old new (c.checkpoint.ensures.crash visible l has.by has.added))

pub returns-in-Ok-clause-ok : goal.returns-in-Ok-clause-ok
returns-in-Ok-clause-ok g c visible l has =
    let new = g.D.Disk.moments c.checkpoint.new.disk in
    let home = block_at (home_of l (reads (g.D.Disk.moments c.args.disk.now))) in
    let by = c.in-Ok.ensures.ok visible l has.by has.added in
    let superblock : Super = record (c.args.tables.now.superblock) { epoch = c.args.tables.now.superblock.epoch + 1; next = c.args.tables.now.journal.number; clean = false } in
    let there : IsLedgerBy c.checkpoint.new.journal (g.D.Disk.size c.checkpoint.new.disk) new.state (emptied superblock home l) =
    subst (λ (h : Super). IsLedgerBy c.checkpoint.new.journal (g.D.Disk.size c.checkpoint.new.disk) new.state (emptied h home l)) c.in-Some.ensures.superblock by in
    let same = there.geometry ∙ c.checkpoint.ensures.geometry ∙ sym has.by.geometry in
    let still = c.checkpoint.ensures.number in
    record {
      going = c.requires.going;
      by = there;
      superblock_is = sym c.in-Some.ensures.superblock;
      added = c.empty_after_epoch.ensures.none;
      numbered = refl;
      unused = λ txn _. unused_at_first c.checkpoint.new.journal.geometry c.checkpoint.new.journal.epoch c.checkpoint.new.journal.used c.checkpoint.new.journal.number txn new.state c.in-Ok.ensures.used by.ready;
      settled = λ _ block. home_is_settled home l block;
      older = below_more (geometry_of l.superblock) (geometry_of superblock) l.now.catalog c.args.tables.now.journal.number c.checkpoint.new.journal.number same (omega (arith, still)) has.older;
      fits = let few = has.fits in omega (arith, few, still);
    }

pub returns-in-Err-clause-crash : goal.returns-in-Err-clause-crash
returns-in-Err-clause-crash g c visible l has =
    let old = g.D.Disk.moments c.args.disk.now in
    let new = g.D.Disk.moments c.checkpoint.new.disk in
    let size = g.D.Disk.size c.args.disk.now in
    let home = block_at (home_of l (reads old)) in
    subst (λ (h : Super). LeavesOnly g.D.Disk.keeps (IsLeftByAny size (l ∷ beginning h home l ∷ [])) old new) c.in-Some.ensures.superblock
    (by_two size g.D.Disk.keeps l (beginning c.in-Some.superblock home l) old new (c.checkpoint.ensures.crash visible l has.by has.added))

-- ---- its numbers

pub returns-in_default-clause-raised : goal.returns-in_default-clause-raised
returns-in_default-clause-raised g c = raises_none 1 0 (state_of (g.D.Disk.size c.args.disk.now) (g.D.Disk.moments c.args.disk.now) (g.D.Disk.faults c.args.disk.now) c.args.tables.now) (state_of (g.D.Disk.size c.args.disk.now) (g.D.Disk.moments c.args.disk.now) (g.D.Disk.faults c.args.disk.now) c.args.tables.now) refl refl

pub returns-in-Ok-clause-raised : goal.returns-in-Ok-clause-raised
returns-in-Ok-clause-raised g c =
    let up : c.in-Some.superblock.epoch ≡ c.args.tables.now.superblock.epoch + 1 = ap (λ (h : Super). h.epoch) c.in-Some.ensures.superblock in
    let number : c.checkpoint.new.journal.number ≡ c.args.tables.now.journal.number = c.checkpoint.ensures.number in
    record { epoch = omega (arith, up); epoch_most = omega (arith, up); number = omega (arith, number); number_most = omega (arith, number) }

pub returns-in-Err-clause-raised : goal.returns-in-Err-clause-raised
returns-in-Err-clause-raised g c =
    let number : c.checkpoint.new.journal.number ≡ c.args.tables.now.journal.number = c.checkpoint.ensures.number in
    record { epoch = omega arith; epoch_most = omega arith; number = omega (arith, number); number_most = omega (arith, number) }
