use Rattle.std.proofs.Common.{◌<◌, length, refl, subst, sym, ◌∙◌, ap, arith}
use Rattle.std.specs.Prelude.{not}
use Rattle.std.specs.List.{list_all}
use Rattle.ufs_base.specs.Images.{Image}
use Rattle.ufs_disk.specs.Disk.{IsImage}
use Rattle.ufs_disk.specs.Moments.{reads}
use Rattle.ufs_disk.proofs.Images.{seen_is_image}
use Rattle.ufs_layout.specs.JournalSector.{HasCommit}
use Rattle.ufs_journal.specs.declared.open_list.Opened.{Opened}
use Rattle.ufs_journal.specs.Found.{journal_sector}
use Rattle.ufs_journal.specs.Opened.{is_txn, opened_of, is_placed, rises}
use Rattle.ufs_journal.specs.Written.{CommitsOne}
use Rattle.ufs_journal.specs.Kept.{HoldsRecords}
use Rattle.ufs_journal.proofs.KeptLemmas.{listed_at, same_listed, all_filter, rises_filter, length_filter, apart, find_without}
use Rattle.ufs_journal.proofs.CommitKept.{commits_one, maybe_committed, ready_put, unused_maybe, other_held}
use Rattle.ufs_journal.proofs.journal.Journal.commit.Goals as goal

pub overflow_cast-one : goal.overflow_cast-one
overflow_cast-one g c =
    let j = c.args.self.now in
    let at = listed_at c.args.txn j.used j.opened c.in-Some.one j.placed (sym c.in-Some.ensures) in
    omega (arith, at.2, at.3, j.inside, j.taken.most_journal)

pub write_commit-requires-clause-place : goal.write_commit-requires-clause-place
write_commit-requires-clause-place g c =
    let j = c.args.self.now in
    let at = listed_at c.args.txn j.used j.opened c.in-Some.one j.placed (sym c.in-Some.ensures) in
    omega (arith, at.2, j.inside)

pub write_commit-requires-clause-txn : goal.write_commit-requires-clause-txn
write_commit-requires-clause-txn g c =
    let j = c.args.self.now in
    let at = listed_at c.args.txn j.used j.opened c.in-Some.one j.placed (sym c.in-Some.ensures) in
    omega (arith, at.0, at.1)

pub invariant_of-self : goal.invariant_of-self
invariant_of-self g c =
    let j = c.args.self.now in
    record {
      taken = j.taken;
      inside = j.inside;
      few = omega (arith, ap length c.remove.ensures, length_filter (λ o. not (is_txn c.args.txn o)) j.opened, j.few);
      placed = ap (list_all (is_placed j.used)) c.remove.ensures ∙ all_filter (is_placed j.used) (λ o. not (is_txn c.args.txn o)) j.opened j.placed;
      rising = ap rises c.remove.ensures ∙ rises_filter (λ o. not (is_txn c.args.txn o)) j.opened j.rising;
    }

pub returns-in_err-write_commit-clause-crash : goal.returns-in_err-write_commit-clause-crash
returns-in_err-write_commit-clause-crash g c visible ready records open_ fits =
    let j = c.args.self.now in
    let at = listed_at c.args.txn j.used j.opened c.in-Some.one j.placed (sym c.in-Some.ensures) in
    let within : c.in-Some.one.place < j.geometry.journal = omega (arith, at.2, j.inside) in
    let held = subst (λ (o : Opened). HoldsRecords j.geometry j.epoch o records (reads (g.D.Disk.moments c.args.disk.now))) (same_listed _ c.in-Some.one open_.one (sym c.in-Some.ensures) open_.listed) open_.holds in
    maybe_committed g.D.Disk.keeps j.geometry j.epoch (record { number = j.number; records = records }) (journal_sector j.geometry c.in-Some.one.place)
    (record { epoch = j.epoch; txn = c.args.txn; index = c.in-Some.one.count; content = HasCommit j.number }) (g.D.Disk.moments c.args.disk.now) (g.D.Disk.moments c.write_commit.new.disk)
    (commits_one j.geometry j.epoch c.args.txn j.number c.in-Some.one at.0 within (reads (g.D.Disk.moments c.args.disk.now)) c.write_commit.ensures.read_back records held (ready.fresh (reads (g.D.Disk.moments c.args.disk.now)) (seen_is_image (g.D.Disk.moments c.args.disk.now).state)) fits) (c.write_commit.ensures.crash visible)

pub returns-clause-crash : goal.returns-clause-crash
returns-clause-crash g c visible ready records open_ fits =
    let j = c.args.self.now in
    let at = listed_at c.args.txn j.used j.opened c.in-Some.one j.placed (sym c.in-Some.ensures) in
    let within : c.in-Some.one.place < j.geometry.journal = omega (arith, at.2, j.inside) in
    let held = subst (λ (o : Opened). HoldsRecords j.geometry j.epoch o records (reads (g.D.Disk.moments c.args.disk.now))) (same_listed _ c.in-Some.one open_.one (sym c.in-Some.ensures) open_.listed) open_.holds in
    maybe_committed g.D.Disk.keeps j.geometry j.epoch (record { number = j.number; records = records }) (journal_sector j.geometry c.in-Some.one.place)
    (record { epoch = j.epoch; txn = c.args.txn; index = c.in-Some.one.count; content = HasCommit j.number }) (g.D.Disk.moments c.args.disk.now) (g.D.Disk.moments c.write_commit.new.disk)
    (commits_one j.geometry j.epoch c.args.txn j.number c.in-Some.one at.0 within (reads (g.D.Disk.moments c.args.disk.now)) c.write_commit.ensures.read_back records held (ready.fresh (reads (g.D.Disk.moments c.args.disk.now)) (seen_is_image (g.D.Disk.moments c.args.disk.now).state)) fits) (c.write_commit.ensures.crash visible)

pub returns-clause-committed : goal.returns-clause-committed
returns-clause-committed g c visible ready records open_ fits =
    let j = c.args.self.now in
    let at = listed_at c.args.txn j.used j.opened c.in-Some.one j.placed (sym c.in-Some.ensures) in
    let within : c.in-Some.one.place < j.geometry.journal = omega (arith, at.2, j.inside) in
    let held = subst (λ (o : Opened). HoldsRecords j.geometry j.epoch o records (reads (g.D.Disk.moments c.args.disk.now))) (same_listed _ c.in-Some.one open_.one (sym c.in-Some.ensures) open_.listed) open_.holds in
    subst (CommitsOne j.geometry j.epoch (record { number = j.number; records = records }) (reads (g.D.Disk.moments c.args.disk.now))) (sym (c.in_ok-write_commit.ensures.written visible))
    (commits_one j.geometry j.epoch c.args.txn j.number c.in-Some.one at.0 within (reads (g.D.Disk.moments c.args.disk.now)) c.write_commit.ensures.read_back records held (ready.fresh (reads (g.D.Disk.moments c.args.disk.now)) (seen_is_image (g.D.Disk.moments c.args.disk.now).state)) fits)

pub returns-clause-ready : goal.returns-clause-ready
returns-clause-ready g c visible ready records open_ below =
    let j = c.args.self.now in
    let at = listed_at c.args.txn j.used j.opened c.in-Some.one j.placed (sym c.in-Some.ensures) in
    let within : c.in-Some.one.place < j.geometry.journal = omega (arith, at.2, j.inside) in
    let held = subst (λ (o : Opened). HoldsRecords j.geometry j.epoch o records (reads (g.D.Disk.moments c.args.disk.now))) (same_listed _ c.in-Some.one open_.one (sym c.in-Some.ensures) open_.listed) open_.holds in
    let only = λ (image : Image) (left : IsImage (g.D.Disk.moments c.write_commit.new.disk).state image). c.in_ok-write_commit.ensures.settled visible image left ∙ c.in_ok-write_commit.ensures.written visible in
    ready_put j.geometry j.epoch c.args.txn j.number c.in-Some.one at.0 within (reads (g.D.Disk.moments c.args.disk.now)) c.write_commit.ensures.read_back records held j.used c.saturating_add-self.result (g.D.Disk.moments c.args.disk.now).state (g.D.Disk.moments c.write_commit.new.disk).state refl at.2 (omega (arith, c.saturating_add-self.ensures, below)) ready only

pub returns-in_err-write_commit-clause-unused : goal.returns-in_err-write_commit-clause-unused
returns-in_err-write_commit-clause-unused g c visible records open_ other ne was =
    let j = c.args.self.now in
    let at = listed_at c.args.txn j.used j.opened c.in-Some.one j.placed (sym c.in-Some.ensures) in
    let within : c.in-Some.one.place < j.geometry.journal = omega (arith, at.2, j.inside) in
    let held = subst (λ (o : Opened). HoldsRecords j.geometry j.epoch o records (reads (g.D.Disk.moments c.args.disk.now))) (same_listed _ c.in-Some.one open_.one (sym c.in-Some.ensures) open_.listed) open_.holds in
    unused_maybe j.geometry j.epoch c.args.txn j.number c.in-Some.one at.0 within (reads (g.D.Disk.moments c.args.disk.now)) c.write_commit.ensures.read_back records held other (g.D.Disk.moments c.args.disk.now).state (g.D.Disk.moments c.write_commit.new.disk).state refl ne was (c.write_commit.ensures.crash visible).after

pub returns-clause-unused : goal.returns-clause-unused
returns-clause-unused g c visible records open_ other ne was =
    let j = c.args.self.now in
    let at = listed_at c.args.txn j.used j.opened c.in-Some.one j.placed (sym c.in-Some.ensures) in
    let within : c.in-Some.one.place < j.geometry.journal = omega (arith, at.2, j.inside) in
    let held = subst (λ (o : Opened). HoldsRecords j.geometry j.epoch o records (reads (g.D.Disk.moments c.args.disk.now))) (same_listed _ c.in-Some.one open_.one (sym c.in-Some.ensures) open_.listed) open_.holds in
    unused_maybe j.geometry j.epoch c.args.txn j.number c.in-Some.one at.0 within (reads (g.D.Disk.moments c.args.disk.now)) c.write_commit.ensures.read_back records held other (g.D.Disk.moments c.args.disk.now).state (g.D.Disk.moments c.write_commit.new.disk).state refl ne was (c.write_commit.ensures.crash visible).after

pub returns-clause-others : goal.returns-clause-others
returns-clause-others g c visible records open_ other rs ne was =
    let j = c.args.self.now in
    let at = listed_at c.args.txn j.used j.opened c.in-Some.one j.placed (sym c.in-Some.ensures) in
    let within : c.in-Some.one.place < j.geometry.journal = omega (arith, at.2, j.inside) in
    let held = subst (λ (o : Opened). HoldsRecords j.geometry j.epoch o records (reads (g.D.Disk.moments c.args.disk.now))) (same_listed _ c.in-Some.one open_.one (sym c.in-Some.ensures) open_.listed) open_.holds in
    let two = listed_at other j.used j.opened was.one j.placed was.listed in
    record {
      one = was.one;
      listed = ap (opened_of other) c.remove.ensures ∙ find_without c.args.txn other j.opened was.one ne was.listed;
      holds = subst (HoldsRecords j.geometry j.epoch was.one rs) (sym (c.in_ok-write_commit.ensures.written visible))
          (other_held j.geometry j.epoch c.args.txn j.number c.in-Some.one at.0 within (reads (g.D.Disk.moments c.args.disk.now)) c.write_commit.ensures.read_back records held was.one rs (λ same. ne (sym two.0 ∙ same)) (apart c.args.txn other j.opened c.in-Some.one was.one (λ same. ne (sym same)) j.rising (sym c.in-Some.ensures) was.listed) was.holds);
    }
