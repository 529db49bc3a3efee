use Rattle.std.proofs.Common.{◌≡◌, ◌∙◌, ◌*◌, ◌<◌, ℕ, false, refl, length, ap, sym, subst, arith, rules}
use Rattle.std.specs.Prelude.{IsTrue, ◌==◌, if◌then◌else◌}
use Rattle.std.proofs.lemmas.Bool.Decides.{nat_tests}
use Rattle.ufs_disk.specs.Moments.{LeavesOnly, reads}
use Rattle.ufs_disk.proofs.Images.{put_one, seen_is_image}
use Rattle.ufs_base.specs.Images.{Image}
use Rattle.ufs_layout.specs.Areas.{first_of_inodes}
use Rattle.ufs_disk.proofs.Noted.{on_err}
use Rattle.ufs_image.specs.Images.{block_at}
use Rattle.ufs_image.specs.Fold.{folded}
use Rattle.ufs_layout.specs.declared.geometry.Geometry.{Geometry}
use Rattle.ufs_journal.specs.Kept.{IsReady}
use Rattle.ufs_ledger.specs.Ledger.{Ledger, IsLedgerOf}
use Rattle.ufs_ledger.specs.Changes.{emptied, home_of}
use Rattle.ufs_ledger.specs.Committing.{IsLedgerBy}
use Rattle.ufs_overlay.specs.Over.{IsHomeWritten}
use Rattle.ufs_overlay.specs.Seen as overlaid
use Rattle.ufs_ledger.proofs.Wholes.{images_of, sized_images}
use Rattle.ufs_ledger.proofs.Emptying.{IsBarred, IsHoming, IsHome, IsBeginning, IsBegun, IsStopped, IsEmptied, stopped1, stopped2, stopped3, stopped4, stopped5, emptied5}
use Rattle.ufs_ledger.proofs.Homing.{bitmap_there}
use Rattle.ufs_ledger.proofs.calls.checkpoint.Given.{Over}
use Rattle.ufs_ledger.proofs.calls.checkpoint.Goals as goal
use Rattle.ufs_ledger.proofs.calls.checkpoint.Goals.{After-barrier, After-write_home, After-barrier-2, After-write, After-barrier-3, After-from_residual, After-from_residual-in_err-write_home, After-from_residual-in_err-barrier-2, After-from_residual-in_err-write, After-from_residual-in_err-barrier-3, After-restart}

module _ (g : Over) (visible : IsTrue g.D.Disk.visible) (l : Ledger) where
  -- ---- each step

  barred : (c : After-barrier g) → IsLedgerBy c.args.journal.now (g.D.Disk.size c.args.disk.now) (g.D.Disk.moments c.args.disk.now).state l
      → IsBarred (g.D.Disk.size c.args.disk.now) g.D.Disk.keeps c.args.journal.now l c.args.superblock.now c.super_sector-sector.result (g.D.Disk.moments c.args.disk.now) (g.D.Disk.moments c.barrier.new.self)
  barred c by = record {
    by = by;
    whole = images_of (g.D.Disk.size c.args.disk.now) (g.D.Disk.moments c.args.disk.now).state (g.met.D.Disk.whole visible c.args.disk.now);
    spelled = c.super_sector-sector.ensures;
    kept = c.requires.same;
    later = c.requires.later;
    used = c.requires.in_use;
    run = c.barrier.ensures.crash visible;
    same = c.barrier.ensures.content visible;
  }

  homing : (c : After-write_home g) → overlaid.HasAdded c.args.overlay.now l.now.log → IsHoming (g.D.Disk.size c.args.disk.now) g.D.Disk.keeps c.args.journal.now l (g.D.Disk.moments c.barrier.new.self) (g.D.Disk.moments c.write_home.new.disk)
  homing c log =
      let m1 = g.D.Disk.moments c.barrier.new.self in
      let still = c.in_ok-barrier.ensures.ok visible in
      record {
        still = still;
        whole = sized_images (g.D.Disk.size c.args.disk.now) (g.D.Disk.size c.barrier.new.self) c.barrier.ensures.size m1.state (g.met.D.Disk.whole visible c.barrier.new.self);
        run = subst (λ (x : Geometry). LeavesOnly g.D.Disk.keeps (IsHomeWritten x l.now.log m1.state) m1 (g.D.Disk.moments c.write_home.new.disk)) c.requires.over (c.write_home.ensures.crash visible l.now.log log (λ image left sector touched i. still image left i sector));
      }

  home : (c : After-barrier-2 g) → overlaid.HasAdded c.args.overlay.now l.now.log → IsHome g.D.Disk.keeps c.args.journal.now l (g.D.Disk.moments c.barrier.new.self) (g.D.Disk.moments c.write_home.new.disk) (g.D.Disk.moments c.barrier-2.new.self)
  home c log = record {
    done = subst (λ (x : Geometry). reads (g.D.Disk.moments c.write_home.new.disk) ≡ folded x l.now.log (reads (g.D.Disk.moments c.barrier.new.self))) c.requires.over (λ i k. c.in_ok-write_home.ensures.ok visible l.now.log log k i);
    run = c.barrier-2.ensures.crash visible;
    same = c.barrier-2.ensures.content visible;
  }

  beginning : (c : After-write g) → IsBeginning (g.D.Disk.size c.args.disk.now) g.D.Disk.keeps c.super_sector-sector.result (g.D.Disk.moments c.barrier-2.new.self) (g.D.Disk.moments c.write.new.self)
  beginning c =
      let m3 = g.D.Disk.moments c.barrier-2.new.self in
      record {
        still = c.in_ok-barrier-2.ensures.ok visible;
        whole = sized_images (g.D.Disk.size c.args.disk.now) (g.D.Disk.size c.barrier-2.new.self) (cc) m3.state (g.met.D.Disk.whole visible c.barrier-2.new.self) (reads m3) (seen_is_image m3.state);
        long = search rules;
        run = c.write.ensures.crash visible;
      }

  begun : (c : After-barrier-3 g) → IsBegun g.D.Disk.keeps c.super_sector-sector.result (g.D.Disk.moments c.barrier-2.new.self) (g.D.Disk.moments c.write.new.self) (g.D.Disk.moments c.barrier-3.new.self)
  begun c = record { done = c.in_ok-write.ensures.ok visible; run = c.barrier-3.ensures.crash visible; same = c.barrier-3.ensures.content visible }

  -- ---- each end

  barrier_ends : (c : After-from_residual g) → IsLedgerBy c.args.journal.now (g.D.Disk.size c.args.disk.now) (g.D.Disk.moments c.args.disk.now).state l → overlaid.HasAdded c.args.overlay.now l.now.log → IsStopped (g.D.Disk.size c.args.disk.now) g.D.Disk.keeps c.args.journal.now l c.args.superblock.now (g.D.Disk.moments c.args.disk.now) (g.D.Disk.moments c.barrier.new.self)
  barrier_ends c by log = let at = goal.at.returns-in_err-barrier-clause-crash g c in stopped1 (barred at.After-barrier by)

  write_home_ends : (c : After-from_residual-in_err-write_home g) → IsLedgerBy c.args.journal.now (g.D.Disk.size c.args.disk.now) (g.D.Disk.moments c.args.disk.now).state l → overlaid.HasAdded c.args.overlay.now l.now.log → IsStopped (g.D.Disk.size c.args.disk.now) g.D.Disk.keeps c.args.journal.now l c.args.superblock.now (g.D.Disk.moments c.args.disk.now) (g.D.Disk.moments c.write_home.new.disk)
  write_home_ends c by log = let at = goal.at.returns-in_err-write_home-clause-crash g c in stopped2 (barred at.After-barrier by) (homing at.After-write_home log)

  barrier_2_ends : (c : After-from_residual-in_err-barrier-2 g) → IsLedgerBy c.args.journal.now (g.D.Disk.size c.args.disk.now) (g.D.Disk.moments c.args.disk.now).state l → overlaid.HasAdded c.args.overlay.now l.now.log → IsStopped (g.D.Disk.size c.args.disk.now) g.D.Disk.keeps c.args.journal.now l c.args.superblock.now (g.D.Disk.moments c.args.disk.now) (g.D.Disk.moments c.barrier-2.new.self)
  barrier_2_ends c by log = let at = goal.at.returns-in_err-barrier-2-clause-crash g c in stopped3 (barred at.After-barrier by) (homing at.After-write_home log) (home at.After-barrier-2 log)

  write_ends : (c : After-from_residual-in_err-write g) → IsLedgerBy c.args.journal.now (g.D.Disk.size c.args.disk.now) (g.D.Disk.moments c.args.disk.now).state l → overlaid.HasAdded c.args.overlay.now l.now.log → IsStopped (g.D.Disk.size c.args.disk.now) g.D.Disk.keeps c.args.journal.now l c.args.superblock.now (g.D.Disk.moments c.args.disk.now) (g.D.Disk.moments c.write.new.self)
  write_ends c by log = let at = goal.at.returns-in_err-write-clause-crash g c in stopped4 (barred at.After-barrier by) (homing at.After-write_home log) (home at.After-barrier-2 log) (beginning at.After-write)

  barrier_3_ends : (c : After-from_residual-in_err-barrier-3 g) → IsLedgerBy c.args.journal.now (g.D.Disk.size c.args.disk.now) (g.D.Disk.moments c.args.disk.now).state l → overlaid.HasAdded c.args.overlay.now l.now.log → IsStopped (g.D.Disk.size c.args.disk.now) g.D.Disk.keeps c.args.journal.now l c.args.superblock.now (g.D.Disk.moments c.args.disk.now) (g.D.Disk.moments c.barrier-3.new.self)
  barrier_3_ends c by log = let at = goal.at.returns-in_err-barrier-3-clause-crash g c in stopped5 (barred at.After-barrier by) (homing at.After-write_home log) (home at.After-barrier-2 log) (beginning at.After-write) (begun at.After-barrier-3)

  ends : (c : After-restart g) → IsLedgerBy c.args.journal.now (g.D.Disk.size c.args.disk.now) (g.D.Disk.moments c.args.disk.now).state l → overlaid.HasAdded c.args.overlay.now l.now.log → IsEmptied (g.D.Disk.size c.args.disk.now) g.D.Disk.keeps c.args.journal.now l c.args.superblock.now (g.D.Disk.moments c.args.disk.now) (g.D.Disk.moments c.barrier-3.new.self)
  ends c by log = let at = goal.at.returns-clause-crash g c in emptied5 (barred at.After-barrier by) (homing at.After-write_home log) (home at.After-barrier-2 log) (beginning at.After-write) (begun at.After-barrier-3)

pub returns-in_err-barrier-clause-crash : goal.returns-in_err-barrier-clause-crash
returns-in_err-barrier-clause-crash g c visible l by log = (barrier_ends g visible l c by log).crash

pub returns-in_err-barrier-clause-data : goal.returns-in_err-barrier-clause-data
returns-in_err-barrier-clause-data g c visible l by log = (barrier_ends g visible l c by log).kept

pub returns-in_err-barrier-clause-err : goal.returns-in_err-barrier-clause-err
returns-in_err-barrier-clause-err g c visible = on_err c.from_residual.result _ (λ l by log. (barrier_ends g visible l c by log).ledger (g.D.Disk.size c.barrier.new.self) cc)

pub returns-in_err-write_home-clause-crash : goal.returns-in_err-write_home-clause-crash
returns-in_err-write_home-clause-crash g c visible l by log = (write_home_ends g visible l c by log).crash

pub returns-in_err-write_home-clause-data : goal.returns-in_err-write_home-clause-data
returns-in_err-write_home-clause-data g c visible l by log = (write_home_ends g visible l c by log).kept

pub returns-in_err-write_home-clause-err : goal.returns-in_err-write_home-clause-err
returns-in_err-write_home-clause-err g c visible = on_err c.from_residual-in_err-write_home.result _ (λ l by log. (write_home_ends g visible l c by log).ledger (g.D.Disk.size c.write_home.new.disk) cc)

pub returns-in_err-barrier-2-clause-crash : goal.returns-in_err-barrier-2-clause-crash
returns-in_err-barrier-2-clause-crash g c visible l by log = (barrier_2_ends g visible l c by log).crash

pub returns-in_err-barrier-2-clause-data : goal.returns-in_err-barrier-2-clause-data
returns-in_err-barrier-2-clause-data g c visible l by log = (barrier_2_ends g visible l c by log).kept

pub returns-in_err-barrier-2-clause-err : goal.returns-in_err-barrier-2-clause-err
returns-in_err-barrier-2-clause-err g c visible = on_err c.from_residual-in_err-barrier-2.result _ (λ l by log. (barrier_2_ends g visible l c by log).ledger (g.D.Disk.size c.barrier-2.new.self) cc)

pub returns-in_err-write-clause-crash : goal.returns-in_err-write-clause-crash
returns-in_err-write-clause-crash g c visible l by log = (write_ends g visible l c by log).crash

pub returns-in_err-write-clause-data : goal.returns-in_err-write-clause-data
returns-in_err-write-clause-data g c visible l by log = (write_ends g visible l c by log).kept

pub returns-in_err-write-clause-err : goal.returns-in_err-write-clause-err
returns-in_err-write-clause-err g c visible = on_err c.from_residual-in_err-write.result _ (λ l by log. (write_ends g visible l c by log).ledger (g.D.Disk.size c.write.new.self) cc)

pub returns-in_err-barrier-3-clause-crash : goal.returns-in_err-barrier-3-clause-crash
returns-in_err-barrier-3-clause-crash g c visible l by log = (barrier_3_ends g visible l c by log).crash

pub returns-in_err-barrier-3-clause-data : goal.returns-in_err-barrier-3-clause-data
returns-in_err-barrier-3-clause-data g c visible l by log = (barrier_3_ends g visible l c by log).kept

pub returns-in_err-barrier-3-clause-err : goal.returns-in_err-barrier-3-clause-err
returns-in_err-barrier-3-clause-err g c visible = on_err c.from_residual-in_err-barrier-3.result _ (λ l by log. (barrier_3_ends g visible l c by log).ledger (g.D.Disk.size c.barrier-3.new.self) cc)

pub returns-clause-crash : goal.returns-clause-crash
returns-clause-crash g c visible l by log = (ends g visible l c by log).stopped.crash

pub returns-clause-data : goal.returns-clause-data
returns-clause-data g c visible l by log = (ends g visible l c by log).stopped.kept

pub returns-clause-ok : goal.returns-clause-ok
returns-clause-ok g c visible l by log =
    let size = g.D.Disk.size c.args.disk.now in
    let m5 = g.D.Disk.moments c.barrier-3.new.self in
    let still = c.in_ok-barrier-3.ensures.ok visible in
    let end = ends g visible l c by log in
    let k = c.restart.new.self in
    let later : k.number ≡ c.args.journal.now.number = c.restart.ensures.same.1 in
    let same : g.D.Disk.size c.barrier-3.new.self ≡ size = cc in
    record {
      is = subst (λ n. IsLedgerOf n m5.state (emptied c.args.superblock.now (block_at (home_of l (reads (g.D.Disk.moments c.args.disk.now)))) l)) (sym same) (end.ledger still);
      none = refl;
      in_use = c.requires.in_use;
      geometry = c.requires.same ∙ sym c.restart.ensures.same.0;
      epoch = sym c.restart.ensures.epoch;
      later = omega (arith, c.requires.next, later);
      ready = subst (λ (x : ℕ × ℕ). IsReady k.geometry x.0 x.1 k.number m5.state) (λ i. (sym c.restart.ensures.epoch i, sym c.restart.ensures.used i)) (c.restart.ensures.ready m5.state (end.ready still));
    }

pub returns-clause-bitmap : goal.returns-clause-bitmap
returns-clause-bitmap g c visible log added sector low under =
    let m1 = g.D.Disk.moments c.barrier.new.self in
    let m3 = g.D.Disk.moments c.barrier-2.new.self in
    let over : overlaid.geometry_of c.args.overlay.now ≡ c.args.journal.now.geometry = c.requires.over in
    let long : length c.super_sector-sector.result ≡ 512 = search rules in
    let off : (sector == 0) ≡ false = (let past : 0 < sector = omega (arith, low) in grind (arith, nat_tests, past)) in
    let under' : sector < 8 * first_of_inodes (overlaid.geometry_of c.args.overlay.now) = subst (λ (x : Geometry). sector < 8 * first_of_inodes x) (sym over) under in
    ap (λ (i : Image). i sector) (c.barrier-3.ensures.content visible ∙ c.in_ok-write.ensures.ok visible ∙ put_one 0 c.super_sector-sector.result (reads m3) long)
    ∙ ap (λ b. if b then c.super_sector-sector.result else reads m3 sector) off
    ∙ ap (λ (i : Image). i sector) (c.barrier-2.ensures.content visible)
    ∙ c.in_ok-write_home.ensures.ok visible log added sector
    ∙ bitmap_there (overlaid.geometry_of c.args.overlay.now) log (reads m1) sector under'
    ∙ ap (λ (i : Image). i sector) (c.barrier.ensures.content visible)
