use Rattle.std.proofs.Common.{◌≡◌, ◌∙◌, ℕ, Some, length, ap, sym, subst, rules}
use Rattle.std.proofs.lemmas.Result.{on_ok_weaker}
use Rattle.ufs_disk.specs.Disk.{Leaves}
use Rattle.ufs_layout.specs.Superblock.{geometry_of}
use Rattle.ufs_layout.specs.declared.superblock.Super.{Super}
use Rattle.ufs_journal.specs.Kept.{HasEarlier}
use Rattle.ufs_ledger.specs.Changes.{opening_ledger}
use Rattle.ufs_ledger.specs.Laws.{BeginsAnew, BeginsForGood, BeginsQuietly, HasOpeningLedger}
use Rattle.ufs_ledger.specs.Ledger.{IsLedgerOf}
use Rattle.ufs_ledger.proofs.Wholes.{images_of}
use Rattle.ufs_disk.specs.Moments.{reads}
use Rattle.ufs_store.proofs.Marking.{crash1, crash2, earlier2, ledger2}
use Rattle.ufs_store.proofs.superblocks.mark_in_use.Goals as goal

pub returns-in_err-write-clause-crash : goal.returns-in_err-write-clause-crash
returns-in_err-write-clause-crash g c visible before superblock is =
    let size = g.D.Disk.size c.args.disk.now in
    let m0 = g.D.Disk.moments c.args.disk.now in
    let whole = images_of size m0.state (g.met.D.Disk.whole visible c.args.disk.now) in
    let long : length c.put_super.new.sector ≡ 512 = search rules in
    let geometry : c.args.geometry.now ≡ geometry_of before = sym c.requires.same ∙ ap geometry_of superblock in
    crash1 size g.D.Disk.keeps m0 before c.put_super.new.sector is whole (c.put_super.ensures.read_back ∙ ap Some superblock) long
    (subst HasOpeningLedger geometry c.mount_law.ensures) (subst BeginsQuietly c.sectors.ensures c.checkpoint_law.ensures.quietly) (subst BeginsAnew c.sectors.ensures c.checkpoint_law.ensures.anew) (subst BeginsForGood c.sectors.ensures c.checkpoint_law.ensures.good)
    (g.D.Disk.moments c.write.new.self) (c.write.ensures.crash visible)

pub returns-clause-crash : goal.returns-clause-crash
returns-clause-crash g c visible before superblock is =
    let size = g.D.Disk.size c.args.disk.now in
    let m0 = g.D.Disk.moments c.args.disk.now in
    let whole = images_of size m0.state (g.met.D.Disk.whole visible c.args.disk.now) in
    let long : length c.put_super.new.sector ≡ 512 = search rules in
    let geometry : c.args.geometry.now ≡ geometry_of before = sym c.requires.same ∙ ap geometry_of superblock in
    crash2 size g.D.Disk.keeps m0 before c.put_super.new.sector is whole (c.put_super.ensures.read_back ∙ ap Some superblock) long
    (subst HasOpeningLedger geometry c.mount_law.ensures) (subst BeginsQuietly c.sectors.ensures c.checkpoint_law.ensures.quietly) (subst BeginsAnew c.sectors.ensures c.checkpoint_law.ensures.anew) (subst BeginsForGood c.sectors.ensures c.checkpoint_law.ensures.good)
    (g.D.Disk.moments c.write.new.self) (c.write.ensures.crash visible) (g.D.Disk.moments c.barrier.new.self) (c.barrier.ensures.crash visible)

pub returns-clause-ok : goal.returns-clause-ok
returns-clause-ok g c visible = on_ok_weaker c.barrier.result (λ still before superblock is.
    let size = g.D.Disk.size c.args.disk.now in
    let m0 = g.D.Disk.moments c.args.disk.now in
    let m2 = g.D.Disk.moments c.barrier.new.self in
    let whole = images_of size m0.state (g.met.D.Disk.whole visible c.args.disk.now) in
    let long : length c.put_super.new.sector ≡ 512 = search rules in
    let geometry : c.args.geometry.now ≡ geometry_of before = sym c.requires.same ∙ ap geometry_of superblock in
    let sizes = c.barrier.ensures.size ∙ c.write.ensures.size in
    subst (λ (x : ℕ × Super). IsLedgerOf x.0 m2.state (opening_ledger x.1 (reads m0))) (λ i. (sym sizes i, sym superblock i))
    (ledger2 size g.D.Disk.keeps m0 before c.put_super.new.sector is whole (c.put_super.ensures.read_back ∙ ap Some superblock) long
    (subst HasOpeningLedger geometry c.mount_law.ensures) (subst BeginsQuietly c.sectors.ensures c.checkpoint_law.ensures.quietly) (subst BeginsAnew c.sectors.ensures c.checkpoint_law.ensures.anew) (subst BeginsForGood c.sectors.ensures c.checkpoint_law.ensures.good)
    (g.D.Disk.moments c.write.new.self) (c.write.ensures.crash visible) m2 (c.barrier.ensures.crash visible) (c.in_ok-write.ensures.ok visible) (c.barrier.ensures.content visible) still)) (c.barrier.ensures.ok visible)

pub returns-clause-earlier : goal.returns-clause-earlier
returns-clause-earlier g c visible = on_ok_weaker c.barrier.result (λ still before superblock is.
    let size = g.D.Disk.size c.args.disk.now in
    let m0 = g.D.Disk.moments c.args.disk.now in
    let m2 = g.D.Disk.moments c.barrier.new.self in
    let whole = images_of size m0.state (g.met.D.Disk.whole visible c.args.disk.now) in
    let long : length c.put_super.new.sector ≡ 512 = search rules in
    let geometry : c.args.geometry.now ≡ geometry_of before = sym c.requires.same ∙ ap geometry_of superblock in
    subst (λ (h : Super). Leaves (HasEarlier (geometry_of h) h.epoch) m2.state) (sym superblock)
    (earlier2 size g.D.Disk.keeps m0 before c.put_super.new.sector is whole (c.put_super.ensures.read_back ∙ ap Some superblock) long
    (subst HasOpeningLedger geometry c.mount_law.ensures) (subst BeginsQuietly c.sectors.ensures c.checkpoint_law.ensures.quietly) (subst BeginsAnew c.sectors.ensures c.checkpoint_law.ensures.anew) (subst BeginsForGood c.sectors.ensures c.checkpoint_law.ensures.good)
    (g.D.Disk.moments c.write.new.self) (c.write.ensures.crash visible) m2 (c.barrier.ensures.crash visible) (c.in_ok-write.ensures.ok visible) (c.barrier.ensures.content visible) still)) (c.barrier.ensures.ok visible)
