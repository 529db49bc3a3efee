use Rattle.std.proofs.Common.{◌≡◌, ℕ, length, ap, sym, ◌∙◌, subst, arith}
use Rattle.std.proofs.lemmas.Result.{err_from_is_err_and}
use Rattle.ufs_disk.specs.Moments.{reads}
use Rattle.ufs_image.specs.Volume.{volume}
use Rattle.ufs_layout.specs.declared.records.Committed.{Committed}
use Rattle.ufs_overlay.specs.Seen.{HasAdded}
use Rattle.ufs_metadata.specs.Faults.{HasFaultCause}
use Rattle.ufs_metadata.proofs.Quiet.{read_more}
use Rattle.ufs_metadata.proofs.Outside.{why_outside}
use Rattle.ufs_volume.specs.Volumes.{highest_number}
use Rattle.ufs_volume.proofs.Why.{why_superblock, why_read, rises, folds_all, volume_is, list_is}
use Rattle.ufs_volume.proofs.reading.read_volume.Goals as goal

pub returns-in_err-superblock-clause-refused : goal.returns-in_err-superblock-clause-refused
returns-in_err-superblock-clause-refused g c visible =
    let p = err_from_is_err_and c.from_residual.result c.from_residual.ensures.1 in
    rw (p.1, p.2) (why_superblock (g.D.Disk.size c.args.disk.now) (reads (g.D.Disk.moments c.args.disk.now)) c.in_err-superblock.field-0.0 (c.in_err-superblock.ensures.refused visible))

pub returns-in_err-list-clause-refused : goal.returns-in_err-list-clause-refused
returns-in_err-list-clause-refused g c visible =
    let p = err_from_is_err_and c.from_residual-in_err-list.result c.from_residual-in_err-list.ensures.1 in
    let e = c.in_ok-superblock.ensures in
    rw (p.1, p.2) (why_read (g.D.Disk.size c.args.disk.now) (reads (g.D.Disk.moments c.args.disk.now)) (reads (g.D.Disk.moments c.read_superblock.new.disk)) (c.read_superblock.ensures.read_only visible).content c.in_ok-superblock.superblock (e.superblock visible) (e.taken visible)
    c.in_err-list.field-0.0 (c.in_err-list.ensures.bad visible))

pub returns-in_err-list-clause-read_only : goal.returns-in_err-list-clause-read_only
returns-in_err-list-clause-read_only g c visible =
    read_more g.D.Disk.keeps (g.D.Disk.moments c.args.disk.now) (g.D.Disk.moments c.read_superblock.new.disk) (g.D.Disk.moments c.read_journal.new.disk) (c.read_superblock.ensures.read_only visible) (c.read_journal.ensures.read_only visible)

pub returns-in-Ok-clause-taken : goal.returns-in-Ok-clause-taken
returns-in-Ok-clause-taken g c visible =
    let e = c.in_ok-superblock.ensures in
    let l = c.in_ok-list.ensures in
    volume_is (g.D.Disk.size c.args.disk.now) (reads (g.D.Disk.moments c.args.disk.now)) (reads (g.D.Disk.moments c.read_superblock.new.disk)) (c.read_superblock.ensures.read_only visible).content c.in_ok-superblock.superblock (e.superblock visible) (e.taken visible)
    c.in_ok-list.list (l.committed visible) (l.whole visible) c.in-Ok.volume c.in-Ok.ensures.superblock

pub returns-in-Ok-clause-added : goal.returns-in-Ok-clause-added
returns-in-Ok-clause-added g c visible =
    let e = c.in_ok-superblock.ensures in
    let l = c.in_ok-list.ensures in
    let disk = reads (g.D.Disk.moments c.args.disk.now) in
    let mid = reads (g.D.Disk.moments c.read_superblock.new.disk) in
    let content : mid ≡ disk = (c.read_superblock.ensures.read_only visible).content in
    let list = c.in_ok-list.list in
    subst (HasAdded c.in-Ok.volume.overlay) (list_is (g.D.Disk.size c.args.disk.now) disk mid content c.in_ok-superblock.superblock (e.superblock visible) (e.taken visible) list (l.committed visible) (l.whole visible) c.in-Ok.volume c.in-Ok.ensures.superblock)
    (c.in-Ok.ensures.added (rises (g.D.Disk.size c.args.disk.now) disk mid content c.in_ok-superblock.superblock (e.superblock visible) (e.taken visible) list (l.committed visible) (l.whole visible)))

pub returns-in-Ok-clause-count : goal.returns-in-Ok-clause-count
returns-in-Ok-clause-count g c visible =
    let e = c.in_ok-superblock.ensures in
    let l = c.in_ok-list.ensures in
    c.in-Ok.ensures.count
    ∙ ap (length {A = Committed}) (list_is (g.D.Disk.size c.args.disk.now) (reads (g.D.Disk.moments c.args.disk.now)) (reads (g.D.Disk.moments c.read_superblock.new.disk)) (c.read_superblock.ensures.read_only visible).content c.in_ok-superblock.superblock (e.superblock visible) (e.taken visible)
    c.in_ok-list.list (l.committed visible) (l.whole visible) c.in-Ok.volume c.in-Ok.ensures.superblock)

pub returns-in-Ok-clause-highest : goal.returns-in-Ok-clause-highest
returns-in-Ok-clause-highest g c visible =
    let e = c.in_ok-superblock.ensures in
    let l = c.in_ok-list.ensures in
    c.in-Ok.ensures.highest
    ∙ ap highest_number (list_is (g.D.Disk.size c.args.disk.now) (reads (g.D.Disk.moments c.args.disk.now)) (reads (g.D.Disk.moments c.read_superblock.new.disk)) (c.read_superblock.ensures.read_only visible).content c.in_ok-superblock.superblock (e.superblock visible) (e.taken visible)
    c.in_ok-list.list (l.committed visible) (l.whole visible) c.in-Ok.volume c.in-Ok.ensures.superblock)

pub returns-in-Ok-clause-read_only : goal.returns-in-Ok-clause-read_only
returns-in-Ok-clause-read_only g c visible =
    read_more g.D.Disk.keeps (g.D.Disk.moments c.args.disk.now) (g.D.Disk.moments c.read_superblock.new.disk) (g.D.Disk.moments c.read_journal.new.disk) (c.read_superblock.ensures.read_only visible) (c.read_journal.ensures.read_only visible)

pub returns-clause-refused : goal.returns-clause-refused
returns-clause-refused g c visible =
    let e = c.in_ok-superblock.ensures in
    let l = c.in_ok-list.ensures in
    why_outside (volume (g.D.Disk.size c.args.disk.now) (reads (g.D.Disk.moments c.args.disk.now))) c.in-Err.fault
    (c.in-Err.ensures.outside (folds_all (g.D.Disk.size c.args.disk.now) (reads (g.D.Disk.moments c.args.disk.now)) (reads (g.D.Disk.moments c.read_superblock.new.disk)) (c.read_superblock.ensures.read_only visible).content c.in_ok-superblock.superblock (e.superblock visible) (e.taken visible)
    c.in_ok-list.list (l.committed visible) (l.whole visible)))

pub returns-clause-read_only : goal.returns-clause-read_only
returns-clause-read_only g c visible =
    read_more g.D.Disk.keeps (g.D.Disk.moments c.args.disk.now) (g.D.Disk.moments c.read_superblock.new.disk) (g.D.Disk.moments c.read_journal.new.disk) (c.read_superblock.ensures.read_only visible) (c.read_journal.ensures.read_only visible)

pub returns-clause-cause : goal.returns-clause-cause
returns-clause-cause g c =
    subst (λ (n : ℕ). HasFaultCause (g.D.Disk.faults c.args.disk.now) n c.in-Err.fault) (sym (c.in_ok-list.ensures.passed ∙ c.in_ok-superblock.ensures.passed)) (c.in-Err.ensures.calm (g.D.Disk.faults c.args.disk.now))

pub with_list-requires : goal.with_list-requires
with_list-requires g c =
    let few = c.in_ok-list.ensures.few in
    let most = c.in_ok-superblock.superblock.limits.most_journal in
    omega (arith, few, most)
