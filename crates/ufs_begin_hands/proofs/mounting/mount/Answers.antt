use Rattle.std.proofs.Common.{◌≡◌, ◌≤◌, [], refl, ap, sym, ◌∙◌, subst}
use Rattle.ufs_base.specs.Images.{Image}
use Rattle.ufs_metadata.specs.Lacks.{IsOfNumbers}
use Rattle.ufs_metadata.specs.declared.fault.RecoverFault.TheVariants.{Lack}
use Rattle.ufs_disk.specs.Moments.{Moments, reads}
use Rattle.ufs_disk.proofs.Runs.{started, weaker}
use Rattle.ufs_image.specs.Volume.{Volume, superblock_of}
use Rattle.ufs_image.proofs.Journals.{taken}
use Rattle.ufs_image.proofs.Opening.{has_geometry}
use Rattle.ufs_joint.specs.Cells as joint
use Rattle.ufs_joint.specs.Ends.{CanBegin}
use Rattle.ufs_layout.specs.Areas.{sector_count}
use Rattle.ufs_layout.specs.Superblock.{geometry_of}
use Rattle.ufs_layout.specs.declared.geometry.Geometry.{Geometry}
use Rattle.ufs_layout.specs.declared.superblock.Super.{Super}
use Rattle.ufs_ledger.specs.Ledger.{IsLeftBy}
use Rattle.ufs_start.specs.Begun.{IsBegun, volume_under}
use Rattle.ufs_store.specs.Mounting.{marking}
use Rattle.ufs_store.specs.State.{StoreState}
use Rattle.ufs_store.specs.Tables.{state_of}
use Rattle.ufs_promise_laws.specs.OnDisk.{IsExplainedBetween, IsExplainedImage}
use Rattle.ufs_brink.specs.Laws.{IsReadClean, parts_of}
use Rattle.ufs_joint.specs.FirstHand.{Beginning, with_store}
use Rattle.ufs_joint.specs.Ready.{IsReady}
use Rattle.ufs_begin_hands.specs.Mounted.{beginning_of}
use Rattle.ufs_begin_hands.specs.Seen.{sees}
use Rattle.ufs_begin_hands.proofs.Domains.{live_here}
use Rattle.ufs_brink.proofs.Read.{clean_explained}
use Rattle.ufs_brink.proofs.Refused.{refused_leaves}
use Rattle.ufs_brink.proofs.Starts.{is_form}
use Rattle.ufs_begin_hands.proofs.Numbering.{next_is}
use Rattle.ufs_begin_hands.proofs.Readying.{it_sees, ready, sees_it, with_it}
use Rattle.ufs_begin_hands.proofs.mounting.mount.Goals as goal

-- ---- what was read

pub first_values-requires-clause-few : goal.first_values-requires-clause-few
first_values-requires-clause-few g c = c.requires.begun.1.few

pub first_values-requires-clause-all : goal.first_values-requires-clause-all
first_values-requires-clause-all g c = let b = c.requires.begun in next_is (g.D.Disk.size c.args.disk) b.0 c.args.start b.1

pub first_values-requires-clause-here : goal.first_values-requires-clause-here
first_values-requires-clause-here g c =
    let b = c.requires.begun in
    let size = g.D.Disk.size c.args.disk in
    let t = c.args.start.parts.start.tree in
    live_here (parts_of c.args.start) t (c.beginning_law.ensures.may size b.0 c.args.start t b.1 (with_it size b.0 c.args.start b.1)).parts

pub mount-requires-clause-form : goal.mount-requires-clause-form
mount-requires-clause-form g c = let b = c.requires.begun in is_form (g.D.Disk.size c.args.disk) b.0 (volume_under c.args.start.superblock b.0) b.1.standing.taken

pub mount-requires-clause-large : goal.mount-requires-clause-large
mount-requires-clause-large g c =
    let b = c.requires.begun in
    let size = g.D.Disk.size c.args.disk in
    subst (λ (x : Geometry). sector_count x ≤ size) c.args.start.superblock.same (has_geometry size b.0 (volume_under c.args.start.superblock b.0) b.1.standing.taken).1

-- ---- it isn't mounted

pub returns-in-Err-clause-err_moments : goal.returns-in-Err-clause-err_moments
returns-in-Err-clause-err_moments g c visible clean tree with_tree =
    let size = g.D.Disk.size c.args.disk in
    let old = g.D.Disk.moments c.args.disk in
    started g.D.Disk.keeps (IsExplainedImage size tree []) old (clean_explained c.a_request_keeps_the_tree.ensures size old.state tree clean with_tree)

pub returns-in-Err-mount-clause-cause : goal.returns-in-Err-mount-clause-cause
returns-in-Err-mount-clause-cause g c = c.why_unmounted.ensures.cause (g.D.Disk.faults c.args.disk) (g.D.Disk.faults c.in-Err-mount.unmounted.disk) c.in-Err-mount.ensures.cause

pub returns-in-Err-mount-clause-err_moments : goal.returns-in-Err-mount-clause-err_moments
returns-in-Err-mount-clause-err_moments g c visible clean tree with_tree =
    let m = c.in-Err-mount.ensures in
    let s = c.args.start in
    let b = c.requires.begun in
    let size = g.D.Disk.size c.args.disk in
    let old = g.D.Disk.moments c.args.disk in
    let is : IsReadClean s.superblock.geometry size old.state s = record { whole = g.met.D.Disk.whole visible c.args.disk; clean = clean; begun = subst (λ (i : Image). IsBegun size i s) (b.2 visible) b.1; geometry = refl } in
    let law = c.mounted_law.ensures in
    refused_leaves (IsExplainedImage size tree []) (IsLeftBy size (marking s.superblock.superblock (reads old))) g.D.Disk.keeps
    old (g.D.Disk.moments c.in-Err-mount.unmounted.disk) c.in-Err-mount.unmounted.fault (λ w lacks. ap g.D.Disk.moments (m.memory w lacks)) (m.err_crash visible (law.mountable size old.state s is))
    (λ image left. record { explained = law.explained size old.state s tree image is with_tree left; proper = law.proper size old.state s image is left })
    (clean_explained c.a_request_keeps_the_tree.ensures size old.state tree clean with_tree)

-- ---- it is

pub open_over-requires : goal.open_over-requires
open_over-requires g c =
    let b = c.requires.begun in
    let s = c.args.start in
    let m = c.in-Ok-mount.ensures in
    let size = g.D.Disk.size c.args.disk in
    let old = g.D.Disk.moments c.args.disk in
    let left = c.in-Ok-mount.store in
    let store : StoreState = state_of (g.D.Disk.size left.disk) (g.D.Disk.moments left.disk) (g.D.Disk.faults left.disk) left.tables in
    let first : Beginning = beginning_of s c.args.clients c.args.workers (sees g.D.Disk.visible size old.state) in
    let is : IsReady first store = ready s.superblock.geometry size old.state b.0 s store c.args.clients c.args.workers g.D.Disk.visible b.1 c.requires.few c.is_table.ensures refl
    (m.geometry ∙ sym s.superblock.same) m.unassigned m.going (λ sight. b.2 sight) (λ sight. g.met.D.Disk.whole sight c.args.disk) (λ sight. g.met.D.Disk.whole sight left.disk) (λ sight able. m.ok sight able)
    c.beginning_law.ensures.may c.beginning_law.ensures.sound c.mounted_law.ensures.mountable c.mounted_law.ensures.going in
    subst (λ (k : joint.Start). CanBegin (with_store store k)) (sym c.parts_before-before.ensures) (c.first_hand_law.ensures first store refl is)

pub returns-in-Ok-open_over-clause-session : goal.returns-in-Ok-open_over-clause-session
returns-in-Ok-open_over-clause-session g c =
    let b = c.requires.begun in
    let s = c.args.start in
    let m = c.in-Ok-mount.ensures in
    let size = g.D.Disk.size c.args.disk in
    let old = g.D.Disk.moments c.args.disk in
    let left = c.in-Ok-mount.store in
    let store : StoreState = state_of (g.D.Disk.size left.disk) (g.D.Disk.moments left.disk) (g.D.Disk.faults left.disk) left.tables in
    let first : Beginning = beginning_of s c.args.clients c.args.workers (sees g.D.Disk.visible size old.state) in
    let is : IsReady first store = ready s.superblock.geometry size old.state b.0 s store c.args.clients c.args.workers g.D.Disk.visible b.1 c.requires.few c.is_table.ensures refl
    (m.geometry ∙ sym s.superblock.same) m.unassigned m.going (λ sight. b.2 sight) (λ sight. g.met.D.Disk.whole sight c.args.disk) (λ sight. g.met.D.Disk.whole sight left.disk) (λ sight able. m.ok sight able)
    c.beginning_law.ensures.may c.beginning_law.ensures.sound c.mounted_law.ensures.mountable c.mounted_law.ensures.going in
    let from = c.in-Ok-open_over.ensures ∙ ap (with_store store) c.parts_before-before.ensures in
    subst CanBegin (sym from) (c.first_hand_law.ensures first store refl is)

pub returns-in-Ok-open_over-clause-ready : goal.returns-in-Ok-open_over-clause-ready
returns-in-Ok-open_over-clause-ready g c =
    let b = c.requires.begun in
    let s = c.args.start in
    let m = c.in-Ok-mount.ensures in
    let size = g.D.Disk.size c.args.disk in
    let old = g.D.Disk.moments c.args.disk in
    let left = c.in-Ok-mount.store in
    let store : StoreState = state_of (g.D.Disk.size left.disk) (g.D.Disk.moments left.disk) (g.D.Disk.faults left.disk) left.tables in
    let first : Beginning = beginning_of s c.args.clients c.args.workers (sees g.D.Disk.visible size old.state) in
    let is : IsReady first store = ready s.superblock.geometry size old.state b.0 s store c.args.clients c.args.workers g.D.Disk.visible b.1 c.requires.few c.is_table.ensures refl
    (m.geometry ∙ sym s.superblock.same) m.unassigned m.going (λ sight. b.2 sight) (λ sight. g.met.D.Disk.whole sight c.args.disk) (λ sight. g.met.D.Disk.whole sight left.disk) (λ sight able. m.ok sight able)
    c.beginning_law.ensures.may c.beginning_law.ensures.sound c.mounted_law.ensures.mountable c.mounted_law.ensures.going in
    is

pub returns-in-Ok-open_over-clause-numbers : goal.returns-in-Ok-open_over-clause-numbers
returns-in-Ok-open_over-clause-numbers g c image begun =
    let m = c.in-Ok-mount.ensures in
    let same : c.args.start.superblock.superblock ≡ superblock_of image = ap (λ (v : Volume). v.superblock) (taken (g.D.Disk.size c.args.disk) image (volume_under c.args.start.superblock image) begun.standing.taken).same in
    record {
      geometry = m.geometry ∙ ap geometry_of same;
      epoch = ap (λ (h : Super). h.epoch) m.superblock ∙ ap (λ (h : Super). h.epoch) same;
      number = m.number ∙ ap (λ (h : Super). h.next) same;
    }

pub returns-in-Ok-open_over-clause-on_disk : goal.returns-in-Ok-open_over-clause-on_disk
returns-in-Ok-open_over-clause-on_disk g c visible clean tree with_tree =
    let b = c.requires.begun in
    let s = c.args.start in
    let m = c.in-Ok-mount.ensures in
    let size = g.D.Disk.size c.args.disk in
    let old = g.D.Disk.moments c.args.disk in
    let left = c.in-Ok-mount.store in
    let store : StoreState = state_of (g.D.Disk.size left.disk) (g.D.Disk.moments left.disk) (g.D.Disk.faults left.disk) left.tables in
    let is : IsReadClean s.superblock.geometry size old.state s = record { whole = g.met.D.Disk.whole visible c.args.disk; clean = clean; begun = subst (λ (i : Image). IsBegun size i s) (b.2 visible) b.1; geometry = refl } in
    let law = c.mounted_law.ensures in
    law.going size old.state s tree store (parts_of s) is with_tree refl (m.ok visible (law.mountable size old.state s is)) (m.geometry ∙ sym s.superblock.same) m.unassigned

pub returns-in-Ok-open_over-clause-moments : goal.returns-in-Ok-open_over-clause-moments
returns-in-Ok-open_over-clause-moments g c visible clean tree with_tree =
    let b = c.requires.begun in
    let s = c.args.start in
    let m = c.in-Ok-mount.ensures in
    let size = g.D.Disk.size c.args.disk in
    let old = g.D.Disk.moments c.args.disk in
    let left = c.in-Ok-mount.store in
    let store : StoreState = state_of (g.D.Disk.size left.disk) (g.D.Disk.moments left.disk) (g.D.Disk.faults left.disk) left.tables in
    let is : IsReadClean s.superblock.geometry size old.state s = record { whole = g.met.D.Disk.whole visible c.args.disk; clean = clean; begun = subst (λ (i : Image). IsBegun size i s) (b.2 visible) b.1; geometry = refl } in
    let law = c.mounted_law.ensures in
    weaker g.D.Disk.keeps (IsLeftBy size (marking s.superblock.superblock (reads old))) (IsExplainedImage size tree [])
    (λ image by. record { explained = law.explained size old.state s tree image is with_tree by; proper = law.proper size old.state s image is by })
    old (g.D.Disk.moments left.disk) (m.crash visible (law.mountable size old.state s is))

pub returns-in-Err-open_over-clause-outside : goal.returns-in-Err-open_over-clause-outside
returns-in-Err-open_over-clause-outside g c = (Lack c.from.result, refl, subst IsOfNumbers (sym c.from.ensures) tt)

pub returns-in-Err-open_over-clause-err_moments : goal.returns-in-Err-open_over-clause-err_moments
returns-in-Err-open_over-clause-err_moments g c visible clean tree with_tree =
    let b = c.requires.begun in
    let s = c.args.start in
    let m = c.in-Ok-mount.ensures in
    let size = g.D.Disk.size c.args.disk in
    let old = g.D.Disk.moments c.args.disk in
    let left = c.in-Ok-mount.store in
    let store : StoreState = state_of (g.D.Disk.size left.disk) (g.D.Disk.moments left.disk) (g.D.Disk.faults left.disk) left.tables in
    let is : IsReadClean s.superblock.geometry size old.state s = record { whole = g.met.D.Disk.whole visible c.args.disk; clean = clean; begun = subst (λ (i : Image). IsBegun size i s) (b.2 visible) b.1; geometry = refl } in
    let law = c.mounted_law.ensures in
    subst (λ (x : Moments). IsExplainedBetween g.D.Disk.keeps size tree [] old x) (sym c.into_disk.ensures.moments)
    (weaker g.D.Disk.keeps (IsLeftBy size (marking s.superblock.superblock (reads old))) (IsExplainedImage size tree [])
    (λ image by. record { explained = law.explained size old.state s tree image is with_tree by; proper = law.proper size old.state s image is by })
    old (g.D.Disk.moments left.disk) (m.crash visible (law.mountable size old.state s is)))

pub returns-in-Ok-open_over-clause-visible : goal.returns-in-Ok-open_over-clause-visible
returns-in-Ok-open_over-clause-visible g c visible clean =
    let b = c.requires.begun in
    let s = c.args.start in
    let m = c.in-Ok-mount.ensures in
    let size = g.D.Disk.size c.args.disk in
    let old = g.D.Disk.moments c.args.disk in
    let left = c.in-Ok-mount.store in
    let store : StoreState = state_of (g.D.Disk.size left.disk) (g.D.Disk.moments left.disk) (g.D.Disk.faults left.disk) left.tables in
    let from = c.in-Ok-open_over.ensures ∙ ap (with_store store) c.parts_before-before.ensures in
    ap (λ (k : joint.Start). k.is_visible) from ∙ it_sees g.D.Disk.visible size old.state visible clean

pub returns-in-Ok-open_over-clause-seen : goal.returns-in-Ok-open_over-clause-seen
returns-in-Ok-open_over-clause-seen g c it =
    let b = c.requires.begun in
    let s = c.args.start in
    let m = c.in-Ok-mount.ensures in
    let size = g.D.Disk.size c.args.disk in
    let old = g.D.Disk.moments c.args.disk in
    let left = c.in-Ok-mount.store in
    let store : StoreState = state_of (g.D.Disk.size left.disk) (g.D.Disk.moments left.disk) (g.D.Disk.faults left.disk) left.tables in
    let from = c.in-Ok-open_over.ensures ∙ ap (with_store store) c.parts_before-before.ensures in
    let told = sees_it g.D.Disk.visible size old.state (sym (ap (λ (k : joint.Start). k.is_visible) from) ∙ it) in
    told.0
