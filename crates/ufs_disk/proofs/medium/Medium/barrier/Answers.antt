use Rattle.std.proofs.Common.{◌≡◌, true, sym, ◌∙◌, ap, subst}
use Rattle.ufs_disk.specs.Disk.{IsImage}
use Rattle.ufs_disk.specs.Moments.{LeavesOnly, gone_to}
use Rattle.ufs_disk.specs.Bytes.{begun}
use Rattle.ufs_disk.specs.Calls.{after_calls, settled}
use Rattle.ufs_disk.specs.Pending.{held_state}
use Rattle.ufs_disk.specs.declared.medium.Request.TheVariants.{Barrier}
use Rattle.ufs_disk.proofs.Runs.{stays}
use Rattle.ufs_disk.proofs.Kept.{settled_whole}
use Rattle.ufs_disk.proofs.Written.{settled_leaves_only}
use Rattle.ufs_disk.proofs.Noted.{on_err, after_passed, after_failed, still_held, still_whole}
use Rattle.ufs_disk.proofs.medium.Medium.barrier.Goals as goal

pub invariant_of-self : goal.invariant_of-self
invariant_of-self c =
    let m = begun c.args.self.now.first.items in
    let old = c.args.self.now.calls.items in
    let new = c.note.new.calls.items in
    let same = after_failed m old new Barrier _ _ _ c.in_err-note.ensures.err in
    record {
      in_range = c.args.self.now.in_range;
      sized = c.args.self.now.sized;
      held = still_held (after_calls old m) (after_calls new m) same _ c.args.self.now.held;
      whole = still_whole (after_calls old m) (after_calls new m) same c.args.self.now.sectors c.args.self.now.whole;
    }

pub returns-in_err-note-clause-crash : goal.returns-in_err-note-clause-crash
returns-in_err-note-clause-crash c =
    let m = begun c.args.self.now.first.items in
    let old = c.args.self.now.calls.items in
    stays true (IsImage (after_calls old m).state) (after_calls old m) (after_calls c.note.new.calls.items m)
    (after_failed m old c.note.new.calls.items Barrier _ _ _ c.in_err-note.ensures.err) (λ image left. left)

pub invariant_of-self-2 : goal.invariant_of-self-2
invariant_of-self-2 c =
    let m = begun c.args.self.now.first.items in
    let old = c.args.self.now.calls.items in
    let new = c.note.new.calls.items in
    let is : after_calls new m ≡ gone_to (settled (after_calls old m).state) (after_calls old m) = after_passed m old new Barrier c.in_ok-note.ensures.ok in
    record {
      in_range = c.args.self.now.in_range;
      sized = c.args.self.now.sized;
      held = still_held (gone_to (settled (after_calls old m).state) (after_calls old m)) (after_calls new m) is _
          (ap (held_state c.args.self.now.bytes.items) c.new.ensures.items ∙ ap settled c.args.self.now.held);
      whole = still_whole (gone_to (settled (after_calls old m).state) (after_calls old m)) (after_calls new m) is c.args.self.now.sectors
          (settled_whole c.args.self.now.sectors (after_calls old m).state c.args.self.now.whole);
    }

pub returns-clause-crash : goal.returns-clause-crash
returns-clause-crash c =
    let m = begun c.args.self.now.first.items in
    let old = c.args.self.now.calls.items in
    let is = after_passed m old c.note.new.calls.items Barrier c.in_ok-note.ensures.ok in
    subst (LeavesOnly true (IsImage (after_calls old m).state) (after_calls old m)) (sym is) (settled_leaves_only (after_calls old m))

pub returns-in_err-note-clause-err : goal.returns-in_err-note-clause-err
returns-in_err-note-clause-err c = on_err _ _ (after_failed (begun c.args.self.now.first.items) c.args.self.now.calls.items c.note.new.calls.items Barrier _ _ _ c.in_err-note.ensures.err)
