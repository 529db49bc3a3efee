use Rattle.std.proofs.Common.{◌≤◌, ℕ, sym, refl, ◌∙◌, subst}
use Rattle.ufs_joint.specs.Ends.{CanBegin}
use Rattle.ufs_start.specs.Begun.{IsBegun}
use Rattle.ufs_begin_hands.specs.Mounted.{beginning_of}
use Rattle.ufs_begin_hands.specs.Seen.{sees}
use Rattle.ufs_rounds_tests.proofs.session.ready_on.Goals as goal

pub mount-requires-clause-begun : goal.mount-requires-clause-begun
mount-requires-clause-begun g c =
    let b = c.in-Ok.ensures.begun in
    (b.0, subst (λ (n : ℕ). IsBegun n b.0 c.in-Ok.start) (sym c.start_of.ensures.size) b.1, λ sight. b.2 sight ∙ sym (c.start_of.ensures.read_only sight).content)

pub returns-in-Ok-mount-clause-mounted : goal.returns-in-Ok-mount-clause-mounted
returns-in-Ok-mount-clause-mounted g c =
    let m = c.in-Ok-mount.ensures in
    let low : c.in-Ok.start.names.next ≤ 1073741824 = c.in-Ok.ensures.begun.1.few in
    let disk = c.start_of.new.disk in (
      beginning_of c.in-Ok.start c.args.clients c.args.workers (sees g.D.Disk.visible (g.D.Disk.size disk) (g.D.Disk.moments disk).state),
      record {
        start = m.start;
        ready = m.ready;
        can = subst CanBegin m.start m.session;
        clients_are = refl;
        workers_are = refl;
        few = low;
        names_are = m.names;
        files_are = m.files;
      },
    )

pub returns-in-Ok-mount-clause-sees : goal.returns-in-Ok-mount-clause-sees
returns-in-Ok-mount-clause-sees g c = c.in-Ok-mount.ensures.seen
