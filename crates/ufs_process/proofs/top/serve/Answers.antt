use Rattle.std.proofs.Common.{ap, sym, subst, ◌∙◌}
use Rattle.std.proofs.Math.Logic.{∥∥₁_map}
use Rattle.ufs_command.specs.Commands.{asked}
use Rattle.ufs_command.specs.Seen.{course}
use Rattle.ufs_mirror.specs.Pairs.{Follows, moments_of, watched}
use Rattle.std.specs.Prelude.{◌&&◌}
use Rattle.ufs_process.specs.Counts.{HasFailed}
use Rattle.ufs_process.specs.Joining.{Joins}
use Rattle.ufs_process.specs.Views.{View, kind, pairs_in, view}
use Rattle.ufs_process.proofs.OpeningLemmas.{opens_on}
use Rattle.ufs_process.proofs.ViewLemmas.{left_seen}
use Rattle.ufs_process.proofs.top.serve.Goals as goal

pub returns-clause-served : goal.returns-clause-served
returns-clause-served g c first second one_is other_is joins =
    let one = kind g.A.Disk.visible g.A.Disk.keeps g.A.Disk.size g.A.Disk.moments g.A.Disk.faults in
    let other = kind g.B.Disk.visible g.B.Disk.keeps g.B.Disk.size g.B.Disk.moments g.B.Disk.faults in
    let words = asked c.args.words.now.items in
    let old = c.new-counted.result.mirror in
    let new = c.quiet-outcome.result.disk.mirror in
    let before = view old.legs.both old.legs.log.items old.legs.picks old.faults old.sectors in
    let after = view new.legs.both new.legs.log.items new.legs.picks new.faults new.sectors in
    let left = left_seen (λ m. view m.mirror.legs.both m.mirror.legs.log.items m.mirror.legs.picks m.mirror.faults m.mirror.sectors) words c.quiet-outcome.result.told c.quiet-outcome.result.status
    (course (g.A.Disk.visible && g.B.Disk.visible) (g.A.Disk.keeps && g.B.Disk.keeps) (λ m. m.mirror.sectors)
    (λ m. moments_of m.mirror.sectors (watched (λ l. g.A.Disk.moments l.first) (λ l. g.B.Disk.moments l.second) m.mirror.legs.log.items m.mirror.legs.both m.mirror.legs.picks)) (λ m. m.mirror.faults) c.new-counted.result c.quiet-outcome.result.disk) c.quiet-outcome.ensures.disk in
    record {
      works = c.requires.works;
      before = before;
      after = after;
      joins = subst (λ m. Joins one other words first second (view m.legs.both m.legs.log.items m.legs.picks m.faults m.sectors)) (sym c.new-counted.ensures) joins;
      first = ap (λ l. l.first) c.apart-first.ensures;
      second = ap (λ l. l.second) c.apart-first.ensures;
      answer = c.quiet-outcome.ensures.answer;
      tells = c.quiet-outcome.ensures.told;
      disk = left;
      lacked = c.quiet-outcome.ensures.lacked;
      failed = λ some.
          let both = c.quiet-outcome.result.disk.counts.failed some in (
            subst (λ n. HasFailed n (g.A.Disk.faults c.apart-first.result.first)) one_is (subst (λ l. HasFailed g.N.Origin.first (g.A.Disk.faults l.first)) (sym c.apart-first.ensures) both.0),
            subst (λ n. HasFailed n (g.B.Disk.faults c.apart-first.result.second)) other_is (subst (λ l. HasFailed g.N.Origin.second (g.B.Disk.faults l.second)) (sym c.apart-first.ensures) both.1),
          );
      follows = ∥∥₁_map c.quiet-outcome.result.disk.follows (λ run va vb.
          subst (λ p. Follows (one.keeps && other.keeps) p (pairs_in one other after))
          (c.requires.begins ∙ ap (λ m. watched (λ l. g.A.Disk.moments l.first) (λ l. g.B.Disk.moments l.second) m.legs.log.items m.legs.both m.legs.picks) (sym c.new-counted.ensures)) (run va vb));
      right = c.live-live.ensures.right;
      opens = ∥∥₁_map c.live-live.ensures.right (λ right va vb. opens_on one other before after (right va vb) words c.quiet-outcome.result.told c.quiet-outcome.result.status va vb left.acts);
    }

pub returns-clause-source : goal.returns-clause-source
returns-clause-source g c = c.quiet-outcome.ensures.source

pub returns-clause-told : goal.returns-clause-told
returns-clause-told g c = c.quiet-outcome.ensures.served
