use Rattle.std.proofs.Common.{◌≡◌, ◌≤◌, ◌+◌, ◌-◌, arith, sym, ap, subst, ◌∙◌}
use Rattle.std.specs.Prelude.{IfOk}
use Rattle.ufs_disk.specs.Moments.{reads}
use Rattle.ufs_mirror.specs.Opens.{unlabelled}
use Rattle.ufs_mirror.specs.Pairs.{moments_of, watched}
use Rattle.ufs_mirror.specs.Refused.{IsMakeFault}
use Rattle.ufs_mirror.proofs.Faulty.{size_make}
use Rattle.ufs_mirror.proofs.Pieces.{ok_with}
use Rattle.ufs_mirror.proofs.mirror.Mirror.make.Goals as goal

pub returns-in-Ok-clause-size : goal.returns-in-Ok-clause-size
returns-in-Ok-clause-size g c =
    let one : c.in-Ok.sectors - 1 + 1 ≡ g.A.Disk.size c.args.first = omega (arith, c.in-Ok.ensures.number, c.in-Ok.ensures.least) in
    let other : c.in-Ok.sectors - 1 + 1 ≡ g.B.Disk.size c.args.second = one ∙ c.in-Ok.ensures.both in
    ok_with c.make_of.result (λ m. m.sectors ≡ c.in-Ok.sectors - 1) (λ m. (m.sectors + 1 ≡ g.A.Disk.size c.args.first) × (m.sectors + 1 ≡ g.B.Disk.size c.args.second))
    (λ m is. (ap (λ n. n + 1) is ∙ one, ap (λ n. n + 1) is ∙ other)) c.make_of.ensures.size

pub returns-in-Ok-clause-least : goal.returns-in-Ok-clause-least
returns-in-Ok-clause-least g c =
    ok_with c.make_of.result (λ m. m.sectors ≡ c.in-Ok.sectors - 1) (λ m. 2 ≤ g.A.Disk.size c.args.first) (λ m is. c.in-Ok.ensures.least) c.make_of.ensures.size

pub returns-in-Ok-clause-content : goal.returns-in-Ok-clause-content
returns-in-Ok-clause-content g c va vb =
    subst (λ n. IfOk c.make_of.result (λ m. reads (moments_of m.sectors (watched (λ l. g.A.Disk.moments l.first) (λ l. g.B.Disk.moments l.second) m.legs.log.items m.legs.both m.legs.picks)) ≡ unlabelled n (reads (g.A.Disk.moments c.args.first)))) (ap (λ n. n - 1) c.in-Ok.ensures.number) (c.make_of.ensures.content va vb)

pub returns-in-Err-clause-refused : goal.returns-in-Err-clause-refused
returns-in-Err-clause-refused g c =
    subst (IsMakeFault (g.A.Disk.size c.args.first) (g.B.Disk.size c.args.second) (g.A.Disk.faults c.args.first) (g.A.Disk.faults c.unpaired.result.first) (g.B.Disk.faults c.args.second) (g.B.Disk.faults c.unpaired.result.second)) (sym c.unpaired.ensures.fault)
    (subst (λ x. IsMakeFault (g.A.Disk.size c.args.first) (g.B.Disk.size c.args.second) (g.A.Disk.faults c.args.first) x (g.B.Disk.faults c.args.second) (g.B.Disk.faults c.unpaired.result.second) c.in-Err.fault) (sym (ap g.A.Disk.faults c.unpaired.ensures.first))
    (subst (λ y. IsMakeFault (g.A.Disk.size c.args.first) (g.B.Disk.size c.args.second) (g.A.Disk.faults c.args.first) (g.A.Disk.faults c.args.first) (g.B.Disk.faults c.args.second) y c.in-Err.fault) (sym (ap g.B.Disk.faults c.unpaired.ensures.second))
    (size_make (g.A.Disk.size c.args.first) (g.B.Disk.size c.args.second) (g.A.Disk.faults c.args.first) (g.B.Disk.faults c.args.second) c.in-Err.fault c.in-Err.ensures.refused)))
