use Rattle.std.proofs.Common.{◌+◌, ◌/◌, length, arith, sym, ap, subst, ◌∙◌}
use Rattle.ufs_disk.specs.Disk.{IsSettled}
use Rattle.ufs_disk.specs.Moments.{reads}
use Rattle.ufs_mirror.proofs.Copy.{copied_first}
use Rattle.ufs_mirror.proofs.Data.{rests_second}
use Rattle.ufs_mirror.proofs.Pieces.{before_within, copied_within, long_within, settled_rests}
use Rattle.ufs_mirror.proofs.Views.{fits_in}
use Rattle.ufs_mirror.proofs.legs.Legs.copy_to_first.Goals as goal

pub returns-then-not-read_second-clause-runs : goal.returns-then-not-read_second-clause-runs
returns-then-not-read_second-clause-runs g c number va vb labelled =
    rests_second g.A.Disk.keeps g.B.Disk.keeps (λ l. g.A.Disk.moments l.first) (λ l. g.B.Disk.moments l.second) c.args.sectors number
    c.args.self.now.log.items c.read_second.new.self.log.items c.args.self.now.both c.read_second.new.self.both c.args.self.now.picks c.read_second.new.self.picks labelled
    c.read_second.ensures.log c.read_second.ensures.picks (ap g.A.Disk.moments c.read_second.ensures.first) (c.read_second.ensures.rests vb)

pub returns-then-not-write_first-clause-runs : goal.returns-then-not-write_first-clause-runs
returns-then-not-write_first-clause-runs g c number va vb labelled =
    copied_first g.A.Disk.keeps g.B.Disk.keeps (λ l. g.A.Disk.moments l.first) (λ l. g.B.Disk.moments l.second) c.args.sectors number
    c.args.self.now.log.items c.read_second.new.self.log.items c.args.self.now.both c.read_second.new.self.both c.args.self.now.picks c.read_second.new.self.picks labelled
    c.read_second.ensures.log c.read_second.ensures.picks c.requires.alone
    c.args.sector c.read_second.new.buf (fits_in c.args.sectors c.args.sector c.read_second.new.buf (omega (arith, c.read_second.auto.buf, c.requires.long, c.requires.inside))) (ap g.A.Disk.moments c.read_second.ensures.first) (c.read_second.ensures.rests vb)
    c.write_first.new.self.log.items c.write_first.new.self.both c.write_first.new.self.picks c.write_first.ensures.log c.write_first.ensures.picks (ap g.B.Disk.moments c.write_first.ensures.second) c.write_first.result (c.write_first.ensures.wrote va)

pub returns-clause-runs : goal.returns-clause-runs
returns-clause-runs g c number va vb labelled =
    copied_first g.A.Disk.keeps g.B.Disk.keeps (λ l. g.A.Disk.moments l.first) (λ l. g.B.Disk.moments l.second) c.args.sectors number
    c.args.self.now.log.items c.read_second.new.self.log.items c.args.self.now.both c.read_second.new.self.both c.args.self.now.picks c.read_second.new.self.picks labelled
    c.read_second.ensures.log c.read_second.ensures.picks c.requires.alone
    c.args.sector c.read_second.new.buf (fits_in c.args.sectors c.args.sector c.read_second.new.buf (omega (arith, c.read_second.auto.buf, c.requires.long, c.requires.inside))) (ap g.A.Disk.moments c.read_second.ensures.first) (c.read_second.ensures.rests vb)
    c.write_first.new.self.log.items c.write_first.new.self.both c.write_first.new.self.picks c.write_first.ensures.log c.write_first.ensures.picks (ap g.B.Disk.moments c.write_first.ensures.second) c.write_first.result (c.write_first.ensures.wrote va)

pub returns-clause-copied : goal.returns-clause-copied
returns-clause-copied g c va vb whole k from_ to =
    let n = length c.args.piece.now / 512 in
    ap (λ (d : _). d k) ((c.write_first.ensures.wrote va).reading c.if-not-write_first.false)
    ∙ copied_within (reads (g.B.Disk.moments c.args.self.now.both.second)) (reads (g.A.Disk.moments c.read_second.new.self.both.first)) c.args.sector n c.read_second.new.buf
    (c.read_second.ensures.bytes vb c.if-not-read_second.false) (ap (λ m. m / 512) c.read_second.auto.buf)
    (λ i lt. long_within (g.B.Disk.size c.args.self.now.both.second) (g.B.Disk.moments c.args.self.now.both.second).state (g.met.B.Disk.whole vb c.args.self.now.both.second) (c.args.sector + i) (omega (arith, lt, c.requires.long, c.requires.inside, c.requires.second_sized)))
    k from_ (omega (arith, to, c.requires.long))

pub returns-clause-others : goal.returns-clause-others
returns-clause-others g c va whole k lt =
    ap (λ (d : _). d k) ((c.write_first.ensures.wrote va).reading c.if-not-write_first.false)
    ∙ before_within (reads (g.A.Disk.moments c.read_second.new.self.both.first)) c.args.sector c.read_second.new.buf k lt
    ∙ ap (λ l. reads (g.A.Disk.moments l) k) c.read_second.ensures.first

pub returns-then-not-read_second-clause-calm : goal.returns-then-not-read_second-clause-calm
returns-then-not-read_second-clause-calm g c vb settled =
    let rests = c.read_second.ensures.rests vb in
    settled_rests (g.B.Disk.moments c.args.self.now.both.second) (g.B.Disk.moments c.read_second.new.self.both.second) rests.content rests.crash.after settled

pub returns-then-not-write_first-clause-calm : goal.returns-then-not-write_first-clause-calm
returns-then-not-write_first-clause-calm g c vb settled =
    let rests = c.read_second.ensures.rests vb in
    subst (λ l. IsSettled (g.B.Disk.moments l).state) (sym c.write_first.ensures.second)
    (settled_rests (g.B.Disk.moments c.args.self.now.both.second) (g.B.Disk.moments c.read_second.new.self.both.second) rests.content rests.crash.after settled)

pub returns-clause-calm : goal.returns-clause-calm
returns-clause-calm g c vb settled =
    let rests = c.read_second.ensures.rests vb in
    subst (λ l. IsSettled (g.B.Disk.moments l).state) (sym c.write_first.ensures.second)
    (settled_rests (g.B.Disk.moments c.args.self.now.both.second) (g.B.Disk.moments c.read_second.new.self.both.second) rests.content rests.crash.after settled)
