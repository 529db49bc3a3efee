use Rattle.std.proofs.Common.{◌+◌, ◌/◌, length, arith, sym, ap, subst, ◌∙◌}
use Rattle.ufs_disk.specs.Disk.{IsSettled}
use Rattle.ufs_disk.specs.Moments.{reads}
use Rattle.ufs_mirror.proofs.Copy.{copied_second}
use Rattle.ufs_mirror.proofs.Data.{rests_first}
use Rattle.ufs_mirror.proofs.Pieces.{before_within, copied_within, long_within, settled_rests}
use Rattle.ufs_mirror.proofs.Views.{fits_in}
use Rattle.ufs_mirror.proofs.legs.Legs.copy_to_second.Goals as goal

pub returns-then-not-read_first-clause-runs : goal.returns-then-not-read_first-clause-runs
returns-then-not-read_first-clause-runs g c number va vb labelled =
    rests_first g.A.Disk.keeps g.B.Disk.keeps (λ l. g.A.Disk.moments l.first) (λ l. g.B.Disk.moments l.second) c.args.sectors number
    c.args.self.now.log.items c.read_first.new.self.log.items c.args.self.now.both c.read_first.new.self.both c.args.self.now.picks c.read_first.new.self.picks labelled
    c.read_first.ensures.log c.read_first.ensures.picks (ap g.B.Disk.moments c.read_first.ensures.second) (c.read_first.ensures.rests va)

pub returns-then-not-write_second-clause-runs : goal.returns-then-not-write_second-clause-runs
returns-then-not-write_second-clause-runs g c number va vb labelled =
    copied_second g.A.Disk.keeps g.B.Disk.keeps (λ l. g.A.Disk.moments l.first) (λ l. g.B.Disk.moments l.second) c.args.sectors number
    c.args.self.now.log.items c.read_first.new.self.log.items c.args.self.now.both c.read_first.new.self.both c.args.self.now.picks c.read_first.new.self.picks labelled
    c.read_first.ensures.log c.read_first.ensures.picks c.requires.alone
    c.args.sector c.read_first.new.buf (fits_in c.args.sectors c.args.sector c.read_first.new.buf (omega (arith, c.read_first.auto.buf, c.requires.long, c.requires.inside))) (ap g.B.Disk.moments c.read_first.ensures.second) (c.read_first.ensures.rests va)
    c.write_second.new.self.log.items c.write_second.new.self.both c.write_second.new.self.picks c.write_second.ensures.log c.write_second.ensures.picks (ap g.A.Disk.moments c.write_second.ensures.first) c.write_second.result (c.write_second.ensures.wrote vb)

pub returns-clause-runs : goal.returns-clause-runs
returns-clause-runs g c number va vb labelled =
    copied_second g.A.Disk.keeps g.B.Disk.keeps (λ l. g.A.Disk.moments l.first) (λ l. g.B.Disk.moments l.second) c.args.sectors number
    c.args.self.now.log.items c.read_first.new.self.log.items c.args.self.now.both c.read_first.new.self.both c.args.self.now.picks c.read_first.new.self.picks labelled
    c.read_first.ensures.log c.read_first.ensures.picks c.requires.alone
    c.args.sector c.read_first.new.buf (fits_in c.args.sectors c.args.sector c.read_first.new.buf (omega (arith, c.read_first.auto.buf, c.requires.long, c.requires.inside))) (ap g.B.Disk.moments c.read_first.ensures.second) (c.read_first.ensures.rests va)
    c.write_second.new.self.log.items c.write_second.new.self.both c.write_second.new.self.picks c.write_second.ensures.log c.write_second.ensures.picks (ap g.A.Disk.moments c.write_second.ensures.first) c.write_second.result (c.write_second.ensures.wrote vb)

pub returns-clause-copied : goal.returns-clause-copied
returns-clause-copied g c va vb whole k from_ to =
    let n = length c.args.piece.now / 512 in
    ap (λ (d : _). d k) ((c.write_second.ensures.wrote vb).reading c.if-not-write_second.false)
    ∙ copied_within (reads (g.A.Disk.moments c.args.self.now.both.first)) (reads (g.B.Disk.moments c.read_first.new.self.both.second)) c.args.sector n c.read_first.new.buf
    (c.read_first.ensures.bytes va c.if-not-read_first.false) (ap (λ m. m / 512) c.read_first.auto.buf)
    (λ i lt. long_within (g.A.Disk.size c.args.self.now.both.first) (g.A.Disk.moments c.args.self.now.both.first).state (g.met.A.Disk.whole va c.args.self.now.both.first) (c.args.sector + i) (omega (arith, lt, c.requires.long, c.requires.inside, c.requires.first_sized)))
    k from_ (omega (arith, to, c.requires.long))

pub returns-clause-others : goal.returns-clause-others
returns-clause-others g c vb whole k lt =
    ap (λ (d : _). d k) ((c.write_second.ensures.wrote vb).reading c.if-not-write_second.false)
    ∙ before_within (reads (g.B.Disk.moments c.read_first.new.self.both.second)) c.args.sector c.read_first.new.buf k lt
    ∙ ap (λ l. reads (g.B.Disk.moments l) k) c.read_first.ensures.second

pub returns-then-not-read_first-clause-calm : goal.returns-then-not-read_first-clause-calm
returns-then-not-read_first-clause-calm g c va settled =
    let rests = c.read_first.ensures.rests va in
    settled_rests (g.A.Disk.moments c.args.self.now.both.first) (g.A.Disk.moments c.read_first.new.self.both.first) rests.content rests.crash.after settled

pub returns-then-not-write_second-clause-calm : goal.returns-then-not-write_second-clause-calm
returns-then-not-write_second-clause-calm g c va settled =
    let rests = c.read_first.ensures.rests va in
    subst (λ l. IsSettled (g.A.Disk.moments l).state) (sym c.write_second.ensures.first)
    (settled_rests (g.A.Disk.moments c.args.self.now.both.first) (g.A.Disk.moments c.read_first.new.self.both.first) rests.content rests.crash.after settled)

pub returns-clause-calm : goal.returns-clause-calm
returns-clause-calm g c va settled =
    let rests = c.read_first.ensures.rests va in
    subst (λ l. IsSettled (g.A.Disk.moments l).state) (sym c.write_second.ensures.first)
    (settled_rests (g.A.Disk.moments c.args.self.now.both.first) (g.A.Disk.moments c.read_first.new.self.both.first) rests.content rests.crash.after settled)
