use Rattle.std.proofs.Common.{◌*◌, ◌&&◌, inl, inr, arith, refl, sym, ap, ◌∙◌}
use Rattle.std.proofs.lemmas.Bool.{cases_lt}
use Rattle.ufs_base.specs.Images.{Image}
use Rattle.ufs_disk.specs.Disk.{IsImage}
use Rattle.ufs_disk.specs.Moments.{reads}
use Rattle.ufs_mirror.specs.Labelled.{IsMoment}
use Rattle.ufs_mirror.specs.Pairs.{state_of, watched}
use Rattle.ufs_mirror.proofs.Data.{goes_on, rests_second}
use Rattle.ufs_mirror.proofs.Pieces.{same_length}
use Rattle.ufs_mirror.proofs.Runs.{started}
use Rattle.ufs_mirror.proofs.legs.Legs.copy_all_to_second.Goals as goal

pub loop-sector-init : goal.loop-sector-init
loop-sector-init g c = record {
  within = omega arith;
  long = refl;
  picks = refl;
  first_sized = refl;
  second_sized = refl;
  reading = λ va. refl;
  calm = λ va settled. settled;
  copied = λ va vb k lt. absurd (omega (arith, lt));
  first_count = refl;
  second_count = refl;
  runs = λ number va vb labelled. started (g.A.Disk.keeps && g.B.Disk.keeps) (IsMoment c.args.sectors number (IsImage (state_of c.args.sectors (watched (λ x. g.A.Disk.moments x.first) (λ x. g.B.Disk.moments x.second) c.args.self.now.log.items c.args.self.now.both c.args.self.now.picks).now))) (watched (λ x. g.A.Disk.moments x.first) (λ x. g.B.Disk.moments x.second) c.args.self.now.log.items c.args.self.now.both c.args.self.now.picks) (record { leaves = λ image left. left; labelled = labelled });
}

pub loop-sector-preserved : goal.loop-sector-preserved
loop-sector-preserved g c =
    let i = c.loop-sector.invariant in
    let counts = c.copy_to_second.ensures.counts.whole c.in-Whole.is in
    record {
      within = c.piece_at-count.ensures.inside;
      long = same_length c.copy_to_second.new.piece c.loop-sector.bytes (c.piece_at-count.result * 512) 4096 i.long c.copy_to_second.auto.piece (omega (arith, c.piece_at-count.ensures.most));
      picks = c.copy_to_second.ensures.picks ∙ i.picks;
      first_sized = c.copy_to_second.ensures.first_sized ∙ i.first_sized;
      second_sized = c.copy_to_second.ensures.second_sized ∙ i.second_sized;
      reading = λ va. c.copy_to_second.ensures.reads va ∙ i.reading va;
      calm = λ va settled. c.copy_to_second.ensures.calm va (i.calm va settled);
      copied = λ va vb k lt. elim (cases_lt k c.loop-sector.sector) [
        | inl less ↦ ap (λ (d : Image). d k) (c.copy_to_second.ensures.reads va) ∙ i.copied va vb k less ∙ sym (c.copy_to_second.ensures.others vb c.in-Whole.is k less)
        | inr more ↦ ap (λ (d : Image). d k) (c.copy_to_second.ensures.reads va) ∙ sym (c.copy_to_second.ensures.copied va vb c.in-Whole.is k more (omega (arith, lt, more)))
      ];
      first_count = counts.0 ∙ i.first_count;
      second_count = counts.1 ∙ i.second_count;
      runs = λ number va vb labelled. goes_on (g.A.Disk.keeps && g.B.Disk.keeps) c.args.sectors number (IsImage (state_of c.args.sectors (watched (λ x. g.A.Disk.moments x.first) (λ x. g.B.Disk.moments x.second) c.args.self.now.log.items c.args.self.now.both c.args.self.now.picks).now)) _ _ _ (i.runs number va vb labelled) (c.copy_to_second.ensures.runs number va vb (i.runs number va vb labelled).after.labelled);
    }

pub returns-in-Unread-clause-runs : goal.returns-in-Unread-clause-runs
returns-in-Unread-clause-runs g c number va vb labelled = goes_on (g.A.Disk.keeps && g.B.Disk.keeps) c.args.sectors number (IsImage (state_of c.args.sectors (watched (λ x. g.A.Disk.moments x.first) (λ x. g.B.Disk.moments x.second) c.args.self.now.log.items c.args.self.now.both c.args.self.now.picks).now)) _ _ _ (c.loop-sector.invariant.runs number va vb labelled) (c.copy_to_second.ensures.runs number va vb (c.loop-sector.invariant.runs number va vb labelled).after.labelled)

pub returns-in-Unwritten-clause-runs : goal.returns-in-Unwritten-clause-runs
returns-in-Unwritten-clause-runs g c number va vb labelled = goes_on (g.A.Disk.keeps && g.B.Disk.keeps) c.args.sectors number (IsImage (state_of c.args.sectors (watched (λ x. g.A.Disk.moments x.first) (λ x. g.B.Disk.moments x.second) c.args.self.now.log.items c.args.self.now.both c.args.self.now.picks).now)) _ _ _ (c.loop-sector.invariant.runs number va vb labelled) (c.copy_to_second.ensures.runs number va vb (c.loop-sector.invariant.runs number va vb labelled).after.labelled)

pub returns-then-not-barrier_second-clause-runs : goal.returns-then-not-barrier_second-clause-runs
returns-then-not-barrier_second-clause-runs g c number va vb labelled =
    goes_on (g.A.Disk.keeps && g.B.Disk.keeps) c.args.sectors number (IsImage (state_of c.args.sectors (watched (λ x. g.A.Disk.moments x.first) (λ x. g.B.Disk.moments x.second) c.args.self.now.log.items c.args.self.now.both c.args.self.now.picks).now)) _ _ _ (c.loop-sector.invariant.runs number va vb labelled)
    (rests_second g.A.Disk.keeps g.B.Disk.keeps (λ x. g.A.Disk.moments x.first) (λ x. g.B.Disk.moments x.second) c.args.sectors number
    c.loop-sector.self.log.items c.barrier_second.new.self.log.items c.loop-sector.self.both c.barrier_second.new.self.both c.loop-sector.self.picks c.barrier_second.new.self.picks (c.loop-sector.invariant.runs number va vb labelled).after.labelled
    c.barrier_second.ensures.log c.barrier_second.ensures.picks (ap g.A.Disk.moments c.barrier_second.ensures.first) (c.barrier_second.ensures.rests vb))

pub returns-clause-runs : goal.returns-clause-runs
returns-clause-runs g c number va vb labelled =
    goes_on (g.A.Disk.keeps && g.B.Disk.keeps) c.args.sectors number (IsImage (state_of c.args.sectors (watched (λ x. g.A.Disk.moments x.first) (λ x. g.B.Disk.moments x.second) c.args.self.now.log.items c.args.self.now.both c.args.self.now.picks).now)) _ _ _ (c.loop-sector.invariant.runs number va vb labelled)
    (rests_second g.A.Disk.keeps g.B.Disk.keeps (λ x. g.A.Disk.moments x.first) (λ x. g.B.Disk.moments x.second) c.args.sectors number
    c.loop-sector.self.log.items c.barrier_second.new.self.log.items c.loop-sector.self.both c.barrier_second.new.self.both c.loop-sector.self.picks c.barrier_second.new.self.picks (c.loop-sector.invariant.runs number va vb labelled).after.labelled
    c.barrier_second.ensures.log c.barrier_second.ensures.picks (ap g.A.Disk.moments c.barrier_second.ensures.first) (c.barrier_second.ensures.rests vb))

pub returns-clause-copied : goal.returns-clause-copied
returns-clause-copied g c va vb whole k lt =
    ap (λ l. reads (g.A.Disk.moments l) k) c.barrier_second.ensures.first ∙ c.loop-sector.invariant.copied va vb k (omega (arith, lt, c.loop-sector-test.false)) ∙ sym (ap (λ (d : Image). d k) (c.barrier_second.ensures.rests vb).content)
