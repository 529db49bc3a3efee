use Rattle.std.proofs.Common.{◌*◌, ◌&&◌, inl, inr, arith, refl, sym, ap, ◌∙◌}
use Rattle.std.proofs.lemmas.Bool.{cases_lt}
use Rattle.ufs_base.specs.Images.{Image}
use Rattle.ufs_disk.specs.Disk.{IsImage}
use Rattle.ufs_disk.specs.Moments.{reads}
use Rattle.ufs_mirror.specs.Labelled.{IsMoment}
use Rattle.ufs_mirror.specs.Pairs.{state_of, watched}
use Rattle.ufs_mirror.proofs.Data.{goes_on, rests_first}
use Rattle.ufs_mirror.proofs.Pieces.{same_length}
use Rattle.ufs_mirror.proofs.Runs.{started}
use Rattle.ufs_mirror.proofs.legs.Legs.copy_all_to_first.Goals as goal

pub loop-sector-init : goal.loop-sector-init
loop-sector-init g c = record {
  within = omega arith;
  long = refl;
  picks = refl;
  second_sized = refl;
  first_sized = refl;
  reading = λ vb. refl;
  calm = λ vb settled. settled;
  copied = λ va vb k lt. absurd (omega (arith, lt));
  second_count = refl;
  first_count = refl;
  runs = λ number va vb labelled. started (g.A.Disk.keeps && g.B.Disk.keeps) (IsMoment c.args.sectors number (IsImage (state_of c.args.sectors (watched (λ x. g.A.Disk.moments x.first) (λ x. g.B.Disk.moments x.second) c.args.self.now.log.items c.args.self.now.both c.args.self.now.picks).now))) (watched (λ x. g.A.Disk.moments x.first) (λ x. g.B.Disk.moments x.second) c.args.self.now.log.items c.args.self.now.both c.args.self.now.picks) (record { leaves = λ image left. left; labelled = labelled });
}

pub loop-sector-preserved : goal.loop-sector-preserved
loop-sector-preserved g c =
    let i = c.loop-sector.invariant in
    let counts = c.copy_to_first.ensures.counts.whole c.in-Whole.is in
    record {
      within = c.piece_at-count.ensures.inside;
      long = same_length c.copy_to_first.new.piece c.loop-sector.bytes (c.piece_at-count.result * 512) 4096 i.long c.copy_to_first.auto.piece (omega (arith, c.piece_at-count.ensures.most));
      picks = c.copy_to_first.ensures.picks ∙ i.picks;
      second_sized = c.copy_to_first.ensures.second_sized ∙ i.second_sized;
      first_sized = c.copy_to_first.ensures.first_sized ∙ i.first_sized;
      reading = λ vb. c.copy_to_first.ensures.reads vb ∙ i.reading vb;
      calm = λ vb settled. c.copy_to_first.ensures.calm vb (i.calm vb settled);
      copied = λ va vb k lt. elim (cases_lt k c.loop-sector.sector) [
        | inl less ↦ ap (λ (d : Image). d k) (c.copy_to_first.ensures.reads vb) ∙ i.copied va vb k less ∙ sym (c.copy_to_first.ensures.others va c.in-Whole.is k less)
        | inr more ↦ ap (λ (d : Image). d k) (c.copy_to_first.ensures.reads vb) ∙ sym (c.copy_to_first.ensures.copied va vb c.in-Whole.is k more (omega (arith, lt, more)))
      ];
      second_count = counts.0 ∙ i.second_count;
      first_count = counts.1 ∙ i.first_count;
      runs = λ number va vb labelled. goes_on (g.A.Disk.keeps && g.B.Disk.keeps) c.args.sectors number (IsImage (state_of c.args.sectors (watched (λ x. g.A.Disk.moments x.first) (λ x. g.B.Disk.moments x.second) c.args.self.now.log.items c.args.self.now.both c.args.self.now.picks).now)) _ _ _ (i.runs number va vb labelled) (c.copy_to_first.ensures.runs number va vb (i.runs number va vb labelled).after.labelled);
    }

pub returns-in-Unread-clause-runs : goal.returns-in-Unread-clause-runs
returns-in-Unread-clause-runs g c number va vb labelled = goes_on (g.A.Disk.keeps && g.B.Disk.keeps) c.args.sectors number (IsImage (state_of c.args.sectors (watched (λ x. g.A.Disk.moments x.first) (λ x. g.B.Disk.moments x.second) c.args.self.now.log.items c.args.self.now.both c.args.self.now.picks).now)) _ _ _ (c.loop-sector.invariant.runs number va vb labelled) (c.copy_to_first.ensures.runs number va vb (c.loop-sector.invariant.runs number va vb labelled).after.labelled)

pub returns-in-Unwritten-clause-runs : goal.returns-in-Unwritten-clause-runs
returns-in-Unwritten-clause-runs g c number va vb labelled = goes_on (g.A.Disk.keeps && g.B.Disk.keeps) c.args.sectors number (IsImage (state_of c.args.sectors (watched (λ x. g.A.Disk.moments x.first) (λ x. g.B.Disk.moments x.second) c.args.self.now.log.items c.args.self.now.both c.args.self.now.picks).now)) _ _ _ (c.loop-sector.invariant.runs number va vb labelled) (c.copy_to_first.ensures.runs number va vb (c.loop-sector.invariant.runs number va vb labelled).after.labelled)

pub returns-then-not-barrier_first-clause-runs : goal.returns-then-not-barrier_first-clause-runs
returns-then-not-barrier_first-clause-runs g c number va vb labelled =
    goes_on (g.A.Disk.keeps && g.B.Disk.keeps) c.args.sectors number (IsImage (state_of c.args.sectors (watched (λ x. g.A.Disk.moments x.first) (λ x. g.B.Disk.moments x.second) c.args.self.now.log.items c.args.self.now.both c.args.self.now.picks).now)) _ _ _ (c.loop-sector.invariant.runs number va vb labelled)
    (rests_first g.A.Disk.keeps g.B.Disk.keeps (λ x. g.A.Disk.moments x.first) (λ x. g.B.Disk.moments x.second) c.args.sectors number
    c.loop-sector.self.log.items c.barrier_first.new.self.log.items c.loop-sector.self.both c.barrier_first.new.self.both c.loop-sector.self.picks c.barrier_first.new.self.picks (c.loop-sector.invariant.runs number va vb labelled).after.labelled
    c.barrier_first.ensures.log c.barrier_first.ensures.picks (ap g.B.Disk.moments c.barrier_first.ensures.second) (c.barrier_first.ensures.rests va))

pub returns-clause-runs : goal.returns-clause-runs
returns-clause-runs g c number va vb labelled =
    goes_on (g.A.Disk.keeps && g.B.Disk.keeps) c.args.sectors number (IsImage (state_of c.args.sectors (watched (λ x. g.A.Disk.moments x.first) (λ x. g.B.Disk.moments x.second) c.args.self.now.log.items c.args.self.now.both c.args.self.now.picks).now)) _ _ _ (c.loop-sector.invariant.runs number va vb labelled)
    (rests_first g.A.Disk.keeps g.B.Disk.keeps (λ x. g.A.Disk.moments x.first) (λ x. g.B.Disk.moments x.second) c.args.sectors number
    c.loop-sector.self.log.items c.barrier_first.new.self.log.items c.loop-sector.self.both c.barrier_first.new.self.both c.loop-sector.self.picks c.barrier_first.new.self.picks (c.loop-sector.invariant.runs number va vb labelled).after.labelled
    c.barrier_first.ensures.log c.barrier_first.ensures.picks (ap g.B.Disk.moments c.barrier_first.ensures.second) (c.barrier_first.ensures.rests va))

pub returns-clause-copied : goal.returns-clause-copied
returns-clause-copied g c va vb whole k lt =
    sym (ap (λ l. reads (g.B.Disk.moments l) k) c.barrier_first.ensures.second ∙ c.loop-sector.invariant.copied va vb k (omega (arith, lt, c.loop-sector-test.false)) ∙ sym (ap (λ (d : Image). d k) (c.barrier_first.ensures.rests va).content))
