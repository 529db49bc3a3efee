use Rattle.std.proofs.Common.{◌&&◌, Some, [], arith, refl, sym, ap, ◌∙◌}
use Rattle.std.proofs.lemmas.Grind.{merely}
use Rattle.ufs_disk.specs.Disk.{IsImage}
use Rattle.ufs_disk.specs.Moments.{reads}
use Rattle.ufs_mirror.specs.Joined.{IsCalm, next_generation}
use Rattle.ufs_mirror.specs.Opens.{MayOpen}
use Rattle.ufs_mirror.specs.Pairs.{pairs_of, state_of}
use Rattle.ufs_mirror.specs.declared.legs.Picks.TheVariants.{Second}
use Rattle.ufs_mirror.proofs.Begun.{begun_second, calm_right, second_opens, greater_second}
use Rattle.ufs_mirror.proofs.Ended.{second_content, second_ends_open, second_ends_settled}
use Rattle.ufs_mirror.proofs.Faulty.{second_lives, second_refuses, is_labelled}
use Rattle.ufs_mirror.proofs.Openings.{second_calmly, noted_none, only_calm}
use Rattle.ufs_mirror.proofs.Views.{view_same}
use Rattle.ufs_mirror.proofs.mirror.Mirror.open_second.Goals as goal

pub returns-in-Ok-clause-content : goal.returns-in-Ok-clause-content
returns-in-Ok-clause-content g c va vb =
    let ready = (c.requires.ready va vb) in
    second_opens c.args.found.sectors (reads (g.A.Disk.moments c.args.first)) (reads (g.B.Disk.moments c.args.second)) (omega (arith, ready.first_says, ready.second_says, c.requires.picked))
    ∙ ap Some (sym (second_content c.args.found.sectors (g.A.Disk.moments c.join_first.new.self.both.first).state (g.B.Disk.moments c.join_first.new.self.both.second).state c.join_first.new.self.picks c.in-Ok.ensures.live (c.in-Ok.ensures.alike va vb)
    ∙ view_same c.args.found.sectors (reads (g.B.Disk.moments c.join_first.new.self.both.second)) (reads (g.B.Disk.moments c.args.second)) (λ k lt. c.in-Ok.ensures.second va vb k lt)))

pub returns-in-Ok-clause-settled : goal.returns-in-Ok-clause-settled
returns-in-Ok-clause-settled g c va vb =
    second_ends_settled c.args.found.sectors (g.A.Disk.moments c.join_first.new.self.both.first).state (g.B.Disk.moments c.join_first.new.self.both.second).state c.join_first.new.self.picks c.in-Ok.ensures.live (c.in-Ok.ensures.second_settled va vb) (c.in-Ok.ensures.first_settled va vb) (c.in-Ok.ensures.alike va vb)

pub returns-in-Ok-clause-opens : goal.returns-in-Ok-clause-opens
returns-in-Ok-clause-opens g c va vb =
    second_ends_open c.args.found.sectors (g.A.Disk.moments c.join_first.new.self.both.first).state (g.B.Disk.moments c.join_first.new.self.both.second).state c.in-Ok.generation c.join_first.new.self.picks c.in-Ok.ensures.some c.in-Ok.ensures.live (c.in-Ok.ensures.labelled va vb (begun_second c.args.found.sectors c.args.found.first c.args.found.second (g.A.Disk.moments c.args.first).state (g.B.Disk.moments c.args.second).state (c.requires.ready va vb) c.requires.picked))
    (λ is. let says = c.in-Ok.ensures.labels va vb is in (says.2, says.1)) (c.in-Ok.ensures.alike va vb)

pub returns-in-Ok-clause-labels : goal.returns-in-Ok-clause-labels
returns-in-Ok-clause-labels g c va vb is =
    let says = c.in-Ok.ensures.labels va vb is in
    let next = says.0 ∙ ap next_generation (sym (greater_second c.args.found.first c.args.found.second c.requires.picked)) in
    record { first_says = says.2 ∙ next; second_says = says.1 ∙ next }

pub returns-in-Ok-clause-live : goal.returns-in-Ok-clause-live
returns-in-Ok-clause-live g c =
    second_lives (g.A.Disk.faults c.args.first) (g.A.Disk.faults c.join_first.new.self.both.first) (g.B.Disk.faults c.args.second) (g.B.Disk.faults c.join_first.new.self.both.second) c.join_first.new.self.picks c.in-Ok.ensures.live c.in-Ok.ensures.counts

pub returns-in-Ok-clause-crash : goal.returns-in-Ok-clause-crash
returns-in-Ok-clause-crash g c va vb = (second_calmly g.A.Disk.keeps g.B.Disk.keeps c.args.found.sectors c.args.found.first c.args.found.second (g.A.Disk.moments c.args.first) (g.B.Disk.moments c.args.second) (c.requires.ready va vb) _ c.requires.picked (noted_none c.join_first.new.self.both (λ l. g.A.Disk.moments l.first) (λ l. g.B.Disk.moments l.second) (g.A.Disk.keeps && g.B.Disk.keeps) (IsCalm c.args.found.sectors (IsImage (state_of c.args.found.sectors (record { first = (g.A.Disk.moments c.args.first).state; second = (g.B.Disk.moments c.args.second).state; picks = Second })))) c.new.result.items (record { first = c.args.first; second = c.args.second }) Second _ c.new.ensures (c.join_first.ensures.runs va vb (begun_second c.args.found.sectors c.args.found.first c.args.found.second (g.A.Disk.moments c.args.first).state (g.B.Disk.moments c.args.second).state (c.requires.ready va vb) c.requires.picked))))

pub returns-in-Err-clause-crash_refused : goal.returns-in-Err-clause-crash_refused
returns-in-Err-clause-crash_refused g c va vb = only_calm g.A.Disk.keeps g.B.Disk.keeps c.args.found.sectors (MayOpen c.args.found.sectors (g.A.Disk.moments c.args.first).state (g.B.Disk.moments c.args.second).state) (g.A.Disk.moments c.args.first) (g.B.Disk.moments c.args.second) _ (second_calmly g.A.Disk.keeps g.B.Disk.keeps c.args.found.sectors c.args.found.first c.args.found.second (g.A.Disk.moments c.args.first) (g.B.Disk.moments c.args.second) (c.requires.ready va vb) _ c.requires.picked (noted_none c.join_first.new.self.both (λ l. g.A.Disk.moments l.first) (λ l. g.B.Disk.moments l.second) (g.A.Disk.keeps && g.B.Disk.keeps) (IsCalm c.args.found.sectors (IsImage (state_of c.args.found.sectors (record { first = (g.A.Disk.moments c.args.first).state; second = (g.B.Disk.moments c.args.second).state; picks = Second })))) c.new.result.items (record { first = c.args.first; second = c.args.second }) Second _ c.new.ensures (c.join_first.ensures.runs va vb (begun_second c.args.found.sectors c.args.found.first c.args.found.second (g.A.Disk.moments c.args.first).state (g.B.Disk.moments c.args.second).state (c.requires.ready va vb) c.requires.picked))))

pub returns-in-Err-clause-refused : goal.returns-in-Err-clause-refused
returns-in-Err-clause-refused g c =
    second_refuses (g.A.Disk.size c.args.first) (g.B.Disk.size c.args.second) (g.A.Disk.faults c.args.first) (g.A.Disk.faults c.join_first.new.self.both.first) (g.B.Disk.faults c.args.second) (g.B.Disk.faults c.join_first.new.self.both.second)
    (c.requires.first_sized ∙ sym c.requires.second_sized) c.args.found.second c.in-Err.fault c.in-Err.ensures.refused

pub returns-in-Err-clause-unlabelled : goal.returns-in-Err-clause-unlabelled
returns-in-Err-clause-unlabelled g c va vb is = absurd (is_labelled c.args.found.second (g.B.Disk.faults c.args.second) (g.B.Disk.faults c.join_first.new.self.both.second) (g.A.Disk.faults c.args.first) (g.A.Disk.faults c.join_first.new.self.both.first) c.in-Err.fault c.in-Err.ensures.refused is)

pub invariant_of-result : goal.invariant_of-result
invariant_of-result g c = record {
  small = let law = g.met.A.Disk.small c.args.first in omega (arith, law, c.requires.first_sized);
  second_sized = c.join_first.ensures.second_sized ∙ c.requires.second_sized;
  first_sized = c.join_first.ensures.first_sized ∙ c.requires.first_sized;
  room = λ _ either. c.in-Ok.ensures.room either;
  fit = λ va vb. record { labelled = c.in-Ok.ensures.labelled va vb (begun_second c.args.found.sectors c.args.found.first c.args.found.second (g.A.Disk.moments c.args.first).state (g.B.Disk.moments c.args.second).state (c.requires.ready va vb) c.requires.picked); alike = λ _ either. c.in-Ok.ensures.alike va vb either };
  right = merely (λ va vb. calm_right (g.A.Disk.keeps && g.B.Disk.keeps) c.args.found.sectors (IsImage (state_of c.args.found.sectors (record { first = (g.A.Disk.moments c.args.first).state; second = (g.B.Disk.moments c.args.second).state; picks = Second }))) (pairs_of [] (record { first = (g.A.Disk.moments c.args.first); second = (g.B.Disk.moments c.args.second); picks = Second })) _ refl (noted_none c.join_first.new.self.both (λ l. g.A.Disk.moments l.first) (λ l. g.B.Disk.moments l.second) (g.A.Disk.keeps && g.B.Disk.keeps) (IsCalm c.args.found.sectors (IsImage (state_of c.args.found.sectors (record { first = (g.A.Disk.moments c.args.first).state; second = (g.B.Disk.moments c.args.second).state; picks = Second })))) c.new.result.items (record { first = c.args.first; second = c.args.second }) Second _ c.new.ensures (c.join_first.ensures.runs va vb (begun_second c.args.found.sectors c.args.found.first c.args.found.second (g.A.Disk.moments c.args.first).state (g.B.Disk.moments c.args.second).state (c.requires.ready va vb) c.requires.picked))));
}
