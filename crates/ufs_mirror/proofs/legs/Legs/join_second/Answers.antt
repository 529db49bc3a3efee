use Rattle.std.proofs.Common.{◌≡◌, ◌≢◌, ◌⊎◌, ◌-◌, ◌<◌, ◌^◌, ◌&&◌, inl, inr, ⊎_elim, sym, ap, subst, ◌∙◌}
use Rattle.std.specs.Prelude.{IfErr, OnOk}
use Rattle.ufs_base.specs.Faults.{raised}
use Rattle.ufs_base.specs.Images.{Image}
use Rattle.ufs_disk.specs.Disk.{IsImage, IsSettled}
use Rattle.ufs_disk.specs.Moments.{reads}
use Rattle.ufs_mirror.specs.Labels.{generation}
use Rattle.ufs_mirror.specs.Calls.{IsSame}
use Rattle.ufs_mirror.specs.Joined.{Goes, IsLegFault, next_generation}
use Rattle.ufs_mirror.specs.Labelled.{IsAlike, IsMoment}
use Rattle.ufs_mirror.specs.declared.fault.MirrorFault.TheVariants.{Device}
use Rattle.ufs_mirror.specs.Pairs.{Runs, state_of, watched}
use Rattle.ufs_mirror.specs.declared.legs.Picks.TheVariants.{Either, Second}
use Rattle.ufs_mirror.proofs.Calm.{calm_on, first_told_either}
use Rattle.ufs_mirror.proofs.LabelRuns.{calm_run}
use Rattle.ufs_mirror.proofs.Lone.{first_not_either, first_not_second}
use Rattle.ufs_mirror.proofs.Pieces.{err_map, if_ok, ok_both, ok_map, on_ok}
use Rattle.ufs_mirror.proofs.Runs.{joined, watched_told}
use Rattle.ufs_mirror.proofs.legs.Legs.join_second.Goals as goal

pub returns-in-Unread-clause-runs : goal.returns-in-Unread-clause-runs
returns-in-Unread-clause-runs g c va vb at = calm_run (g.A.Disk.keeps && g.B.Disk.keeps) c.args.sectors c.args.number (IsImage (state_of c.args.sectors (watched (λ l. g.A.Disk.moments l.first) (λ l. g.B.Disk.moments l.second) c.args.self.now.log.items c.args.self.now.both c.args.self.now.picks).now)) (watched (λ l. g.A.Disk.moments l.first) (λ l. g.B.Disk.moments l.second) c.args.self.now.log.items c.args.self.now.both c.args.self.now.picks) (watched (λ l. g.A.Disk.moments l.first) (λ l. g.B.Disk.moments l.second) c.copy_all_to_second.new.self.log.items c.copy_all_to_second.new.self.both c.copy_all_to_second.new.self.picks) (c.copy_all_to_second.ensures.runs c.args.number va vb at.labelled)

pub returns-in-Unwritten-clause-runs : goal.returns-in-Unwritten-clause-runs
returns-in-Unwritten-clause-runs g c va vb at =
    calm_on (g.A.Disk.keeps && g.B.Disk.keeps) c.args.sectors (IsImage (state_of c.args.sectors (watched (λ l. g.A.Disk.moments l.first) (λ l. g.B.Disk.moments l.second) c.args.self.now.log.items c.args.self.now.both c.args.self.now.picks).now)) (watched (λ l. g.A.Disk.moments l.first) (λ l. g.B.Disk.moments l.second) c.args.self.now.log.items c.args.self.now.both c.args.self.now.picks) (watched (λ l. g.A.Disk.moments l.first) (λ l. g.B.Disk.moments l.second) c.copy_all_to_second.new.self.log.items c.copy_all_to_second.new.self.both c.copy_all_to_second.new.self.picks) (watched (λ l. g.A.Disk.moments l.first) (λ l. g.B.Disk.moments l.second) c.leave_second.new.self.log.items c.leave_second.new.self.both c.leave_second.new.self.picks) (calm_run (g.A.Disk.keeps && g.B.Disk.keeps) c.args.sectors c.args.number (IsImage (state_of c.args.sectors (watched (λ l. g.A.Disk.moments l.first) (λ l. g.B.Disk.moments l.second) c.args.self.now.log.items c.args.self.now.both c.args.self.now.picks).now)) (watched (λ l. g.A.Disk.moments l.first) (λ l. g.B.Disk.moments l.second) c.args.self.now.log.items c.args.self.now.both c.args.self.now.picks) (watched (λ l. g.A.Disk.moments l.first) (λ l. g.B.Disk.moments l.second) c.copy_all_to_second.new.self.log.items c.copy_all_to_second.new.self.both c.copy_all_to_second.new.self.picks) (c.copy_all_to_second.ensures.runs c.args.number va vb at.labelled))
    (c.leave_second.ensures.runs va vb (c.copy_all_to_second.ensures.runs c.args.number va vb at.labelled).after.labelled)

pub returns-in-Unwritten-clause-labelled : goal.returns-in-Unwritten-clause-labelled
returns-in-Unwritten-clause-labelled g c va vb at = c.leave_second.ensures.labelled va vb (c.copy_all_to_second.ensures.runs c.args.number va vb at.labelled).after.labelled

pub returns-in-Whole-clause-runs : goal.returns-in-Whole-clause-runs
returns-in-Whole-clause-runs g c va vb at =
    let copied = (c.copy_all_to_second.ensures.runs c.args.number va vb at.labelled) in
    let first_settled = c.copy_all_to_second.ensures.calm va at.settled in
    let second_settled = c.copy_all_to_second.ensures.settled vb c.in-Whole.is in
    let alike = c.copy_all_to_second.ensures.copied va vb c.in-Whole.is in
    let said = ap (λ (d : Image). generation (d c.args.sectors)) (c.copy_all_to_second.ensures.reads va) ∙ at.says in
    let picked = c.copy_all_to_second.ensures.picks ∙ c.requires.alone in
    let after = first_told_either c.args.sectors c.args.number (IsImage (state_of c.args.sectors (watched (λ l. g.A.Disk.moments l.first) (λ l. g.B.Disk.moments l.second) c.args.self.now.log.items c.args.self.now.both c.args.self.now.picks).now)) (g.A.Disk.moments c.copy_all_to_second.new.self.both.first).state (g.B.Disk.moments c.copy_all_to_second.new.self.both.second).state c.copy_all_to_second.new.self.picks picked first_settled second_settled said alike copied.after in
    let told = watched_told g.A.Disk.keeps g.B.Disk.keeps (IsMoment c.args.sectors c.args.number (IsImage (state_of c.args.sectors (watched (λ l. g.A.Disk.moments l.first) (λ l. g.B.Disk.moments l.second) c.args.self.now.log.items c.args.self.now.both c.args.self.now.picks).now))) (λ l. g.A.Disk.moments l.first) (λ l. g.B.Disk.moments l.second) c.copy_all_to_second.new.self.log.items c.tell.new.self.log.items c.copy_all_to_second.new.self.both c.tell.new.self.both c.copy_all_to_second.new.self.picks Either c.tell.ensures.log c.tell.ensures.both copied.after after in
    let told2 = subst (λ p. Runs (g.A.Disk.keeps && g.B.Disk.keeps) (IsMoment c.args.sectors c.args.number (IsImage (state_of c.args.sectors (watched (λ l. g.A.Disk.moments l.first) (λ l. g.B.Disk.moments l.second) c.args.self.now.log.items c.args.self.now.both c.args.self.now.picks).now))) (watched (λ l. g.A.Disk.moments l.first) (λ l. g.B.Disk.moments l.second) c.copy_all_to_second.new.self.log.items c.copy_all_to_second.new.self.both c.copy_all_to_second.new.self.picks) (watched (λ l. g.A.Disk.moments l.first) (λ l. g.B.Disk.moments l.second) c.tell.new.self.log.items c.tell.new.self.both p)) (sym c.tell.ensures.picks) told in
    calm_on (g.A.Disk.keeps && g.B.Disk.keeps) c.args.sectors (IsImage (state_of c.args.sectors (watched (λ l. g.A.Disk.moments l.first) (λ l. g.B.Disk.moments l.second) c.args.self.now.log.items c.args.self.now.both c.args.self.now.picks).now)) (watched (λ l. g.A.Disk.moments l.first) (λ l. g.B.Disk.moments l.second) c.args.self.now.log.items c.args.self.now.both c.args.self.now.picks) (watched (λ l. g.A.Disk.moments l.first) (λ l. g.B.Disk.moments l.second) c.tell.new.self.log.items c.tell.new.self.both c.tell.new.self.picks) (watched (λ l. g.A.Disk.moments l.first) (λ l. g.B.Disk.moments l.second) c.renew_first.new.self.log.items c.renew_first.new.self.both c.renew_first.new.self.picks)
    (calm_run (g.A.Disk.keeps && g.B.Disk.keeps) c.args.sectors c.args.number (IsImage (state_of c.args.sectors (watched (λ l. g.A.Disk.moments l.first) (λ l. g.B.Disk.moments l.second) c.args.self.now.log.items c.args.self.now.both c.args.self.now.picks).now)) (watched (λ l. g.A.Disk.moments l.first) (λ l. g.B.Disk.moments l.second) c.args.self.now.log.items c.args.self.now.both c.args.self.now.picks) (watched (λ l. g.A.Disk.moments l.first) (λ l. g.B.Disk.moments l.second) c.tell.new.self.log.items c.tell.new.self.both c.tell.new.self.picks) (joined (g.A.Disk.keeps && g.B.Disk.keeps) (IsMoment c.args.sectors c.args.number (IsImage (state_of c.args.sectors (watched (λ l. g.A.Disk.moments l.first) (λ l. g.B.Disk.moments l.second) c.args.self.now.log.items c.args.self.now.both c.args.self.now.picks).now))) (watched (λ l. g.A.Disk.moments l.first) (λ l. g.B.Disk.moments l.second) c.args.self.now.log.items c.args.self.now.both c.args.self.now.picks) (watched (λ l. g.A.Disk.moments l.first) (λ l. g.B.Disk.moments l.second) c.copy_all_to_second.new.self.log.items c.copy_all_to_second.new.self.both c.copy_all_to_second.new.self.picks) (watched (λ l. g.A.Disk.moments l.first) (λ l. g.B.Disk.moments l.second) c.tell.new.self.log.items c.tell.new.self.both c.tell.new.self.picks) copied told2))
    (c.renew_first.ensures.runs va vb told2.after.labelled)

pub returns-in-Whole-clause-labelled : goal.returns-in-Whole-clause-labelled
returns-in-Whole-clause-labelled g c va vb at =
    let copied = (c.copy_all_to_second.ensures.runs c.args.number va vb at.labelled) in
    let first_settled = c.copy_all_to_second.ensures.calm va at.settled in
    let second_settled = c.copy_all_to_second.ensures.settled vb c.in-Whole.is in
    let alike = c.copy_all_to_second.ensures.copied va vb c.in-Whole.is in
    let said = ap (λ (d : Image). generation (d c.args.sectors)) (c.copy_all_to_second.ensures.reads va) ∙ at.says in
    let picked = c.copy_all_to_second.ensures.picks ∙ c.requires.alone in
    let after = first_told_either c.args.sectors c.args.number (IsImage (state_of c.args.sectors (watched (λ l. g.A.Disk.moments l.first) (λ l. g.B.Disk.moments l.second) c.args.self.now.log.items c.args.self.now.both c.args.self.now.picks).now)) (g.A.Disk.moments c.copy_all_to_second.new.self.both.first).state (g.B.Disk.moments c.copy_all_to_second.new.self.both.second).state c.copy_all_to_second.new.self.picks picked first_settled second_settled said alike copied.after in
    let told = watched_told g.A.Disk.keeps g.B.Disk.keeps (IsMoment c.args.sectors c.args.number (IsImage (state_of c.args.sectors (watched (λ l. g.A.Disk.moments l.first) (λ l. g.B.Disk.moments l.second) c.args.self.now.log.items c.args.self.now.both c.args.self.now.picks).now))) (λ l. g.A.Disk.moments l.first) (λ l. g.B.Disk.moments l.second) c.copy_all_to_second.new.self.log.items c.tell.new.self.log.items c.copy_all_to_second.new.self.both c.tell.new.self.both c.copy_all_to_second.new.self.picks Either c.tell.ensures.log c.tell.ensures.both copied.after after in
    let told2 = subst (λ p. Runs (g.A.Disk.keeps && g.B.Disk.keeps) (IsMoment c.args.sectors c.args.number (IsImage (state_of c.args.sectors (watched (λ l. g.A.Disk.moments l.first) (λ l. g.B.Disk.moments l.second) c.args.self.now.log.items c.args.self.now.both c.args.self.now.picks).now))) (watched (λ l. g.A.Disk.moments l.first) (λ l. g.B.Disk.moments l.second) c.copy_all_to_second.new.self.log.items c.copy_all_to_second.new.self.both c.copy_all_to_second.new.self.picks) (watched (λ l. g.A.Disk.moments l.first) (λ l. g.B.Disk.moments l.second) c.tell.new.self.log.items c.tell.new.self.both p)) (sym c.tell.ensures.picks) told in
    c.renew_first.ensures.labelled va vb told2.after.labelled

pub returns-in-Whole-clause-first : goal.returns-in-Whole-clause-first
returns-in-Whole-clause-first g c va vb =
    subst (λ d. OnOk c.renew_first.result (IsSame c.args.sectors d (reads (g.A.Disk.moments c.renew_first.new.self.both.first)))) (ap (λ l. reads (g.A.Disk.moments l.first)) c.tell.ensures.both ∙ c.copy_all_to_second.ensures.reads va) (c.renew_first.ensures.first va vb)

pub returns-in-Whole-clause-alike : goal.returns-in-Whole-clause-alike
returns-in-Whole-clause-alike g c va vb =
    ok_both c.renew_first.result (IsSame c.args.sectors (reads (g.A.Disk.moments c.tell.new.self.both.first)) (reads (g.A.Disk.moments c.renew_first.new.self.both.first)))
    (IsSame c.args.sectors (reads (g.B.Disk.moments c.tell.new.self.both.second)) (reads (g.B.Disk.moments c.renew_first.new.self.both.second)))
    (c.renew_first.new.self.picks ≡ Either → IsAlike c.args.sectors (watched (λ l. g.A.Disk.moments l.first) (λ l. g.B.Disk.moments l.second) c.renew_first.new.self.log.items c.renew_first.new.self.both c.renew_first.new.self.picks).now)
    (λ one other either k lt. one k lt ∙ ap (λ l. reads (g.A.Disk.moments l.first) k) c.tell.ensures.both ∙ c.copy_all_to_second.ensures.copied va vb c.in-Whole.is k lt
    ∙ sym (ap (λ l. reads (g.B.Disk.moments l.second) k) c.tell.ensures.both) ∙ sym (other k lt))
    (c.renew_first.ensures.first va vb) (c.renew_first.ensures.second va vb)

pub returns-in-Whole-clause-first_settled : goal.returns-in-Whole-clause-first_settled
returns-in-Whole-clause-first_settled g c va vb = c.renew_first.ensures.first_settled va vb

pub returns-in-Whole-clause-second_settled : goal.returns-in-Whole-clause-second_settled
returns-in-Whole-clause-second_settled g c va vb = c.renew_first.ensures.second_settled va vb

pub returns-in-Whole-clause-labels : goal.returns-in-Whole-clause-labels
returns-in-Whole-clause-labels g c va vb = c.renew_first.ensures.labels va vb

pub returns-in-Whole-clause-counts : goal.returns-in-Whole-clause-counts
returns-in-Whole-clause-counts g c =
    let counts = c.copy_all_to_second.ensures.counts.whole c.in-Whole.is in
    subst (λ a. OnOk c.renew_first.result (Goes (c.renew_first.new.self.picks ≡ Either) a (g.A.Disk.faults c.renew_first.new.self.both.first) (g.B.Disk.faults c.args.self.now.both.second) (g.B.Disk.faults c.renew_first.new.self.both.second)))
    (ap (λ l. g.A.Disk.faults l.first) c.tell.ensures.both ∙ counts.0)
    (subst (λ b. OnOk c.renew_first.result (Goes (c.renew_first.new.self.picks ≡ Either) (g.A.Disk.faults c.tell.new.self.both.first) (g.A.Disk.faults c.renew_first.new.self.both.first) b (g.B.Disk.faults c.renew_first.new.self.both.second)))
    (ap (λ l. g.B.Disk.faults l.second) c.tell.ensures.both ∙ counts.1) c.renew_first.ensures.counts)

pub returns-in-Whole-clause-refused : goal.returns-in-Whole-clause-refused
returns-in-Whole-clause-refused g c =
    let counts = c.copy_all_to_second.ensures.counts.whole c.in-Whole.is in
    subst (λ a. IfErr c.renew_first.result (IsLegFault c.args.number a (g.A.Disk.faults c.renew_first.new.self.both.first) (g.B.Disk.faults c.args.self.now.both.second) (g.B.Disk.faults c.renew_first.new.self.both.second)))
    (ap (λ l. g.A.Disk.faults l.first) c.tell.ensures.both ∙ counts.0)
    (subst (λ b. IfErr c.renew_first.result (IsLegFault c.args.number (g.A.Disk.faults c.tell.new.self.both.first) (g.A.Disk.faults c.renew_first.new.self.both.first) b (g.B.Disk.faults c.renew_first.new.self.both.second)))
    (ap (λ l. g.B.Disk.faults l.second) c.tell.ensures.both ∙ counts.1) c.renew_first.ensures.refused)

pub returns-in-Unwritten-clause-first : goal.returns-in-Unwritten-clause-first
returns-in-Unwritten-clause-first g c va vb =
    subst (λ d. OnOk c.leave_second.result (IsSame c.args.sectors d (reads (g.A.Disk.moments c.leave_second.new.self.both.first)))) (c.copy_all_to_second.ensures.reads va) (c.leave_second.ensures.first va vb)

pub returns-in-Unwritten-clause-first_settled : goal.returns-in-Unwritten-clause-first_settled
returns-in-Unwritten-clause-first_settled g c va vb = c.leave_second.ensures.first_settled va vb

pub returns-in-Unwritten-clause-live : goal.returns-in-Unwritten-clause-live
returns-in-Unwritten-clause-live g c =
    on_ok c.leave_second.result (c.leave_second.new.self.picks ≢ Second) (λ is. first_not_second (sym (c.leave_second.ensures.picks ∙ c.copy_all_to_second.ensures.picks ∙ c.requires.alone) ∙ is))

pub returns-in-Unwritten-clause-room : goal.returns-in-Unwritten-clause-room
returns-in-Unwritten-clause-room g c =
    if_ok c.leave_second.result (λ n. c.leave_second.new.self.picks ≡ Either → n < 2 ^ 64 - 1) (λ n is. absurd (first_not_either (sym (c.leave_second.ensures.picks ∙ c.copy_all_to_second.ensures.picks ∙ c.requires.alone) ∙ is)))

pub returns-in-Unwritten-clause-alike : goal.returns-in-Unwritten-clause-alike
returns-in-Unwritten-clause-alike g c va vb =
    on_ok c.leave_second.result (c.leave_second.new.self.picks ≡ Either → IsAlike c.args.sectors (watched (λ l. g.A.Disk.moments l.first) (λ l. g.B.Disk.moments l.second) c.leave_second.new.self.log.items c.leave_second.new.self.both c.leave_second.new.self.picks).now) (λ is. absurd (first_not_either (sym (c.leave_second.ensures.picks ∙ c.copy_all_to_second.ensures.picks ∙ c.requires.alone) ∙ is)))

pub returns-in-Unwritten-clause-second_settled : goal.returns-in-Unwritten-clause-second_settled
returns-in-Unwritten-clause-second_settled g c va vb =
    on_ok c.leave_second.result (c.leave_second.new.self.picks ≡ Either → IsSettled (g.B.Disk.moments c.leave_second.new.self.both.second).state) (λ is. absurd (first_not_either (sym (c.leave_second.ensures.picks ∙ c.copy_all_to_second.ensures.picks ∙ c.requires.alone) ∙ is)))

pub returns-in-Unwritten-clause-labels : goal.returns-in-Unwritten-clause-labels
returns-in-Unwritten-clause-labels g c va vb =
    if_ok c.leave_second.result (λ n. c.leave_second.new.self.picks ≡ Either → (n ≡ next_generation c.args.number) × (generation (reads (g.A.Disk.moments c.leave_second.new.self.both.first) c.args.sectors) ≡ n) × (generation (reads (g.B.Disk.moments c.leave_second.new.self.both.second) c.args.sectors) ≡ n))
    (λ n is. absurd (first_not_either (sym (c.leave_second.ensures.picks ∙ c.copy_all_to_second.ensures.picks ∙ c.requires.alone) ∙ is)))

pub returns-in-Unwritten-clause-counts : goal.returns-in-Unwritten-clause-counts
returns-in-Unwritten-clause-counts g c =
    let counts = c.copy_all_to_second.ensures.counts.unwritten c.in-Unwritten.is in
    ok_map c.leave_second.result (g.A.Disk.faults c.leave_second.new.self.both.first ≡ g.A.Disk.faults c.copy_all_to_second.new.self.both.first)
    (Goes (c.leave_second.new.self.picks ≡ Either) (g.A.Disk.faults c.args.self.now.both.first) (g.A.Disk.faults c.leave_second.new.self.both.first) (g.B.Disk.faults c.args.self.now.both.second) (g.B.Disk.faults c.leave_second.new.self.both.second))
    (λ same. record {
      picked = same ∙ counts.0;
      passed = λ is. absurd (first_not_either (sym (c.leave_second.ensures.picks ∙ c.copy_all_to_second.ensures.picks ∙ c.requires.alone) ∙ is));
      failed = λ alone. ap g.B.Disk.faults c.leave_second.ensures.second ∙ counts.1;
    }) c.leave_second.ensures.counts

pub returns-in-Unwritten-clause-refused : goal.returns-in-Unwritten-clause-refused
returns-in-Unwritten-clause-refused g c =
    let counts = c.copy_all_to_second.ensures.counts.unwritten c.in-Unwritten.is in
    err_map c.leave_second.result (λ fault. ((c.args.number ≡ 2 ^ 64 - 1) × (g.A.Disk.faults c.leave_second.new.self.both.first ≡ g.A.Disk.faults c.copy_all_to_second.new.self.both.first) × (fault ≡ Device (g.B.Disk.faults c.leave_second.new.self.both.second)))
    ⊎ ((g.A.Disk.faults c.leave_second.new.self.both.first ≡ raised (g.A.Disk.faults c.copy_all_to_second.new.self.both.first)) × (fault ≡ Device (g.A.Disk.faults c.leave_second.new.self.both.first))))
    (IsLegFault c.args.number (g.A.Disk.faults c.args.self.now.both.first) (g.A.Disk.faults c.leave_second.new.self.both.first) (g.B.Disk.faults c.args.self.now.both.second) (g.B.Disk.faults c.leave_second.new.self.both.second))
    (λ fault why. ⊎_elim
    (λ most. inr (most.0, most.1 ∙ counts.0, ap g.B.Disk.faults c.leave_second.ensures.second ∙ counts.1, most.2))
    (λ rose. inl (rose.0 ∙ ap raised counts.0, rose.1)) why) c.leave_second.ensures.refused
