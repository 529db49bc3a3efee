use Rattle.std.proofs.Common.{◌≡◌, ◌≤◌, ◌+◌, ◌-◌, None, Some, arith, sym, ap, subst, ◌∙◌}
use Rattle.std.specs.Prelude.{IfErr, IfOk}
use Rattle.ufs_disk.specs.Moments.{reads}
use Rattle.ufs_mirror.specs.Joined.{IsCalm, next_generation}
use Rattle.ufs_mirror.specs.Labels.{generation}
use Rattle.ufs_mirror.specs.Opens.{MayOpen, Opening, OpensOnly, opened}
use Rattle.ufs_mirror.specs.Pairs.{moments_of, watched}
use Rattle.ufs_mirror.specs.Ready.{AreLive, HaveLabel, greater}
use Rattle.ufs_mirror.specs.Refused.{IsMakeFault, IsOpenFault}
use Rattle.ufs_mirror.specs.declared.fault.MirrorFault.TheVariants.{NoLabel}
use Rattle.ufs_mirror.specs.declared.legs.Picks.TheVariants.{Either, First}
use Rattle.ufs_mirror.proofs.Faulty.{make_open}
use Rattle.ufs_mirror.proofs.Openings.{more_calm, more_open, unopened}
use Rattle.ufs_mirror.proofs.Pieces.{err_map, ok_with}
use Rattle.ufs_mirror.proofs.mirror.Mirror.open.Goals as goal

pub open_found-requires-clause-ready : goal.open_found-requires-clause-ready
open_found-requires-clause-ready g c va vb = record {
  first_settled = c.in-Ok.ensures.first_settled va;
  second_settled = c.in-Ok.ensures.second_settled vb;
  first_says = ap (λ d. generation (d c.in-Ok.found.sectors)) (c.read_labels.ensures.first_rests va).content ∙ sym (c.in-Ok.ensures.first_says va);
  second_says = ap (λ d. generation (d c.in-Ok.found.sectors)) (c.read_labels.ensures.second_rests vb).content ∙ sym (c.in-Ok.ensures.second_says vb);
}

pub returns-in-Ok-clause-size : goal.returns-in-Ok-clause-size
returns-in-Ok-clause-size g c =
    ok_with c.open_found.result (λ m. m.sectors ≡ c.in-Ok.found.sectors) (λ m. (m.sectors + 1 ≡ g.A.Disk.size c.args.first) × (m.sectors + 1 ≡ g.B.Disk.size c.args.second))
    (λ m is. (ap (λ n. n + 1) is ∙ c.in-Ok.ensures.sectors.0, ap (λ n. n + 1) is ∙ c.in-Ok.ensures.sectors.1)) c.open_found.ensures.size

pub returns-in-Ok-clause-least : goal.returns-in-Ok-clause-least
returns-in-Ok-clause-least g c =
    ok_with c.open_found.result (λ m. m.sectors ≡ c.in-Ok.found.sectors) (λ m. 2 ≤ g.A.Disk.size c.args.first) (λ m is. omega (arith, c.in-Ok.ensures.sectors.0, c.in-Ok.ensures.sectors.2)) c.open_found.ensures.size

pub returns-in-Ok-clause-content : goal.returns-in-Ok-clause-content
returns-in-Ok-clause-content g c va vb =
    let sized : c.in-Ok.found.sectors ≡ (g.A.Disk.size c.args.first - 1) = omega (arith, c.in-Ok.ensures.sectors.0) in
    subst (λ o. IfOk c.open_found.result (λ m. o ≡ Some (reads (moments_of m.sectors (watched (λ l. g.A.Disk.moments l.first) (λ l. g.B.Disk.moments l.second) m.legs.log.items m.legs.both m.legs.picks)))))
    (λ i. opened (sized i) ((c.read_labels.ensures.first_rests va).content i) ((c.read_labels.ensures.second_rests vb).content i)) (c.open_found.ensures.content va vb)

pub returns-in-Ok-clause-labels : goal.returns-in-Ok-clause-labels
returns-in-Ok-clause-labels g c va vb =
    let sized : c.in-Ok.found.sectors ≡ (g.A.Disk.size c.args.first - 1) = omega (arith, c.in-Ok.ensures.sectors.0) in
    let one = c.in-Ok.ensures.first_says va ∙ ap (λ n. generation (reads (g.A.Disk.moments c.args.first) n)) sized in
    let other = c.in-Ok.ensures.second_says vb ∙ ap (λ n. generation (reads (g.B.Disk.moments c.args.second) n)) sized in
    subst (λ n. IfOk c.open_found.result (λ m. m.legs.picks ≡ Either → HaveLabel m.sectors n (reads (g.A.Disk.moments m.legs.both.first)) (reads (g.B.Disk.moments m.legs.both.second))))
    (λ i. next_generation (greater (one i) (other i))) (c.open_found.ensures.labels va vb)

pub returns-in-Ok-clause-live : goal.returns-in-Ok-clause-live
returns-in-Ok-clause-live g c =
    ok_with c.open_found.result (λ m. AreLive m.legs.picks (g.A.Disk.faults c.read_labels.new.first) (g.A.Disk.faults m.legs.both.first) (g.B.Disk.faults c.read_labels.new.second) (g.B.Disk.faults m.legs.both.second))
    (λ m. AreLive m.legs.picks (g.A.Disk.faults c.args.first) (g.A.Disk.faults m.legs.both.first) (g.B.Disk.faults c.args.second) (g.B.Disk.faults m.legs.both.second))
    (λ m is. subst (λ a. AreLive m.legs.picks a (g.A.Disk.faults m.legs.both.first) (g.B.Disk.faults c.args.second) (g.B.Disk.faults m.legs.both.second)) c.in-Ok.ensures.passed.0
    (subst (λ b. AreLive m.legs.picks (g.A.Disk.faults c.read_labels.new.first) (g.A.Disk.faults m.legs.both.first) b (g.B.Disk.faults m.legs.both.second)) c.in-Ok.ensures.passed.1 is)) c.open_found.ensures.live

pub returns-in-Ok-clause-crash : goal.returns-in-Ok-clause-crash
returns-in-Ok-clause-crash g c va vb =
    let sized : c.in-Ok.found.sectors ≡ (g.A.Disk.size c.args.first - 1) = omega (arith, c.in-Ok.ensures.sectors.0) in
    ok_with c.open_found.result (λ m. Opening g.A.Disk.keeps g.B.Disk.keeps (IsCalm c.in-Ok.found.sectors (MayOpen c.in-Ok.found.sectors (g.A.Disk.moments c.read_labels.new.first).state (g.B.Disk.moments c.read_labels.new.second).state)) (g.A.Disk.moments c.read_labels.new.first) (g.B.Disk.moments c.read_labels.new.second) (watched (λ l. g.A.Disk.moments l.first) (λ l. g.B.Disk.moments l.second) m.legs.log.items m.legs.both m.legs.picks))
    (λ m. Opening g.A.Disk.keeps g.B.Disk.keeps (IsCalm (g.A.Disk.size c.args.first - 1) (MayOpen (g.A.Disk.size c.args.first - 1) (g.A.Disk.moments c.args.first).state (g.B.Disk.moments c.args.second).state)) (g.A.Disk.moments c.args.first) (g.B.Disk.moments c.args.second) (watched (λ l. g.A.Disk.moments l.first) (λ l. g.B.Disk.moments l.second) m.legs.log.items m.legs.both m.legs.picks))
    (λ m is. more_calm g.A.Disk.keeps g.B.Disk.keeps (g.A.Disk.size c.args.first - 1) (g.A.Disk.moments c.args.first) (g.B.Disk.moments c.args.second) (g.A.Disk.moments c.read_labels.new.first) (g.B.Disk.moments c.read_labels.new.second) (c.read_labels.ensures.first_rests va) (c.read_labels.ensures.second_rests vb) (watched (λ l. g.A.Disk.moments l.first) (λ l. g.B.Disk.moments l.second) m.legs.log.items m.legs.both m.legs.picks)
    (subst (λ n. Opening g.A.Disk.keeps g.B.Disk.keeps (IsCalm n (MayOpen n (g.A.Disk.moments c.read_labels.new.first).state (g.B.Disk.moments c.read_labels.new.second).state)) (g.A.Disk.moments c.read_labels.new.first) (g.B.Disk.moments c.read_labels.new.second) (watched (λ l. g.A.Disk.moments l.first) (λ l. g.B.Disk.moments l.second) m.legs.log.items m.legs.both m.legs.picks)) sized is)) (c.open_found.ensures.crash va vb)

pub returns-in-Ok-clause-crash_refused : goal.returns-in-Ok-clause-crash_refused
returns-in-Ok-clause-crash_refused g c va vb =
    let sized : c.in-Ok.found.sectors ≡ (g.A.Disk.size c.args.first - 1) = omega (arith, c.in-Ok.ensures.sectors.0) in
    err_map c.open_found.result (λ u. Opening g.A.Disk.keeps g.B.Disk.keeps (OpensOnly c.in-Ok.found.sectors (MayOpen c.in-Ok.found.sectors (g.A.Disk.moments c.read_labels.new.first).state (g.B.Disk.moments c.read_labels.new.second).state)) (g.A.Disk.moments c.read_labels.new.first) (g.B.Disk.moments c.read_labels.new.second) (watched (λ l. g.A.Disk.moments l.first) (λ l. g.B.Disk.moments l.second) u.noted.items (record { first = u.first; second = u.second }) u.picks))
    (λ u. Opening g.A.Disk.keeps g.B.Disk.keeps (OpensOnly (g.A.Disk.size c.args.first - 1) (MayOpen (g.A.Disk.size c.args.first - 1) (g.A.Disk.moments c.args.first).state (g.B.Disk.moments c.args.second).state)) (g.A.Disk.moments c.args.first) (g.B.Disk.moments c.args.second) (watched (λ l. g.A.Disk.moments l.first) (λ l. g.B.Disk.moments l.second) u.noted.items (record { first = u.first; second = u.second }) u.picks))
    (λ u is. more_open g.A.Disk.keeps g.B.Disk.keeps (g.A.Disk.size c.args.first - 1) (g.A.Disk.moments c.args.first) (g.B.Disk.moments c.args.second) (g.A.Disk.moments c.read_labels.new.first) (g.B.Disk.moments c.read_labels.new.second) (c.read_labels.ensures.first_rests va) (c.read_labels.ensures.second_rests vb) (watched (λ l. g.A.Disk.moments l.first) (λ l. g.B.Disk.moments l.second) u.noted.items (record { first = u.first; second = u.second }) u.picks)
    (subst (λ n. Opening g.A.Disk.keeps g.B.Disk.keeps (OpensOnly n (MayOpen n (g.A.Disk.moments c.read_labels.new.first).state (g.B.Disk.moments c.read_labels.new.second).state)) (g.A.Disk.moments c.read_labels.new.first) (g.B.Disk.moments c.read_labels.new.second) (watched (λ l. g.A.Disk.moments l.first) (λ l. g.B.Disk.moments l.second) u.noted.items (record { first = u.first; second = u.second }) u.picks)) sized is)) (c.open_found.ensures.crash_refused va vb)

pub returns-in-Ok-clause-refused : goal.returns-in-Ok-clause-refused
returns-in-Ok-clause-refused g c =
    err_map c.open_found.result (λ u. IsOpenFault (g.A.Disk.size c.read_labels.new.first) (g.B.Disk.size c.read_labels.new.second) (g.A.Disk.faults c.read_labels.new.first) (g.A.Disk.faults u.first) (g.B.Disk.faults c.read_labels.new.second) (g.B.Disk.faults u.second) u.fault)
    (λ u. IsOpenFault (g.A.Disk.size c.args.first) (g.B.Disk.size c.args.second) (g.A.Disk.faults c.args.first) (g.A.Disk.faults u.first) (g.B.Disk.faults c.args.second) (g.B.Disk.faults u.second) u.fault)
    (λ u is. subst (λ s. IsOpenFault s (g.B.Disk.size c.args.second) (g.A.Disk.faults c.args.first) (g.A.Disk.faults u.first) (g.B.Disk.faults c.args.second) (g.B.Disk.faults u.second) u.fault) c.read_labels.ensures.first_size
    (subst (λ s. IsOpenFault (g.A.Disk.size c.read_labels.new.first) s (g.A.Disk.faults c.args.first) (g.A.Disk.faults u.first) (g.B.Disk.faults c.args.second) (g.B.Disk.faults u.second) u.fault) c.read_labels.ensures.second_size
    (subst (λ a. IsOpenFault (g.A.Disk.size c.read_labels.new.first) (g.B.Disk.size c.read_labels.new.second) a (g.A.Disk.faults u.first) (g.B.Disk.faults c.args.second) (g.B.Disk.faults u.second) u.fault) c.in-Ok.ensures.passed.0
    (subst (λ b. IsOpenFault (g.A.Disk.size c.read_labels.new.first) (g.B.Disk.size c.read_labels.new.second) (g.A.Disk.faults c.read_labels.new.first) (g.A.Disk.faults u.first) b (g.B.Disk.faults u.second) u.fault) c.in-Ok.ensures.passed.1 is)))) c.open_found.ensures.refused

pub returns-in-Ok-clause-unlabelled : goal.returns-in-Ok-clause-unlabelled
returns-in-Ok-clause-unlabelled g c va vb =
    let sized : c.in-Ok.found.sectors ≡ (g.A.Disk.size c.args.first - 1) = omega (arith, c.in-Ok.ensures.sectors.0) in
    subst (λ o. IfErr c.open_found.result (λ u. u.fault ≡ NoLabel → o ≡ None))
    (λ i. opened (sized i) ((c.read_labels.ensures.first_rests va).content i) ((c.read_labels.ensures.second_rests vb).content i)) (c.open_found.ensures.unlabelled va vb)

pub returns-in-Ok-clause-given_back : goal.returns-in-Ok-clause-given_back
returns-in-Ok-clause-given_back g c =
    err_map c.open_found.result (λ u. (g.A.Disk.size u.first ≡ g.A.Disk.size c.read_labels.new.first) × (g.B.Disk.size u.second ≡ g.B.Disk.size c.read_labels.new.second)) (λ u. (g.A.Disk.size u.first ≡ g.A.Disk.size c.args.first) × (g.B.Disk.size u.second ≡ g.B.Disk.size c.args.second))
    (λ u is. (is.0 ∙ c.read_labels.ensures.first_size, is.1 ∙ c.read_labels.ensures.second_size)) c.open_found.ensures.given_size

pub returns-in-Err-clause-crash_refused : goal.returns-in-Err-clause-crash_refused
returns-in-Err-clause-crash_refused g c va vb =
    subst (Opening g.A.Disk.keeps g.B.Disk.keeps (OpensOnly (g.A.Disk.size c.args.first - 1) (MayOpen (g.A.Disk.size c.args.first - 1) (g.A.Disk.moments c.args.first).state (g.B.Disk.moments c.args.second).state)) (g.A.Disk.moments c.args.first) (g.B.Disk.moments c.args.second))
    (λ i. watched (λ l. g.A.Disk.moments l.first) (λ l. g.B.Disk.moments l.second) (sym c.unpaired.ensures.noted i) (record { first = sym c.unpaired.ensures.first i; second = sym c.unpaired.ensures.second i }) (sym c.unpaired.ensures.picks i))
    (more_open g.A.Disk.keeps g.B.Disk.keeps (g.A.Disk.size c.args.first - 1) (g.A.Disk.moments c.args.first) (g.B.Disk.moments c.args.second) (g.A.Disk.moments c.read_labels.new.first) (g.B.Disk.moments c.read_labels.new.second) (c.read_labels.ensures.first_rests va) (c.read_labels.ensures.second_rests vb) _ (unopened g.A.Disk.keeps g.B.Disk.keeps (g.A.Disk.size c.args.first - 1) (g.A.Disk.moments c.read_labels.new.first) (g.B.Disk.moments c.read_labels.new.second) First))

pub returns-in-Err-clause-refused : goal.returns-in-Err-clause-refused
returns-in-Err-clause-refused g c =
    subst (IsOpenFault (g.A.Disk.size c.args.first) (g.B.Disk.size c.args.second) (g.A.Disk.faults c.args.first) (g.A.Disk.faults c.unpaired.result.first) (g.B.Disk.faults c.args.second) (g.B.Disk.faults c.unpaired.result.second)) (sym c.unpaired.ensures.fault)
    (subst (λ x. IsOpenFault (g.A.Disk.size c.args.first) (g.B.Disk.size c.args.second) (g.A.Disk.faults c.args.first) x (g.B.Disk.faults c.args.second) (g.B.Disk.faults c.unpaired.result.second) c.in-Err.fault) (sym (ap g.A.Disk.faults c.unpaired.ensures.first))
    (subst (λ y. IsOpenFault (g.A.Disk.size c.args.first) (g.B.Disk.size c.args.second) (g.A.Disk.faults c.args.first) (g.A.Disk.faults c.read_labels.new.first) (g.B.Disk.faults c.args.second) y c.in-Err.fault) (sym (ap g.B.Disk.faults c.unpaired.ensures.second))
    (make_open _ _ _ _ _ _ c.in-Err.fault c.in-Err.ensures.refused)))

pub returns-in-Err-clause-unlabelled : goal.returns-in-Err-clause-unlabelled
returns-in-Err-clause-unlabelled g c va vb is =
    absurd (subst (IsMakeFault (g.A.Disk.size c.args.first) (g.B.Disk.size c.args.second) (g.A.Disk.faults c.args.first) (g.A.Disk.faults c.read_labels.new.first) (g.B.Disk.faults c.args.second) (g.B.Disk.faults c.read_labels.new.second)) (sym c.unpaired.ensures.fault ∙ is) c.in-Err.ensures.refused)

pub returns-in-Err-clause-given_back : goal.returns-in-Err-clause-given_back
returns-in-Err-clause-given_back g c = (ap g.A.Disk.size c.unpaired.ensures.first ∙ c.read_labels.ensures.first_size, ap g.B.Disk.size c.unpaired.ensures.second ∙ c.read_labels.ensures.second_size)
