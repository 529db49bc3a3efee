use Rattle.std.proofs.Common.{◌≡◌, ◌∙◌, refl, sym, subst, ap}
use Rattle.std.specs.Prelude.{◌%◌, ◌≤◌}
use Rattle.ufs_hand_laws.specs.Owned.{times}
use Rattle.ufs_hand_laws.specs.Parts.{View}
use Rattle.ufs_hand_laws.specs.Rule.{KnowsTickets, clock_step}
use Rattle.ufs_hand.specs.Session.{IsEvent}
use Rattle.ufs_one_hand.specs.Apart.{HasEachFile}
use Rattle.ufs_one_hand.specs.Drawn.{passed_view}
use Rattle.ufs_one_hand.specs.OneHand.{HasSession, IsCoveredIn, IsStampedIn, faults_in, passed_in, stamp_in, state_in}
use Rattle.ufs_one_hand.proofs.Parting.{each_stays}
use Rattle.ufs_one_hand.proofs.Passage.{AreNewFaults, fault_told, may_pass, passed_covered, passed_faults, passed_more, passed_session, passed_stamp, passed_stamped, read_told, state_passed}
use Rattle.ufs_one_hand.proofs.Tickets.{tickets_are}
use Rattle.ufs_one_hand.proofs.hand.OneHand.pass.Goals as goal

pub mark-requires : goal.mark-requires
mark-requires g c =
    let s = c.requires.session in
    let v = c.args.self.now in
    let new : AreNewFaults g.P.Passing.failed v.stop g.P.Passing.stop (faults_in v) = record { kept = c.requires.stop; stopped = c.requires.stopped; failed = c.requires.failed; apart = c.requires.apart } in
    subst (λ (v : View). IsEvent g.N.Naming.start v (passed_view g.P.Passing.failed g.P.Passing.stop g.P.Passing.states g.P.Passing.state g.P.Passing.shortages v)) (sym c.self.view_is)
    (may_pass c.a_request_keeps_the_tree.ensures c.explained_images_show.ensures.explained g.N.Naming.start s.0 s.1 v g.P.Passing.failed g.P.Passing.stop g.P.Passing.states g.P.Passing.state g.P.Passing.shortages s.2 new)

pub returns : goal.returns
returns g c =
    let k = g.N.Naming.start in
    let n = c.mark.result % clock_step in
    let v = c.args.self.now in
    let failed = g.P.Passing.failed in
    let stop = g.P.Passing.stop in
    let states = g.P.Passing.states in
    let state = g.P.Passing.state in
    let short = g.P.Passing.shortages in
    let new : AreNewFaults failed v.stop stop (faults_in v) = record { kept = c.requires.stop; stopped = c.requires.stopped; failed = c.requires.failed; apart = c.requires.apart } in
    let is : c.mark.new.self ≡ passed_view failed stop states state short v n = c.mark.ensures.parts ∙ ap (λ (v : View). passed_view failed stop states state short v n) c.self.view_is in
    let knows : KnowsTickets k v n = subst (λ (v : View). KnowsTickets k v n) c.self.view_is c.mark.ensures.history in
    let s = c.requires.session in record {
      session = λ history asked h. subst (HasSession k history asked) (sym is) (passed_session k history asked v h failed stop states state short new n);
      apart = λ history files each. subst (λ (v : View). HasEachFile k history v files) (sym is) (each_stays k history v (passed_view failed stop states state short v n) (λ f. refl) c.requires.stop files each);
      fresh = λ history asked h. ap stamp_in is ∙ passed_stamp k history asked v h failed stop states state short new n ∙ tickets_are k history asked v n h knows;
      covered = λ history covered. subst (IsCoveredIn k history) (sym is) (passed_covered k s.0 s.1 v s.2.session failed stop states state short new n history covered);
      stamped = λ x m. subst (λ (v : View). IsStampedIn v.store x) (sym is) (passed_stamped k s.0 s.1 v s.2.session failed stop states state short new n x m);
      passed = ap passed_in is ∙ passed_more k s.0 s.1 v s.2.session failed stop states state short new n;
      stop = ap (λ (v : View). v.stop) is;
      state = ap state_in is ∙ state_passed c.a_request_keeps_the_tree.ensures c.explained_images_show.ensures.explained k s.0 s.1 v failed stop states state short s.2 new n;
      faults = ap (λ (v : View). v.faults) is;
      fault = λ m a b. subst (λ (v : View). 1 ≤ times m v.faults) (sym is) (fault_told failed v.stop stop v.faults m a b);
      failed = λ m a. subst (λ (v : View). 1 ≤ times m v.faults) (sym is) (read_told failed v.stop stop v.faults m a);
      answered = ap faults_in is ∙ passed_faults k s.0 s.1 v s.2.session failed stop states state short new n;
      shortages = ap (λ (v : View). v.shortages) is;
    }
