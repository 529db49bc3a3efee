use Rattle.std.proofs.Common.{◌≡◌, ◌∙◌, refl, sym, subst, ap}
use Rattle.std.specs.Prelude.{◌%◌}
use Rattle.ufs_hand_laws.specs.Parts.{View}
use Rattle.ufs_hand_laws.specs.Rule.{KnowsTickets, clock_step}
use Rattle.ufs_hand.specs.Session.{IsEvent}
use Rattle.ufs_one_hand.specs.Apart.{HasEachFile}
use Rattle.ufs_one_hand.specs.Drawn.{turned_view}
use Rattle.ufs_one_hand.specs.OneHand.{HasSession, IsCoveredIn, IsStampedIn, faults_in, passed_in, stamp_in, state_in}
use Rattle.ufs_one_hand.proofs.Passage.{may_turn, turned_covered, turned_faults, turned_passed, turned_session, turned_stamp, turned_stamped, turned_state}
use Rattle.ufs_one_hand.proofs.Parting.{each_stays}
use Rattle.ufs_one_hand.proofs.Tickets.{tickets_are}
use Rattle.ufs_one_hand.proofs.hand.OneHand.turn.Goals as goal

pub mark-requires : goal.mark-requires
mark-requires g c =
    let s = c.requires.session in
    subst (λ (v : View). IsEvent g.N.Naming.start v (turned_view v)) (sym c.self.view_is) (may_turn g.N.Naming.start s.0 s.1 c.args.self.now s.2)

pub returns : goal.returns
returns g c =
    let k = g.N.Naming.start in
    let n = c.mark.result % clock_step in
    let is : c.mark.new.self ≡ turned_view c.args.self.now n = c.mark.ensures.parts ∙ ap (λ (v : View). turned_view v n) c.self.view_is in
    let knows : KnowsTickets k c.args.self.now n = subst (λ (v : View). KnowsTickets k v n) c.self.view_is c.mark.ensures.history in
    let s = c.requires.session in record {
      session = λ history asked h. subst (HasSession k history asked) (sym is) (turned_session k history asked c.args.self.now h n);
      apart = λ history files each. subst (λ (v : View). HasEachFile k history v files) (sym is) (each_stays k history c.args.self.now (turned_view c.args.self.now n) (λ f. refl) (λ m e. e) files each);
      fresh = λ history asked h. ap stamp_in is ∙ turned_stamp k history asked c.args.self.now h n ∙ tickets_are k history asked c.args.self.now n h knows;
      covered = λ history covered. subst (IsCoveredIn k history) (sym is) (turned_covered k s.0 s.1 c.args.self.now s.2 n history covered);
      stamped = λ x m. subst (λ (v : View). IsStampedIn v.store x) (sym is) (turned_stamped k s.0 s.1 c.args.self.now s.2 n x m);
      passed = ap passed_in is ∙ turned_passed k s.0 s.1 c.args.self.now s.2 n;
      stop = ap (λ (v : View). v.stop) is;
      state = ap state_in is ∙ turned_state k s.0 s.1 c.args.self.now s.2 n;
      faults = ap (λ (v : View). v.faults) is;
      answered = ap faults_in is ∙ turned_faults k s.0 s.1 c.args.self.now s.2 n;
      shortages = ap (λ (v : View). v.shortages) is;
    }
