use Rattle.std.proofs.Common.{◌≡◌, ◌∙◌, ◌++◌, ◌∷◌, [], Some, sym, subst, ap}
use Rattle.ufs_hand_laws.specs.Covers.{step_in}
use Rattle.ufs_hand_laws.specs.Parts.{View}
use Rattle.ufs_hand.specs.Session.{IsEvent}
use Rattle.ufs_one_hand.specs.Apart.{HasEachFile}
use Rattle.ufs_one_hand.specs.OneHand.{HasSession, IsCoveredIn, IsStampedIn, KnowsSynced, faults_in, passed_in, state_in}
use Rattle.ufs_one_hand.proofs.Keeping.{all_covered, all_session, all_stamped, first_learned, knows, last_learned, next_learned, same_counts, same_faults, same_passed, same_rest}
use Rattle.ufs_one_hand.proofs.Kept.{births_kept, files_kept, names_kept}
use Rattle.ufs_one_hand.proofs.Parting.{each_stays}
use Rattle.ufs_one_hand.proofs.hand.OneHand.keep.Goals as goal

pub learn-requires : goal.learn-requires
learn-requires g c =
    let s = c.requires.answer in
    let law = c.acknowledged_numbers.ensures in
    record { event = first_learned g.N.Naming.start s.0 g.A.Answering.before c.args.entry.now c.args.self.now s.1 law.names law.births c.a_request_keeps_the_tree.ensures c.explained_images_show.ensures.acknowledged }

pub learn-requires-2 : goal.learn-requires-2
learn-requires-2 g c =
    let k = g.N.Naming.start in
    let t = g.A.Answering.before in
    let e = c.args.entry.now in
    let s = c.requires.answer in
    let law = c.acknowledged_numbers.ensures in
    let one = c.learn.ensures.left in
    record { event = subst (λ (v : View). IsEvent k v (births_kept t e v)) (sym one.1) (next_learned k s.0 t e c.args.self.now s.1 law.names law.births one.0) }

pub learn-requires-3 : goal.learn-requires-3
learn-requires-3 g c =
    let k = g.N.Naming.start in
    let t = g.A.Answering.before in
    let e = c.args.entry.now in
    let s = c.requires.answer in
    let law = c.acknowledged_numbers.ensures in
    let one = c.learn.ensures.left in
    let two = c.learn-2.ensures.left in
    let may = last_learned k s.0 t e c.args.self.now s.1 law.names law.births one.0 two.0 c.a_request_keeps_the_tree.ensures c.explained_images_show.ensures.acknowledged law.files in
    record { event = subst (λ (v : View). IsEvent k v (files_kept t e v)) (sym (two.1 ∙ ap (λ (v : View). births_kept t e v two.0) one.1)) may }

pub returns : goal.returns
returns g c =
    let k = g.N.Naming.start in
    let t = g.A.Answering.before in
    let e = c.args.entry.now in
    let v = c.args.self.now in
    let s = c.requires.answer in
    let one = c.learn.ensures.left in
    let two = c.learn-2.ensures.left in
    let three = c.learn-3.ensures.left in
    let law = c.acknowledged_numbers.ensures in
    let is : c.learn-3.new.self ≡ files_kept t e (births_kept t e (names_kept t e v one.0) two.0) three.0 =
    three.1 ∙ ap (λ (v : View). files_kept t e v three.0) (two.1 ∙ ap (λ (v : View). births_kept t e v two.0) one.1) in record {
      session = λ history acked. subst (HasSession k history (Some (e.client, e.op))) (sym is) (all_session k history t e v acked law.names law.births one.0 two.0 three.0);
      apart = λ history files each. subst (λ (v : View). HasEachFile k history v files) (sym is)
          (each_stays k history v (files_kept t e (births_kept t e (names_kept t e v one.0) two.0) three.0) (same_counts k s.0 t e v s.1 law.names law.births one.0 two.0 three.0) (λ m e. e) files each);
      covered = λ history acked. subst (IsCoveredIn k (history ++ e ∷ [])) (sym is) (all_covered k history t e v acked law.names law.births one.0 two.0 three.0 law.files);
      known = subst (KnowsSynced (step_in t e)) (sym is) (knows k s.0 t e v s.1 law.names law.births one.0 two.0 three.0);
      stamped = λ x m. subst (λ (v : View). IsStampedIn v.store x) (sym is) (all_stamped k s.0 t e v s.1 law.names law.births one.0 two.0 three.0 x m);
      passed = ap passed_in is ∙ same_passed k s.0 t e v s.1 law.names law.births one.0 two.0 three.0;
      stop = ap (λ (v : View). v.stop) is;
      state = ap state_in is ∙ same_rest k s.0 t e v s.1 law.names law.births one.0 two.0 three.0;
      faults = ap (λ (v : View). v.faults) is;
      answered = ap faults_in is ∙ same_faults k s.0 t e v s.1 law.names law.births one.0 two.0 three.0;
      shortages = ap (λ (v : View). v.shortages) is;
    }
