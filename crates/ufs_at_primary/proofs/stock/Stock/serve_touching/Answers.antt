use Rattle.std.proofs.Common.{◌≡◌, ◌<◌, ◌^◌, ℕ, Option, sym, subst, ap, ◌∙◌}
use Rattle.std.specs.Prelude.{IfSome, IsSome}
use Rattle.std.specs.FinMap as fin
use Rattle.ufs_held_names.specs.Asked.{IsNeeded}
use Rattle.ufs_home.specs.Home.{HomeState}
use Rattle.ufs_home.specs.Places.{file_here}
use Rattle.ufs_joint.specs.Cells.{NamesCell}
use Rattle.ufs_model.specs.History.{is_excused}
use Rattle.ufs_at_primary.specs.Stock.{AreHere, StockState, stock_of}
use Rattle.ufs_at_primary.proofs.AtHome.{here_answered}
use Rattle.ufs_at_primary.proofs.Excuses.{opened_named}
use Rattle.ufs_at_primary.proofs.Outcomes.{answered_from, by_names}
use Rattle.ufs_at_primary.proofs.Trials.{made_number, next_free, still_same, touched_lent}
use Rattle.ufs_at_primary.proofs.stock.Stock.serve_touching.Goals as goal

pub lend_touched-lent-requires-clause-below : goal.lend_touched-lent-requires-clause-below
lend_touched-lent-requires-clause-below g c = subst (λ (s : StockState). (file : ℕ) → IsSome (fin.get s.names.value.held file) → file < s.names.value.next) (sym c.self.view_is) c.requires.below

pub lend_touched-lent-requires-clause-here : goal.lend_touched-lent-requires-clause-here
lend_touched-lent-requires-clause-here g c = subst (λ (s : StockState). IfSome c.args.needed (λ file. IsSome (file_here s.home.places file))) (sym c.self.view_is) c.requires.here

pub lacking-requires-clause-pool : goal.lacking-requires-clause-pool
lacking-requires-clause-pool g c = (c.self.inside.pool, c.self.invariant.hand)

pub lacking-requires-clause-opened : goal.lacking-requires-clause-opened
lacking-requires-clause-opened g c = opened_named c.args.request.ask c.requires.kind

pub returns-in-Err-clause-answered : goal.returns-in-Err-clause-answered
returns-in-Err-clause-answered g c =
    let f = c.self.inside in
    let e = c.lend_touched-lent in
    let before = g.T.Turns.tells c.args.door.now in
    let after = g.T.Turns.tells c.lacking.new.door in
    let t = stock_of e.new.names e.new.home f.pool in
    answered_from g.N.Naming.start.is_visible before after t c.args.self.now t c.args.request c.lacking.result ((λ i. stock_of (e.ensures.names i) (c.in-Err.ensures.kept i) f.pool) ∙ c.self.view_is) (c.lacking.ensures.answered g.N.Naming.start.is_visible e.new.names f.pool)

pub serve_named-answer-requires-clause-kind : goal.serve_named-answer-requires-clause-kind
serve_named-answer-requires-clause-kind g c = let k = c.requires.kind in k.kind

pub serve_named-answer-requires-clause-no_commit : goal.serve_named-answer-requires-clause-no_commit
serve_named-answer-requires-clause-no_commit g c = let k = c.requires.kind in k.no_commit

pub serve_named-answer-requires-clause-numbers : goal.serve_named-answer-requires-clause-numbers
serve_named-answer-requires-clause-numbers g c =
    let low = subst (λ (s : StockState). s.names.value.next < 2 ^ 31) (sym c.self.view_is) c.requires.low in
    subst (λ (n : NamesCell). n.value.next < 2 ^ 31) (sym c.lend_touched-lent.ensures.names) low

pub serve_named-answer-requires-clause-needed : goal.serve_named-answer-requires-clause-needed
serve_named-answer-requires-clause-needed g c =
    let its = subst (λ (s : StockState). IsNeeded s.names.value c.args.request.ask c.args.needed) (sym c.self.view_is) c.requires.needed in
    subst (λ (q : NamesCell × Option ℕ). IsNeeded q.0.value c.args.request.ask q.1) (λ i. (sym c.lend_touched-lent.ensures.names i, sym c.in-Ok.ensures.number i)) its

pub put_after-requires-clause-number : goal.put_after-requires-clause-number
put_after-requires-clause-number g c =
    let s = c.serve_named-answer.ensures.served in
    let named = s.2 in
    let done = named.done in
    let young = c.serve_named-answer.result.made in
    let n = c.lend_touched-lent.new.names in
    subst (λ (m : ℕ). IfSome young (λ k. m ≡ k.value.file.file)) (ap (λ (x : NamesCell). x.value.next) c.lend_touched-lent.ensures.names ∙ sym c.in-Ok.ensures.next) (made_number young n.value.next s.0.entry.ticket done.made)

pub put_after-requires-clause-low : goal.put_after-requires-clause-low
put_after-requires-clause-low g c =
    let low = subst (λ (s : StockState). s.names.value.next < 2 ^ 31) (sym c.self.view_is) c.requires.low in
    subst (λ (m : ℕ). m < 2 ^ 31) (sym c.in-Ok.ensures.next) low

pub put_after-requires-clause-free : goal.put_after-requires-clause-free
put_after-requires-clause-free g c = next_free c.self.inside.home c.in-Ok.lent.0 c.in-Ok.ensures.free c.lend_touched-lent.new.home c.in-Ok.lent.1 c.in-Ok.ensures.lent

pub put_after-requires-clause-lent : goal.put_after-requires-clause-lent
put_after-requires-clause-lent g c = touched_lent c.self.inside.home c.in-Ok.lent.0 c.in-Ok.ensures.free c.lend_touched-lent.new.home c.in-Ok.lent.1 c.args.needed c.in-Ok.ensures.number c.in-Ok.ensures.lent c.in-Ok.ensures.here

pub put_after-requires-clause-same : goal.put_after-requires-clause-same
put_after-requires-clause-same g c =
    let s = c.serve_named-answer.ensures.served in
    let named = s.2 in
    let done = named.done in
    still_same c.serve_named-answer.result.file c.in-Ok.lent.1 c.args.needed s.0.entry.ticket (is_excused s.0.entry.reply) c.in-Ok.ensures.number c.in-Ok.ensures.low done.kept_file done.file

pub returns-clause-answered : goal.returns-clause-answered
returns-clause-answered g c =
    let f = c.self.inside in
    let l = c.lend_touched-lent in
    let n = l.new.names in
    let e = c.serve_named-answer in
    let before = g.T.Turns.tells c.args.door.now in
    let after = g.T.Turns.tells e.new.door in
    let its = subst (λ (s : StockState). IsNeeded s.names.value c.args.request.ask c.args.needed) (sym c.self.view_is) c.requires.needed in
    answered_from g.N.Naming.start.is_visible before after (stock_of n f.home f.pool) c.args.self.now (stock_of e.new.names c.put_after.new.home e.new.pool) c.args.request e.result.answer ((λ i. stock_of (l.ensures.names i) f.home f.pool) ∙ c.self.view_is)
    (by_names g.N.Naming.start.is_visible before after n e.new.names f.pool e.new.pool c.args.request e.result.answer f.home l.new.home c.put_after.new.home c.args.needed c.in-Ok.lent.1 e.result.file e.result.made c.in-Ok.lent.0
    c.requires.kind (subst (λ (x : NamesCell). IsNeeded x.value c.args.request.ask c.args.needed) (sym l.ensures.names) its) c.in-Ok.ensures.number c.in-Ok.ensures.here (c.in-Ok.ensures.next ∙ ap (λ (x : NamesCell). x.value.next) (sym l.ensures.names)) c.in-Ok.ensures.lent c.put_after.ensures e.ensures.served)

pub invariant_of-self-2 : goal.invariant_of-self-2
invariant_of-self-2 g c =
    let h = c.self.invariant in
    let f = c.self.inside in
    let l = c.lend_touched-lent in
    let n = l.new.names in
    let e = c.serve_named-answer in
    let before = g.T.Turns.tells c.args.door.now in
    let after = g.T.Turns.tells e.new.door in
    let its = subst (λ (s : StockState). IsNeeded s.names.value c.args.request.ask c.args.needed) (sym c.self.view_is) c.requires.needed in
    record {
      formed = h.formed;
      its = h.its;
      numbers = h.numbers;
      hand = e.ensures.pool;
      few = e.ensures.few;
      here = here_answered g.N.Naming.start.is_visible before after (stock_of n f.home f.pool) (stock_of e.new.names c.put_after.new.home e.new.pool) (subst (λ (x : NamesCell). AreHere x f.home) (sym l.ensures.names) h.here) c.args.request e.result.answer
          (by_names g.N.Naming.start.is_visible before after n e.new.names f.pool e.new.pool c.args.request e.result.answer f.home l.new.home c.put_after.new.home c.args.needed c.in-Ok.lent.1 e.result.file e.result.made c.in-Ok.lent.0
          c.requires.kind (subst (λ (x : NamesCell). IsNeeded x.value c.args.request.ask c.args.needed) (sym l.ensures.names) its) c.in-Ok.ensures.number c.in-Ok.ensures.here (c.in-Ok.ensures.next ∙ ap (λ (x : NamesCell). x.value.next) (sym l.ensures.names)) c.in-Ok.ensures.lent c.put_after.ensures e.ensures.served);
    }

pub invariant_of-self : goal.invariant_of-self
invariant_of-self g c =
    let h = c.self.invariant in
    let l = c.lend_touched-lent in
    record {
      formed = h.formed;
      its = h.its;
      numbers = h.numbers;
      hand = c.lacking.ensures.pool c.self.inside.pool h.hand;
      few = h.few;
      here = subst (λ (q : NamesCell × HomeState). AreHere q.0 q.1) (λ i. (sym l.ensures.names i, sym c.in-Err.ensures.kept i)) h.here;
    }
