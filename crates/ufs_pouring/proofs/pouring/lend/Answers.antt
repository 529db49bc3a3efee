use Rattle.std.proofs.Common.{◌≡◌, ap, sym, ◌∙◌, refl, inl, inr, arith}
use Rattle.std.specs.FinSet as set
use Rattle.ufs_bitmap.specs.Blocks.{BlockSet, run_set}
use Rattle.ufs_bitmap.proofs.SetLemmas.{empty_union, has-empty, has-run_set}
use Rattle.ufs_pouring.proofs.Lemmas.{difference_nothing, none_in, one_run}
use Rattle.ufs_pouring.proofs.pouring.lend.Goals as goal

pub give-requires-clause-apart : goal.give-requires-clause-apart
give-requires-clause-apart c b from end = ap (λ (s : BlockSet). set.contains s b) c.requires ∙ has-empty b

pub returns-then-not-lends : goal.returns-then-not-lends
returns-then-not-lends c = record {
  asked = tt;
  none = inl c.if-not-lends.true;
  lent = c.requires;
  pool = difference_nothing c.args.pool.now c.args.lent.now c.requires;
  within = λ b is. absurd (none_in c.args.lent.now b c.requires is);
}

pub returns-in-Some : goal.returns-in-Some
returns-in-Some c =
    let lowest = c.in-Some.lowest in
    let is : c.give.new.self ≡ run_set lowest = c.give.ensures ∙ ap (λ (t : BlockSet). set.union t (run_set lowest)) c.requires ∙ empty_union (run_set lowest) in
    record {
      asked = (c.if-not-lends.false, c.in-Some.ensures.lowest.held lowest.start (omega arith) (omega (arith, (c.in-Some.ensures.run).0)));
      none = tt;
      lent = c.give.ensures ∙ one_run c.args.lent.now lowest c.requires c.in-Some.ensures.run c.in-Some.ensures.lowest.at_most;
      pool = c.in-Some.ensures.taken ∙ ap (set.difference c.args.pool.now) (sym is);
      within = λ b has. let at = has-run_set lowest b (ap (λ (t : BlockSet). set.contains t b) (sym is) ∙ has) in c.in-Some.ensures.lowest.held b at.0 at.1;
    }

pub returns-in-None : goal.returns-in-None
returns-in-None c = record {
  asked = tt;
  none = inr (c.in-None.ensures.none.0 refl);
  lent = c.requires;
  pool = c.in-None.ensures.same ∙ difference_nothing c.args.pool.now c.args.lent.now c.requires;
  within = λ b is. absurd (none_in c.args.lent.now b c.requires is);
}
