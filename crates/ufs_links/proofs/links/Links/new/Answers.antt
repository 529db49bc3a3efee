use Rattle.std.proofs.Common.{◌+◌, ◌∙◌, ℕ, List, length, sym, ap, subst, true≢false, arith}
use Rattle.ufs_links.specs.Nodes.{has}
use Rattle.ufs_links.specs.Kept.{AreGiven}
use Rattle.ufs_links.specs.Chains.{AreApart}
use Rattle.ufs_links.proofs.KeptLemmas.{none_given, none_on_empty}
use Rattle.ufs_links.proofs.links.Links.new.Goals as goal

pub returns : goal.returns
returns c = λ i. record {
  given = none_given c.new-3.result.items c.new-3.ensures.items i;
  spare = length (c.new-3.ensures.items i) + 0;
  first = c.new.ensures.lists i;
  second = c.new-2.ensures.lists i;
}

pub invariant_of-result : goal.invariant_of-result
invariant_of-result c = record {
  used = omega arith;
  released = λ n h. absurd (true≢false (sym (sym (ap (λ (xs : List ℕ). has xs n) c.new-3.ensures.items) ∙ h)));
  apart = subst AreApart (sym c.new-3.ensures.items) tt;
  room = omega arith;
  first_room = omega arith;
  second_room = omega arith;
  first = subst (AreGiven 0 c.new-3.result.items) (sym c.new.ensures.lists) (none_on_empty 0 c.new-3.result.items);
  second = subst (AreGiven 0 c.new-3.result.items) (sym c.new-2.ensures.lists) (none_on_empty 0 c.new-3.result.items);
}
