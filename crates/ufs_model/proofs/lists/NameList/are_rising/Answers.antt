use Rattle.std.proofs.Common.{sym, ◌∙◌, List, ℕ}
use Rattle.ufs_model.proofs.KeyLemmas.{rising_more, rising_no_more, rising_last}
use Rattle.ufs_model.proofs.lists.NameList.are_rising.Goals as goal

abbrev alone : List ℕ → List ℕ × Unit {0}
alone name = (name, tt)

pub loop-i-preserved : goal.loop-i-preserved
loop-i-preserved c =
    c.loop-i.invariant
    ∙ rising_more alone c.args.names.now c.loop-i.i c.index-names-i.result c.index-names-i-in-loop-i.result c.loop-i.auto.i c.loop-i-test.true (cc)

pub returns-then-is_ge : goal.returns-then-is_ge
returns-then-is_ge c =
    sym (c.loop-i.invariant
    ∙ rising_no_more alone c.args.names.now c.loop-i.i c.index-names-i.result c.index-names-i-in-loop-i.result c.loop-i.auto.i c.loop-i-test.true (cc))

pub returns : goal.returns
returns c = sym (c.loop-i.invariant ∙ rising_last alone c.args.names.now c.loop-i.i c.loop-i-test.false)
