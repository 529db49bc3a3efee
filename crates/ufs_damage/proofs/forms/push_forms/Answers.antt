use Rattle.std.proofs.Common.{◌+◌, arith}
use Rattle.std.specs.Option.{option_map}
use Rattle.ufs_damage.specs.Meaning.{meaning}
use Rattle.ufs_damage.specs.Kinds.{form_damage}
use Rattle.ufs_damage.proofs.Lists.{told_numbered}
use Rattle.ufs_damage.proofs.forms.push_forms.Goals as goal

pub loop-k-preserved : goal.loop-k-preserved
loop-k-preserved c =
    told_numbered (form_damage c.args.kind c.args.geometry.now) 1 (c.loop-k.k + 1) c.args.forms.now c.loop-k.k c.index-forms-k.result c.args.list.now c.loop-k.list c.push_some.new.self (option_map meaning c.form_damage.result)
    c.loop-k-test.true c.index-forms-k.is (omega arith) c.loop-k.invariant c.form_damage.ensures c.in_ok-push_some.ensures
