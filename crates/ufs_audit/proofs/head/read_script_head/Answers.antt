use Rattle.std.proofs.Common.{◌≡◌, ◌∙◌, ℕ, List, refl, sym, subst, rules}
use Rattle.ufs_audit.proofs.HeadLemmas.{broken_head}
use Rattle.ufs_audit.proofs.head.read_script_head.Goals as goal

pub returns-in_err-script-clause-broken : goal.returns-in_err-script-clause-broken
returns-in_err-script-clause-broken g c = λ broken is.
    let left = g.S.Source.left in
    broken_head (left c.args.source.now) (left c.read_head.new.source) c.read_head.new.ahead c.in_ok-head.head.text.items c.in_ok-head.head.closed broken c.in_ok-head.ensures.head (c.in_err-script.ensures.broken broken (search rules))

pub returns-clause-script : goal.returns-clause-script
returns-clause-script g c = record {
  head = c.in_ok-head.head.text.items;
  has = c.in_ok-head.ensures.head;
  short = c.in_ok-script.ensures.short;
  read = c.in_ok-script.ensures.ok;
}
