use Rattle.std.proofs.Common.{Bool, ap, cond, sym, subst, ◌∙◌}
use Rattle.ufs_home.specs.Letters.{gone_from}
use Rattle.ufs_home.specs.Owning.{AreKnown}
use Rattle.ufs_home.proofs.Knowing.{known_gone}
use Rattle.ufs_home.proofs.owning.leave.Goals as goal

pub returns-then-not-goes-clause-owners : goal.returns-then-not-goes-clause-owners
returns-then-not-goes-clause-owners c = sym (ap (λ (b : Bool). cond b (gone_from c.args.owners.now.files c.args.file) c.args.owners.now.files) c.if-not-goes.true)

pub returns-clause-owners : goal.returns-clause-owners
returns-clause-owners c = c.depart.ensures ∙ sym (ap (λ (b : Bool). cond b (gone_from c.args.owners.now.files c.args.file) c.args.owners.now.files) c.if-not-goes.false)

pub returns-clause-known : goal.returns-clause-known
returns-clause-known c = λ workers all. subst (AreKnown workers) (sym c.depart.ensures) (known_gone workers c.args.owners.now.files c.args.file all)
