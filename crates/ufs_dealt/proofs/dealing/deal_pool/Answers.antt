use Rattle.std.proofs.Common.{sym, ◌∙◌, subst}
use Rattle.ufs_model.specs.declared.data.PartName.TheVariants.{File}
use Rattle.ufs_joint.specs.FirstHand.{HasPoolAlone}
use Rattle.ufs_dealt.specs.Dealt.{AreApart}
use Rattle.ufs_dealt.proofs.Hands.{kept_apart, left_pool, pool_alone}
use Rattle.ufs_dealt.proofs.dealing.deal_pool.Goals as goal

pub returns-clause-pool : goal.returns-clause-pool
returns-clause-pool g c pool has = subst (HasPoolAlone c.args.number pool) (sym c.split.ensures.given) (pool_alone c.args.hand.now c.requires.apart c.args.number pool has)

pub returns-clause-left : goal.returns-clause-left
returns-clause-left g c = (let h = c.requires.has in c.split.ensures.kept ∙ left_pool c.args.hand.now c.requires.apart c.args.number h.0 h.1)

pub returns-clause-apart : goal.returns-clause-apart
returns-clause-apart g c = subst AreApart (sym c.split.ensures.kept) (kept_apart (File c.args.number) c.args.hand.now c.requires.apart)
