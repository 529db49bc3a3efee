use Rattle.std.proofs.Common.{[], ap, length, sym, subst, ◌∙◌}
use Rattle.std.proofs.lemmas.List.{length-replicate}
use Rattle.ufs_home.specs.Owning.{AreKnown}
use Rattle.ufs_home.proofs.Knowing.{known_empty}
use Rattle.ufs_home.proofs.home.Home.make.Goals as goal

pub invariant_of-result : goal.invariant_of-result
invariant_of-result g c = record {
  all = c.requires;
  each = ap length c.in_ok-boxes.ensures ∙ length-replicate c.args.workers [];
  known = subst (AreKnown c.args.workers) (sym c.new-2.ensures.files) (known_empty c.args.workers);
}
