use Rattle.std.proofs.Common.{◌≡◌, ◌≢◌, ap, subst}
use Rattle.std.specs.Prelude.{MatchOption}
use Rattle.ufs_owner.specs.Owners.{Files, count_out, owner_at}
use Rattle.ufs_owner.specs.declared.owner.Owner.TheVariants.{Primary}
use Rattle.ufs_owner.proofs.AwayLemmas.{some_out_is}
use Rattle.ufs_owner.proofs.table.OwnerTable.some_out.Goals as goal

pub returns : goal.returns
returns c =
    subst (λ (fs : Files). MatchOption c.some_out.result (count_out fs ≡ 0) (λ file. owner_at fs file ≢ Primary)) (ap (λ o. o.files) c.self.view_is)
    (some_out_is c.self.inside.records.files c.some_out.result c.some_out.ensures.out c.some_out.ensures.none)
