use Rattle.ufs_bitmap.proofs.OwnerLemmas.{owners_are_apart, owners_stay_apart}
use Rattle.ufs_bitmap.proofs.taking.owners_stay_apart.Goals as goal

pub returns : goal.returns
returns c = record { each = owners_are_apart; all = owners_stay_apart }
