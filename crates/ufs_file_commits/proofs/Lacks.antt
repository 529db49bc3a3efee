-- What a store lacks stays, while its numbers do.
use Rattle.std.proofs.Common.{◌≡◌, ◌⊎◌, inl, inr, sym, ◌∙◌}
use Rattle.ufs_base.specs.declared.lack.Lack.{Lack}
use Rattle.ufs_base.specs.declared.lack.Lack.TheVariants.{Memory, AtEnd, Unsound, Told}
use Rattle.ufs_store.specs.Ends.{IsLackOf}
use Rattle.ufs_store.specs.State.{StoreState}

pub lack_stays : (s t : StoreState) (w : Lack) → s.journal.number ≡ t.journal.number → s.superblock.epoch ≡ t.superblock.epoch → IsLackOf s w → IsLackOf t w
lack_stays s t (Memory refused) same alike is = tt
lack_stays s t AtEnd same alike (inl number) = inl (sym same ∙ number)
lack_stays s t AtEnd same alike (inr epoch) = inr (sym alike ∙ epoch)
lack_stays s t Unsound same alike is = is
lack_stays s t Told same alike is = is
