-- One file's way out and back, computed.
use Rattle.std.proofs.Common.{◌≡◌, [], ◌∷◌, Bool, not, ap, refl, ◌∙◌, true}
use Rattle.std.specs.Ordering.{nat_cmp}
use Rattle.std.specs.Cmp.{nat_cmp_total}
use Rattle.std.specs.FinMap as map
use Rattle.std.specs.FinMap.{get-empty}
use Rattle.ufs_owner.specs.declared.owner.Owner.{Owner}
use Rattle.ufs_owner.specs.declared.owner.Owner.TheVariants.{Primary, Worker, Coming, Going}
use Rattle.ufs_owner.specs.declared.owner.Standing.{Standing}
use Rattle.ufs_owner.specs.Owners.{Files, owner_at, note_at, waiting_at, is_coming, recalled, arrived, with_owner, with_waiting}
use Rattle.ufs_owner.proofs.OwnerFacts.{has_owner, has_note, owner_keeps_waiting, has_waiting}

-- file 7 is sent to worker 1, leaves, and is recalled for worker 2
sent : Files
sent = with_owner map.empty 7 (Going 1) 0

left : Files
left = with_owner sent 7 (arrived (owner_at sent 7)) 0

coming : Files
coming = with_owner left 7 (recalled (owner_at left 7)) 2

goes : owner_at sent 7 ≡ Going 1
unfolding sent
goes = has_owner map.empty 7 (Going 1) 0

stays : owner_at left 7 ≡ Worker 1
unfolding left
stays = has_owner sent 7 _ 0 ∙ ap arrived goes

comes : owner_at coming 7 ≡ Coming 1
unfolding coming
comes = has_owner left 7 _ 2 ∙ ap recalled stays

noted : note_at coming 7 ≡ 2
unfolding coming
noted = has_note left 7 _ 2 (ap (λ o. is_coming (recalled o)) stays)

-- clients 3 and 0 wait for it, and still do once it is at the primary
awaited : waiting_at (with_owner (with_waiting coming 7 (3 ∷ 0 ∷ [])) 7 Primary 0) 7 ≡ 3 ∷ 0 ∷ []
awaited = owner_keeps_waiting (with_waiting coming 7 (3 ∷ 0 ∷ [])) 7 Primary 0 ∙ has_waiting coming 7 (3 ∷ 0 ∷ [])
