use Rattle.ufs_hand_laws.specs.Facts.Covered.{file_covered, synced_covers}
use Rattle.ufs_hand_laws.proofs.laws.acknowledged_changes_are_covered.Goals as goal

pub returns : goal.returns
returns c start history names file k is legal synced made named =
    (λ covers. file_covered c.a_request_keeps_the_tree.ensures start is history legal.entries names file k synced made named covers, synced_covers start history file k)
