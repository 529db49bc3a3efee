use Rattle.std.proofs.Common.{ℕ, List, ◌∷◌, [], inr, ap, ◌∙◌}
use Rattle.ufs_bitmap.specs.Blocks.{BlockSet}
use Rattle.ufs_joint.specs.Cells.{View}
use Rattle.ufs_joint.specs.Moves.{blocks_moved}
use Rattle.ufs_hand_laws.specs.Owned.{each}
use Rattle.ufs_turns.specs.HeldStore.{moved_in}
use Rattle.ufs_turns.proofs.space.move_blocks.Goals as goal

pub mark-requires-clause-may : goal.mark-requires-clause-may
mark-requires-clause-may g c =
    let m = c.requires.may in
    let t = g.D.Door.store c.args.store.now in
    let v = c.args.hand.now in
    let free = t.unassigned.free in
    inr (inr (inr (inr (record {
      was = m.1;
      pools = (m.0, c.args.pool.now) ∷ [];
      free = free;
      may = m.4;
      is = c.requires.leaves ∙ (λ i n. moved_in c.args.pool.now t v (m.4.has_store i)) ∙ (λ i n. blocks_moved (each (λ _ had. c.args.pool.now) (m.3 i)) free m.1 v);
    }))))
