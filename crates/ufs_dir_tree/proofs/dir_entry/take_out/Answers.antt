use Rattle.ufs_dir_tree.proofs.RoomLemmas.{room_cleared}
use Rattle.ufs_dir_tree.proofs.dir_entry.take_out.Goals as goal

pub returns-clause-slot : goal.returns-clause-slot
returns-clause-slot c = record { place = c.remove-slot.ensures.slot; entry = c.remove-slot.ensures.was }

pub returns-clause-room : goal.returns-clause-room
returns-clause-room c = room_cleared c.args.dir.now c.remove-slot.new.self c.remove-slot.result c.remove-slot.ensures.slot.slot c.remove-slot.ensures.freed
