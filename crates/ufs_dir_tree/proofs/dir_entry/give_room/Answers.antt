use Rattle.std.proofs.Common.{ℕ, List, length, ap, arith}
use Rattle.ufs_dir_tree.specs.DirCalls.{IsFull}
use Rattle.ufs_dir_tree.proofs.RoomLemmas.{room_left, all_used, is_listed}
use Rattle.ufs_dir_tree.proofs.SpaceLemmas.{taken_absent, back_again}
use Rattle.ufs_dir_tree.proofs.GivesRoom.{cause_of_add, lacks_block, gets_block, gets_none}
use Rattle.ufs_dir_tree.proofs.dir_entry.give_room.Goals as goal

pub returns-then-count-blocks-clause-room : goal.returns-then-count-blocks-clause-room
returns-then-count-blocks-clause-room c = room_left c.args.dir.now (omega (arith, c.count.ensures.whole.sized, c.count.ensures.count, ap (λ (l : List ℕ). length l) c.blocks-2.ensures.blocks))

pub returns-then-count-blocks-clause-gets : goal.returns-then-count-blocks-clause-gets
returns-then-count-blocks-clause-gets c =
    gets_none c.args.dir.now c.args.pool.now (room_left c.args.dir.now (omega (arith, c.count.ensures.whole.sized, c.count.ensures.count, ap (λ (l : List ℕ). length l) c.blocks-2.ensures.blocks)))

pub returns-in_default-clause-cause : goal.returns-in_default-clause-cause
returns-in_default-clause-cause c =
    let full : IsFull c.args.dir.now = all_used c.args.dir.now (omega (arith, c.count.ensures.whole.sized, c.count.ensures.count, ap (λ (l : List ℕ). length l) c.blocks-2.ensures.blocks)) in
    (full, lacks_block c.args.pool.now c.in_default.ensures.none)

pub give_block-requires-clause-absent : goal.give_block-requires-clause-absent
give_block-requires-clause-absent c = taken_absent c.args.pool.now c.take_block.new.pool c.in-Some.block c.in-Some.ensures.taken

pub returns-in-Ok-clause-gets : goal.returns-in-Ok-clause-gets
returns-in-Ok-clause-gets c =
    let full : IsFull c.args.dir.now = all_used c.args.dir.now (omega (arith, c.count.ensures.whole.sized, c.count.ensures.count, ap (λ (l : List ℕ). length l) c.blocks-2.ensures.blocks)) in
    gets_block c.args.dir.now c.add_block.new.dir c.args.pool.now c.take_block.new.pool c.in-Some.block full c.in-Some.ensures.taken c.in-Ok.ensures.blocks

pub returns-in-Err-clause-cause : goal.returns-in-Err-clause-cause
returns-in-Err-clause-cause c =
    let full : IsFull c.args.dir.now = all_used c.args.dir.now (omega (arith, c.count.ensures.whole.sized, c.count.ensures.count, ap (λ (l : List ℕ). length l) c.blocks-2.ensures.blocks)) in
    let takes = c.in-Some.ensures.taken in
    cause_of_add c.args.dir.now c.args.pool.now c.in-Some.block c.in-Err.excuse full takes.lowest c.in-Err.ensures.cause

pub returns-in-Err-clause-err_pool : goal.returns-in-Err-clause-err_pool
returns-in-Err-clause-err_pool c = back_again c.args.pool.now c.take_block.new.pool c.give_block.new.pool c.in-Some.block c.in-Some.ensures.taken c.give_block.ensures

pub returns-then-count-blocks-clause-listed : goal.returns-then-count-blocks-clause-listed
returns-then-count-blocks-clause-listed c = is_listed c.args.dir.now c.count.result c.count.ensures.count c.count.ensures.whole.sized c.count.ensures.names c.count.ensures.listed

pub returns-in_default-clause-listed : goal.returns-in_default-clause-listed
returns-in_default-clause-listed c = is_listed c.args.dir.now c.count.result c.count.ensures.count c.count.ensures.whole.sized c.count.ensures.names c.count.ensures.listed

pub returns-in-Ok-clause-listed : goal.returns-in-Ok-clause-listed
returns-in-Ok-clause-listed c = is_listed c.args.dir.now c.count.result c.count.ensures.count c.count.ensures.whole.sized c.count.ensures.names c.count.ensures.listed

pub returns-in-Err-clause-listed : goal.returns-in-Err-clause-listed
returns-in-Err-clause-listed c = is_listed c.args.dir.now c.count.result c.count.ensures.count c.count.ensures.whole.sized c.count.ensures.names c.count.ensures.listed
