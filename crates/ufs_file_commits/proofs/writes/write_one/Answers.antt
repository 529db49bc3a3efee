use Rattle.std.proofs.Common.{◌≡◌, ◌∙◌, ℕ, Option, ap, length, sym, unwrap_or}
use Rattle.std.proofs.lemmas.Result.{on_err_weaker}
use Rattle.ufs_disk.specs.Moments.{reads}
use Rattle.ufs_file_commits.specs.Writes.{write_of}
use Rattle.ufs_disk.specs.Disk.{seen}
use Rattle.ufs_disk.proofs.Images.{seen_is_image}
use Rattle.ufs_file_commits.proofs.Behind.{mixed_then, one_tried}
use Rattle.ufs_file_commits.proofs.Cells.{length_block}
use Rattle.ufs_file_commits.proofs.Stamping.{one_written}
use Rattle.ufs_file_commits.proofs.writes.write_one.Goals as goal

pub write_block-requires-clause-sized : goal.write_block-requires-clause-sized
write_block-requires-clause-sized g c = ap length c.in-Some-block.ensures.bytes ∙ length_block c.args.hand.now.content.bytes c.args.place

pub returns-clause-err : goal.returns-clause-err
returns-clause-err g c visible =
    let w = write_of c.args.hand.now c.args.place in
    let s = g.D.Door.store c.write_block.new.self in
    let block : c.in-Some.block ≡ w.block = ap (λ (o : Option ℕ). unwrap_or o 0) (sym c.in-Some.is ∙ c.block_number.ensures) in
    on_err_weaker c.write_block.result
    (λ held l has may. one_tried c.in-Some.block w.block c.in-Some-block.bytes.now w.bytes block c.in-Some-block.ensures.bytes s (reads s.moments) l may.0 (λ here. held l has here)
    (λ here free. mixed_then _ l c.in-Some.block c.in-Some-block.bytes.now s.moments.state has.by.none here free ((c.write_block.ensures.crash visible l has here).after (seen s.moments.state) (seen_is_image s.moments.state))))
    (c.write_block.ensures.err visible)

pub returns-clause-stopped : goal.returns-clause-stopped
returns-clause-stopped g c fault is = (c.write_block.ensures.stopped fault).1 is

pub returns-clause-earlier : goal.returns-clause-earlier
returns-clause-earlier g c fault is = (c.write_block.ensures.stopped fault).0 is

pub write_block-requires-clause-stamped : goal.write_block-requires-clause-stamped
write_block-requires-clause-stamped g c stamped going =
    let w = write_of c.args.hand.now c.args.place in
    let block : w.block ≡ c.in-Some.block = ap (λ (o : Option ℕ). unwrap_or o 0) (sym c.block_number.ensures ∙ c.in-Some.is) in
    one_written g.D.Door.allows (g.D.Door.store c.args.door.now) w c.in-Some.block c.in-Some-block.bytes.now block (sym c.in-Some-block.ensures.bytes) (c.requires.stamped stamped going)
