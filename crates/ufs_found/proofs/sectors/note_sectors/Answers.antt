use Rattle.std.proofs.Common.{◌+◌, ◌++◌, ap, ◌∙◌}
use Rattle.ufs_base.specs.Choices.{first_of}
use Rattle.ufs_image.specs.Journal.{well_spelled}
use Rattle.ufs_found.specs.Read.{read_one, pieces_from, misspelled}
use Rattle.ufs_found.proofs.Noted.{piece_at, found_more, off_more}
use Rattle.ufs_found.proofs.sectors.note_sectors.Goals as goal

pub loop-i-preserved : goal.loop-i-preserved
loop-i-preserved c =
    let piece = piece_at c.args.sector c.loop-i.i c.args.bytes.now in
    record {
      found = found_more c.args.epoch (pieces_from c.args.sector c.args.bytes.now) c.args.sector c.loop-i.i c.args.list.now.found.items c.loop-i.list.found.items c.note_sector.new.list.found.items c.loop-i.invariant.found
          (c.in_ok-note_sector.ensures.found ∙ ap (λ b. c.loop-i.list.found.items ++ well_spelled (read_one c.args.epoch (c.args.sector + c.loop-i.i) b)) piece);
      misspelled = off_more c.args.epoch (pieces_from c.args.sector c.args.bytes.now) c.args.sector c.loop-i.i c.args.list.now.misspelled c.loop-i.list.misspelled c.note_sector.new.list.misspelled c.loop-i.invariant.misspelled
          (c.in_ok-note_sector.ensures.misspelled ∙ ap (λ b. first_of c.loop-i.list.misspelled (misspelled (read_one c.args.epoch (c.args.sector + c.loop-i.i) b))) piece);
    }
