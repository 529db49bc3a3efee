use Rattle.std.proofs.Common.{◌&&◌, ap, ◌∙◌}
use Rattle.std.specs.Prelude.{not, ◌==◌, map}
use Rattle.ufs_image.specs.Journal.{FoundSector, has_records, same_txn}
use Rattle.ufs_found.proofs.OffLemmas.{none_left}
use Rattle.ufs_found.proofs.off.lacks_record_sector.Goals as goal

pub returns : goal.returns
returns c = ap not c.has_record_sector.ensures ∙ none_left (λ (o : FoundSector). same_txn c.args.f.now o && (has_records o && o.1.index == c.args.index)) (map (λ b. b.now) c.args.places.now)
