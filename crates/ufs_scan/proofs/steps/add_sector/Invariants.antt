use Rattle.std.proofs.Common.{◌≡◌, ◌++◌, take}
use Rattle.std.specs.Prelude.{map, flat_map}
use Rattle.ufs_image.specs.Journal.{records_in}
use Rattle.ufs_scan.specs.Edits.{edits_by}
use Rattle.ufs_scan.proofs.steps.add_sector.Given as goal

abbrev pub invariant-loop-change : goal.invariant-loop-change
invariant-loop-change l = map (λ s. s.edit) l.list.items ≡ map (λ s. s.edit) l.fn.list.items ++ flat_map (edits_by l.geometry l.one) (take l.change-index (records_in l.one.1.content))
