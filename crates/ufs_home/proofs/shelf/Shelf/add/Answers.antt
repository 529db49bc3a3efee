use Rattle.std.proofs.Common.{Some, ap, ◌∙◌}
use Rattle.std.specs.FinMap as fin
use Rattle.ufs_joint.specs.Cells.{FileCell}
use Rattle.ufs_home.specs.Places.{Places, with_place}
use Rattle.ufs_home.proofs.Shelves.{placed_over, placed_there}
use Rattle.ufs_home.proofs.shelf.Shelf.add.Goals as goal

pub fill-requires : goal.fill-requires
fill-requires g c =
    let made = c.in-Ok.ensures.ok ∙ ap (with_place c.args.self.now) c.number.ensures.is in
    ap (λ (n : FileCell). fin.get c.make_place.new.self n.value.file.file) c.of_parcel.ensures ∙ ap (λ (p : Places). fin.get p c.args.parcel.value.file.file) made ∙ placed_there c.args.self.now c.args.parcel.value.file.file c.requires

pub returns-in-Err-clause-err : goal.returns-in-Err-clause-err
returns-in-Err-clause-err g c = c.in-Err.ensures.err

pub returns-in-Ok-clause-ok : goal.returns-in-Ok-clause-ok
returns-in-Ok-clause-ok g c =
    let made = c.in-Ok.ensures.ok ∙ ap (with_place c.args.self.now) c.number.ensures.is in
    c.fill.ensures
    ∙ ap (λ (n : FileCell). fin.insert c.make_place.new.self n.value.file.file (Some n)) c.of_parcel.ensures
    ∙ ap (λ (p : Places). fin.insert p c.args.parcel.value.file.file (Some c.args.parcel)) made
    ∙ placed_over c.args.self.now c.args.parcel.value.file.file (Some c.args.parcel)
