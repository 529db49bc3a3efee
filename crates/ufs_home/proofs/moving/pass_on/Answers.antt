use Rattle.std.proofs.Common.{ℕ, ap, ◌∙◌}
use Rattle.ufs_owner.specs.Owners.{Files, Owners, is_coming, owner_at, waiting_at, with_owner}
use Rattle.ufs_owner.specs.declared.owner.Owner.TheVariants.{Going, Primary}
use Rattle.ufs_home.specs.Letters.{posted}
use Rattle.ufs_home.proofs.Stating.{is_away, not_passed, passed_on, settled_here, settled_nobody, settled_spare}
use Rattle.ufs_home.proofs.moving.pass_on.Goals as goal

pub settle-requires : goal.settle-requires
settle-requires g c = ap (λ (fs : Files). is_coming (owner_at fs c.number-number.result)) c.make_room.ensures.files ∙ ap (λ (n : ℕ). is_coming (owner_at c.args.owners.now.files n)) c.number-number.ensures.is ∙ c.requires.coming

pub go-requires-clause-here : goal.go-requires-clause-here
go-requires-clause-here g c = settled_here c.make_room.new.owners c.settle.new.self c.number-number.result c.settle.ensures.files

pub go-requires-clause-nobody : goal.go-requires-clause-nobody
go-requires-clause-nobody g c =
    settled_nobody c.make_room.new.owners c.settle.new.self c.number-number.result c.settle.ensures.files
    (ap (λ (fs : Files). waiting_at fs c.number-number.result) c.make_room.ensures.files ∙ ap (waiting_at c.args.owners.now.files) c.number-number.ensures.is ∙ c.requires.nobody)

pub go-requires-clause-spare : goal.go-requires-clause-spare
go-requires-clause-spare g c = settled_spare c.make_room.new.owners c.settle.new.self c.number-number.result c.settle.ensures.files c.in-Ok.ensures.spare

pub unmake_place-requires : goal.unmake_place-requires
unmake_place-requires g c = is_away c.args.shelf.now c.make_room.new.shelf c.args.owners.now.files c.make_room.new.owners.files c.args.boxes.now.items c.post_to.new.boxes.items c.args.parcel c.number-number.result c.number-number.ensures.is c.requires.away c.in-Ok.ensures.place

pub returns-in-Ok-post_to-clause-come : goal.returns-in-Ok-post_to-clause-come
returns-in-Ok-post_to-clause-come g c =
    let some = c.requires.there in
    passed_on c.args.shelf.now c.make_room.new.shelf c.args.owners.now.files c.go.new.owners.files c.args.boxes.now.items c.post_to.new.boxes.items c.args.parcel c.number-number.result c.number-number.ensures.is c.requires.away c.in-Ok.ensures.place c.args.to some.0
    (c.go.ensures ∙ ap (λ (o : Owners). with_owner o.files c.number-number.result (Going c.args.to) 0) c.settle.ensures.files ∙ ap (λ (fs : Files). with_owner (with_owner fs c.number-number.result Primary 0) c.number-number.result (Going c.args.to) 0) c.make_room.ensures.files)
    (c.in-Ok-post_to.ensures ∙ ap (posted c.args.boxes.now.items c.args.to) c.with_file.ensures)

pub returns-in-Err-post_to-clause-err : goal.returns-in-Err-post_to-clause-err
returns-in-Err-post_to-clause-err g c =
    let e = c.in-Err-post_to.ensures in
    not_passed c.args.shelf.now c.make_room.new.shelf c.args.owners.now.files c.make_room.new.owners.files c.args.boxes.now.items c.post_to.new.boxes.items c.args.parcel c.number-number.result c.number-number.ensures.is c.requires.away c.in-Ok.ensures.place c.in-Ok.made c.unmake_place.new.self c.in-Ok.ensures.made c.unmake_place.ensures c.make_room.ensures.files e.1
