use Rattle.std.proofs.Common.{ℕ, Some, ap, inl, sym, ◌∙◌}
use Rattle.std.specs.FinMap as fin
use Rattle.ufs_joint.specs.Cells.{FileCell}
use Rattle.ufs_home.specs.Home.{home_of}
use Rattle.ufs_home.specs.Letters.{posted}
use Rattle.ufs_home.proofs.Stating.{inl_one}
use Rattle.ufs_home.proofs.moving.post_file.Goals as goal

pub into_parcel-requires : goal.into_parcel-requires
into_parcel-requires g c = let e = c.in-Err.ensures in (c.args.held, e.0 ∙ c.with_file.ensures ∙ ap inl c.new.ensures)

pub fill-requires : goal.fill-requires
fill-requires g c =
    let e = c.in-Err.ensures in
    let same = c.of_parcel.ensures ∙ inl_one {B = ℕ} c.into_parcel.result c.args.held (sym c.into_parcel.ensures ∙ e.0 ∙ c.with_file.ensures ∙ ap inl c.new.ensures) in
    ap (λ (x : FileCell). fin.get c.args.shelf.now x.value.file.file) same ∙ ap (fin.get c.args.shelf.now) c.requires.number ∙ c.requires.empty

pub returns-in-Ok-clause-sent : goal.returns-in-Ok-clause-sent
returns-in-Ok-clause-sent g c = (λ i. home_of c.args.shelf.now (c.go.ensures i) ((c.in-Ok.ensures ∙ ap (posted c.args.boxes.now.items c.args.to) (c.with_file.ensures ∙ ap inl c.new.ensures)) i))

pub returns-in-Err-clause-kept : goal.returns-in-Err-clause-kept
returns-in-Err-clause-kept g c =
    let e = c.in-Err.ensures in
    let same = c.of_parcel.ensures ∙ inl_one {B = ℕ} c.into_parcel.result c.args.held (sym c.into_parcel.ensures ∙ e.0 ∙ c.with_file.ensures ∙ ap inl c.new.ensures) in
    let filled = c.fill.ensures ∙ ap (λ (x : FileCell). fin.insert c.args.shelf.now x.value.file.file (Some x)) same ∙ ap (λ (n : ℕ). fin.insert c.args.shelf.now n (Some c.args.held)) c.requires.number in
    (λ i. home_of (filled i) c.args.owners.now.files (e.1 i))
