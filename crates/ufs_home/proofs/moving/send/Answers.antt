use Rattle.std.proofs.Common.{None, Some, ap, ◌∙◌}
use Rattle.std.specs.FinMap as fin
use Rattle.ufs_home.specs.Home.{home_of}
use Rattle.ufs_home.specs.Places.{Places}
use Rattle.ufs_home.proofs.Shelves.{emptied_there, in_its_place, on_err, put_again}
use Rattle.ufs_home.proofs.moving.send.Goals as goal

pub post_file-requires-clause-empty : goal.post_file-requires-clause-empty
post_file-requires-clause-empty g c = let lent = c.in_ok-held.ensures.lent in ap (λ (p : Places). fin.get p c.args.file) lent.2 ∙ emptied_there c.args.shelf.now c.args.file

pub returns-in_err-post_file-clause-kept : goal.returns-in_err-post_file-clause-kept
returns-in_err-post_file-clause-kept g c =
    let lent = c.in_ok-held.ensures.lent in
    let held = c.in_ok-held.held in
    let back = ap (λ (p : Places). fin.insert p c.args.file (Some held)) lent.2 ∙ put_again c.args.shelf.now c.args.file None (Some held) (in_its_place (fin.get c.args.shelf.now c.args.file) held lent.0) in
    on_err c.from_residual-in_err-post_file.result (c.in_err-post_file.ensures.kept ∙ (λ i. home_of (back i) (c.reserve.ensures.files i) c.args.boxes.now.items))
