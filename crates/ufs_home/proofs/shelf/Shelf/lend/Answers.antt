use Rattle.std.proofs.Common.{ℕ, None, Some, ap, sym, ◌∙◌}
use Rattle.std.specs.FinMap as fin
use Rattle.ufs_joint.specs.Cells.{FileCell}
use Rattle.ufs_home.specs.Places.{Places}
use Rattle.ufs_home.proofs.Shelves.{emptied_there, in_its_place, put_again}
use Rattle.ufs_home.proofs.shelf.Shelf.lend.Goals as goal

pub fill-requires : goal.fill-requires
fill-requires g c =
    let number = ap (λ (x : FileCell). x.value.file.file) c.in-Err.ensures.err ∙ c.take.ensures.number in
    ap (λ (n : ℕ). fin.get c.take.new.self n) number ∙ ap (λ (p : Places). fin.get p c.args.file) c.take.ensures.empty ∙ emptied_there c.args.self.now c.args.file

pub returns-in-Ok-clause-lent : goal.returns-in-Ok-clause-lent
returns-in-Ok-clause-lent g c =
    (c.take.ensures.file ∙ ap Some (sym c.in-Ok.ensures.ok), ap (λ (x : FileCell). x.value.file.file) c.in-Ok.ensures.ok ∙ c.take.ensures.number, c.take.ensures.empty)

pub returns-in-Err-clause-kept : goal.returns-in-Err-clause-kept
returns-in-Err-clause-kept g c =
    let number = ap (λ (x : FileCell). x.value.file.file) c.in-Err.ensures.err ∙ c.take.ensures.number in
    c.fill.ensures
    ∙ ap (λ (n : ℕ). fin.insert c.take.new.self n (Some c.in-Err.back)) number
    ∙ ap (λ (p : Places). fin.insert p c.args.file (Some c.in-Err.back)) c.take.ensures.empty
    ∙ ap (λ (x : FileCell). fin.insert (fin.insert c.args.self.now c.args.file None) c.args.file (Some x)) c.in-Err.ensures.err
    ∙ put_again c.args.self.now c.args.file None (Some c.take.result) (in_its_place (fin.get c.args.self.now c.args.file) c.take.result c.take.ensures.file)
