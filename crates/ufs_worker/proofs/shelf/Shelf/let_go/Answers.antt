use Rattle.std.proofs.Common.{[], ◌∷◌, ◌++◌, ap, arith, is_some, sym, ◌∙◌}
use Rattle.std.specs.FinMap as fin
use Rattle.ufs_model.proofs.Facts.Lookups.{same_some}
use Rattle.ufs_worker.specs.Worker.{ShelfState}
use Rattle.ufs_worker.proofs.Places.{numbered_gone}
use Rattle.ufs_worker.proofs.shelf.Shelf.let_go.Goals as goal

pub unreachable-requires : goal.unreachable-requires
unreachable-requires g c =
    let e = ap is_some (ap (λ (s : ShelfState). fin.get s.files c.args.file) (sym c.self.view_is) ∙ sym c.in-None.ensures.taken) in
    let h = c.requires.here in
    cc

pub push_back_reserved-requires : goal.push_back_reserved-requires
push_back_reserved-requires g c =
    let r = c.self.invariant.1 in
    let n = c.in-Some.ensures.less in
    omega (arith, r, n)

pub invariant_of-self : goal.invariant_of-self
invariant_of-self g c =
    let r = c.self.invariant.1 in
    let n = c.in-Some.ensures.less in
    let l = c.push_back_reserved.ensures.len in
    let m = c.push_back_reserved.ensures.capacity in
    (numbered_gone c.take_place.new.places.entries c.self.inside.places.entries c.args.file c.self.invariant.0 c.take_place.ensures.gone, omega (arith, r, n, l, m))

pub returns : goal.returns
returns g c = λ d at.
    let a = c.args.self.now in
    let one = same_some c.in-Some.parcel d (c.in-Some.ensures.taken ∙ ap (λ (s : ShelfState). fin.get s.files c.args.file) c.self.view_is ∙ at) in
    let files = c.take_place.ensures.gone ∙ ap (λ (s : ShelfState). fin.remove s.files c.args.file) c.self.view_is in
    let letters = c.push_back_reserved.ensures.items ∙ (λ i. (c.self.view_is i).letters ++ one i ∷ []) in
    (λ i. record { files = files i; letters = letters i })
