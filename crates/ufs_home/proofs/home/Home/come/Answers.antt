use Rattle.std.proofs.Common.{◌≤◌, ℕ, sym, subst}
use Rattle.ufs_owner.specs.Owners.{note_at}
use Rattle.ufs_home.proofs.Stating.{came, came_known, stayed}
use Rattle.ufs_home.proofs.home.Home.come.Goals as goal

pub settle-requires : goal.settle-requires
settle-requires g c =
    let h = c.self.invariant in
    let one = h.known c.args.parcel.value.file.file in
    record { there = subst (λ (n : ℕ). note_at c.self.inside.owners.files c.args.parcel.value.file.file ≤ n) (sym h.each) one.note }

pub invariant_of-self : goal.invariant_of-self
invariant_of-self g c =
    let f = c.self.inside in
    came_known c.args.self.now f.shelf c.settle.new.shelf f.owners.files c.settle.new.owners.files f.boxes.items c.settle.new.boxes.items c.self.view_is c.args.parcel g.N.Naming.start f.workers
    c.settle.result c.settle.ensures.come c.settle.ensures.to c.settle.ensures.err c.self.invariant

pub returns-clause-ok : goal.returns-clause-ok
returns-clause-ok g c =
    let f = c.self.inside in
    came c.args.self.now f.shelf c.settle.new.shelf f.owners.files c.settle.new.owners.files f.boxes.items c.settle.new.boxes.items c.self.view_is c.args.parcel c.settle.result c.settle.ensures.come

pub returns-clause-err : goal.returns-clause-err
returns-clause-err g c =
    let f = c.self.inside in
    stayed c.args.self.now f.shelf c.settle.new.shelf f.owners.files c.settle.new.owners.files f.boxes.items c.settle.new.boxes.items c.self.view_is c.args.parcel c.settle.result c.settle.ensures.err
