use Rattle.std.proofs.Common.{[], ◌∷◌, ap, subst, ◌∙◌}
use Rattle.ufs_dir_tree.specs.DirTable.{DirTable, InodeSet}
use Rattle.ufs_dir_tree.specs.DirCalls.{code_of}
use Rattle.ufs_dir_tree.specs.Steps.{Born, GoesBy}
use Rattle.ufs_dir_tree.proofs.MadeSteps.{born_made}
use Rattle.ufs_dir_tree.proofs.TakenInodes.{taken_table, taken_loose, taken_bare}
use Rattle.ufs_dir_tree.proofs.dir_tree.DirTree.take.Goals as goal

pub invariant_of-self : goal.invariant_of-self
invariant_of-self c =
    (taken_table c.self.inside.dirs.items c.self.inside.free.free c.take_inode.new.free.free c.in-Some.inode c.in-Some.ensures.taken c.self.invariant.0, c.take_inode.ensures.first ∙ c.self.invariant.1, c.take_inode.ensures.last ∙ c.self.invariant.2, c.self.invariant.3)

pub returns-clause-loose : goal.returns-clause-loose
returns-clause-loose c = taken_loose c.self.inside.dirs.items c.self.inside.free.free c.take_inode.new.free.free c.in-Some.inode c.in-Some.ensures.taken c.self.invariant.0 c.args.kind

pub returns-clause-bare : goal.returns-clause-bare
returns-clause-bare c = taken_bare c.self.inside.dirs.items c.self.inside.free.free c.take_inode.new.free.free c.in-Some.inode c.in-Some.ensures.taken c.self.invariant.0 c.args.kind

pub returns-clause-table : goal.returns-clause-table
returns-clause-table c = taken_table c.self.inside.dirs.items c.self.inside.free.free c.take_inode.new.free.free c.in-Some.inode c.in-Some.ensures.taken c.self.invariant.0

pub returns-clause-steps : goal.returns-clause-steps
returns-clause-steps c pool =
    let t : DirTable = record { dirs = c.self.inside.dirs.items; free = c.self.inside.free.free } in
    let new : DirTable = record { dirs = t.dirs; free = c.take_inode.new.free.free } in
    let takes = c.in-Some.ensures.taken in
    subst (λ (t : DirTable). GoesBy t new pool pool (Born c.in-Some.inode (code_of c.args.kind) ∷ [])) c.self.view_is
    (born_made t new c.in-Some.inode c.args.kind c.self.invariant.0 takes.lowest (ap (λ (s : InodeSet). record { dirs = t.dirs; free = s }) takes.left) pool)
