use Rattle.std.proofs.Common.{[], ◌∷◌, ap, sym, refl, subst, ◌∙◌, arith}
use Rattle.ufs_dir_tree.specs.DirTable.{DirTable, IsDirTable, IsUsed, found_at}
use Rattle.ufs_dir_tree.specs.DirCalls.{IsApart, IsUnmet}
use Rattle.ufs_dir_tree.specs.declared.found.Found.TheVariants.{Dir}
use Rattle.ufs_dir_tree.specs.Steps.{Freed, GoesBy}
use Rattle.ufs_dir_tree.proofs.MadeSteps.{freed_made}
use Rattle.ufs_dir_tree.proofs.FreedInodes.{freed_met, freed_table, freed_apart}
use Rattle.ufs_dir_tree.proofs.dir_tree.DirTree.free_inode.Goals as goal
use Rattle.ufs_dir_tree.proofs.dir_tree.DirTree.free_inode.Goals.{After-give_inode}

pub give_inode-requires-clause-first : goal.give_inode-requires-clause-first
give_inode-requires-clause-first c =
    let other = c.requires.unmet [] (Dir 1) refl in
    omega (arith, c.self.invariant.1, c.requires.used.from_one, other)

abbrev before : After-give_inode → DirTable
before c = record { dirs = c.self.inside.dirs.items; free = c.self.inside.free.free }

table : (c : After-give_inode) → IsDirTable (record { dirs = c.clear_at.new.dirs.items; free = c.give_inode.new.free.free })
table c =
    freed_table (before c) c.clear_at.new.dirs.items c.give_inode.new.free.free c.args.inode c.clear_at.ensures.one c.clear_at.ensures.dir c.give_inode.ensures.free c.self.invariant.0
    (subst (λ (t : DirTable). IsUsed t c.args.inode) (sym c.self.view_is) c.requires.used) (subst (λ (t : DirTable). IsUnmet t c.args.inode) (sym c.self.view_is) c.requires.unmet)

pub invariant_of-self : goal.invariant_of-self
invariant_of-self c =
    let one = c.clear_at.ensures.one in
    (table c, c.give_inode.ensures.first ∙ c.self.invariant.1, c.give_inode.ensures.last ∙ c.self.invariant.2 ∙ sym one.counted, omega (arith, one.counted, c.self.invariant.3))

pub returns-clause-found : goal.returns-clause-found
returns-clause-found c names =
    freed_met (before c) c.clear_at.new.dirs.items c.give_inode.new.free.free c.args.inode c.clear_at.ensures.one c.clear_at.ensures.dir c.give_inode.ensures.free c.self.invariant.0
    (subst (λ (t : DirTable). IsUsed t c.args.inode) (sym c.self.view_is) c.requires.used) (subst (λ (t : DirTable). IsUnmet t c.args.inode) (sym c.self.view_is) c.requires.unmet) names
    ∙ ap (λ (t : DirTable). found_at t names) c.self.view_is

pub returns-clause-apart : goal.returns-clause-apart
returns-clause-apart c =
    freed_apart (before c) c.clear_at.new.dirs.items c.give_inode.new.free.free c.args.inode c.clear_at.ensures.one c.clear_at.ensures.dir c.give_inode.ensures.free c.self.invariant.0
    (subst (λ (t : DirTable). IsUsed t c.args.inode) (sym c.self.view_is) c.requires.used) (subst (λ (t : DirTable). IsUnmet t c.args.inode) (sym c.self.view_is) c.requires.unmet)
    c.args.pool.now c.clear_at.new.pool (subst (λ (t : DirTable). IsApart t c.args.pool.now) (sym c.self.view_is) c.requires.apart) c.clear_at.ensures.pool

pub returns-clause-table : goal.returns-clause-table
returns-clause-table c = table c

pub returns-clause-steps : goal.returns-clause-steps
returns-clause-steps c =
    let new : DirTable = record { dirs = c.clear_at.new.dirs.items; free = c.give_inode.new.free.free } in
    let cleared = c.clear_at.ensures.cleared in
    let inserted = c.give_inode.ensures.free in
    subst (λ (t : DirTable). GoesBy t new c.args.pool.now c.clear_at.new.pool (Freed c.args.inode ∷ [])) c.self.view_is
    (freed_made (before c) new c.args.inode c.args.pool.now c.clear_at.new.pool
    (subst (λ (t : DirTable). IsUsed t c.args.inode) (sym c.self.view_is) c.requires.used) (subst (λ (t : DirTable). IsUnmet t c.args.inode) (sym c.self.view_is) c.requires.unmet)
    (λ i. record { dirs = cleared i; free = inserted i }) c.clear_at.ensures.pool)
