use Rattle.ufs_name_tree.proofs.NoteChains.{notes_on}
use Rattle.ufs_name_tree.specs.Notes.{GoesByNotes}
use Rattle.std.proofs.Common.{length, ap, refl, sym, subst, ◌∙◌}
use Rattle.std.specs.Option.{option_map}
use Rattle.ufs_dir_tree.specs.DirTable.{found_at}
use Rattle.ufs_dir_tree.specs.declared.found.Found.TheVariants.{File}
use Rattle.ufs_model.specs.Walk.{file_of}
use Rattle.ufs_name_tree.specs.NameTable.{node_of}
use Rattle.ufs_names.specs.NamesPart.{NamesPart}
use Rattle.ufs_names.proofs.KeepsSpaceLemmas.{keeps_dirs, keeps_then}
use Rattle.ufs_names.proofs.SpaceLemmas.{DirExchanges, dir_apart, freed}
use Rattle.ufs_names.proofs.NotedLemmas.{loses_gives_none}
use Rattle.ufs_names.proofs.names.Names.remove_name.Goals as goal

pub forget_name-requires-clause-unmet : goal.forget_name-requires-clause-unmet
forget_name-requires-clause-unmet c i names at there =
    c.remove.ensures.unmet (File i) (ap (λ (n : NamesPart). found_at n.tree.dirs c.args.path.now) c.self.view_is ∙ sym c.requires.found ∙ at) names (File i) there refl

pub forget_name-requires-clause-apart : goal.forget_name-requires-clause-apart
forget_name-requires-clause-apart c =
    dir_apart c.args.self.now.tree.dirs c.remove.new.self.dirs c.args.files.now c.args.pool.now c.remove.new.pool
    (subst (λ (n : NamesPart). DirExchanges n.tree.dirs c.remove.new.self.dirs c.args.pool.now c.remove.new.pool) c.self.view_is
    (freed c.self.inside.tree.dirs c.remove.new.self.dirs c.args.pool.now c.remove.new.pool (found_at c.self.inside.tree.dirs c.args.path.now) c.remove.ensures.freed c.remove.ensures.apart))
    c.requires.apart

pub returns-clause-space : goal.returns-clause-space
returns-clause-space c =
    let mid : NamesPart = record { tree = c.remove.new.self; held = c.self.inside.held; next = c.self.inside.next } in
    keeps_then c.args.self.now mid c.forget_name.new.self c.args.files.now c.args.files.now c.forget_name.new.files c.args.pool.now c.remove.new.pool c.forget_name.new.pool (ap (λ (n : NamesPart). n.held) c.self.view_is)
    (keeps_dirs c.args.self.now mid c.args.files.now c.args.files.now c.args.pool.now c.remove.new.pool c.requires.apart
    (subst (λ (n : NamesPart). DirExchanges n.tree.dirs c.remove.new.self.dirs c.args.pool.now c.remove.new.pool) c.self.view_is
    (freed c.self.inside.tree.dirs c.remove.new.self.dirs c.args.pool.now c.remove.new.pool (found_at c.self.inside.tree.dirs c.args.path.now) c.remove.ensures.freed c.remove.ensures.apart))
    (c.remove.ensures.inodes ∙ ap (λ (n : NamesPart). length n.tree.dirs.dirs) c.self.view_is) (ap (λ (n : NamesPart). n.held) c.self.view_is) refl)
    c.forget_name.ensures.space

pub returns-clause-noted : goal.returns-clause-noted
returns-clause-noted c =
    let mid : NamesPart = record { tree = c.remove.new.self; held = c.self.inside.held; next = c.self.inside.next } in
    let lost = file_of (option_map (node_of c.remove.new.self) c.args.look.found) in
    subst (λ (n : NamesPart). GoesByNotes n.tree c.forget_name.new.self.tree c.args.pool.now) c.self.view_is
    (notes_on c.self.inside.tree c.remove.new.self c.forget_name.new.self.tree c.args.pool.now c.remove.ensures.noted c.forget_name.ensures.noted
    (loses_gives_none mid c.forget_name.new.self c.args.files.now c.forget_name.new.files lost c.forget_name.ensures.loses))
