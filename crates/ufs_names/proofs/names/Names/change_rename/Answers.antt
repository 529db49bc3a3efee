use Rattle.ufs_name_tree.proofs.NoteChains.{notes_on, notes_stay}
use Rattle.ufs_name_tree.specs.Notes.{GoesByNotes}
use Rattle.std.proofs.Common.{◌≡◌, ℕ, List, length, true, Option, Some, None, is_some, ap, refl, sym, subst, ◌∙◌}
use Rattle.std.specs.Option.{option_map}
use Rattle.ufs_bitmap.specs.Blocks.{BlockSet}
use Rattle.ufs_dir_tree.specs.DirTable.{found_at}
use Rattle.ufs_dir_tree.specs.DirCalls.{IsApart, Frees, SpendsBlock, names_above}
use Rattle.ufs_dir_tree.specs.declared.found.Found.{Found}
use Rattle.ufs_dir_tree.specs.declared.found.Found.TheVariants.{Dir, File}
use Rattle.ufs_model.specs.Walk.{file_of}
use Rattle.ufs_model.specs.declared.data.Node.{Node}
use Rattle.ufs_name_tree.specs.NameTable.{NameTable, IsNameTable, file_at, node_at, node_of}
use Rattle.ufs_names.specs.NamesPart.{NamesPart}
use Rattle.ufs_names.specs.Steps.{LosesName}
use Rattle.ufs_names.proofs.KeepsSpaceLemmas.{keeps_dirs, keeps_then}
use Rattle.ufs_names.proofs.SpaceLemmas.{DirExchanges, dir_apart}
use Rattle.ufs_names.proofs.UnnamedLemmas.{loses_before, name_put, same_nodes, same_numbers}
use Rattle.ufs_names.proofs.NotedLemmas.{one_told, loses_gives_none}
use Rattle.ufs_names.proofs.names.Names.change_rename.Goals as goal

-- The names that were renamed, of a tree that the part had.
module _ (n : NamesPart) (inside tree : NameTable) (is : inside ≡ n.tree) (from to : List (List ℕ)) (found : Option Found) (met : found ≡ found_at n.tree.dirs to) (files : tree.files ≡ inside.files) where
  numbers : (i : ℕ) → file_at tree i ≡ file_at n.tree i
  numbers i = same_numbers inside tree files i ∙ ap (λ (t : NameTable). file_at t i) is

  named : IsNameTable n.tree → (i : ℕ) → found ≡ Some (File i) → is_some (file_at n.tree i) ≡ true
  named table i at = table.named to i (sym met ∙ at)

  named_still : IsNameTable n.tree → (i : ℕ) → found ≡ Some (File i) → is_some (file_at tree i) ≡ true
  named_still table i at = ap is_some (numbers i) ∙ named table i at

  same_lost : option_map (node_of tree) found ≡ node_at n.tree to
  same_lost = same_nodes n.tree tree numbers found ∙ ap (option_map (node_of n.tree)) met

  exchanged : (pool pool' : BlockSet) (dir : ℕ) → found_at n.tree.dirs (names_above to) ≡ Some (Dir dir) → (is_some (found_at inside.dirs to) ≡ true → Frees inside.dirs tree.dirs pool pool' (found_at inside.dirs to))
      → (found_at inside.dirs to ≡ None → SpendsBlock inside.dirs tree.dirs pool pool' (names_above to)) → IsApart tree.dirs pool' → DirExchanges n.tree.dirs tree.dirs pool pool'
  exchanged pool pool' dir above frees spends apart =
      subst (λ (t : NameTable). DirExchanges t.dirs tree.dirs pool pool') is
      (name_put inside.dirs tree.dirs pool pool' to dir (subst (λ (t : NameTable). found_at t.dirs (names_above to) ≡ Some (Dir dir)) (sym is) above) frees spends apart)

pub forget_name-requires-clause-numbered : goal.forget_name-requires-clause-numbered
forget_name-requires-clause-numbered c i at =
    named_still c.args.self.now c.self.inside.tree c.rename.new.self (ap (λ (n : NamesPart). n.tree) c.self.view_is) c.args.from.now c.args.to.now c.args.step.to.found c.requires.found c.in_ok-rename.ensures.files
    c.requires.table i at

pub forget_name-requires-clause-unmet : goal.forget_name-requires-clause-unmet
forget_name-requires-clause-unmet c i names at there =
    c.in_ok-rename.ensures.unmet (File i) (ap (λ (n : NamesPart). found_at n.tree.dirs c.args.to.now) c.self.view_is ∙ sym c.requires.found ∙ at) names (File i) there refl

pub forget_name-requires-clause-apart : goal.forget_name-requires-clause-apart
forget_name-requires-clause-apart c =
    dir_apart c.args.self.now.tree.dirs c.rename.new.self.dirs c.args.files.now c.args.pool.now c.rename.new.pool
    (exchanged c.args.self.now c.self.inside.tree c.rename.new.self (ap (λ (n : NamesPart). n.tree) c.self.view_is) c.args.from.now c.args.to.now c.args.step.to.found c.requires.found c.in_ok-rename.ensures.files
    c.args.pool.now c.rename.new.pool c.args.step.to.dir c.requires.to_dir c.in_ok-rename.ensures.replaced c.in_ok-rename.ensures.block c.in_ok-rename.ensures.apart)
    c.requires.apart

pub returns-clause-loses : goal.returns-clause-loses
returns-clause-loses c other =
    let mid : NamesPart = record { tree = c.rename.new.self; held = c.self.inside.held; next = c.self.inside.next } in
    let is = ap (λ (n : NamesPart). n.tree) c.self.view_is in
    loses_before c.args.self.now mid c.forget_name.new.self c.args.files.now c.forget_name.new.files (file_of (node_at c.args.self.now.tree c.args.to.now))
    (ap (λ (n : NamesPart). n.held) c.self.view_is) (ap (λ (n : NamesPart). n.next) c.self.view_is)
    (numbers c.args.self.now c.self.inside.tree c.rename.new.self is c.args.from.now c.args.to.now c.args.step.to.found c.requires.found c.in_ok-rename.ensures.files)
    (subst (λ (o : Option Node). LosesName mid c.forget_name.new.self c.args.files.now c.forget_name.new.files (file_of o))
    (same_lost c.args.self.now c.self.inside.tree c.rename.new.self is c.args.from.now c.args.to.now c.args.step.to.found c.requires.found c.in_ok-rename.ensures.files)
    c.forget_name.ensures.loses)

pub returns-clause-space : goal.returns-clause-space
returns-clause-space c =
    let mid : NamesPart = record { tree = c.rename.new.self; held = c.self.inside.held; next = c.self.inside.next } in
    keeps_then c.args.self.now mid c.forget_name.new.self c.args.files.now c.args.files.now c.forget_name.new.files c.args.pool.now c.rename.new.pool c.forget_name.new.pool (ap (λ (n : NamesPart). n.held) c.self.view_is)
    (keeps_dirs c.args.self.now mid c.args.files.now c.args.files.now c.args.pool.now c.rename.new.pool c.requires.apart
    (exchanged c.args.self.now c.self.inside.tree c.rename.new.self (ap (λ (n : NamesPart). n.tree) c.self.view_is) c.args.from.now c.args.to.now c.args.step.to.found c.requires.found c.in_ok-rename.ensures.files
    c.args.pool.now c.rename.new.pool c.args.step.to.dir c.requires.to_dir c.in_ok-rename.ensures.replaced c.in_ok-rename.ensures.block c.in_ok-rename.ensures.apart)
    (c.rename.ensures.inodes ∙ ap (λ (n : NamesPart). length n.tree.dirs.dirs) c.self.view_is) (ap (λ (n : NamesPart). n.held) c.self.view_is) refl)
    c.forget_name.ensures.space

pub returns-then-eq-clause-noted : goal.returns-then-eq-clause-noted
returns-then-eq-clause-noted c = notes_stay c.args.self.now.tree c.args.pool.now (one_told c.args.self.now.tree c.args.self.now.held c.requires.inodes)

pub returns-clause-noted : goal.returns-clause-noted
returns-clause-noted c =
    let mid : NamesPart = record { tree = c.rename.new.self; held = c.self.inside.held; next = c.self.inside.next } in
    let lost = file_of (option_map (node_of c.rename.new.self) c.args.step.to.found) in
    subst (λ (n : NamesPart). GoesByNotes n.tree c.forget_name.new.self.tree c.args.pool.now) c.self.view_is
    (notes_on c.self.inside.tree c.rename.new.self c.forget_name.new.self.tree c.args.pool.now c.rename.ensures.noted c.forget_name.ensures.noted
    (loses_gives_none mid c.forget_name.new.self c.args.files.now c.forget_name.new.files lost c.forget_name.ensures.loses))
