-- The notes beside a server's names.
use Rattle.std.proofs.Common.{◌≡◌, ◌≢◌, ℕ, ◌⊎◌, inl, inr, List, Bool, true, false, Option, Some, None, ap, refl, sym, ◌∙◌}
use Rattle.std.specs.Option.{option_map}
use Rattle.std.proofs.lemmas.Bool.{cases_eq}
use Rattle.ufs_files.specs.Files.{Files}
use Rattle.ufs_ilog.specs.Notes.{Noted}
use Rattle.ufs_model.specs.PosixTree.{PosixTree}
use Rattle.ufs_dir_tree.specs.DirTable.{found_at}
use Rattle.ufs_dir_tree.specs.declared.found.Found.{Found}
use Rattle.ufs_dir_tree.specs.declared.found.Found.TheVariants.{Dir, File}
use Rattle.ufs_name_tree.specs.NameTable.{NameTable, node_of, node_at, file_at}
use Rattle.ufs_name_tree.proofs.EditNotes.{renoted}
use Rattle.ufs_name_tree.proofs.NoteChains.{HasOneInode, GivesNoInode}
use Rattle.ufs_names.specs.NamesPart.{NamesPart, Holdings, IsNamesPart, AreInodesOf, holding_of, is_kept, without_name}
use Rattle.ufs_names.specs.Notes.{with_notes, AreBeside}
use Rattle.ufs_names.specs.Steps.{LosesName}

same_nodes : (n : NamesPart) (noted : Noted) (names : List (List ℕ)) → node_at (with_notes noted n).tree names ≡ node_at n.tree names
same_nodes n noted names = by (found_at n.tree.dirs names)
  where
    by : (o : Option Found) → option_map (node_of (with_notes noted n).tree) o ≡ option_map (node_of n.tree) o
    by None = refl
    by (Some (Dir i)) = refl
    by (Some (File i)) = refl

same_part : (n : NamesPart) (noted : Noted) (t : PosixTree) → IsNamesPart n t → IsNamesPart (with_notes noted n) t
same_part n noted t is =
    let inodes = is.inodes in
    record {
      tree = is.tree;
      paths = λ names plain stand. is.paths names plain stand ∙ sym (same_nodes n noted names);
      once = is.once;
      next = is.next;
      linked = is.linked;
      held = is.held;
      told = is.told;
      inodes = record { inode = inodes.inode; live = inodes.live; own = inodes.own };
    }

pub beside : (n : NamesPart) (noted : Noted) → AreBeside n noted
beside n noted = record { nodes = same_nodes n noted; files = λ inode. refl; part = same_part n noted; table = renoted n.tree noted }

-- ---- inodes of files

-- a file has the one inode that is told of it
pub one_told : (tree : NameTable) (held : Holdings) → AreInodesOf tree held → HasOneInode tree
one_told tree held are i j f at too = sym (are.own i f at) ∙ are.own j f too

-- a file that loses its name gives none an inode
pub loses_gives_none : (old new : NamesPart) (fs fs' : Files) (lost : Option ℕ) → LosesName old new fs fs' lost → GivesNoInode old.tree new.tree
loses_gives_none old new fs fs' None keeps i f at = let stays = keeps.stays in sym (stays.numbers i) ∙ at
loses_gives_none old new fs fs' (Some file) settles i f at = by (is_kept (without_name (holding_of old.held file))) refl
  where
    by : (b : Bool) → is_kept (without_name (holding_of old.held file)) ≡ b → file_at old.tree i ≡ Some f
    by true kept = let stays = settles.kept kept in sym (stays.numbers i) ∙ at
    by false gone = here (cases_eq i (holding_of old.held file).inode)
      where
        here : (i ≡ (holding_of old.held file).inode) ⊎ (i ≢ (holding_of old.held file).inode) → file_at old.tree i ≡ Some f
        here (inl same) = let goes = settles.gone gone in let no : Some f ≡ None = sym at ∙ ap (file_at new.tree) same ∙ goes.unnumbered in absurd cc
        here (inr other) = let goes = settles.gone gone in sym (goes.others i other) ∙ at
