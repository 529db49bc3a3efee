-- What had a name and has none now: its file is that of before, and its directory exchanged blocks with the pool.
use Rattle.std.proofs.Common.{◌≡◌, ℕ, ◌⊎◌, inl, inr, List, true, Option, Some, None, is_some, unwrap_or, ap, refl, sym, ◌∙◌}
use Rattle.std.specs.Option.{option_map}
use Rattle.ufs_bitmap.specs.Blocks.{BlockSet}
use Rattle.ufs_dir_tree.specs.DirTable.{DirTable, found_at}
use Rattle.ufs_dir_tree.specs.DirCalls.{IsApart, Frees, SpendsBlock, names_above}
use Rattle.ufs_dir_tree.specs.declared.found.Found.{Found}
use Rattle.ufs_dir_tree.specs.declared.found.Found.TheVariants.{Dir, File}
use Rattle.ufs_files.specs.Files.{Files}
use Rattle.ufs_model.specs.declared.data.Node.TheVariants as node
use Rattle.ufs_model.proofs.Facts.Lookups.{there_or_not}
use Rattle.ufs_name_tree.specs.NameTable.{NameTable, file_at, node_of}
use Rattle.ufs_names.specs.NamesPart.{NamesPart, holding_of, is_kept, settled, without_name}
use Rattle.ufs_names.specs.Steps.{LosesName}
use Rattle.ufs_names.proofs.SpaceLemmas.{DirExchanges, block_spent, freed}

-- ---- numbers

-- the same numbers give the same nodes
pub same_nodes : (t t' : NameTable) → ((i : ℕ) → file_at t' i ≡ file_at t i) → (o : Option Found) → option_map (node_of t') o ≡ option_map (node_of t) o
same_nodes t t' same None = refl
same_nodes t t' same (Some (Dir i)) = refl
same_nodes t t' same (Some (File i)) = ap (λ o. Some (node.File (unwrap_or o 0))) (same i)

pub same_numbers : (t t' : NameTable) → t'.files ≡ t.files → (i : ℕ) → file_at t' i ≡ file_at t i
same_numbers t t' same i = ap (λ (files : List (Option ℕ)). file_at (record { dirs = t.dirs; files = files; noted = t.noted; lost = t.lost }) i) same

-- ---- what its file lost

-- Before the name went the same was known.
pub loses_before : (old mid new : NamesPart) (fs fs' : Files) (lost : Option ℕ) → mid.held ≡ old.held → mid.next ≡ old.next → ((i : ℕ) → file_at mid.tree i ≡ file_at old.tree i)
    → LosesName mid new fs fs' lost → LosesName old new fs fs' lost
loses_before old mid new fs fs' None held next numbers keeps = record {
  held = keeps.held ∙ held;
  next = keeps.next ∙ next;
  stays = record { numbers = λ i. keeps.stays.numbers i ∙ numbers i; files = keeps.stays.files };
}
loses_before old mid new fs fs' (Some f) held next numbers settles = record {
  held = settles.held ∙ ap (λ m. settled m f (without_name (holding_of m f))) held;
  next = settles.next ∙ next;
  kept = λ e. let stays = settles.kept (ap (λ m. is_kept (without_name (holding_of m f))) held ∙ e) in record { numbers = λ i. stays.numbers i ∙ numbers i; files = stays.files };
  gone = λ e.
      let goes = settles.gone (ap (λ m. is_kept (without_name (holding_of m f))) held ∙ e) in
      let inode = ap (λ m. (holding_of m f).inode) held in
      record {
        files = goes.files;
        unnumbered = ap (file_at new.tree) (sym inode) ∙ goes.unnumbered;
        others = λ j not. goes.others j (λ h. not (h ∙ inode)) ∙ numbers j;
      };
}

-- ---- blocks

-- a name that takes the place of another frees what stood there, and a new one may get a block
pub name_put : (t t' : DirTable) (pool pool' : BlockSet) (names : List (List ℕ)) (dir : ℕ) → found_at t (names_above names) ≡ Some (Dir dir)
    → (is_some (found_at t names) ≡ true → Frees t t' pool pool' (found_at t names)) → (found_at t names ≡ None → SpendsBlock t t' pool pool' (names_above names)) → IsApart t' pool' → DirExchanges t t' pool pool'
name_put t t' pool pool' names dir above frees spends apart = by (there_or_not (found_at t names))
  where
    by : ((f : Found) × (found_at t names ≡ Some f)) ⊎ (found_at t names ≡ None) → DirExchanges t t' pool pool'
    by (inl at) = freed t t' pool pool' (found_at t names) (frees (ap is_some at.1)) apart
    by (inr none) = block_spent t t' pool pool' (names_above names) dir above (spends none) apart
