-- The paths that the names tell are those of a catalog.
use Rattle.std.proofs.Common.{◌≡◌, ℕ, List, Bool, true, false, Option, Some, None, ap, sym, refl, ◌∙◌}
use Rattle.std.specs.Prelude.{◌==◌, IsSome, unwrap_or, if◌then◌else◌}
use Rattle.std.specs.Option.{option_map}
use Rattle.ufs_layout.specs.declared.geometry.Geometry.{Geometry}
use Rattle.ufs_model.specs.PosixTree.{Paths}
use Rattle.ufs_model.specs.declared.data.Node.TheVariants as node
use Rattle.ufs_image.specs.Catalog.{Catalog, IsInode}
use Rattle.ufs_image.specs.Walks as cat
use Rattle.ufs_dir_tree.specs.DirTable.{DirTable, found_at}
use Rattle.ufs_dir_tree.specs.declared.found.Found.TheVariants.{Dir, File}
use Rattle.ufs_dir_laws.specs.Meets.{found_in}
use Rattle.ufs_dir_laws.proofs.Walked.{meets}
use Rattle.ufs_ledger.specs.Kept.{Numbers, numbered, IsNumberedBy}
use Rattle.ufs_name_tree.specs.NameTable.{NameTable, IsNameTable, file_at, node_of, node_at}
use Rattle.ufs_dir_tree.specs.Steps.{DirState}
use Rattle.ufs_promise_laws.specs.Held.{HasState, HasSoundNames}
use Rattle.ufs_promise_laws.specs.Numbers.{ArePathsOf, AreNumbersOf}
use Rattle.ufs_promise_laws.proofs.Sounded.{is_sound}

module _ (g : Geometry) (first : IsInode g 1) (c : Catalog) (s : DirState) (n : NameTable) (paths : Paths) (m : Numbers) (has : HasState g c s) (names : HasSoundNames g s) (same : s.table ≡ n.dirs)
    (table : IsNameTable n) (told : ArePathsOf n paths) (numbers : AreNumbersOf n m) where
  walks : (ns : List (List ℕ)) → found_at n.dirs ns ≡ option_map (found_in c) (cat.inode_of c ns)
  walks ns = ap (λ (t : DirTable). found_at t ns) (sym same) ∙ meets g c s.table (is_sound g c s has names) has.table.slots first ns

  -- a file that is met has its number
  met_file : (ns : List (List ℕ)) (i : ℕ) → cat.inode_of c ns ≡ Some i → ((c.forms i).kind == 2) ≡ false → (f : ℕ) × (file_at n i ≡ Some f)
  met_file ns i met file = by (file_at n i) refl (table.named ns i (walks ns ∙ ap (option_map (found_in c)) met ∙ ap (λ b. Some (if b then Dir i else File i)) file))
    where
      by : (o : Option ℕ) → file_at n i ≡ o → IsSome o → (f : ℕ) × (file_at n i ≡ Some f)
      by None e some = absurd cc
      by (Some f) e some = (f, e)

  met_node : (ns : List (List ℕ)) (i : ℕ) → cat.inode_of c ns ≡ Some i → node_of n (found_in c i) ≡ numbered c m i
  met_node ns i met = by ((c.forms i).kind == 2) refl
    where
      by : (b : Bool) → ((c.forms i).kind == 2) ≡ b → node_of n (found_in c i) ≡ numbered c m i
      by true e = ap (λ b. node_of n (if b then Dir i else File i)) e ∙ sym (ap (λ b. if b then node.Dir else node.File (m.file i)) e)
      by false e =
          let f = met_file ns i met e in
          ap (λ b. node_of n (if b then Dir i else File i)) e ∙ ap (λ (o : Option ℕ). node.File (unwrap_or o 0)) f.1 ∙ ap node.File (sym (numbers.file i f.0 f.1))
          ∙ sym (ap (λ b. if b then node.Dir else node.File (m.file i)) e)

  node_is : (ns : List (List ℕ)) → node_at n ns ≡ option_map (numbered c m) (cat.inode_of c ns)
  node_is ns = ap (option_map (node_of n)) (walks ns) ∙ by (cat.inode_of c ns) refl
    where
      by : (o : Option ℕ) → cat.inode_of c ns ≡ o → option_map (node_of n) (option_map (found_in c) (cat.inode_of c ns)) ≡ option_map (numbered c m) (cat.inode_of c ns)
      by None e = ap (λ o. option_map (node_of n) (option_map (found_in c) o)) e ∙ sym (ap (option_map (numbered c m)) e)
      by (Some i) e = ap (λ o. option_map (node_of n) (option_map (found_in c) o)) e ∙ ap Some (met_node ns i e) ∙ sym (ap (option_map (numbered c m)) e)

  pub number_paths : IsNumberedBy c m paths
  number_paths = record {
    there = λ ns pieces. told.there ns pieces ∙ node_is ns;
    only = told.only;
    back = λ ns i pieces met file. let f = met_file ns i met file in ap m.inode (numbers.file i f.0 f.1) ∙ numbers.inode i f.0 f.1;
  }
