-- What a table says of nodes, for other crates to cite.
use Rattle.std.proofs.Common.{◌≡◌, ℕ, List, Option, Some, None, IsSome, ap, sym, refl, ◌∙◌}
use Rattle.std.specs.Option.{option_map, unwrap_or}
use Rattle.ufs_model.specs.declared.data.Node.TheVariants as node
use Rattle.ufs_dir_tree.specs.DirTable.{found_at}
use Rattle.ufs_dir_tree.specs.declared.found.Found.{Found}
use Rattle.ufs_dir_tree.specs.declared.found.Found.TheVariants.{Dir, File}
use Rattle.ufs_name_tree.specs.NameTable.{NameTable, IsNameTable, file_at, node_of, node_at}

-- a directory is met where a tree has one
abbrev pub IsDirAt : NameTable → List (List ℕ) → Type 0
IsDirAt t names = (i : ℕ) × (found_at t.dirs names ≡ Some (Dir i))

-- a file is met, whose inode has this number
abbrev pub IsFileAt : NameTable → List (List ℕ) → ℕ → Type 0
IsFileAt t names f = (i : ℕ) × (found_at t.dirs names ≡ Some (File i)) × (file_at t i ≡ Some f)

module _ (t : NameTable) (names : List (List ℕ)) where
  none_by : (o : Option Found) → option_map (node_of t) o ≡ None → o ≡ None
  none_by None e = refl
  none_by (Some w) e = cc

  pub nothing_at : node_at t names ≡ None → found_at t.dirs names ≡ None
  nothing_at = none_by (found_at t.dirs names)

  dir_by : (o : Option Found) → option_map (node_of t) o ≡ Some node.Dir → (i : ℕ) × (o ≡ Some (Dir i))
  dir_by None e = cc
  dir_by (Some (Dir i)) e = (i, refl)
  dir_by (Some (File i)) e = cc

  pub dir_at_names : node_at t names ≡ Some node.Dir → IsDirAt t names
  dir_at_names = dir_by (found_at t.dirs names)

  pub dir_node : (i : ℕ) → found_at t.dirs names ≡ Some (Dir i) → node_at t names ≡ Some node.Dir
  dir_node i at = ap (option_map (node_of t)) at

  number_is : (o : Option ℕ) (f : ℕ) → IsSome o → node.File (unwrap_or o 0) ≡ node.File f → o ≡ Some f
  number_is (Some g) f some e = let same : g ≡ f = cc in ap Some same
  number_is None f some e = cc

  file_by : (o : Option Found) (f : ℕ) → ((i : ℕ) → o ≡ Some (File i) → IsSome (file_at t i)) → option_map (node_of t) o ≡ Some (node.File f) → (i : ℕ) × (o ≡ Some (File i)) × (file_at t i ≡ Some f)
  file_by None f named e = cc
  file_by (Some (Dir i)) f named e = cc
  file_by (Some (File i)) f named e = let same : node.File (unwrap_or (file_at t i) 0) ≡ node.File f = cc in (i, refl, number_is (file_at t i) f (named i refl) same)

  pub file_at_names : (f : ℕ) → IsNameTable t → node_at t names ≡ Some (node.File f) → IsFileAt t names f
  file_at_names f is e = file_by (found_at t.dirs names) f (is.named names) e

  pub file_node : (i f : ℕ) → found_at t.dirs names ≡ Some (File i) → file_at t i ≡ Some f → node_at t names ≡ Some (node.File f)
  file_node i f at number = ap (option_map (node_of t)) at ∙ ap (λ (o : Option ℕ). Some (node.File (unwrap_or o 0))) number

-- an inode has one file
pub one_file : (t : NameTable) (i f g : ℕ) → file_at t i ≡ Some f → file_at t i ≡ Some g → f ≡ g
one_file t i f g at too = let same : Some f ≡ Some g = sym at ∙ too in cc

-- a file has one name at most
pub one_name : (t : NameTable) (names others : List (List ℕ)) (f : ℕ) → IsNameTable t → node_at t names ≡ Some (node.File f) → node_at t others ≡ Some (node.File f) → names ≡ others
one_name t names others f is at too =
    let here = file_at_names t names f is at in
    let there = file_at_names t others f is too in
    (is.table).once names others (File here.0) (File there.0) here.1 there.1 (is.once here.0 there.0 f here.2 there.2)
