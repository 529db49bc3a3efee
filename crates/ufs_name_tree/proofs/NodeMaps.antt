-- Nodes by what is found: where a file's number stays, a node does.
use Rattle.std.proofs.Common.{◌≡◌, ℕ, List, [], ◌∷◌, ◌++◌, Option, Some, None, ap, refl, ◌∙◌}
use Rattle.std.specs.Option.{option_map, unwrap_or}
use Rattle.ufs_base.specs.Choices.{first_of}
use Rattle.ufs_model.specs.Walk.{dir_refusal}
use Rattle.ufs_model.specs.declared.data.Node.TheVariants as node
use Rattle.ufs_dir_tree.specs.DirTable.{found_at}
use Rattle.ufs_dir_tree.specs.DirCalls.{SetsFound, MovesFounds}
use Rattle.ufs_dir_tree.specs.DirCalls as founds
use Rattle.ufs_dir_tree.specs.declared.found.Found.{Found}
use Rattle.ufs_dir_tree.specs.declared.found.Found.TheVariants.{Dir, File}
use Rattle.ufs_name_tree.specs.Nodes.{SetsNode, MovesNodes, refusal_by}
use Rattle.ufs_name_tree.specs.NameTable.{NameTable, file_at, node_of, node_at}

module _ (t u : NameTable) where
  node_of_same : (f : Found) → ((i : ℕ) → f ≡ File i → file_at u i ≡ file_at t i) → node_of u f ≡ node_of t f
  node_of_same (Dir i) same = refl
  node_of_same (File i) same = ap (λ (o : Option ℕ). node.File (unwrap_or o 0)) (same i refl)

  found_same : (o : Option Found) → ((i : ℕ) → o ≡ Some (File i) → file_at u i ≡ file_at t i) → option_map (node_of u) o ≡ option_map (node_of t) o
  found_same None same = refl
  found_same (Some f) same = ap Some (node_of_same f (λ i e. same i (ap Some e)))

  -- each file that was met has the number that it had
  abbrev pub SameNumbers : Type 0
  SameNumbers = (names : List (List ℕ)) (i : ℕ) → found_at t.dirs names ≡ Some (File i) → file_at u i ≡ file_at t i

  module _ (same : SameNumbers) where
    pub node_same : (names others : List (List ℕ)) → found_at u.dirs names ≡ found_at t.dirs others → node_at u names ≡ node_at t others
    node_same names others e = ap (option_map (node_of u)) e ∙ found_same (found_at t.dirs others) (same others)

    pub sets_node : (path : List (List ℕ)) (w : Option Found) → SetsFound (found_at t.dirs) (found_at u.dirs) path w → SetsNode (node_at t) (node_at u) path (option_map (node_of u) w)
    sets_node path w sets = record {
      this = ap (option_map (node_of u)) sets.this;
      others = λ other apart. node_same other other (sets.others other apart);
    }

    pub moves_nodes : (from to : List (List ℕ)) → MovesFounds (found_at t.dirs) (found_at u.dirs) from to → MovesNodes (node_at t) (node_at u) from to
    moves_nodes from to moves = record {
      moved = λ rest. node_same (to ++ rest) (from ++ rest) (moves.moved rest);
      gone = λ rest. ap (option_map (node_of u)) (moves.gone rest);
      others = λ other off_from off_to. node_same other other (moves.others other off_from off_to);
    }

-- ---- refusals

refusal_same : (t : NameTable) (o : Option Found) → founds.dir_refusal o ≡ dir_refusal (option_map (node_of t) o)
refusal_same t None = refl
refusal_same t (Some (Dir i)) = refl
refusal_same t (Some (File i)) = refl

pub refusals_same : (t : NameTable) (above names : List (List ℕ)) → founds.refusal_by (found_at t.dirs) above names ≡ refusal_by (node_at t) above names
refusals_same t above [] = refl
refusals_same t above (name ∷ []) = refl
refusals_same t above (name ∷ next ∷ names) = λ i. first_of (refusal_same t (found_at t.dirs (above ++ name ∷ [])) i) (refusals_same t (above ++ name ∷ []) (next ∷ names) i)
