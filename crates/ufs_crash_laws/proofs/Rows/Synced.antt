-- A worked session: a directory is made, all is synced, and another directory is made.
use Rattle.std.proofs.Common.{◌≡◌, ◌≤◌, ℕ, zero, suc, ◌⊎◌, inl, inr, List, [], ◌∷◌, ◌++◌, length, get_or, Option, Some, None, ap, sym, refl, ◌∙◌, subst, arith}
use Rattle.std.specs.Prelude.{codes}
use Rattle.std.specs.List.{flat_map}
use Rattle.std.specs.FinMap as map
use Rattle.std.specs.FinMap.{gets}
use Rattle.ufs_model.specs.PosixTree.{PosixTree, root_alone}
use Rattle.ufs_model.specs.Start.{PathNodes, path_root}
use Rattle.ufs_model.specs.Posix.{posix}
use Rattle.ufs_model.specs.declared.data.Entry.{Entry}
use Rattle.ufs_model.specs.declared.data.Node.{Node}
use Rattle.ufs_model.specs.declared.data.Node.TheVariants.{Dir}
use Rattle.ufs_model.specs.declared.data.Op.TheVariants as op
use Rattle.ufs_model.specs.declared.data.PathNode.{PathNode}
use Rattle.ufs_model.specs.declared.data.PathNode.TheVariants as path_node
use Rattle.ufs_model.specs.declared.data.Reply.TheVariants as reply
use Rattle.ufs_crash_laws.specs.Changes.{NameState, names_of, names_by, name_changes}
use Rattle.ufs_crash_laws.specs.Explained.{IsNodeWith, IsTreeWith, IsExplained}
use Rattle.ufs_crash_laws.proofs.Facts.Explains.{none_there}
use Rattle.ufs_crash_laws.proofs.Rows.Sessions.{entry, Worked, history_of, IsWorked, steps_walked, both_empty, both_inserted, HasNone, Shows, names_at}

abbrev makes_a : Entry
makes_a = entry 0 (op.Mkdir (codes "/a")) reply.Done

abbrev syncs : Entry
syncs = entry 1 op.Sync reply.Done

abbrev makes_b : Entry
makes_b = entry 2 (op.Mkdir (codes "/b")) reply.Done

abbrev one : PosixTree
one = record root_alone { paths = map.insert root_alone.paths (codes "/a") Dir }

abbrev two : PosixTree
two = record one { paths = map.insert one.paths (codes "/b") Dir }

one_is : posix root_alone 0 makes_a.op ≡ (one, reply.Done)
one_is = simp gets

synced_is : posix one 0 syncs.op ≡ (one, reply.Done)
synced_is = refl

two_is : posix one 0 makes_b.op ≡ (two, reply.Done)
two_is = simp gets

abbrev pub session : Worked
session = (makes_a, one) ∷ (syncs, one) ∷ (makes_b, two) ∷ []

worked : IsWorked root_alone session
worked = ((λ i. (one_is i).0), ((λ i. (synced_is i).0), ((λ i. (two_is i).0), tt)))

abbrev names : List NameState
names = names_of one ∷ names_of two ∷ []

names_are : name_changes root_alone (history_of session) ≡ names
names_are = ap (flat_map names_by) (steps_walked root_alone session worked) ∙ (λ i. (names_of (one_is i).0 ∷ []) ++ ([] ++ ((names_of (two_is i).0 ∷ []) ++ [])))

-- ---- what a crash may leave

abbrev pub HasDir : PathNodes → List ℕ → Type 0
HasDir tree path = map.get tree path ≡ Some path_node.Dir

-- what stands in a directory's place is a directory
dir_there : (Has : ℕ → List ℕ → Type 0) (o : Option Node) (p : Option PathNode) → o ≡ Some Dir → IsNodeWith Has o p → p ≡ Some path_node.Dir
dir_there Has o p e h = by p (subst (λ (o : Option Node). IsNodeWith Has o p) e h)
  where
    by : (p : Option PathNode) → IsNodeWith Has (Some Dir) p → p ≡ Some path_node.Dir
    by None h = absurd h
    by (Some path_node.Dir) h = refl
    by (Some (path_node.File bytes)) h = absurd h

-- the first directory alone, or both
abbrev pub FirstOrBoth : PathNodes → Type 0
FirstOrBoth tree = HasDir tree (codes "/a") × (HasDir tree (codes "/b") ⊎ HasNone tree (codes "/b"))

pub synced_directory_is_there : (tree : PathNodes) → IsExplained tree root_alone (history_of session) → FirstOrBoth tree
synced_directory_is_there tree is = by is.names is.synced (subst (λ (ns : List NameState). is.names ≤ length ns) names_are is.made) refl
  where
    node_at : (count : ℕ) → is.names ≡ count → (path : List ℕ) → IsNodeWith (Shows root_alone (history_of session)) (map.get (get_or (names_of root_alone ∷ names) count (names_of root_alone)).paths path) (map.get tree path)
    node_at count e path =
        subst (λ (n : NameState). IsNodeWith (Shows root_alone (history_of session)) (map.get n.paths path) (map.get tree path))
        (names_at root_alone (history_of session) names names_are is.names ∙ ap (λ count. get_or (names_of root_alone ∷ names) count (names_of root_alone)) e)
        (is.shown path)

    by : (count : ℕ) → 1 ≤ count → count ≤ 2 → is.names ≡ count → FirstOrBoth tree
    by zero synced low e = absurd (omega arith)
    by (suc zero) synced low e = (dir_there _ (map.get one.paths (codes "/a")) _ (simp gets) (node_at 1 e (codes "/a")), inr (none_there _ (map.get one.paths (codes "/b")) _ (simp gets) (node_at 1 e (codes "/b"))))
    by (suc (suc zero)) synced low e = (dir_there _ (map.get two.paths (codes "/a")) _ (simp gets) (node_at 2 e (codes "/a")), inl (dir_there _ (map.get two.paths (codes "/b")) _ (simp gets) (node_at 2 e (codes "/b"))))
    by (suc (suc (suc n))) synced low e = absurd (omega arith)

abbrev pub first_alone : PathNodes
first_alone = map.insert path_root (codes "/a") path_node.Dir

abbrev pub both : PathNodes
both = map.insert first_alone (codes "/b") path_node.Dir

abbrev root_shown : IsTreeWith (Shows root_alone (history_of session)) root_alone.paths path_root
root_shown = both_inserted (Shows root_alone (history_of session)) map.empty map.empty (codes "/") Dir path_node.Dir tt (both_empty (Shows root_alone (history_of session)))

first_shown : IsTreeWith (Shows root_alone (history_of session)) one.paths first_alone
first_shown = both_inserted (Shows root_alone (history_of session)) root_alone.paths path_root (codes "/a") Dir path_node.Dir tt root_shown

-- Both may be left.
pub first_alone_is_explained : IsExplained first_alone root_alone (history_of session)
first_alone_is_explained = record {
  names = 1;
  made = subst (λ (ns : List NameState). 1 ≤ length ns) (sym names_are) (omega arith);
  synced = omega arith;
  born = λ file e. cc;
  shown = subst (λ (n : NameState). IsTreeWith (Shows root_alone (history_of session)) n.paths first_alone) (sym (names_at root_alone (history_of session) names names_are 1)) first_shown;
}

pub both_are_explained : IsExplained both root_alone (history_of session)
both_are_explained = record {
  names = 2;
  made = subst (λ (ns : List NameState). 2 ≤ length ns) (sym names_are) (omega arith);
  synced = omega arith;
  born = λ file e. cc;
  shown = subst (λ (n : NameState). IsTreeWith (Shows root_alone (history_of session)) n.paths both) (sym (names_at root_alone (history_of session) names names_are 2))
      (both_inserted (Shows root_alone (history_of session)) one.paths first_alone (codes "/b") Dir path_node.Dir tt first_shown);
}

-- Without the first directory, which was synced, no tree is explained: not the opening one, and none with the second alone.
pub opening_is_not_explained : IsExplained path_root root_alone (history_of session) → ⊥
opening_is_not_explained is =
    let none : HasNone path_root (codes "/a") = simp gets in
    let e = sym none ∙ (synced_directory_is_there path_root is).0 in cc

abbrev second_alone : PathNodes
second_alone = map.insert path_root (codes "/b") path_node.Dir

pub second_alone_is_not_explained : IsExplained second_alone root_alone (history_of session) → ⊥
second_alone_is_not_explained is =
    let none : HasNone second_alone (codes "/a") = simp gets in
    let e = sym none ∙ (synced_directory_is_there second_alone is).0 in cc
