-- The excuses of requests on one path fit them.
use Rattle.std.proofs.Common.{◌≡◌, ◌≢◌, ℕ, List, Bool, true, false, not, Option, Some, None, is_none, ap, refl, sym, subst, ◌∙◌}
use Rattle.std.specs.Option.{option_map}
use Rattle.std.proofs.lemmas.Bool.{and_from}
use Rattle.ufs_bitmap.specs.Blocks.{BlockSet}
use Rattle.ufs_dir_tree.specs.DirCalls.{names_above, IsListed, LacksSpace}
use Rattle.ufs_dir_tree.specs.DirTable.{dir_at, found_at}
use Rattle.ufs_dir_tree.specs.declared.found.Found.{Found}
use Rattle.ufs_dir_tree.specs.declared.found.Found.TheVariants as met
use Rattle.ufs_files.specs.Files.{Files}
use Rattle.ufs_model.specs.Excuses.{ExcuseFits, adds_name, grown_dir, makes_node}
use Rattle.ufs_model.specs.Paths.{components, parent_of, whole_path}
use Rattle.ufs_model.specs.PosixTree.{PosixTree}
use Rattle.ufs_model.specs.Refusals.{open_refusal, own_refusal, refusal, tree_refusal}
use Rattle.ufs_model.specs.Walk as walk
use Rattle.ufs_model.specs.Walk.{walk_refusal}
use Rattle.ufs_model.specs.declared.data.Ask.{Ask}
use Rattle.ufs_model.specs.declared.data.Errno.TheVariants.{Enoent}
use Rattle.ufs_model.specs.declared.data.Excuse.{Excuse}
use Rattle.ufs_model.specs.declared.data.Excuse.TheVariants as excuse
use Rattle.ufs_model.specs.declared.data.Op.{Op}
use Rattle.ufs_model.specs.declared.data.Op.TheVariants as op
use Rattle.ufs_model.proofs.Facts.Allowed.{first_none, passed}
use Rattle.ufs_name_tree.specs.NameTable.{node_of}
use Rattle.ufs_names.specs.NamesPart.{NamesPart}
use Rattle.ufs_names.specs.PathCalls.{IsAllowed}
use Rattle.ufs_names.proofs.ConditionLemmas.{names_above_are}
use Rattle.ufs_names.proofs.FitsLemmas.{by_memory, fits_told, space_told}
use Rattle.ufs_names.proofs.PathConditions.{are_names, let_be, named, stands_found}

is_true : (a b : Bool) → not a ≡ false → a ≡ true
is_true true b e = refl
is_true false b e = cc

module _ (n : NamesPart) (fs : Files) (t : PosixTree) (ask : Ask) (names : List (List ℕ)) (found : Option Found) (is : IsAllowed t ask n fs names found) (i : ℕ) (at : found_at n.tree.dirs (names_above names) ≡ Some (met.Dir i)) (pool : BlockSet)
    (x : Excuse) (listed : x ≢ excuse.Memory → x ≢ excuse.Inodes → IsListed (dir_at n.tree.dirs i)) where
  fits_name : (request : Op) → ask.op ≡ request → (p : List ℕ) → components p ≡ names → adds_name t request ≡ true → makes_node t request ≡ true → grown_dir request ≡ parent_of p
      → refusal t ask.client request ≡ None → LacksSpace n.tree.dirs pool (names_above names) x → ExcuseFits t ask.client ask.op x
  fits_name request of p spelled adds makes grown allowed lacks =
      subst (λ (r : Op). ExcuseFits t ask.client r x) (sym of)
      (fits_told t ask.client request x allowed
      (space_told n t is.all.part is.table (names_above names) (names_above_are names (are_names n fs t ask names found is)) i at ask.client request adds (grown ∙ ap (λ l. whole_path (names_above l)) spelled) pool x listed (λ e. makes) (lacks i at)))

  pub fits_mkdir : (p : List ℕ) → ask.op ≡ op.Mkdir p → LacksSpace n.tree.dirs pool (names_above names) x → ExcuseFits t ask.client ask.op x
  fits_mkdir p of lacks = fits_name (op.Mkdir p) of p (named n fs t ask names found is (op.Mkdir p) of p refl) refl refl refl (let_be n fs t ask names found is (op.Mkdir p) of) lacks

  pub fits_open : (p : List ℕ) (read write creat excl trunc append : Bool) → ask.op ≡ op.OpenFile p read write creat excl trunc append → (x ≢ excuse.Memory → (found ≡ None) × LacksSpace n.tree.dirs pool (names_above names) x) → ExcuseFits t ask.client ask.op x
  fits_open p read write creat excl trunc append of cause = by_memory t ask.client ask.op x (λ not. by (cause not))
    where
      request : Op
      request = op.OpenFile p read write creat excl trunc append

      free : refusal t ask.client request ≡ None
      free = let_be n fs t ask names found is request of

      by : (found ≡ None) × LacksSpace n.tree.dirs pool (names_above names) x → ExcuseFits t ask.client ask.op x
      by lacks =
          let none : walk.node_at t.paths p ≡ None = stands_found n fs t ask names found is request of p refl ∙ ap (option_map (node_of n.tree)) lacks.0 in
          let own = first_none (own_refusal t ask.client request) (tree_refusal t ask.client request) free in
          let way = first_none (walk_refusal t.paths p) _ own.1 in
          let creates = is_true creat creat (passed (not creat) Enoent (ap (open_refusal (record { read = read; write = write; creat = creat; excl = excl; trunc = trunc; append = append })) (sym none) ∙ way.1)) in
          let makes : makes_node t request ≡ true = and_from creat (is_none (walk.node_at t.paths p)) creates (ap is_none none) in
          fits_name request of p (named n fs t ask names found is request of p refl) makes makes refl free lacks.1
