-- An excuse of the names is for want of memory or room: no device is asked.
use Rattle.std.proofs.Common.{◌≡◌, ℕ, List, [], ◌∷◌, ◌++◌, false, length, ◌-◌, drop, Option, Some, None, ap, refl, sym, subst, ◌∙◌}
use Rattle.std.specs.Option.{option_map}
use Rattle.std.proofs.lemmas.List.{take-append-drop}
use Rattle.ufs_bitmap.specs.Blocks.{BlockSet}
use Rattle.ufs_dir_tree.specs.DirTable.{found_at}
use Rattle.ufs_dir_tree.specs.DirCalls.{names_above}
use Rattle.ufs_dir_tree.specs.declared.found.Found.{Found}
use Rattle.ufs_dir_tree.specs.declared.found.Found.TheVariants.{Dir, File}
use Rattle.ufs_file.specs.Hand.{FileState, IsExcusedFor}
use Rattle.ufs_base.specs.Choices.{first_of}
use Rattle.ufs_model.specs.Excuses.{ExcuseFits}
use Rattle.ufs_model.specs.Paths.{components, components_refusal, component_refusal, text_refusal}
use Rattle.ufs_model.specs.PosixTree.{PosixTree}
use Rattle.ufs_model.specs.Refusals.{refusal, own_refusal, tree_refusal}
use Rattle.ufs_model.specs.Walk.{walk_refusal}
use Rattle.ufs_model.specs.declared.data.Desc.{Desc}
use Rattle.ufs_model.specs.declared.data.Errno.{Errno}
use Rattle.ufs_model.specs.declared.data.Excuse.{Excuse}
use Rattle.ufs_model.specs.declared.data.Excuse.TheVariants as excuse
use Rattle.ufs_model.specs.declared.data.Node.TheVariants as node
use Rattle.ufs_model.specs.declared.data.Op.{Op}
use Rattle.ufs_model.specs.declared.data.Op.TheVariants as op
use Rattle.ufs_model.specs.declared.data.Reply.{Reply}
use Rattle.ufs_model.specs.declared.data.Reply.TheVariants as reply
use Rattle.ufs_model.proofs.Facts.Allowed.{first_none, names_allowed}
use Rattle.ufs_model.proofs.Facts.Pieces.{ArePlain, components_plain, plain_front}
use Rattle.ufs_model.proofs.Facts.Walks.{dir_of_path, is_dir-some}
use Rattle.ufs_name_tree.specs.NameTable.{NameTable, node_of}
use Rattle.ufs_names.specs.NamesPart.{NamesPart, IsNamesPart}
use Rattle.ufs_names.specs.Space.{IsCause}
use Rattle.ufs_client.specs.Played.{tells_fault}

allowed_front : (xs ys : List (List ℕ)) → components_refusal (xs ++ ys) ≡ None → components_refusal xs ≡ None
allowed_front [] ys e = refl
allowed_front (x ∷ xs) ys e = by (component_refusal x) (components_refusal xs) refl (allowed_front xs ys) e
  where
    by : (a b : Option Errno) → components_refusal xs ≡ b → (components_refusal (xs ++ ys) ≡ None → components_refusal xs ≡ None) → first_of a (components_refusal (xs ++ ys)) ≡ None → first_of a (components_refusal xs) ≡ None
    by (Some e) b is more h = cc
    by None b is more h = more h

dir_found : (t : NameTable) (o : Option Found) → option_map (node_of t) o ≡ Some node.Dir → (i : ℕ) × (o ≡ Some (Dir i))
dir_found t None e = cc
dir_found t (Some (Dir i)) e = (i, refl)
dir_found t (Some (File i)) e = cc

module _ (n : NamesPart) (t : PosixTree) (part : IsNamesPart n t) where
  -- the names above the last of a path that isn't refused lead to a directory
  parent_found : (path : List ℕ) → text_refusal path ≡ None → walk_refusal t.paths path ≡ None → (i : ℕ) × (found_at n.tree.dirs (names_above (components path)) ≡ Some (Dir i))
  parent_found path text walk =
      let names = components path in
      let whole : names_above names ++ drop (length names - 1) names ≡ names = take-append-drop (length names - 1) names in
      let plain = plain_front (names_above names) (drop (length names - 1) names) (subst ArePlain (sym whole) (components_plain path)) in
      let allowed = allowed_front (names_above names) (drop (length names - 1) names) (ap components_refusal whole ∙ names_allowed path text) in
      let there = is_dir-some _ (dir_of_path t.paths path part.tree.namespace walk) in
      dir_found n.tree _ (sym (part.paths (names_above names) plain allowed) ∙ there)

  module _ (client : ℕ) (pool : BlockSet) where
    -- the parent of what a request adds
    abbrev Adds : Op → Type 0
    Adds (op.OpenFile path read write creat excl trunc append) = (i : ℕ) × (found_at n.tree.dirs (names_above (components path)) ≡ Some (Dir i))
    Adds (op.Mkdir path) = (i : ℕ) × (found_at n.tree.dirs (names_above (components path)) ≡ Some (Dir i))
    Adds (op.Rename from to) = (i : ℕ) × (found_at n.tree.dirs (names_above (components to)) ≡ Some (Dir i))
    Adds _ = Unit {0}

    adds : (request : Op) → refusal t client request ≡ None → Adds request
    adds (op.OpenFile path read write creat excl trunc append) due =
        let both = first_none (own_refusal t client (op.OpenFile path read write creat excl trunc append)) (tree_refusal t client (op.OpenFile path read write creat excl trunc append)) due in
        parent_found path (first_none _ _ (first_none _ _ both.0).1).1 (first_none (walk_refusal t.paths path) _ both.1).0
    adds (op.Mkdir path) due =
        let both = first_none (own_refusal t client (op.Mkdir path)) (tree_refusal t client (op.Mkdir path)) due in
        parent_found path both.0 (first_none (walk_refusal t.paths path) _ both.1).0
    adds (op.Rename from to) due =
        let both = first_none (own_refusal t client (op.Rename from to)) (tree_refusal t client (op.Rename from to)) due in
        parent_found to (first_none (text_refusal from) (text_refusal to) both.0).1
        (first_none (walk_refusal t.paths to) _ (first_none _ _ (first_none (walk_refusal t.paths from) _ (first_none _ _ both.1).1).1).1).0
    adds _ due = tt

    no_device : (request : Op) (fault : ℕ) → Adds request → IsCause n.tree.dirs pool request (excuse.Device fault) → ⊥
    no_device (op.OpenFile path read write creat excl trunc append) fault at cause = (cause.1 at.0 at.1).1
    no_device (op.Mkdir path) fault at cause = (cause.1 at.0 at.1).1
    no_device (op.Rename from to) fault at cause = cause.1 at.0 at.1
    no_device _ fault at cause = cause

    not_stopped : (request : Op) (fault : ℕ) → Adds request → IsCause n.tree.dirs pool request (excuse.Stopped fault) → ⊥
    not_stopped (op.OpenFile path read write creat excl trunc append) fault at cause = (cause.1 at.0 at.1).1
    not_stopped (op.Mkdir path) fault at cause = (cause.1 at.0 at.1).1
    not_stopped (op.Rename from to) fault at cause = cause.1 at.0 at.1
    not_stopped _ fault at cause = cause

    pub names_faultless : (request : Op) (x : Excuse) → ExcuseFits t client request x → IsCause n.tree.dirs pool request x → tells_fault (reply.Excused x) ≡ false
    names_faultless request (excuse.Device fault) fits cause = absurd (no_device request fault (adds request (fits.due refl)) cause)
    names_faultless request (excuse.Stopped fault) fits cause = absurd (not_stopped request fault (adds request (fits.due refl)) cause)
    names_faultless request _ fits cause = refl

pub file_faultless : (h : FileState) (d : Desc) (request : Op) (pool : BlockSet) (x : Excuse) → IsExcusedFor h d request pool x → tells_fault (reply.Excused x) ≡ false
file_faultless h d request pool (excuse.Device fault) is = absurd is.cause
file_faultless h d request pool (excuse.Stopped fault) is = absurd is.cause
file_faultless h d request pool _ is = refl

-- a reply that is no excuse tells no fault
pub plain_faultless : (r : Reply) → ((x : Excuse) → r ≡ reply.Excused x → tells_fault r ≡ false) → tells_fault r ≡ false
plain_faultless (reply.Excused x) by = by x refl
plain_faultless _ by = refl
