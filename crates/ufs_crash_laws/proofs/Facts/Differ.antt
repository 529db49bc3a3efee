-- The changes of names are exactly the entries after which the paths are others.
use Rattle.std.proofs.Common.{◌≡◌, ℕ, Bool, true, false, cond, not, ◌&&◌, List, [], ◌∷◌, Option, Some, None, is_some, is_none, ap, sym, refl, ◌∙◌}
use Rattle.std.specs.FinMap as map
use Rattle.ufs_base.specs.Choices.{refused_if}
use Rattle.ufs_model.specs.Paths.{whole_of, text_refusal, is_root}
use Rattle.ufs_model.specs.PosixTree.{PosixTree, Paths, IsTree, stands}
use Rattle.ufs_model.specs.Walk.{node_at, file_of, walk_refusal}
use Rattle.ufs_model.specs.Descriptors.{Mode, mode_of_open}
use Rattle.ufs_model.specs.Refusals.{own_refusal, refusal}
use Rattle.ufs_model.specs.Posix.{posix, served, change, open_node, forget, without_path}
use Rattle.ufs_model.specs.Laws.{RenameLeaves}
use Rattle.ufs_model.specs.History.{IsReplyTo, goes_on}
use Rattle.ufs_model.proofs.Facts.Orders.{path_total, path_same}
use Rattle.ufs_model.proofs.Facts.Lookups.{inserted_here, removed_here}
use Rattle.ufs_model.proofs.Facts.Allowed.{first_none, passed}
use Rattle.ufs_model.proofs.Facts.Pieces.{bytes_same}
use Rattle.ufs_model.specs.declared.data.Entry.{Entry}
use Rattle.ufs_model.specs.declared.data.Errno.TheVariants.{Eexist, Ebusy, Enoent}
use Rattle.ufs_model.specs.declared.data.Node.{Node}
use Rattle.ufs_model.specs.declared.data.Node.TheVariants.{Dir, File}
use Rattle.ufs_model.specs.declared.data.Op.{Op}
use Rattle.ufs_model.specs.declared.data.Op.TheVariants as op
use Rattle.ufs_model.specs.declared.data.Reply.TheVariants as reply
use Rattle.ufs_crash_laws.specs.Steps.{is_served}
use Rattle.ufs_crash_laws.specs.Changes.{NameState, names_of, changes_names, names_by}
use Rattle.ufs_crash_laws.proofs.Facts.Entries.{IsDone, Left, Went, done, names_forget, names_still}

-- Other paths: something stands at a path where nothing stood, or the other way round.
differs : (p q : Paths) (path : List ℕ) (b : Bool) → stands p path ≡ b → stands q path ≡ not b → p ≡ q → ⊥
differs p q path true here there same = let e = ap (λ (m : Paths). stands m path) same in cc
differs p q path false here there same = let e = ap (λ (m : Paths). stands m path) same in cc

flipped : (b : Bool) (c : Bool) → not b ≡ c → b ≡ not c
flipped true c e = ap not e
flipped false c e = ap not e

module _ (t : PosixTree) where
  forget_paths : (u : PosixTree) (o : Option ℕ) → (forget u o).paths ≡ u.paths
  forget_paths u o = ap (λ (n : NameState). n.paths) (names_forget u o)

  made_differs : (whole : List ℕ) (n : Node) → stands t.paths whole ≡ false → t.paths ≡ map.insert t.paths whole n → ⊥
  made_differs whole n none = differs t.paths (map.insert t.paths whole n) whole false none (ap is_some (inserted_here path_total path_same t.paths whole n))

  gone_differs : (whole : List ℕ) → stands t.paths whole ≡ true → t.paths ≡ (without_path t whole).paths → ⊥
  gone_differs whole there same =
      differs t.paths (map.remove t.paths whole) whole true there (ap is_some (removed_here path_total path_same t.paths whole))
      (same ∙ forget_paths (record t { paths = map.remove t.paths whole }) (file_of (map.get t.paths whole)))

  open_differs : (client : ℕ) (path : List ℕ) (m : Mode) → is_none (node_at t.paths path) ≡ true → t.paths ≡ (open_node t client (whole_of path) m (node_at t.paths path)).paths → ⊥
  open_differs client path m none = by (node_at t.paths path) refl none
    where
      by : (o : Option Node) → node_at t.paths path ≡ o → is_none o ≡ true → t.paths ≡ (open_node t client (whole_of path) m o).paths → ⊥
      by None e h = made_differs (whole_of path) (File t.next) (ap is_some e)
      by (Some n) e h = cc

not_none : (o : Option Node) → is_none o ≡ false → is_some o ≡ true
not_none None e = cc
not_none (Some n) e = refl

rename_there : (t : PosixTree) (client : ℕ) (from to : List ℕ) → refusal t client (op.Rename from to) ≡ None → is_some (node_at t.paths from) ≡ true
rename_there t client from to e =
    let own = first_none (own_refusal t client (op.Rename from to)) _ e in
    let roots = first_none (refused_if _ Ebusy) _ own.1 in
    let walk = first_none (walk_refusal t.paths from) _ roots.1 in
    let there = first_none (refused_if (is_none (node_at t.paths from)) Enoent) _ walk.1 in
    not_none (node_at t.paths from) (passed _ Enoent there.0)

change_differs : RenameLeaves → (t : PosixTree) → IsTree t → (client : ℕ) (request : Op) → refusal t client request ≡ None → changes_names t request ≡ true → t.paths ≡ (change t client request).paths → ⊥
change_differs leaves t is client (op.OpenFile path read write creat excl trunc append) e c =
    open_differs t client path (mode_of_open read write creat excl trunc append) c
change_differs leaves t is client (op.Mkdir path) e c =
    let own = first_none (text_refusal path) _ e in
    let walk = first_none (walk_refusal t.paths path) _ own.1 in
    made_differs t (whole_of path) Dir (passed (is_some (node_at t.paths path)) Eexist walk.1)
change_differs leaves t is client (op.Rmdir path) e c =
    let own = first_none (text_refusal path) _ e in
    let walk = first_none (walk_refusal t.paths path) _ own.1 in
    let at_root = first_none (refused_if (is_root path) Ebusy) _ walk.1 in
    let there = first_none (refused_if (is_none (node_at t.paths path)) Enoent) _ at_root.1 in
    gone_differs t (whole_of path) (not_none (node_at t.paths path) (passed _ Enoent there.0))
change_differs leaves t is client (op.Unlink path) e c =
    let own = first_none (text_refusal path) _ e in
    let walk = first_none (walk_refusal t.paths path) _ own.1 in
    let there = first_none (refused_if (is_none (node_at t.paths path)) Enoent) _ walk.1 in
    gone_differs t (whole_of path) (not_none (node_at t.paths path) (passed _ Enoent there.0))
change_differs leaves t is client (op.Rename from to) e c = moved
  where
    goes : posix t client (op.Rename from to) ≡ (change t client (op.Rename from to), reply.Done)
    goes = ap (served t client (op.Rename from to)) e

    apart : whole_of from ≡ whole_of to → ⊥
    apart same = let eq = bytes_same (whole_of from) (whole_of to) same in let off = ap not eq in cc

    lost : map.get (change t client (op.Rename from to)).paths (whole_of from) ≡ None
    lost = sym (ap (λ p. map.get p.0.paths (whole_of from)) goes) ∙ leaves t client from to is (ap (λ p. p.1) goes) apart

    moved : t.paths ≡ (change t client (op.Rename from to)).paths → ⊥
    moved = differs t.paths (change t client (op.Rename from to)).paths (whole_of from) true (rename_there t client from to e) (ap is_some lost)
change_differs leaves t is client (op.Close fd) e c = cc
change_differs leaves t is client (op.Read fd n) e c = cc
change_differs leaves t is client (op.Write fd data') e c = cc
change_differs leaves t is client (op.Pread fd n at) e c = cc
change_differs leaves t is client (op.Pwrite fd data' at) e c = cc
change_differs leaves t is client (op.Seek fd from by) e c = cc
change_differs leaves t is client (op.Trunc fd size) e c = cc
change_differs leaves t is client (op.Fsync fd) e c = cc
change_differs leaves t is client op.Sync e c = cc
change_differs leaves t is client (op.Stat path) e c = cc
change_differs leaves t is client (op.List path) e c = cc

none_by : (b : Bool) (n : NameState) → cond b (n ∷ []) [] ≡ [] → b ≡ false
none_by true n e = cc
none_by false n e = refl

-- An entry leaves the paths exactly where it is no change of names.
pub no_change_still : (t : PosixTree) (entry : Entry) → IsReplyTo t entry → names_by (record { before = t; entry = entry }) ≡ [] → (goes_on t entry).paths ≡ t.paths
no_change_still t entry legal none = ap (λ (n : NameState). n.paths) (names_still t entry legal (none_by _ (names_of (goes_on t entry)) none))

pub still_no_change : RenameLeaves → (t : PosixTree) → IsTree t → (entry : Entry) → IsReplyTo t entry → (goes_on t entry).paths ≡ t.paths → names_by (record { before = t; entry = entry }) ≡ []
still_no_change leaves t is entry legal same = by (done t entry legal)
  where
    on : (b : Bool) → changes_names t entry.op ≡ b → refusal t entry.client entry.op ≡ None → goes_on t entry ≡ change t entry.client entry.op → is_served entry.reply ≡ true → names_by (record { before = t; entry = entry }) ≡ []
    on true c e goes served = absurd (change_differs leaves t is entry.client entry.op e c (sym same ∙ ap (λ (u : PosixTree). u.paths) goes))
    on false c e goes served = (λ i. cond (served i && c i) (names_of (goes_on t entry) ∷ []) [])

    by : IsDone t entry → names_by (record { before = t; entry = entry }) ≡ []
    by (Left stays not_served) = (λ i. cond (not_served i && changes_names t entry.op) (names_of (goes_on t entry) ∷ []) [])
    by (Went e goes served) = on (changes_names t entry.op) refl e goes served
