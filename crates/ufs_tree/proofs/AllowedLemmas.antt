-- What a request that isn't refused finds.
use Rattle.std.proofs.Common.{◌≡◌, ℕ, List, Bool, true, false, Option, Some, None, is_some, is_none, ◌||◌, refl, subst}
use Rattle.ufs_base.specs.Choices.{first_of, refused_if}
use Rattle.ufs_model.specs.Paths.{text_refusal, is_root}
use Rattle.ufs_model.specs.PosixTree.{PosixTree}
use Rattle.ufs_model.specs.Walk.{walk_refusal, node_at}
use Rattle.ufs_model.specs.Refusals.{own_refusal, refusal, rename_refusal}
use Rattle.ufs_model.proofs.Facts.Allowed.{first_none, passed, missing, some_there}
use Rattle.ufs_model.specs.declared.data.Errno.TheVariants.{Eexist, Ebusy, Enoent}
use Rattle.ufs_model.specs.declared.data.Op.{Op}
use Rattle.ufs_model.specs.declared.data.Op.TheVariants as op

pub nothing_there : (t : PosixTree) (client : ℕ) (path : List ℕ) → refusal t client (op.Mkdir path) ≡ None → node_at t.paths path ≡ None
nothing_there t client path e =
    let own = first_none (text_refusal path) _ e in
    let walk = first_none (walk_refusal t.paths path) (refused_if (is_some (node_at t.paths path)) Eexist) own.1 in
    missing (node_at t.paths path) (passed _ Eexist walk.1)

pub old_name_there : (t : PosixTree) (client : ℕ) (from to : List ℕ) → refusal t client (op.Rename from to) ≡ None → is_some (node_at t.paths from) ≡ true
old_name_there t client from to e =
    let both = first_none (first_of (text_refusal from) (text_refusal to)) (rename_refusal t.paths from to) e in
    let root = first_none (refused_if (is_root from || is_root to) Ebusy) _ both.1 in
    let walk = first_none (walk_refusal t.paths from) _ root.1 in
    let here = first_none (refused_if (is_none (node_at t.paths from)) Enoent) _ walk.1 in
    some_there (node_at t.paths from) (passed _ Enoent here.0)

-- The text of its path is allowed.
pub open_text : (t : PosixTree) (client : ℕ) (o : Op) (path : List ℕ) (read write creat excl trunc append : Bool) → o ≡ op.OpenFile path read write creat excl trunc append → refusal t client o ≡ None → text_refusal path ≡ None
open_text t client o path read write creat excl trunc append is e =
    let own = first_none (own_refusal t client (op.OpenFile path read write creat excl trunc append)) _ (subst (λ (x : Op). refusal t client x ≡ None) is e) in
    let flags = first_none _ _ own.0 in
    let full = first_none _ (text_refusal path) flags.1 in
    full.1

pub new_text : (t : PosixTree) (client : ℕ) (from to : List ℕ) → refusal t client (op.Rename from to) ≡ None → text_refusal to ≡ None
new_text t client from to e =
    let own = first_none (first_of (text_refusal from) (text_refusal to)) (rename_refusal t.paths from to) e in
    let both = first_none (text_refusal from) (text_refusal to) own.0 in
    both.1
