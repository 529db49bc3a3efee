-- What a request on a descriptor of a file leaves of a tree.
use Rattle.std.proofs.Common.{◌≡◌, ℕ, inl, inr, List, [], Bool, true, false, cond, ◌||◌, Option, Some, None, is_some, unwrap_or, ap, refl, sym, subst, ◌∙◌}
use Rattle.std.specs.List.{list_any}
use Rattle.std.specs.FinMap as map
use Rattle.ufs_model.specs.Asks.{desc_of_fd, fd_named, file_in}
use Rattle.ufs_model.specs.Descriptors.{closed, opened}
use Rattle.ufs_model.specs.FileCalls.{is_on_file}
use Rattle.ufs_model.specs.Posix.{posix}
use Rattle.ufs_model.specs.PosixTree.{PosixTree, Paths, IsTree, is_live, is_node_of, is_desc_of}
use Rattle.ufs_model.specs.Refusals.{own_refusal}
use Rattle.ufs_model.specs.Touched as touched
use Rattle.ufs_model.specs.Touched.{IsSamePart, file_part, holds, open_part, reached, touched_parts}
use Rattle.ufs_model.specs.declared.data.Desc.{Desc}
use Rattle.ufs_model.specs.declared.data.Op.{Op}
use Rattle.ufs_model.specs.declared.data.Op.TheVariants as op
use Rattle.ufs_model.specs.declared.data.PartName.{PartName}
use Rattle.ufs_model.specs.declared.data.PartName.TheVariants as name
use Rattle.ufs_model.specs.declared.data.Whence.TheVariants as whence
use Rattle.ufs_model.proofs.Facts.Held.{open_by}
use Rattle.ufs_model.proofs.KeepLemmas.{keeps}
use Rattle.ufs_model.proofs.LocalLemmas.{local}
use Rattle.ufs_name_tree.specs.NameTable.{node_at}
use Rattle.ufs_names.specs.Stands.{Stands}
use Rattle.ufs_names.specs.NamesPart.{NamesPart, IsNamesPart, IsNamedOnce}
use Rattle.ufs_names.specs.Laws.{KeepsNames}

-- ---- the names are another part

-- of a file there is no other part
no_names : (o : Option ℕ) → touched.IsPartOf (file_part o) name.Names → ⊥
no_names None h = h
no_names (Some f) (inl e) = cc
no_names (Some f) (inr h) = h

open_no_names : (o : Option ℕ) → is_some o ≡ true → touched.IsPartOf (open_part o) name.Names → ⊥
open_no_names None some h = cc
open_no_names (Some f) some (inl e) = cc
open_no_names (Some f) some (inr h) = h

module _ (t : PosixTree) (client : ℕ) where
  -- the file of a descriptor that is open
  opened_file : (fd : ℕ) → is_some (file_in (map.get t.fds (client, fd))) ≡ true → is_some (opened t client fd).file ≡ true
  opened_file fd some = by (map.get t.fds (client, fd)) some
    where
      by : (o : Option Desc) → is_some (file_in o) ≡ true → is_some (unwrap_or o closed).file ≡ true
      by None e = cc
      by (Some d) e = e

  reaches_no_names : (request : Op) → is_on_file request ≡ true → is_some (file_in (desc_of_fd t.fds client (fd_named request))) ≡ true → touched.IsPartOf (reached t client request) name.Names → ⊥
  reaches_no_names (op.OpenFile path read write creat excl trunc append) kind some h = cc
  reaches_no_names (op.Close fd) kind some h = cc
  reaches_no_names (op.Read fd n) kind some h = no_names (opened t client fd).file h
  reaches_no_names (op.Write fd data') kind some h = no_names (opened t client fd).file h
  reaches_no_names (op.Pread fd n at) kind some h = no_names (opened t client fd).file h
  reaches_no_names (op.Pwrite fd data' at) kind some h = no_names (opened t client fd).file h
  reaches_no_names (op.Seek fd whence.Set by') kind some h = h
  reaches_no_names (op.Seek fd whence.Cur by') kind some h = h
  reaches_no_names (op.Seek fd whence.End by') kind some h = no_names (opened t client fd).file h
  reaches_no_names (op.Trunc fd size) kind some h = no_names (opened t client fd).file h
  reaches_no_names (op.Fsync fd) kind some h = open_no_names (opened t client fd).file (opened_file fd some) h
  reaches_no_names op.Sync kind some h = cc
  reaches_no_names (op.Mkdir path) kind some h = cc
  reaches_no_names (op.Rmdir path) kind some h = cc
  reaches_no_names (op.Unlink path) kind some h = cc
  reaches_no_names (op.Rename from to) kind some h = cc
  reaches_no_names (op.Stat path) kind some h = cc
  reaches_no_names (op.List path) kind some h = cc

  untouched : (request : Op) → is_on_file request ≡ true → is_some (file_in (desc_of_fd t.fds client (fd_named request))) ≡ true → touched.IsPartOf (touched_parts t client request) name.Names → ⊥
  untouched request kind some (inl e) = cc
  untouched request kind some (inr h) = by (is_some (own_refusal t client request)) h
    where
      by : (b : Bool) → touched.IsPartOf (cond {A = List PartName} b [] (reached t client request)) name.Names → ⊥
      by true h = h
      by false h = reaches_no_names request kind some h

-- ---- which part goes on with it

module _ (n : NamesPart) (t u : PosixTree) (part : IsNamesPart n t) (tree : IsTree u) (like : IsSamePart name.Names t u) where
  live_alike : (f : ℕ) → is_live t.paths t.fds f ≡ is_live u.paths u.fds f
  live_alike f =
      ap (λ (paths : Paths). list_any (is_node_of f) (map.values paths) || list_any (is_desc_of f) (map.values t.fds)) like.0
      ∙ ap (λ b. list_any (is_node_of f) (map.values u.paths) || b) (open_by t.fds u.fds f (λ client. like.2 client f))

  part_like : IsNamesPart n u
  part_like = record {
    tree = tree;
    paths = subst (Stands (node_at n.tree)) like.0 part.paths;
    once = subst IsNamedOnce like.0 part.once;
    next = part.next ∙ like.1;
    linked = λ f. part.linked f ∙ ap (λ (paths : Paths). list_any (is_node_of f) (map.values paths)) like.0;
    held = λ f client. part.held f client ∙ like.2 client f;
    told = λ f. part.told f ∙ part.tree.live f ∙ live_alike f ∙ sym (tree.live f);
    inodes = part.inodes;
  }

pub same_part : (t : PosixTree) (p : PartName) → IsSamePart p t t
same_part t (name.Client client) = λ fd. refl
same_part t (name.Asked client) = tt
same_part t (name.File file) = refl
same_part t name.Names = (refl, refl, λ client file. refl)
same_part t name.Store = tt

pub keeps_names : KeepsNames
keeps_names n t ask part asked kind some =
    part_like n t (posix t ask.client ask.op).0 part (keeps t ask.client ask.op part.tree)
    ((local t t ask.client ask.op part.tree part.tree (λ p h. same_part t p)).others name.Names (untouched t ask.client ask.op kind (ap (λ (o : Option Desc). is_some (file_in o)) (sym asked.desc) ∙ some)))
