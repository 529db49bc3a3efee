-- A request touches its client, the names and files, and no other part.
use Rattle.std.proofs.Common.{ℕ, Bool, true, false, cond, List, [], ◌∷◌, map, Option, Some, None, is_some, sym, subst, inl, inr}
use Rattle.std.specs.List.{AllByRecursion}
use Rattle.std.specs.FinMap as fin
use Rattle.ufs_model.specs.Paths.{whole_of}
use Rattle.ufs_model.specs.PosixTree.{PosixTree, is_live}
use Rattle.ufs_model.specs.Walk.{node_at, file_of}
use Rattle.ufs_model.specs.Descriptors.{opened}
use Rattle.ufs_model.specs.Posix.{change}
use Rattle.ufs_model.specs.Refusals.{own_refusal, refusal}
use Rattle.ufs_model.specs.Touched.{touched_parts, reached, IsPartOf, file_part, open_part, dropped_part, opened_part}
use Rattle.ufs_model.specs.declared.data.Op.{Op}
use Rattle.ufs_model.specs.declared.data.Op.TheVariants as op
use Rattle.ufs_model.specs.declared.data.Whence.TheVariants as whence
use Rattle.ufs_model.specs.declared.data.PartName.{PartName}
use Rattle.ufs_model.specs.declared.data.PartName.TheVariants as part

abbrev pub MayTouch : PartName → Type 0
MayTouch (part.Asked c) = ⊥
MayTouch part.Store = ⊥
MayTouch _ = Unit {0}

abbrev May : List PartName → Type 0
May ps = AllByRecursion MayTouch ps

may_file : (o : Option ℕ) → May (file_part o)
may_file None = tt
may_file (Some f) = (tt, tt)

may_open : (o : Option ℕ) → May (open_part o)
may_open None = (tt, tt)
may_open (Some f) = (tt, tt)

may_if : (b : Bool) (ps : List PartName) → May ps → May (cond b [] ps)
may_if true ps m = tt
may_if false ps m = m

may_dropped : (t : PosixTree) (o : Option ℕ) → May (dropped_part t o)
may_dropped t None = tt
may_dropped t (Some f) = may_if (is_live t.paths t.fds f) (part.File f ∷ []) (tt, tt)

may_opened : (next : ℕ) (b : Bool) (o : Option ℕ) (trunc : Bool) → May (opened_part next b o trunc)
may_opened next b None trunc = may_if b (part.File next ∷ []) (tt, tt)
may_opened next b (Some f) true = (tt, tt)
may_opened next b (Some f) false = tt

may_files : (fs : List ℕ) → May (map (λ f. part.File f) fs)
may_files [] = tt
may_files (f ∷ fs) = (tt, may_files fs)

may_reach : (t : PosixTree) (client : ℕ) (o : Op) → May (reached t client o)
may_reach t client (op.OpenFile path read write creat excl trunc append) =
    (tt, may_if (is_some (refusal t client (op.OpenFile path read write creat excl trunc append))) _ (may_opened t.next (is_some (node_at t.paths path)) (file_of (node_at t.paths path)) trunc))
may_reach t client (op.Close fd) = (tt, may_dropped (change t client (op.Close fd)) (opened t client fd).file)
may_reach t client (op.Read fd n) = may_file (opened t client fd).file
may_reach t client (op.Write fd fresh) = may_file (opened t client fd).file
may_reach t client (op.Pread fd n at) = may_file (opened t client fd).file
may_reach t client (op.Pwrite fd fresh at) = may_file (opened t client fd).file
may_reach t client (op.Seek fd whence.Set by) = tt
may_reach t client (op.Seek fd whence.Cur by) = tt
may_reach t client (op.Seek fd whence.End by) = may_file (opened t client fd).file
may_reach t client (op.Trunc fd size) = may_file (opened t client fd).file
may_reach t client (op.Fsync fd) = may_open (opened t client fd).file
may_reach t client op.Sync = (tt, may_files (fin.keys t.bytes))
may_reach t client (op.Mkdir path) = (tt, tt)
may_reach t client (op.Rmdir path) = (tt, tt)
may_reach t client (op.Unlink path) = (tt, may_if (is_some (refusal t client (op.Unlink path))) _ (may_dropped (change t client (op.Unlink path)) (file_of (fin.get t.paths (whole_of path)))))
may_reach t client (op.Rename from to) = (tt, may_if (is_some (refusal t client (op.Rename from to))) _ (may_dropped (change t client (op.Rename from to)) (file_of (fin.get t.paths (whole_of to)))))
may_reach t client (op.Stat path) = (tt, may_file (file_of (node_at t.paths path)))
may_reach t client (op.List path) = (tt, tt)

may_be : (ps : List PartName) (p : PartName) → May ps → IsPartOf ps p → MayTouch p
may_be [] p m x = absurd x
may_be (q ∷ ps) p m (inl e) = subst MayTouch (sym e) m.0
may_be (q ∷ ps) p m (inr x) = may_be ps p m.1 x

pub may_touch : (t : PosixTree) (client : ℕ) (o : Op) (p : PartName) → IsPartOf (touched_parts t client o) p → MayTouch p
may_touch t client o p = may_be (touched_parts t client o) p (tt, may_if (is_some (own_refusal t client o)) _ (may_reach t client o))
