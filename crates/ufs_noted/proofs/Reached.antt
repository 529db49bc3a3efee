-- A request that isn't a `sync` touches one file at most.
use Rattle.std.proofs.Common.{◌≡◌, ◌≢◌, ℕ, inl, inr, Bool, true, false, cond, List, [], ◌∷◌, Option, Some, None, is_some, sym, refl, ◌∙◌}
use Rattle.std.specs.FinMap as fin
use Rattle.ufs_model.specs.Descriptors.{opened}
use Rattle.ufs_model.specs.Paths.{whole_of}
use Rattle.ufs_model.specs.Posix.{change}
use Rattle.ufs_model.specs.PosixTree.{PosixTree, is_live}
use Rattle.ufs_model.specs.Refusals.{own_refusal, refusal}
use Rattle.ufs_model.specs.Touched.{IsPartOf, dropped_part, file_part, open_part, opened_part, reached, touched_parts}
use Rattle.ufs_model.specs.Walk.{file_of, node_at}
use Rattle.ufs_model.specs.declared.data.Op.{Op}
use Rattle.ufs_model.specs.declared.data.Op.TheVariants as op
use Rattle.ufs_model.specs.declared.data.PartName.{PartName}
use Rattle.ufs_model.specs.declared.data.PartName.TheVariants as part
use Rattle.ufs_model.specs.declared.data.Whence.TheVariants as whence

abbrev OneFile : List PartName → Type 0
OneFile parts = (f g : ℕ) → IsPartOf parts (part.File f) → IsPartOf parts (part.File g) → f ≡ g

none : OneFile []
none f g a b = absurd a

skip : (p : PartName) (parts : List PartName) → ((f : ℕ) → part.File f ≡ p → ⊥) → OneFile parts → OneFile (p ∷ parts)
skip p parts not one f g (inl a) b = absurd (not f a)
skip p parts not one f g (inr a) (inl b) = absurd (not g b)
skip p parts not one f g (inr a) (inr b) = one f g a b

single : (p : PartName) → OneFile (p ∷ [])
single p f g (inl a) (inl b) = (let both : part.File f ≡ part.File g = a ∙ sym b in cc)
single p f g (inl a) (inr b) = absurd b
single p f g (inr a) b = absurd a

either : (b : Bool) (xs ys : List PartName) → OneFile xs → OneFile ys → OneFile (cond b xs ys)
either true xs ys one other = one
either false xs ys one other = other

not_names : (f : ℕ) → part.File f ≡ part.Names → ⊥
not_names f e = cc

not_client : (client f : ℕ) → part.File f ≡ part.Client client → ⊥
not_client client f e = cc

names : (parts : List PartName) → OneFile parts → OneFile (part.Names ∷ parts)
names parts one = skip part.Names parts not_names one

of_file : (o : Option ℕ) → OneFile (file_part o)
of_file None = none
of_file (Some f) = single (part.File f)

of_open : (o : Option ℕ) → OneFile (open_part o)
of_open None = names [] none
of_open (Some f) = single (part.File f)

of_dropped : (after : PosixTree) (o : Option ℕ) → OneFile (dropped_part after o)
of_dropped after None = none
of_dropped after (Some f) = either (is_live after.paths after.fds f) [] (part.File f ∷ []) none (single (part.File f))

of_opened : (next : ℕ) (stands : Bool) (o : Option ℕ) (trunc : Bool) → OneFile (opened_part next stands o trunc)
of_opened next stands None trunc = either stands [] (part.File next ∷ []) none (single (part.File next))
of_opened next stands (Some f) trunc = either trunc (part.File f ∷ []) [] (single (part.File f)) none

one_reached : (t : PosixTree) (client : ℕ) (request : Op) → request ≢ op.Sync → OneFile (reached t client request)
one_reached t client (op.OpenFile path read write creat excl trunc append) not =
    names _ (either (is_some (refusal t client (op.OpenFile path read write creat excl trunc append))) [] _ none (of_opened t.next (is_some (node_at t.paths path)) (file_of (node_at t.paths path)) trunc))
one_reached t client (op.Close fd) not = names _ (of_dropped (change t client (op.Close fd)) (opened t client fd).file)
one_reached t client (op.Read fd n) not = of_file (opened t client fd).file
one_reached t client (op.Write fd fresh) not = of_file (opened t client fd).file
one_reached t client (op.Pread fd n at) not = of_file (opened t client fd).file
one_reached t client (op.Pwrite fd fresh at) not = of_file (opened t client fd).file
one_reached t client (op.Seek fd whence.Set by) not = none
one_reached t client (op.Seek fd whence.Cur by) not = none
one_reached t client (op.Seek fd whence.End by) not = of_file (opened t client fd).file
one_reached t client (op.Trunc fd size) not = of_file (opened t client fd).file
one_reached t client (op.Fsync fd) not = of_open (opened t client fd).file
one_reached t client op.Sync not = absurd (not refl)
one_reached t client (op.Mkdir path) not = names [] none
one_reached t client (op.Rmdir path) not = names [] none
one_reached t client (op.Unlink path) not =
    names _ (either (is_some (refusal t client (op.Unlink path))) [] _ none (of_dropped (change t client (op.Unlink path)) (file_of (fin.get t.paths (whole_of path)))))
one_reached t client (op.Rename from to) not =
    names _ (either (is_some (refusal t client (op.Rename from to))) [] _ none (of_dropped (change t client (op.Rename from to)) (file_of (fin.get t.paths (whole_of to)))))
one_reached t client (op.Stat path) not = names _ (of_file (file_of (node_at t.paths path)))
one_reached t client (op.List path) not = names [] none

pub one_touched : (t : PosixTree) (client : ℕ) (request : Op) → request ≢ op.Sync → (f g : ℕ) → IsPartOf (touched_parts t client request) (part.File f) → IsPartOf (touched_parts t client request) (part.File g) → f ≡ g
one_touched t client request not =
    skip (part.Client client) _ (not_client client) (either (is_some (own_refusal t client request)) [] (reached t client request) none (one_reached t client request not))
