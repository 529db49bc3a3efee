-- A client's descriptors stay some of 3 to 66, whatever it asks.
use Rattle.std.proofs.Common.{◌≡◌, ◌≢◌, ℕ, zero, suc, ◌+◌, ◌≤◌, ◌<◌, ◌⊎◌, inl, inr, Bool, true, false, cond, Option, Some, None, is_some, is_none, not, unwrap_or, ap, sym, refl, ◌∙◌, arith}
use Rattle.std.specs.Cmp.{nat_cmp_total}
use Rattle.std.specs.FinMap as map
use Rattle.std.specs.FinMap.{nat_cmp-IsAntisymmetric}
use Rattle.ufs_model.specs.Asks.{IsDescAfter, fd_named, fd_opened, fd_told}
use Rattle.ufs_model.specs.Descriptors.{free_from, lowest_free, is_mode}
use Rattle.ufs_base.specs.Choices.{first_of, refused_if}
use Rattle.ufs_model.specs.Paths.{text_refusal}
use Rattle.ufs_model.specs.Posix.{posix, served, new_fd}
use Rattle.ufs_model.specs.PosixTree.{PosixTree, Fds, desc_at}
use Rattle.ufs_model.specs.Refusals.{refusal, own_refusal, tree_refusal, read_refusal, write_refusal, seek_refusal, trunc_refusal}
use Rattle.ufs_model.specs.declared.data.Desc.{Desc}
use Rattle.ufs_model.specs.declared.data.Errno.{Errno}
use Rattle.ufs_model.specs.declared.data.Errno.TheVariants.{Ebadf, Einval, Emfile}
use Rattle.ufs_model.specs.declared.data.Op.{Op}
use Rattle.ufs_model.specs.declared.data.Op.TheVariants as op
use Rattle.ufs_model.specs.declared.data.Reply.{Reply}
use Rattle.ufs_model.specs.declared.data.Reply.TheVariants as reply
use Rattle.ufs_model.proofs.Facts.Allowed.{first_none, passed}
use Rattle.ufs_model.proofs.Facts.Lookups.{same_some, there_or_not, one_or_apart}
use Rattle.ufs_client.specs.Clients.{AreRanged}

-- ---- a descriptor that is given out

free_range : (fds : Fds) (client fd count k : ℕ) → free_from fds client fd count ≡ Some k → (fd ≤ k) × (k < fd + count)
free_range fds client fd zero k e = cc
free_range fds client fd (suc count) k e = by (is_some (map.get fds (client, fd))) (free_range fds client (fd + 1) count k) e
  where
    by : (b : Bool) → (free_from fds client (fd + 1) count ≡ Some k → (fd + 1 ≤ k) × (k < fd + 1 + count)) → cond b (free_from fds client (fd + 1) count) (Some fd) ≡ Some k → (fd ≤ k) × (k < fd + suc count)
    by true more h = let rest = more h in (omega (arith, rest.0), omega (arith, rest.1))
    by false more h = let same = same_some fd k h in (omega (arith, same), omega (arith, same))

lowest_range : (fds : Fds) (client k : ℕ) → lowest_free fds client ≡ Some k → (3 ≤ k) × (k ≤ 66)
unfolding lowest_free
lowest_range fds client k e = let range = free_range fds client 3 64 k e in (range.0, omega (arith, range.1))

-- a descriptor that an answer gives out is one of these
module _ (t : PosixTree) (client : ℕ) (request : Op) where
  given : (o : Option Errno) (k : ℕ) → (served t client request o).1 ≡ reply.Fd k → refusal t client request ≡ o → refusal t client request ≡ None
  given None k e is = is
  given (Some errno) k e is = cc

opened_range : (t : PosixTree) (client : ℕ) (request : Op) (k : ℕ) → fd_named request ≡ None → fd_told request (posix t client request).1 ≡ Some k → (3 ≤ k) × (k ≤ 66)
opened_range t client (op.OpenFile path read write creat excl trunc append) k none e = by_reply (posix t client (op.OpenFile path read write creat excl trunc append)).1 refl e
  where
    request : Op
    request = op.OpenFile path read write creat excl trunc append

    by_lowest : (o : Option ℕ) → lowest_free t.fds client ≡ o → is_none o ≡ false → unwrap_or o 0 ≡ k → (3 ≤ k) × (k ≤ 66)
    by_lowest None is not same = cc
    by_lowest (Some n) is not same = lowest_range t.fds client k (is ∙ ap Some same)

    allowed : refusal t client request ≡ None → is_none (lowest_free t.fds client) ≡ false
    allowed h =
        let test = is_mode (record { read = read; write = write; creat = creat; excl = excl; trunc = trunc; append = append }) in
        let free = refused_if (is_none (lowest_free t.fds client)) Emfile in
        let own = (first_none (own_refusal t client request) (tree_refusal t client request) h).0 in
        passed (is_none (lowest_free t.fds client)) Emfile (first_none free (text_refusal path) (first_none (refused_if (not test) Einval) (first_of free (text_refusal path)) own).1).0

    by_fd : (n : ℕ) → (posix t client request).1 ≡ reply.Fd n → n ≡ k → (3 ≤ k) × (k ≤ 66)
    by_fd n is same =
        let none = given t client request (refusal t client request) n is refl in
        let answer : reply.Fd (new_fd t client) ≡ reply.Fd n = sym (ap (λ o. (served t client request o).1) none) ∙ is in
        let number : new_fd t client ≡ n = cc in
        by_lowest (lowest_free t.fds client) refl (allowed none) (number ∙ same)

    by_reply : (r : Reply) → (posix t client request).1 ≡ r → fd_opened r ≡ Some k → (3 ≤ k) × (k ≤ 66)
    by_reply (reply.Fd n) is h = by_fd n is (same_some n k h)
    by_reply _ is h = cc
opened_range t client (op.Mkdir path) k none e = cc
opened_range t client (op.Rmdir path) k none e = cc
opened_range t client (op.Unlink path) k none e = cc
opened_range t client (op.Rename from to) k none e = cc
opened_range t client (op.Stat path) k none e = cc
opened_range t client (op.List path) k none e = cc
opened_range t client op.Sync k none e = cc
opened_range t client _ k none e = cc

-- ---- a descriptor that isn't open, and is named

-- a request on it leaves the tree
left : (t : PosixTree) (client : ℕ) (request : Op) (fd : ℕ) → fd_named request ≡ Some fd → desc_at t client fd ≡ None → (posix t client request).0 ≡ t
left t client (op.Close k) fd e none = ap (λ o. (served t client (op.Close k) (first_of (refused_if (is_none o) Ebadf) (tree_refusal t client (op.Close k)))).0) (ap (desc_at t client) (same_some k fd e) ∙ none)
left t client (op.Fsync k) fd e none = ap (λ o. (served t client (op.Fsync k) (first_of (refused_if (is_none o) Ebadf) (tree_refusal t client (op.Fsync k)))).0) (ap (desc_at t client) (same_some k fd e) ∙ none)
left t client (op.Read k n) fd e none = ap (λ o. (served t client (op.Read k n) (first_of (read_refusal o) (tree_refusal t client (op.Read k n)))).0) (ap (desc_at t client) (same_some k fd e) ∙ none)
left t client (op.Pread k n at) fd e none = ap (λ o. (served t client (op.Pread k n at) (first_of (read_refusal o) (tree_refusal t client (op.Pread k n at)))).0) (ap (desc_at t client) (same_some k fd e) ∙ none)
left t client (op.Write k d) fd e none = ap (λ o. (served t client (op.Write k d) (first_of (write_refusal o) (tree_refusal t client (op.Write k d)))).0) (ap (desc_at t client) (same_some k fd e) ∙ none)
left t client (op.Pwrite k d at) fd e none = ap (λ o. (served t client (op.Pwrite k d at) (first_of (write_refusal o) (tree_refusal t client (op.Pwrite k d at)))).0) (ap (desc_at t client) (same_some k fd e) ∙ none)
left t client (op.Seek k from by) fd e none = ap (λ o. (served t client (op.Seek k from by) (first_of (seek_refusal o) (tree_refusal t client (op.Seek k from by)))).0) (ap (desc_at t client) (same_some k fd e) ∙ none)
left t client (op.Trunc k size) fd e none = ap (λ o. (served t client (op.Trunc k size) (first_of (trunc_refusal o) (tree_refusal t client (op.Trunc k size)))).0) (ap (desc_at t client) (same_some k fd e) ∙ none)
left t client _ fd e none = cc

-- ---- both

same_or_none : (request : Op) (r : Reply) (k fd : ℕ) → fd_named request ≡ Some k → fd_told request r ≡ Some fd → k ≡ fd
same_or_none (op.OpenFile path read write creat excl trunc append) r k fd named told = cc
same_or_none _ r k fd named told = same_some k fd (sym named ∙ told)

pub ranged_after : (t : PosixTree) (client : ℕ) (request : Op) (d : Option Desc)
    → IsDescAfter t.fds (posix t client request).0.fds client (fd_told request (posix t client request).1) d
    → AreRanged t.fds client → AreRanged (posix t client request).0.fds client
ranged_after t client request d after range fd there = by_told (fd_told request (posix t client request).1) refl
  where
    new : PosixTree
    new = (posix t client request).0

    as_before : (fd_told request (posix t client request).1 ≢ Some fd) → (3 ≤ fd) × (fd ≤ 66)
    as_before not = range fd (ap is_some (sym (after.others client fd (inr not))) ∙ there)

    by_old : (k : ℕ) → fd_named request ≡ Some k → k ≡ fd → ((v : Desc) × (map.get t.fds (client, k) ≡ Some v)) ⊎ (map.get t.fds (client, k) ≡ None) → (3 ≤ fd) × (fd ≤ 66)
    by_old k named same (inl some) = range fd (ap (λ (n : ℕ). is_some (map.get t.fds (client, n))) (sym same) ∙ ap is_some some.1)
    by_old k named same (inr none) =
        let stays = left t client request k named none in
        let gone : is_some (map.get new.fds (client, fd)) ≡ false = (λ i. is_some (map.get (stays i).fds (client, sym same i))) ∙ ap is_some none in
        let no : true ≡ false = sym there ∙ gone in cc

    by_named : (o : Option ℕ) → fd_named request ≡ o → fd_told request (posix t client request).1 ≡ Some fd → (3 ≤ fd) × (fd ≤ 66)
    by_named None none told = opened_range t client request fd none told
    by_named (Some k) named told = by_old k named (same_or_none request (posix t client request).1 k fd named told) (there_or_not (map.get t.fds (client, k)))

    by_told : (o : Option ℕ) → fd_told request (posix t client request).1 ≡ o → (3 ≤ fd) × (fd ≤ 66)
    by_told None e = as_before (λ told. let no : None ≡ Some fd = sym e ∙ told in cc)
    by_told (Some k) e = by (one_or_apart nat_cmp_total nat_cmp-IsAntisymmetric k fd)
      where
        by : (k ≡ fd) ⊎ (k ≡ fd → ⊥) → (3 ≤ fd) × (fd ≤ 66)
        by (inl same) = by_named (fd_named request) refl (e ∙ ap Some same)
        by (inr apart) = as_before (λ told. apart (same_some k fd (sym e ∙ told)))
