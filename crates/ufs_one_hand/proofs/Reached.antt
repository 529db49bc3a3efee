-- Trees with the same names, in which a client has the same descriptors and the same files are there: what a request of the
-- client touches is the same in both, whatever bytes the files have.
use Rattle.std.proofs.Common.{◌≡◌, ℕ, Bool, true, false, cond, eqb, eqb-true, ◌||◌, List, [], ◌∷◌, map, Option, Some, None, is_some, unwrap_or, refl, ap, sym, ◌∙◌, subst, inl, inr, ◌⊎◌, ⊎_elim}
use Rattle.std.specs.Prelude.{if◌then◌else◌}
use Rattle.std.specs.Str.{bytes_eq}
use Rattle.std.specs.List.{list_any}
use Rattle.std.specs.FinMap as fin
use Rattle.std.specs.FinMap.{nat_cmp-IsAntisymmetric}
use Rattle.std.specs.Cmp.{nat_cmp_total}
use Rattle.ufs_base.specs.Choices.{first_of}
use Rattle.ufs_model.specs.Paths.{whole_of}
use Rattle.ufs_model.specs.PosixTree.{PosixTree, Paths, desc_at, is_live}
use Rattle.ufs_model.specs.Walk.{walk_refusal, node_at, file_of}
use Rattle.ufs_model.specs.Directories.{renamed}
use Rattle.ufs_model.specs.Descriptors.{opened, closed, mode_of_open}
use Rattle.ufs_model.specs.Posix.{forget, close_fd, without_path, rename_path}
use Rattle.ufs_model.specs.Refusals.{refusal, open_refusal, unlink_refusal, rename_refusal}
use Rattle.ufs_model.specs.Touched.{holds, touched_parts, reached, IsPartOf, file_part, open_part, opened_part, dropped_part}
use Rattle.ufs_model.specs.declared.data.Desc.{Desc}
use Rattle.ufs_model.specs.declared.data.Op.{Op}
use Rattle.ufs_model.specs.declared.data.Op.TheVariants as op
use Rattle.ufs_model.specs.declared.data.PartName.{PartName}
use Rattle.ufs_model.specs.declared.data.PartName.TheVariants as part
use Rattle.ufs_model.specs.declared.data.Whence.TheVariants as whence
use Rattle.ufs_model.proofs.AlikeLemmas.{fds_gone, holds_after, live_alike}
use Rattle.ufs_model.proofs.Facts.Lookups.{key_passes, passing_key}
use Rattle.ufs_model.proofs.ToldLemmas.{own_same}
use Rattle.ufs_hand_laws.proofs.Keys.{itself}

-- ---- a file that a request drops

-- to forget a file leaves names and descriptors
forget_drops : (t : PosixTree) (lost o : Option ℕ) → dropped_part (forget t lost) o ≡ dropped_part t o
forget_drops t None o = refl
forget_drops t (Some g) None = refl
forget_drops t (Some g) (Some f) = by (is_live t.paths t.fds g)
  where
    by : (b : Bool) → dropped_part (cond b t (record t { bytes = fin.remove t.bytes g })) (Some f) ≡ dropped_part t (Some f)
    by true = refl
    by false = refl

drops_alike : (t u : PosixTree) → t.paths ≡ u.paths → ((c f : ℕ) → holds t.fds c f ≡ holds u.fds c f) → (o : Option ℕ) → dropped_part t o ≡ dropped_part u o
drops_alike t u paths held None = refl
drops_alike t u paths held (Some f) = ap (λ (b : Bool). if b then [] else part.File f ∷ []) (live_alike t.paths u.paths t.fds u.fds f paths (λ c. held c f))

-- so where a file is forgotten that is the one
gone_alike : (t u : PosixTree) → t.paths ≡ u.paths → ((c f : ℕ) → holds t.fds c f ≡ holds u.fds c f) → (o o' : Option ℕ) → o ≡ o' → dropped_part (forget t o) o ≡ dropped_part (forget u o') o'
gone_alike t u paths held o o' same = forget_drops t o o ∙ drops_alike t u paths held o ∙ ap (dropped_part u) same ∙ sym (forget_drops u o' o')

-- ---- what is reached

module _ (client : ℕ) (t u : PosixTree) (paths : t.paths ≡ u.paths) (next : t.next ≡ u.next) (fds : (fd : ℕ) → desc_at t client fd ≡ desc_at u client fd) (held : (c f : ℕ) → holds t.fds c f ≡ holds u.fds c f) where
  same_opened : (fd : ℕ) → (opened t client fd).file ≡ (opened u client fd).file
  same_opened fd = ap (λ (o : Option Desc). (unwrap_or o closed).file) (fds fd)

  close_drops : (fd : ℕ) → dropped_part (close_fd t client fd) (opened t client fd).file ≡ dropped_part (close_fd u client fd) (opened u client fd).file
  close_drops fd = gone_alike (record t { fds = fin.remove t.fds (client, fd) }) (record u { fds = fin.remove u.fds (client, fd) }) paths
      (holds_after client t.fds u.fds (fin.remove t.fds (client, fd)) (fin.remove u.fds (client, fd)) (fds_gone client t.fds u.fds fds fd) held)
      (opened t client fd).file (opened u client fd).file (same_opened fd)

  unlink_drops : (whole : List ℕ) → dropped_part (without_path t whole) (file_of (fin.get t.paths whole)) ≡ dropped_part (without_path u whole) (file_of (fin.get u.paths whole))
  unlink_drops whole = gone_alike (record t { paths = fin.remove t.paths whole }) (record u { paths = fin.remove u.paths whole }) (ap (λ (p : Paths). fin.remove p whole) paths) held
      (file_of (fin.get t.paths whole)) (file_of (fin.get u.paths whole)) (ap (λ (p : Paths). file_of (fin.get p whole)) paths)

  rename_drops : (from to : List ℕ) → dropped_part (rename_path t from to) (file_of (fin.get t.paths to)) ≡ dropped_part (rename_path u from to) (file_of (fin.get u.paths to))
  rename_drops from to = by (bytes_eq from to)
    where
      same : file_of (fin.get t.paths to) ≡ file_of (fin.get u.paths to)
      same = ap (λ (p : Paths). file_of (fin.get p to)) paths

      by : (b : Bool) → dropped_part (cond b t (forget (record t { paths = renamed t.paths from to }) (file_of (fin.get t.paths to)))) (file_of (fin.get t.paths to))
          ≡ dropped_part (cond b u (forget (record u { paths = renamed u.paths from to }) (file_of (fin.get u.paths to)))) (file_of (fin.get u.paths to))
      by true = drops_alike t u paths held (file_of (fin.get t.paths to)) ∙ ap (dropped_part u) same
      by false = gone_alike (record t { paths = renamed t.paths from to }) (record u { paths = renamed u.paths from to }) (ap (λ (p : Paths). renamed p from to) paths) held
          (file_of (fin.get t.paths to)) (file_of (fin.get u.paths to)) same

  open_refused : (path : List ℕ) (read write creat excl trunc append : Bool) → refusal t client (op.OpenFile path read write creat excl trunc append) ≡ refusal u client (op.OpenFile path read write creat excl trunc append)
  open_refused path read write creat excl trunc append = λ i. first_of (own_same t u client fds (op.OpenFile path read write creat excl trunc append) i)
      (first_of (walk_refusal (paths i) path) (open_refusal (mode_of_open read write creat excl trunc append) (node_at (paths i) path)))

  unlink_refused : (path : List ℕ) → refusal t client (op.Unlink path) ≡ refusal u client (op.Unlink path)
  unlink_refused path = λ i. first_of (own_same t u client fds (op.Unlink path) i) (first_of (walk_refusal (paths i) path) (unlink_refusal (node_at (paths i) path)))

  rename_refused : (from to : List ℕ) → refusal t client (op.Rename from to) ≡ refusal u client (op.Rename from to)
  rename_refused from to = λ i. first_of (own_same t u client fds (op.Rename from to) i) (rename_refusal (paths i) from to)

  -- all requests but a `sync`
  reach_same : (o : Op) → (o ≡ op.Sync) ⊎ (reached t client o ≡ reached u client o)
  reach_same (op.OpenFile path read write creat excl trunc append) =
      inr (λ i. part.Names ∷ (if is_some (open_refused path read write creat excl trunc append i) then [] else opened_part (next i) (is_some (node_at (paths i) path)) (file_of (node_at (paths i) path)) trunc))
  reach_same (op.Close fd) = inr (ap (λ (ps : List PartName). part.Names ∷ ps) (close_drops fd))
  reach_same (op.Read fd n) = inr (ap file_part (same_opened fd))
  reach_same (op.Write fd bytes) = inr (ap file_part (same_opened fd))
  reach_same (op.Pread fd n at) = inr (ap file_part (same_opened fd))
  reach_same (op.Pwrite fd bytes at) = inr (ap file_part (same_opened fd))
  reach_same (op.Seek fd whence.Set by) = inr refl
  reach_same (op.Seek fd whence.Cur by) = inr refl
  reach_same (op.Seek fd whence.End by) = inr (ap file_part (same_opened fd))
  reach_same (op.Trunc fd size) = inr (ap file_part (same_opened fd))
  reach_same (op.Fsync fd) = inr (ap open_part (same_opened fd))
  reach_same op.Sync = inl refl
  reach_same (op.Mkdir path) = inr refl
  reach_same (op.Rmdir path) = inr refl
  reach_same (op.Unlink path) = inr (λ i. part.Names ∷ (if is_some (unlink_refused path i) then [] else unlink_drops (whole_of path) i))
  reach_same (op.Rename from to) = inr (λ i. part.Names ∷ (if is_some (rename_refused from to i) then [] else rename_drops (whole_of from) (whole_of to) i))
  reach_same (op.Stat path) = inr (ap (λ (p : Paths). part.Names ∷ file_part (file_of (node_at p path))) paths)
  reach_same (op.List path) = inr refl

-- ---- each file

-- a part of some files is one of them,
listed_file : (fs : List ℕ) (p : PartName) → IsPartOf (map (λ f. part.File f) fs) p → (f : ℕ) × (p ≡ part.File f) × (list_any (eqb f) fs ≡ true)
listed_file [] p x = absurd x
listed_file (f ∷ fs) p (inl e) = (f, e, ap (λ b. b || list_any (eqb f) fs) (itself f))
listed_file (f ∷ fs) p (inr x) = let r = listed_file fs p x in (r.0, r.1, ap (λ b. eqb r.0 f || b) r.2 ∙ or_true (eqb r.0 f))
  where
    or_true : (b : Bool) → (b || true) ≡ true
    or_true true = refl
    or_true false = refl

-- and each of them is
pub file_listed : (f : ℕ) (fs : List ℕ) → list_any (eqb f) fs ≡ true → IsPartOf (map (λ f. part.File f) fs) (part.File f)
file_listed f [] e = cc
file_listed f (g ∷ fs) e = by (eqb f g) refl e (file_listed f fs)
  where
    by : (b : Bool) → eqb f g ≡ b → (b || list_any (eqb f) fs) ≡ true → (list_any (eqb f) fs ≡ true → IsPartOf (map (λ f. part.File f) fs) (part.File f)) → IsPartOf (map (λ f. part.File f) (g ∷ fs)) (part.File f)
    by true same e rest = inl (ap part.File (eqb-true f g same))
    by false other e rest = inr (rest e)

-- a `sync` touches each file that is there
pub sync_touches : (t : PosixTree) (client f : ℕ) → is_some (fin.get t.bytes f) ≡ true → IsPartOf (touched_parts t client op.Sync) (part.File f)
sync_touches t client f there = inr (inr (file_listed f (fin.keys t.bytes) (key_passes nat_cmp_total nat_cmp-IsAntisymmetric (eqb f) t.bytes f there (itself f))))

-- ---- what is touched

module _ (client : ℕ) (t u : PosixTree) (paths : t.paths ≡ u.paths) (next : t.next ≡ u.next) (fds : (fd : ℕ) → desc_at t client fd ≡ desc_at u client fd) (held : (c f : ℕ) → holds t.fds c f ≡ holds u.fds c f)
    (live : (f : ℕ) → is_some (fin.get t.bytes f) ≡ is_some (fin.get u.bytes f)) where
  sync_same : (p : PartName) → IsPartOf (touched_parts u client op.Sync) p → IsPartOf (touched_parts t client op.Sync) p
  sync_same p (inl e) = inl e
  sync_same p (inr (inl e)) = inr (inl e)
  sync_same p (inr (inr x)) =
      let r = listed_file (fin.keys u.bytes) p x in
      let there = passing_key nat_cmp_total nat_cmp-IsAntisymmetric (eqb r.0) u.bytes r.2 in
      let here : is_some (fin.get u.bytes r.0) ≡ true = ap (λ (f : ℕ). is_some (fin.get u.bytes f)) (eqb-true r.0 there.0 there.2) ∙ there.1 in
      subst (IsPartOf (touched_parts t client op.Sync)) (sym r.1) (sync_touches t client r.0 (live r.0 ∙ here))

  pub touch_same : (o : Op) (p : PartName) → IsPartOf (touched_parts u client o) p → IsPartOf (touched_parts t client o) p
  touch_same o p x = ⊎_elim
      (λ (sync : o ≡ op.Sync). subst (λ (r : Op). IsPartOf (touched_parts t client r) p) (sym sync) (sync_same p (subst (λ (r : Op). IsPartOf (touched_parts u client r) p) sync x)))
      (λ (same : reached t client o ≡ reached u client o). subst (λ (ps : List PartName). IsPartOf ps p)
      (λ i. part.Client client ∷ (if is_some (sym (own_same t u client fds o) i) then [] else sym same i)) x)
      (reach_same client t u paths next fds held o)
