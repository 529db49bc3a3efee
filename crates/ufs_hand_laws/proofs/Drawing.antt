-- One more entry, drawn on the parts that a hand has: the history stays legal, and the parts are those of its tree.
use Rattle.std.proofs.Common.{◌≡◌, ℕ, Bool, true, false, cond, not, List, [], ◌∷◌, map, Option, Some, None, is_some, refl, ◌∙◌, inl, inr, arith}
use Rattle.std.specs.List.{AllByRecursion}
use Rattle.std.specs.FinMap as fin
use Rattle.ufs_model.specs.PosixTree.{PosixTree, is_live}
use Rattle.ufs_model.specs.Posix.{change}
use Rattle.ufs_model.specs.Walk.{node_at, file_of}
use Rattle.ufs_model.specs.Refusals.{refusal}
use Rattle.ufs_model.specs.Descriptors.{opened}
use Rattle.ufs_model.specs.History.{share_fault, is_excused}
use Rattle.ufs_model.specs.Touched.{touched_parts, reached, IsPartOf, file_part, open_part, dropped_part, opened_part}
use Rattle.ufs_model.specs.declared.data.Op.{Op}
use Rattle.ufs_model.specs.declared.data.Op.TheVariants as op
use Rattle.ufs_model.specs.declared.data.Whence.TheVariants as whence
use Rattle.ufs_model.specs.declared.data.Entry.{Entry}
use Rattle.ufs_model.specs.declared.data.Excuse.{Excuse}
use Rattle.ufs_model.specs.declared.data.Excuse.TheVariants as excuse
use Rattle.ufs_model.specs.declared.data.Reply.{Reply}
use Rattle.ufs_model.specs.declared.data.Reply.TheVariants as reply
use Rattle.ufs_model.specs.declared.data.PartName.{PartName}
use Rattle.ufs_model.specs.declared.data.PartName.TheVariants as part
use Rattle.ufs_hand_laws.specs.Owned.{one}
use Rattle.ufs_hand_laws.specs.FaultsOnce.{told, tells}

-- ---- a request touches no other client

no_file : (o : Option ℕ) (c : ℕ) → IsPartOf (file_part o) (part.Client c) → ⊥
no_file None c e = e
no_file (Some f) c (inl e) = cc
no_file (Some f) c (inr e) = e

no_open : (o : Option ℕ) (c : ℕ) → IsPartOf (open_part o) (part.Client c) → ⊥
no_open None c (inl e) = cc
no_open None c (inr e) = e
no_open (Some f) c (inl e) = cc
no_open (Some f) c (inr e) = e

no_file_if : (b : Bool) (f c : ℕ) → IsPartOf (cond b [] (part.File f ∷ [])) (part.Client c) → ⊥
no_file_if true f c e = e
no_file_if false f c (inl e) = cc
no_file_if false f c (inr e) = e

no_dropped : (t : PosixTree) (o : Option ℕ) (c : ℕ) → IsPartOf (dropped_part t o) (part.Client c) → ⊥
no_dropped t None c e = e
no_dropped t (Some f) c e = no_file_if (is_live t.paths t.fds f) f c e

no_opened : (next : ℕ) (b : Bool) (o : Option ℕ) (trunc : Bool) (c : ℕ) → IsPartOf (opened_part next b o trunc) (part.Client c) → ⊥
no_opened next b None trunc c e = no_file_if b next c e
no_opened next b (Some f) true c (inl e) = cc
no_opened next b (Some f) true c (inr e) = e
no_opened next b (Some f) false c e = e

no_if : (b : Bool) (ps : List PartName) (c : ℕ) → (IsPartOf ps (part.Client c) → ⊥) → IsPartOf (cond b [] ps) (part.Client c) → ⊥
no_if true ps c n e = e
no_if false ps c n e = n e

no_files : (fs : List ℕ) (c : ℕ) → IsPartOf (map (λ f. part.File f) fs) (part.Client c) → ⊥
no_files [] c e = e
no_files (f ∷ fs) c (inl e) = cc
no_files (f ∷ fs) c (inr e) = no_files fs c e

no_more : (ps : List PartName) (c : ℕ) → (IsPartOf ps (part.Client c) → ⊥) → IsPartOf (part.Names ∷ ps) (part.Client c) → ⊥
no_more ps c n (inl e) = cc
no_more ps c n (inr e) = n e

pub no_client : (t : PosixTree) (client : ℕ) (o : Op) (c : ℕ) → IsPartOf (reached t client o) (part.Client c) → ⊥
no_client t client (op.OpenFile path read write creat excl trunc append) c = no_more _ c (no_if (is_some (refusal t client (op.OpenFile path read write creat excl trunc append))) _ c (no_opened t.next (is_some (node_at t.paths path)) (file_of (node_at t.paths path)) trunc c))
no_client t client (op.Close fd) c = no_more _ c (no_dropped (change t client (op.Close fd)) (opened t client fd).file c)
no_client t client (op.Read fd n) c = no_file (opened t client fd).file c
no_client t client (op.Write fd fresh) c = no_file (opened t client fd).file c
no_client t client (op.Pread fd n at) c = no_file (opened t client fd).file c
no_client t client (op.Pwrite fd fresh at) c = no_file (opened t client fd).file c
no_client t client (op.Seek fd whence.Set by) c = λ e. e
no_client t client (op.Seek fd whence.Cur by) c = λ e. e
no_client t client (op.Seek fd whence.End by) c = no_file (opened t client fd).file c
no_client t client (op.Trunc fd size) c = no_file (opened t client fd).file c
no_client t client (op.Fsync fd) c = no_open (opened t client fd).file c
no_client t client op.Sync c = no_more _ c (no_files (fin.keys t.bytes) c)
no_client t client (op.Mkdir path) c = no_more [] c (λ e. e)
no_client t client (op.Rmdir path) c = no_more [] c (λ e. e)
no_client t client (op.Unlink path) c = no_more _ c (no_if (is_some (refusal t client (op.Unlink path))) _ c (no_dropped (change t client (op.Unlink path)) (file_of (fin.get t.paths _)) c))
no_client t client (op.Rename from to) c = no_more _ c (no_if (is_some (refusal t client (op.Rename from to))) _ c (no_dropped (change t client (op.Rename from to)) (file_of (fin.get t.paths _)) c))
no_client t client (op.Stat path) c = no_more _ c (no_file (file_of (node_at t.paths path)) c)
no_client t client (op.List path) c = no_more [] c (λ e. e)

pub touches_own : (t : PosixTree) (client : ℕ) (o : Op) (c : ℕ) → IsPartOf (touched_parts t client o) (part.Client c) → c ≡ client
touches_own t client o c (inl e) = cc
touches_own t client o c (inr e) = absurd (by (is_some (Rattle.ufs_model.specs.Refusals.own_refusal t client o)) e)
  where
    by : (b : Bool) → IsPartOf (cond b [] (reached t client o)) (part.Client c) → ⊥
    by true e = e
    by false e = no_client t client o c e

-- ---- faults

shares : (r : Reply) (n : ℕ) → share_fault r (reply.Excused (excuse.Device n)) ≡ tells n r
shares (reply.Excused (excuse.Device a)) n = refl
shares (reply.Excused _) n = refl
shares _ n = refl

untold : (n : ℕ) (h : List Entry) → told n h ≡ 0 → AllByRecursion (λ x. share_fault x.reply (reply.Excused (excuse.Device n)) ≡ false) h
untold n [] z = tt
untold n (x ∷ h) z = (shares x.reply n ∙ by (tells n x.reply) (omega arith), untold n h (omega arith))
  where
    by : (b : Bool) → one b ≡ 0 → b ≡ false
    by true e = absurd (omega arith)
    by false e = refl

none_shared : (r : Reply) (h : List Entry) → ((x : Reply) → share_fault x r ≡ false) → AllByRecursion (λ (x : Entry). share_fault x.reply r ≡ false) h
none_shared r [] n = tt
none_shared r (x ∷ h) n = (n x.reply, none_shared r h n)

excused_shares : (x : Excuse) → ((n : ℕ) → x ≡ excuse.Device n → ⊥) → (r : Reply) → share_fault r (reply.Excused x) ≡ false
excused_shares (excuse.Device n) not r = absurd (not n refl)
excused_shares excuse.Memory not (reply.Excused (excuse.Device a)) = refl
excused_shares excuse.Memory not (reply.Excused _) = refl
excused_shares excuse.Memory not _ = refl
excused_shares (excuse.Stopped n) not (reply.Excused (excuse.Device a)) = refl
excused_shares (excuse.Stopped n) not (reply.Excused _) = refl
excused_shares (excuse.Stopped n) not _ = refl
excused_shares (excuse.Blocks n m) not (reply.Excused (excuse.Device a)) = refl
excused_shares (excuse.Blocks n m) not (reply.Excused _) = refl
excused_shares (excuse.Blocks n m) not _ = refl
excused_shares excuse.Inodes not (reply.Excused (excuse.Device a)) = refl
excused_shares excuse.Inodes not (reply.Excused _) = refl
excused_shares excuse.Inodes not _ = refl
excused_shares (excuse.Extents n) not (reply.Excused (excuse.Device a)) = refl
excused_shares (excuse.Extents n) not (reply.Excused _) = refl
excused_shares (excuse.Extents n) not _ = refl

unshared : (r : Reply) → is_excused r ≡ false → (x : Reply) → share_fault x r ≡ false
unshared (reply.Excused y) e x = cc
unshared _ e (reply.Excused (excuse.Device a)) = refl
unshared _ e (reply.Excused _) = refl
unshared _ e _ = refl

pub tells_new : (r : Reply) (h : List Entry) → ((n : ℕ) → r ≡ reply.Excused (excuse.Device n) → told n h ≡ 0) → AllByRecursion (λ (x : Entry). share_fault x.reply r ≡ false) h
tells_new (reply.Excused (excuse.Device n)) h z = untold n h (z n refl)
tells_new (reply.Excused excuse.Memory) h z = none_shared (reply.Excused excuse.Memory) h (excused_shares excuse.Memory (λ n e. cc))
tells_new (reply.Excused (excuse.Stopped n)) h z = none_shared (reply.Excused (excuse.Stopped n)) h (excused_shares (excuse.Stopped n) (λ n e. cc))
tells_new (reply.Excused (excuse.Blocks n m)) h z = none_shared (reply.Excused (excuse.Blocks n m)) h (excused_shares (excuse.Blocks n m) (λ n e. cc))
tells_new (reply.Excused excuse.Inodes) h z = none_shared (reply.Excused excuse.Inodes) h (excused_shares excuse.Inodes (λ n e. cc))
tells_new (reply.Excused (excuse.Extents n)) h z = none_shared (reply.Excused (excuse.Extents n)) h (excused_shares (excuse.Extents n) (λ n e. cc))
tells_new reply.Done h z = none_shared reply.Done h (unshared reply.Done refl)
tells_new (reply.Fd n) h z = none_shared (reply.Fd n) h (unshared (reply.Fd n) refl)
tells_new (reply.Count n) h z = none_shared (reply.Count n) h (unshared (reply.Count n) refl)
tells_new (reply.At n) h z = none_shared (reply.At n) h (unshared (reply.At n) refl)
tells_new (reply.Got n) h z = none_shared (reply.Got n) h (unshared (reply.Got n) refl)
tells_new (reply.IsFile n) h z = none_shared (reply.IsFile n) h (unshared (reply.IsFile n) refl)
tells_new (reply.IsDir n) h z = none_shared (reply.IsDir n) h (unshared (reply.IsDir n) refl)
tells_new (reply.Names n) h z = none_shared (reply.Names n) h (unshared (reply.Names n) refl)
tells_new (reply.Refused n) h z = none_shared (reply.Refused n) h (unshared (reply.Refused n) refl)
