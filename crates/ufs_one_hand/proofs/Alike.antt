-- A request of a client goes alike in each tree that has the parts of a session's hand: such trees may differ in the bytes of
-- files that the hand hasn't.
use Rattle.std.proofs.Common.{◌≡◌, ℕ, ◌-◌, ◌≤◌, ◌<◌, ◌⊎◌, true, false, cond, List, ◌∷◌, Option, Some, None, ap, sym, refl, ◌∙◌, subst, inl, inr, ⊎_elim, [], arith, length, eqb, ◌&&◌}
use Rattle.std.specs.Prelude.{is_some, is_none, unwrap_or, if◌then◌else◌, ◌%◌, ◌==◌}
use Rattle.std.specs.FinMap as fin
use Rattle.ufs_base.specs.Choices.{first_of}
use Rattle.ufs_base.specs.declared.limits.TheConstants.{MAX_CLIENTS}
use Rattle.ufs_base.specs.declared.sizes.TheConstants.{SLOTS_PER_BLOCK}
use Rattle.ufs_model.specs.PosixTree.{PosixTree, Paths, IsTree, desc_at, is_number}
use Rattle.ufs_model.specs.Walk.{node_at}
use Rattle.ufs_model.specs.Directories.{entry_count}
use Rattle.ufs_model.specs.Descriptors.{opened, closed}
use Rattle.ufs_model.specs.FileBytes.{place_of, size_after}
use Rattle.ufs_model.specs.Refusals.{own_refusal, tree_refusal}
use Rattle.ufs_model.specs.Posix.{posix}
use Rattle.ufs_model.specs.Touched.{holds, IsSamePart, IsPartOf, reached, touched_parts}
use Rattle.ufs_model.specs.Laws.{AgreeOn, IsLocal, Locality}
use Rattle.ufs_model.specs.History.{IsReplyTo, IsExcused, goes_on, is_excused, tree_after}
use Rattle.ufs_model.specs.Excuses.{ExcuseFits, IsExcuseOf, adds_name, is_memory, makes_node, may_be_full, grown_dir, new_size, old_size, blocks_of, needed}
use Rattle.ufs_model.specs.declared.data.Desc.{Desc}
use Rattle.ufs_model.specs.declared.data.Entry.{Entry}
use Rattle.ufs_model.specs.declared.data.Errno.{Errno}
use Rattle.ufs_model.specs.declared.data.Excuse.{Excuse}
use Rattle.ufs_model.specs.declared.data.Excuse.TheVariants as excuse
use Rattle.ufs_model.specs.declared.data.Op.{Op}
use Rattle.ufs_model.specs.declared.data.Op.TheVariants as op
use Rattle.ufs_model.specs.declared.data.PartName.{PartName}
use Rattle.ufs_model.specs.declared.data.PartName.TheVariants as part
use Rattle.ufs_model.specs.declared.data.Reply.{Reply}
use Rattle.ufs_model.specs.declared.data.Reply.TheVariants as reply
use Rattle.ufs_model.proofs.AlikeLemmas.{live_alike}
use Rattle.ufs_model.proofs.Facts.Allowed.{first_none}
use Rattle.ufs_model.proofs.ToldLemmas.{bytes_same, own_same, tree_same}
use Rattle.ufs_crash_laws.specs.Changes.{asks_dir_fsync, asks_fsync, change_of, names_by}
use Rattle.ufs_crash_laws.proofs.Facts.Kinds.{unserved_names, unserved_stays}
use Rattle.ufs_crash_laws.proofs.Facts.Local.{file_alike, file_untouched, names_alike}
use Rattle.ufs_hand_laws.specs.Covers.{step_in}
use Rattle.ufs_hand_laws.specs.Draws.{IsIn}
use Rattle.ufs_hand_laws.specs.Owned.{Has, count}
use Rattle.ufs_hand_laws.specs.Parts.{NamesPart, View, Start, is_holder}
use Rattle.ufs_hand_laws.proofs.Owning.{has_count}
use Rattle.ufs_hand_laws.proofs.Keys.{itself, alike}
use Rattle.ufs_hand_laws.proofs.Covering.{excused_or, excused_unserved, tree_served, tree_stays}
use Rattle.ufs_hand_laws.proofs.Drawing.{touches_own}
use Rattle.ufs_hand_laws.proofs.Draw.Setting.{file_or, names_or}
use Rattle.ufs_one_hand.specs.OneHand.{HasSession}
use Rattle.ufs_one_hand.proofs.Reached.{touch_same}
use Rattle.ufs_one_hand.proofs.Started.{one_client}

-- The hand has the file, or it isn't there.
abbrev pub IsMine : PosixTree → View → ℕ → Type 0
IsMine t v f = (1 ≤ count eqb f v.files) ⊎ (is_some (fin.get t.bytes f) ≡ false)

-- Trees in which a hand's parts stand are alike in all that a request of its client reads: in the bytes of these files too.
pub record AreAlike (mine : ℕ → Type 0) (client : ℕ) (t u : PosixTree) : Type 0 where
  pub paths : t.paths ≡ u.paths
  pub next : t.next ≡ u.next
  pub live : (f : ℕ) → is_some (fin.get t.bytes f) ≡ is_some (fin.get u.bytes f)
  pub bytes : (f : ℕ) → mine f → fin.get t.bytes f ≡ fin.get u.bytes f
  pub fds : (fd : ℕ) → desc_at t client fd ≡ desc_at u client fd
  pub holds : (c f : ℕ) → holds t.fds c f ≡ holds u.fds c f

-- ---- what is asked to last

module _ (mine : ℕ → Type 0) (client : ℕ) (t u : PosixTree) (same : AreAlike mine client t u) where
  pub alike_fsync : (g : ℕ) (o : Op) → asks_fsync g u client o ≡ asks_fsync g t client o
  alike_fsync g (op.Fsync fd) = ap (λ (d : Option Desc). is_number g (unwrap_or d closed).file) (sym (same.fds fd))
  alike_fsync g _ = refl

  pub alike_dir : (o : Op) → asks_dir_fsync u client o ≡ asks_dir_fsync t client o
  alike_dir (op.Fsync fd) = ap (λ (d : Option Desc). is_none (unwrap_or d closed).file) (sym (same.fds fd))
  alike_dir _ = refl

-- ---- the trees of a session

module _ (k : Start) (h : List Entry) (asked : Option (ℕ × Op)) (v : View) (s : HasSession k h asked v) where
  abbrev now : PosixTree
  now = tree_after k.tree h

  pub names_there : Has (tt, s.names) v.names
  names_there = subst (Has {A = Unit {0} × NamesPart} (tt, s.names)) (sym s.has_names) (inl refl)

  pub names_are : (u : Unit {0}) (n : NamesPart) → Has (u, n) v.names → n ≡ s.names
  names_are u n x = ⊎_elim (λ (e : (u, n) ≡ (tt, s.names)). ap (λ (z : Unit {0} × NamesPart). z.1) e) (λ e. absurd e)
      (subst (Has {A = Unit {0} × NamesPart} (u, n)) s.has_names x)

  -- the tree after the history has the hand's parts
  pub session_in : IsIn v now
  session_in = record {
    clients = λ c p x. (s.clients c p x).fds;
    files = λ f p x. (s.files f p x).bytes;
    paths = λ u n x. ap (λ (n : NamesPart). n.paths) (names_are u n x) ∙ s.names_at.paths;
    next = λ u n x. ap (λ (n : NamesPart). n.next) (names_are u n x) ∙ s.names_at.next;
    holds = λ u n x c f. ap (λ (n : NamesPart). is_holder n.holds c f) (names_are u n x) ∙ s.names_at.holds c f;
  }

  module _ (client : ℕ) (low : client < MAX_CLIENTS) (t : PosixTree) (is : IsTree t) (within : IsIn v t) where
    same_paths : now.paths ≡ t.paths
    same_paths = sym s.names_at.paths ∙ within.paths tt s.names names_there

    same_holds : (c f : ℕ) → holds now.fds c f ≡ holds t.fds c f
    same_holds c f = sym (s.names_at.holds c f) ∙ within.holds tt s.names names_there c f

    same_fds : (fd : ℕ) → desc_at now client fd ≡ desc_at t client fd
    same_fds fd =
        let c = one_client k h asked v s client low in
        let x = has_count eqb itself alike client v.clients (omega arith) in
        sym ((s.clients client x.0 x.1).fds fd) ∙ within.clients client x.0 x.1 fd

    same_live : (f : ℕ) → is_some (fin.get now.bytes f) ≡ is_some (fin.get t.bytes f)
    same_live f = s.tree.live f ∙ live_alike now.paths t.paths now.fds t.fds f same_paths (λ c. same_holds c f) ∙ sym (is.live f)

    -- a file that isn't there has the same bytes in both: none
    none_there : (f : ℕ) → is_some (fin.get now.bytes f) ≡ false → fin.get now.bytes f ≡ fin.get t.bytes f
    none_there f gone = none (fin.get now.bytes f) gone ∙ sym (none (fin.get t.bytes f) (sym (same_live f) ∙ gone))
      where
        none : (o : Option (List ℕ)) → is_some o ≡ false → o ≡ None
        none None e = refl
        none (Some b) e = cc

    same_bytes : (f : ℕ) → IsMine now v f → fin.get now.bytes f ≡ fin.get t.bytes f
    same_bytes f (inl has) = let x = has_count eqb itself alike f v.files has in (s.files f x.0 x.1).bytes ∙ sym (within.files f x.0 x.1)
    same_bytes f (inr gone) = none_there f gone

    all_alike : AreAlike (IsMine now v) client now t
    all_alike = record {
      paths = same_paths;
      next = sym s.names_at.next ∙ within.next tt s.names names_there;
      live = same_live;
      bytes = same_bytes;
      fds = same_fds;
      holds = same_holds;
    }

-- and each tree that has them is like it
pub session_alike : (k : Start) (h : List Entry) (asked : Option (ℕ × Op)) (v : View) (client : ℕ) → client < MAX_CLIENTS → HasSession k h asked v → (t : PosixTree) → IsTree t → IsIn v t → AreAlike (IsMine (tree_after k.tree h) v) client (tree_after k.tree h) t
session_alike k h asked v client low s t is within = all_alike k h asked v s client low t is within

-- ---- alike trees agree

-- a part is the same as itself
pub same_self : (p : PartName) (t : PosixTree) → IsSamePart p t t
same_self (part.Client c) t = λ fd. refl
same_self (part.Asked c) t = tt
same_self (part.File f) t = refl
same_self part.Names t = (refl, refl, λ c f. refl)
same_self part.Store t = tt

-- the reply is an excuse for want of memory, or another
memory_or : (r : Reply) → (r ≡ reply.Excused excuse.Memory) ⊎ (r ≡ reply.Excused excuse.Memory → ⊥)
memory_or (reply.Excused excuse.Memory) = inl refl
memory_or (reply.Excused _) = inr (λ e. cc)
memory_or _ = inr (λ e. cc)

module _ (mine : ℕ → Type 0) (client : ℕ) (t u : PosixTree) (a : AreAlike mine client t u) where
  -- a part that is touched in one is in the other
  touched_both : (request : Op) (p : PartName) → IsPartOf (touched_parts u client request) p → IsPartOf (touched_parts t client request) p
  touched_both = touch_same client t u a.paths a.next a.fds a.holds a.live

  module _ (request : Op) (reach : (f : ℕ) → IsPartOf (touched_parts t client request) (part.File f) → mine f) where
    -- on what is touched, where these files are among it alone
    agree_touched : AgreeOn (touched_parts t client request) t u
    agree_touched (part.Client c) at = subst (λ c. IsSamePart (part.Client c) t u) (sym (touches_own t client request c at)) a.fds
    agree_touched (part.Asked c) at = tt
    agree_touched (part.File f) at = a.bytes f (reach f at)
    agree_touched part.Names at = (a.paths, a.next, a.holds)
    agree_touched part.Store at = tt

    -- so on what is reached, where the client doesn't refuse it
    agree_reached : own_refusal t client request ≡ None → AgreeOn (part.Client client ∷ reached t client request) t u
    agree_reached own = subst (λ (o : Option Errno). AgreeOn (part.Client client ∷ cond (is_some o) [] (reached t client request)) t u) own agree_touched

  -- ---- excuses

  same_opened : (fd : ℕ) → opened t client fd ≡ opened u client fd
  same_opened fd = ap (λ (o : Option Desc). unwrap_or o closed) (a.fds fd)

  same_makes : (request : Op) → makes_node t request ≡ makes_node u request
  same_makes (op.OpenFile path read write creat excl trunc append) = ap (λ (p : Paths). creat && is_none (node_at p path)) a.paths
  same_makes _ = refl

  same_adds : (request : Op) → adds_name t request ≡ adds_name u request
  same_adds (op.OpenFile path read write creat excl trunc append) = ap (λ (p : Paths). creat && is_none (node_at p path)) a.paths
  same_adds (op.Rename from to) = ap (λ (p : Paths). is_none (node_at p to)) a.paths
  same_adds _ = refl

  same_old : (request : Op) → AgreeOn (part.Client client ∷ reached t client request) t u → old_size t client request ≡ old_size u client request
  same_old (op.Write fd data') agree = ap length (bytes_same t u client fd agree)
  same_old (op.Pwrite fd data' at) agree = ap length (bytes_same t u client fd agree)
  same_old (op.Trunc fd size) agree = ap length (bytes_same t u client fd agree)
  same_old _ agree = refl

  same_new : (request : Op) → AgreeOn (part.Client client ∷ reached t client request) t u → (size : ℕ) → new_size t client request size ≡ new_size u client request size
  same_new (op.Write fd data') agree size = λ i. size_after size (place_of (same_opened fd i) (bytes_same t u client fd agree i)) (length data')
  same_new (op.Pwrite fd data' at) agree size = refl
  same_new (op.Trunc fd size') agree size = refl
  same_new _ agree size = refl

  module _ (request : Op) (agree : AgreeOn (part.Client client ∷ reached t client request) t u) where
    same_needed : needed t client request ≡ needed u client request
    same_needed = λ i.
        if same_adds request i then (if same_full i then 1 else 0)
        else blocks_of (both i) - blocks_of (same_old request agree i)
      where
        same_full : may_be_full t (grown_dir request) ≡ may_be_full u (grown_dir request)
        same_full = ap (λ (p : Paths). entry_count p (grown_dir request) % SLOTS_PER_BLOCK == 0) a.paths

        both : new_size t client request (old_size t client request) ≡ new_size u client request (old_size u client request)
        both = same_new request agree (old_size t client request) ∙ ap (new_size u client request) (same_old request agree)

    same_told : (x : Excuse) → IsExcuseOf t client request x → IsExcuseOf u client request x
    same_told excuse.Memory x = x
    same_told (excuse.Device fault) x = x
    same_told (excuse.Stopped fault) x = x
    same_told (excuse.Blocks need had) x = (x.0 ∙ same_needed, x.1)
    same_told excuse.Inodes x = sym (same_makes request) ∙ x
    same_told (excuse.Extents need) x = let e = same_needed in (x.0, omega arith)

  module _ (request : Op) (reach : (f : ℕ) → IsPartOf (touched_parts t client request) (part.File f) → mine f) where
    -- an excuse other than memory: the request isn't refused
    fits_alike : (x : Excuse) → is_memory x ≡ false → ExcuseFits t client request x → ExcuseFits u client request x
    fits_alike x other fits =
        let passed = fits.due other in
        let own = (first_none (own_refusal t client request) (tree_refusal t client request) passed).0 in
        let agree = agree_reached request reach own in
        record { due = λ e. (λ i. first_of (sym (own_same t u client a.fds request) i) (sym (tree_same t u client request agree) i)) ∙ passed; told = same_told request agree x fits.told }

  -- want of memory excuses any request
  memory_fits : (request : Op) → ExcuseFits u client request excuse.Memory
  memory_fits request = record { due = λ (e : true ≡ false). cc; told = tt }

  excused_alike : (request : Op) (r : Reply) → (r ≡ reply.Excused excuse.Memory → ⊥) → ((f : ℕ) → IsPartOf (touched_parts t client request) (part.File f) → mine f) → IsExcused t client request r → IsExcused u client request r
  excused_alike request (reply.Excused excuse.Memory) other reach fits = absurd (other refl)
  excused_alike request (reply.Excused x) other reach fits = fits_alike request reach x refl fits
  excused_alike request _ other reach fits = absurd fits

-- ---- an entry is answered in one as in the other, and leaves them alike

-- The request touches these files alone, of those that are there, but where want of memory excuses it.
abbrev pub TouchesMine : (ℕ → Type 0) → PosixTree → Entry → Type 0
TouchesMine mine t e = (e.reply ≡ reply.Excused excuse.Memory → ⊥) → (f : ℕ) → IsPartOf (touched_parts t e.client e.op) (part.File f) → mine f

module _ (local : Locality) (mine : ℕ → Type 0) (t u : PosixTree) (e : Entry) (is : IsTree t) (is' : IsTree u) (a : AreAlike mine e.client t u) (replied : IsReplyTo t e) (reach : TouchesMine mine t e) where
  agree_when : (e.reply ≡ reply.Excused excuse.Memory → ⊥) → AgreeOn (touched_parts t e.client e.op) t u
  agree_when other = agree_touched mine e.client t u a e.op (reach other)

  pub alike_reply : IsReplyTo u e
  alike_reply = ⊎_elim
      (λ memory. inr (subst (IsExcused u e.client e.op) (sym memory) (memory_fits mine e.client t u a e.op)))
      (λ other. ⊎_elim
      (λ x. inl (x ∙ (local t u e.client e.op is is' (agree_when other)).reply))
      (λ x. inr (excused_alike mine e.client t u a e.op e.reply other (reach other) x)) replied)
      (memory_or e.reply)

  abbrev after : PosixTree → PosixTree
  after t = (posix t e.client e.op).0

  module _ (other : e.reply ≡ reply.Excused excuse.Memory → ⊥) where
    there : IsLocal t u e.client e.op
    there = local t u e.client e.op is is' (agree_when other)

    -- what isn't touched stays in both
    stays_there : (p : PartName) → (IsPartOf (touched_parts t e.client e.op) p → ⊥) → IsSamePart p u (after u)
    stays_there p not = (local u u e.client e.op is' is' (λ q _. same_self q u)).others p (λ x. not (touched_both mine e.client t u a e.op p x))

    same_names : IsSamePart part.Names (after t) (after u)
    same_names = ⊎_elim (λ x. there.touched part.Names x)
        (λ not.
        let x = there.others part.Names not in
        let y = stays_there part.Names not in
        (sym x.0 ∙ a.paths ∙ y.0, sym x.1 ∙ a.next ∙ y.1, λ c f. sym (x.2 c f) ∙ a.holds c f ∙ y.2 c f))
        (names_or (touched_parts t e.client e.op))

    same_file : (f : ℕ) → mine f → fin.get (after t).bytes f ≡ fin.get (after u).bytes f
    same_file f own = ⊎_elim (λ x. there.touched (part.File f) x)
        (λ not. sym (there.others (part.File f) not) ∙ a.bytes f own ∙ stays_there (part.File f) not)
        (file_or (touched_parts t e.client e.op) f)

    still_live : (f : ℕ) → is_some (fin.get (after t).bytes f) ≡ is_some (fin.get (after u).bytes f)
    still_live f = ⊎_elim (λ x. ap is_some (there.touched (part.File f) x))
        (λ not. ap is_some (sym (there.others (part.File f) not)) ∙ a.live f ∙ ap is_some (stays_there (part.File f) not))
        (file_or (touched_parts t e.client e.op) f)

    served_alike : AreAlike mine e.client (after t) (after u)
    served_alike = record { paths = same_names.0; next = same_names.1; live = still_live; bytes = same_file; fds = there.touched (part.Client e.client) (inl refl); holds = same_names.2 }

  pub alike_after : AreAlike mine e.client (goes_on t e) (goes_on u e)
  alike_after = ⊎_elim
      (λ x. subst (λ (p : PosixTree × PosixTree). AreAlike mine e.client p.0 p.1) (λ i. (sym (tree_stays t e.client e.op e.reply x) i, sym (tree_stays u e.client e.op e.reply x) i)) a)
      (λ x. subst (λ (p : PosixTree × PosixTree). AreAlike mine e.client p.0 p.1) (λ i. (sym (tree_served t e.client e.op e.reply x) i, sym (tree_served u e.client e.op e.reply x) i)) (served_alike (served_other x)))
      (excused_or e.reply)
    where
      served_other : is_excused e.reply ≡ false → e.reply ≡ reply.Excused excuse.Memory → ⊥
      served_other x memory = let no : is_excused e.reply ≡ true = ap is_excused memory in cc

  pub alike_file_changes : (f : ℕ) → change_of f (step_in t e) ≡ change_of f (step_in u e)
  alike_file_changes f = ⊎_elim
      (λ memory. unserved_stays (step_in t e) f (excused_unserved e.reply (ap is_excused memory)) ∙ sym (unserved_stays (step_in u e) f (excused_unserved e.reply (ap is_excused memory))))
      (λ other. file_alike t u e replied (agree_when other) f)
      (memory_or e.reply)

  pub alike_name_changes : names_by (step_in t e) ≡ names_by (step_in u e)
  alike_name_changes = ⊎_elim
      (λ memory. unserved_names (step_in t e) (excused_unserved e.reply (ap is_excused memory)) ∙ sym (unserved_names (step_in u e) (excused_unserved e.reply (ap is_excused memory))))
      (λ other. names_alike local t u is is' e replied (agree_when other))
      (memory_or e.reply)

  -- a part that is touched in the one is in the other
  pub alike_touched : (p : PartName) → IsPartOf (touched_parts u e.client e.op) p → IsPartOf (touched_parts t e.client e.op) p
  alike_touched = touched_both mine e.client t u a e.op

-- ---- a file that an entry doesn't touch

module _ (local : Locality) (t : PosixTree) (e : Entry) (is : IsTree t) (replied : IsReplyTo t e) where
  -- it stays, and has no change
  pub untouched : (f : ℕ) → ((e.reply ≡ reply.Excused excuse.Memory → ⊥) → IsPartOf (touched_parts t e.client e.op) (part.File f) → ⊥)
      → (fin.get t.bytes f ≡ fin.get (goes_on t e).bytes f) × (change_of f (step_in t e) ≡ [])
  untouched f not = ⊎_elim
      (λ x. (ap (λ (u : PosixTree). fin.get u.bytes f) (sym (tree_stays t e.client e.op e.reply x)), unserved_stays (step_in t e) f (excused_unserved e.reply x)))
      (λ x. let out = not (λ memory. let no : is_excused e.reply ≡ true = ap is_excused memory in cc) in (
        (local t t e.client e.op is is (λ q _. same_self q t)).others (part.File f) out ∙ ap (λ (u : PosixTree). fin.get u.bytes f) (sym (tree_served t e.client e.op e.reply x)),
        file_untouched t e replied f out,
      ))
      (excused_or e.reply)
