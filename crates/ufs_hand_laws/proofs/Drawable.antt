-- The condition of a draw is met: by a request that lacks memory, and by a read of a held file.
use Rattle.std.proofs.Common.{◌≡◌, ℕ, ◌<◌, ◌≤◌, ◌⊎◌, Bool, true, false, cond, eqb, List, [], ◌∷◌, ◌++◌, length, Option, Some, None, is_some, is_none, not, unwrap_or, ◌||◌, sym, refl, ap, ◌∙◌, subst, inl, inr, ⊎_elim, arith, append-nil}
use Rattle.std.specs.Prelude.{slice_get}
use Rattle.std.specs.FinMap as fin
use native.Mathlib.Decide.{dec_le}
use Rattle.ufs_model.specs.PosixTree.{PosixTree, IsTree, desc_at, is_number}
use Rattle.ufs_model.specs.Posix.{served}
use Rattle.ufs_model.specs.Refusals.{refusal, read_refusal}
use Rattle.ufs_model.specs.Descriptors.{opened, closed}
use Rattle.ufs_model.specs.FileBytes.{content, part}
use Rattle.ufs_model.specs.History.{goes_on, is_excused, IsReplyTo}
use Rattle.ufs_model.specs.Touched.{touched_parts, IsPartOf}
use Rattle.ufs_model.specs.declared.data.Desc.{Desc}
use Rattle.ufs_model.specs.declared.data.Errno.{Errno}
use Rattle.ufs_model.specs.declared.data.Errno.TheVariants as errno
use Rattle.ufs_model.specs.declared.data.Lease.{Lease}
use Rattle.ufs_model.specs.declared.data.Op.{Op}
use Rattle.ufs_model.specs.declared.data.Op.TheVariants as op
use Rattle.ufs_model.specs.declared.data.Actor.{Actor}
use Rattle.ufs_model.specs.declared.data.Excuse.TheVariants as excuse
use Rattle.ufs_model.specs.declared.data.Reply.TheVariants as reply
use Rattle.ufs_model.specs.declared.data.PartName.{PartName}
use Rattle.ufs_model.specs.declared.data.PartName.TheVariants as part'
use Rattle.ufs_hand_laws.specs.declared.fresh.Fresh.{Fresh}
use Rattle.ufs_hand_laws.specs.Owned.{one, Has, count}
use Rattle.ufs_crash_laws.specs.Changes.{change_of, names_by}
use Rattle.ufs_hand_laws.specs.Covers.{step_in, SyncsFile, SyncsNames, SyncsBirth}
use Rattle.ufs_hand_laws.specs.Parts.{ClientPart, FilePart, NamesPart, View, HoldsPart}
use Rattle.ufs_hand_laws.specs.Marks.{IsSingle}
use Rattle.ufs_hand_laws.specs.LeasesTrue.{IsTrueOf, IsLeaseHeld, leased_file}
use Rattle.ufs_hand_laws.specs.Draws.{IsUnchanged, Leaves, entry_of, IsIn, IsAbsent, DrawsOn, MayDraw}
use Rattle.ufs_hand_laws.proofs.Owning.{count_has, has_count, has_find, same_some}
use Rattle.ufs_hand_laws.proofs.Keys.{itself, alike}

-- What is asked of a draw that changes nothing but the client's entries.
pub record IsQuietOn (f : Fresh) (v : View) (t : PosixTree) : Type 0 where
  pub replied : IsReplyTo t (entry_of 0 f)
  pub touched : is_excused f.reply ≡ false → (p : PartName) → IsPartOf (touched_parts t f.client f.op) p → HoldsPart p v ⊎ (IsAbsent p t ⊎ IsUnchanged p t (entry_of 0 f))
  pub stays : goes_on t (entry_of 0 f) ≡ t
  pub no_change : (g : ℕ) → change_of g (step_in t (entry_of 0 f)) ≡ []
  pub no_names : names_by (step_in t (entry_of 0 f)) ≡ []

-- What it acknowledges is known as committed.
pub record IsKnownOn (f : Fresh) (v : View) (t : PosixTree) : Type 0 where
  pub synced : f.reply ≡ reply.Done → (g : ℕ) → SyncsFile t f.client f.op g → (p : FilePart) × Has (g, p) v.files × (length p.changes ≤ p.known)
  pub synced_names : f.reply ≡ reply.Done → SyncsNames t f.client f.op → (n : NamesPart) × Has (tt, n) v.names × (length n.changes ≤ n.known)
  pub synced_birth : f.reply ≡ reply.Done → (g : ℕ) → SyncsBirth t f.client f.op g → (p : FilePart) × Has (g, p) v.files × (p.born ≡ true)

module _ (f : Fresh) (v : View) (single : IsSingle v) (self : ClientPart) (client : Has (f.client, self) v.clients) (low : f.client < 16) (seq : f.seq ≡ length self.entries) (asked : self.asked ≡ Some f.op)
    (device : (n : ℕ) → f.reply ≡ reply.Excused (excuse.Device n) → ⊥) (stopped : (n : ℕ) → f.reply ≡ reply.Excused (excuse.Stopped n) → ⊥) (short : (a b : ℕ) → f.reply ≡ reply.Excused (excuse.Blocks a b) → ⊥)
    (leased : List Lease) (copied : (x : Lease) → Has x leased → Has x self.copies) (quiet : (t : PosixTree) → IsTree t → IsIn v t → ((x : Lease) → Has x leased → IsTrueOf t x.part x.fact) → IsQuietOn f v t) (known : (t : PosixTree) → IsIn v t → IsKnownOn f v t) where
  abbrev same : Leaves
  same = record { fds = self.fds; files = v.files; names = v.names }

  draws : (t : PosixTree) → IsTree t → IsIn v t → ((x : Lease) → Has x leased → IsTrueOf t x.part x.fact) → DrawsOn f self v same t
  draws t is within live' =
      let q = quiet t is within live' in
      record {
        replied = q.replied;
        touched = q.touched;
        fds = λ fd. within.clients f.client self client fd ∙ ap (λ (u : PosixTree). desc_at u f.client fd) (sym q.stays);
        bytes = λ g x h. ap (λ (u : PosixTree). fin.get u.bytes g) q.stays ∙ within.files g x h;
        files = λ g x h. inl (x, h, λ j. record x { changes = (sym (append-nil x.changes) ∙ ap (λ c. x.changes ++ c) (sym (q.no_change g))) j });
        paths = λ u x h. within.paths u x h ∙ ap (λ (y : PosixTree). y.paths) (sym q.stays);
        next = λ u x h. within.next u x h ∙ ap (λ (y : PosixTree). y.next) (sym q.stays);
        holds = λ u x h c g. within.holds u x h c g ∙ ap (λ (y : PosixTree). Rattle.ufs_model.specs.Touched.holds y.fds c g) (sym q.stays);
        names = λ u x h. (x, h, (λ j. record x { changes = (sym (append-nil x.changes) ∙ ap (λ c. x.changes ++ c) (sym q.no_names)) j }), (λ g bs y. y), (λ b y. y));
        own = λ g o. own_at g o (dec_le 1 (count eqb g v.files)) ∙ ap (λ (y : PosixTree). one (is_some (fin.get y.bytes g))) (sym q.stays);
        other = λ g z there. z;
        single = single.files;
        leases = λ x listed live fact. subst (λ (u : PosixTree). IsTrueOf u x.part x.fact) (sym q.stays) fact;
        own_leases = λ x h live held. subst (λ (u : PosixTree). IsLeaseHeld u.fds f.client (leased_file x.part x.fact)) (sym q.stays) held;
        synced = (known t within).synced;
        synced_names = (known t within).synced_names;
        synced_birth = (known t within).synced_birth;
      }
    where
      own_at : (g : ℕ) → (1 ≤ count eqb g v.files) ⊎ (fin.get t.bytes g ≡ None) → Dec (1 ≤ count eqb g v.files) → count eqb g v.files ≡ one (is_some (fin.get t.bytes g))
      own_at g o (yes c) =
          let x = has_count eqb itself alike g v.files c in let s = single.files g in
          let e : one (is_some (fin.get t.bytes g)) ≡ 1 = ap (λ y. one (is_some y)) (within.files g x.0 x.1) in omega arith
      own_at g (inl c) (no n) = absurd (n c)
      own_at g (inr e) (no n) = let z : one (is_some (fin.get t.bytes g)) ≡ 0 = ap (λ y. one (is_some y)) e in omega arith

  same_file : (g : ℕ) (x y : FilePart) → Has (g, x) v.files → Has (g, y) v.files → x ≡ y
  same_file g x y a b = same_some x y (sym (has_find eqb itself alike g x v.files (single.files g) a) ∙ has_find eqb itself alike g y v.files (single.files g) b)

  pub known_may_draw : MayDraw f v same leased
  known_may_draw = record {
    self = self;
    client = client;
    low = low;
    seq = seq;
    asked = asked;
    on = λ t is within live. draws t is within live;
    copies = copied;
    names = λ u. refl;
    others = λ n ne. refl;
    blocks = λ b. refl;
    dropped = λ g p h z. let c = count_has eqb itself alike g p v.files h in absurd (omega arith);
    kept = λ g p q a b c o. subst (λ (x : FilePart). Has c x.blocks ⊎ Has c x.quarantine) (same_file g p q a b) o;
    loaded = λ g p q a b place c there out. let e = same_file g p q a b in (ap (λ (x : FilePart). slice_get x.blocks place) e ∙ there, ap (λ x. Rattle.ufs_hand_laws.specs.DiskBytes.is_loaded x place) e ∙ out, ap (λ (x : FilePart). Rattle.ufs_hand_laws.specs.DiskBytes.block_in x.bytes place) (sym e));
    device = λ n e. absurd (device n e);
    stopped = λ n e. absurd (stopped n e);
    short = λ a b e. absurd (short a b e);
  }

-- So too where nothing is acknowledged.
module _ (f : Fresh) (v : View) (single : IsSingle v) (self : ClientPart) (client : Has (f.client, self) v.clients) (low : f.client < 16) (seq : f.seq ≡ length self.entries) (asked : self.asked ≡ Some f.op)
    (device : (n : ℕ) → f.reply ≡ reply.Excused (excuse.Device n) → ⊥) (stopped : (n : ℕ) → f.reply ≡ reply.Excused (excuse.Stopped n) → ⊥) (short : (a b : ℕ) → f.reply ≡ reply.Excused (excuse.Blocks a b) → ⊥) (undone : f.reply ≡ reply.Done → ⊥)
    (quiet : (t : PosixTree) → IsTree t → IsIn v t → IsQuietOn f v t) where
  pub may_draw : MayDraw f v (record { fds = self.fds; files = v.files; names = v.names }) []
  may_draw = known_may_draw f v single self client low seq asked device stopped short [] (λ x none. absurd none) (λ t is within live. quiet t is within) (λ t within. record { synced = λ done. absurd (undone done); synced_names = λ done. absurd (undone done); synced_birth = λ done. absurd (undone done) })

-- ---- want of memory: the client's part is enough

module _ (client seq : ℕ) (by : Actor) (request : Op) (v : View) (single : IsSingle v) (self : ClientPart) (has : Has (client, self) v.clients) (low : client < 16) (next : seq ≡ length self.entries) (asked : self.asked ≡ Some request) where
  abbrev lacking : Fresh
  lacking = record { client = client; seq = seq; by = by; op = request; reply = reply.Excused excuse.Memory }

  pub memory_may_draw : MayDraw lacking v (record { fds = self.fds; files = v.files; names = v.names }) []
  memory_may_draw = may_draw lacking v single self has low next asked (λ n e. cc) (λ n e. cc) (λ a b e. cc) (λ e. cc)
      (λ t is within. record { replied = inr (record { due = λ e. cc; told = tt }); touched = λ e. cc; stays = refl; no_change = λ g. refl; no_names = refl })

-- ---- a read of a held file

module _ (client seq fd n at g : ℕ) (by : Actor) (v : View) (single : IsSingle v) (self : ClientPart) (has : Has (client, self) v.clients) (low : client < 16) (next : seq ≡ length self.entries)
    (asked : self.asked ≡ Some (op.Pread fd n at)) (d : Desc) (open' : fin.get self.fds fd ≡ Some d) (leave : d.read ≡ true) (of : d.file ≡ Some g) (x : FilePart) (held : Has (g, x) v.files) where
  abbrev reading : Fresh
  reading = record { client = client; seq = seq; by = by; op = op.Pread fd n at; reply = reply.Got (part x.bytes at n) }

  module _ (t : PosixTree) (within : IsIn v t) where
    desc_is : desc_at t client fd ≡ Some d
    desc_is = sym (within.clients client self has fd) ∙ open'

    opened_is : opened t client fd ≡ d
    opened_is = ap (λ o. unwrap_or o closed) desc_is

    file_is : (opened t client fd).file ≡ Some g
    file_is = ap (λ (y : Desc). y.file) opened_is ∙ of

    not_refused : refusal t client (op.Pread fd n at) ≡ None
    not_refused = ap (λ o. Rattle.ufs_base.specs.Choices.first_of (read_refusal o) None) desc_is ∙ (λ j. Rattle.ufs_base.specs.Choices.first_of (Rattle.ufs_base.specs.Choices.first_of (Rattle.ufs_base.specs.Choices.refused_if (not (leave j)) errno.Ebadf) (Rattle.ufs_base.specs.Choices.refused_if (is_none (of j)) errno.Eisdir)) None)

    bytes_are : content t.bytes (opened t client fd).file ≡ x.bytes
    bytes_are = ap (content t.bytes) file_is ∙ ap (λ o. unwrap_or o []) (within.files g x held)

    unchanged : (o : Option Errno) → (served t client (op.Pread fd n at) o).0 ≡ t
    unchanged None = refl
    unchanged (Some e) = refl

    touches : (b : Bool) → (p : PartName) → IsPartOf (part'.Client client ∷ cond b [] (Rattle.ufs_model.specs.Touched.file_part (opened t client fd).file)) p → HoldsPart p v ⊎ (IsAbsent p t ⊎ IsUnchanged p t (entry_of 0 reading))
    touches b p (inl e) = inl (subst (λ y. HoldsPart y v) (sym e) (count_has eqb itself alike client self v.clients has))
    touches true p (inr e) = absurd e
    touches false p (inr e) = inl (mine (subst (λ o. IsPartOf (Rattle.ufs_model.specs.Touched.file_part o) p) file_is e))
      where
        mine : IsPartOf (part'.File g ∷ []) p → HoldsPart p v
        mine (inl e) = subst (λ y. HoldsPart y v) (sym e) (count_has eqb itself alike g x v.files held)
        mine (inr e) = absurd e

  pub read_may_draw : MayDraw reading v (record { fds = self.fds; files = v.files; names = v.names }) []
  read_may_draw = may_draw reading v single self has low next asked (λ n e. cc) (λ n e. cc) (λ a b e. cc) (λ e. cc)
      (λ t is within. record {
        replied = inl (ap (λ bs. reply.Got (part bs at n)) (sym (bytes_are t within)) ∙ sym (ap (λ o. (served t client (op.Pread fd n at) o).1) (not_refused t within)));
        touched = λ e. touches t within (is_some (Rattle.ufs_model.specs.Refusals.own_refusal t client (op.Pread fd n at)));
        stays = unchanged t within (refusal t client (op.Pread fd n at));
        no_change = λ g. refl;
        no_names = refl;
      })

-- ---- an `fsync` of a held file whose changes and birth are known as committed

module _ (client seq fd g : ℕ) (by : Actor) (v : View) (single : IsSingle v) (self : ClientPart) (has : Has (client, self) v.clients) (low : client < 16) (next : seq ≡ length self.entries)
    (asked : self.asked ≡ Some (op.Fsync fd)) (d : Desc) (open' : fin.get self.fds fd ≡ Some d) (of : d.file ≡ Some g) (x : FilePart) (held : Has (g, x) v.files) (all : length x.changes ≤ x.known) (born : x.born ≡ true) where
  abbrev syncing : Fresh
  syncing = record { client = client; seq = seq; by = by; op = op.Fsync fd; reply = reply.Done }

  module _ (t : PosixTree) (within : IsIn v t) where
    synced_desc : desc_at t client fd ≡ Some d
    synced_desc = sym (within.clients client self has fd) ∙ open'

    synced_file : (opened t client fd).file ≡ Some g
    synced_file = ap (λ o. (unwrap_or o closed).file) synced_desc ∙ of

    sync_allowed : refusal t client (op.Fsync fd) ≡ None
    sync_allowed = ap (λ (o : Option Desc). Rattle.ufs_base.specs.Choices.first_of (Rattle.ufs_base.specs.Choices.refused_if (is_none o) errno.Ebadf) None) synced_desc

    sync_stays : (o : Option Errno) → (served t client (op.Fsync fd) o).0 ≡ t
    sync_stays None = refl
    sync_stays (Some e) = refl

    sync_touches : (b : Bool) → (p : PartName) → IsPartOf (part'.Client client ∷ cond b [] (Rattle.ufs_model.specs.Touched.open_part (opened t client fd).file)) p → HoldsPart p v ⊎ (IsAbsent p t ⊎ IsUnchanged p t (entry_of 0 syncing))
    sync_touches b p (inl e) = inl (subst (λ y. HoldsPart y v) (sym e) (count_has eqb itself alike client self v.clients has))
    sync_touches true p (inr e) = absurd e
    sync_touches false p (inr e) = inl (mine (subst (λ o. IsPartOf (Rattle.ufs_model.specs.Touched.open_part o) p) synced_file e))
      where
        mine : IsPartOf (part'.File g ∷ []) p → HoldsPart p v
        mine (inl e) = subst (λ y. HoldsPart y v) (sym e) (count_has eqb itself alike g x v.files held)
        mine (inr e) = absurd e

    -- only this file is asked for
    is_it : (h : ℕ) → SyncsBirth t client (op.Fsync fd) h → g ≡ h
    is_it h asks = alike g h (sym (ap (is_number h) synced_file) ∙ asks)

    known_on : IsKnownOn syncing v t
    known_on = record {
      synced = λ done h asks. ⊎_elim (λ a. (x, subst (λ n. Has (n, x) v.files) (is_it h a) held, all)) (λ (b : (false ≡ true) × (is_some (fin.get t.bytes h) ≡ true)). absurd (no b.0)) asks;
      synced_names = λ done asks. absurd (no (sym (ap (λ o. is_none o || false) synced_file) ∙ asks));
      synced_birth = λ done h asks. (x, subst (λ n. Has (n, x) v.files) (is_it h asks) held, born);
    }
      where
        no : false ≡ true → ⊥
        no e = cc

  pub sync_may_draw : MayDraw syncing v (record { fds = self.fds; files = v.files; names = v.names }) []
  sync_may_draw = known_may_draw syncing v single self has low next asked (λ n e. cc) (λ n e. cc) (λ a b e. cc) [] (λ x none. absurd none)
      (λ t is within live. record {
        replied = inl (sym (ap (λ o. (served t client (op.Fsync fd) o).1) (sync_allowed t within)));
        touched = λ e. sync_touches t within (is_some (Rattle.ufs_model.specs.Refusals.own_refusal t client (op.Fsync fd)));
        stays = sync_stays t within (refusal t client (op.Fsync fd));
        no_change = λ h. refl;
        no_names = refl;
      })
      known_on
