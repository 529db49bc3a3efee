-- The hand of a session may draw the entry that answers what is asked, where it has the files that the request touches.
use Rattle.std.proofs.Common.{◌≡◌, ℕ, ◌+◌, ◌≤◌, ◌⊎◌, ◌&&◌, ◌||◌, Bool, true, false, cond, eqb, List, [], ◌∷◌, ◌++◌, length, Option, Some, None, is_some, refl, ap, sym, ◌∙◌, subst, inl, inr, ⊎_elim, arith}
use Rattle.std.specs.Prelude.{slice_get}
use Rattle.std.specs.FinMap as fin
use Rattle.ufs_model.specs.Descriptors.{opened}
use Rattle.ufs_model.specs.History.{goes_on, is_excused, tree_after}
use Rattle.ufs_model.specs.Laws.{Locality}
use Rattle.ufs_model.specs.PosixTree.{PosixTree, IsTree}
use Rattle.ufs_model.specs.Refusals.{own_refusal, tree_refusal}
use Rattle.ufs_model.specs.Touched.{touched_parts, IsPartOf, open_part}
use Rattle.ufs_model.specs.declared.data.Entry.{Entry}
use Rattle.ufs_model.specs.declared.data.Errno.{Errno}
use Rattle.ufs_model.specs.declared.data.Excuse.TheVariants as excuse
use Rattle.ufs_model.specs.declared.data.Lease.{Lease}
use Rattle.ufs_model.specs.declared.data.Op.{Op}
use Rattle.ufs_model.specs.declared.data.Op.TheVariants as op
use Rattle.ufs_model.specs.declared.data.PartName.{PartName}
use Rattle.ufs_model.specs.declared.data.PartName.TheVariants as part
use Rattle.ufs_model.specs.declared.data.Reply.{Reply}
use Rattle.ufs_model.specs.declared.data.Reply.TheVariants as reply
use Rattle.ufs_crash_laws.specs.Changes.{change_of, asks_commit, asks_dir_fsync, asks_fsync, asks_sync, syncs_file, syncs_names}
use Rattle.ufs_crash_laws.specs.Steps.{is_ok, is_served}
use Rattle.ufs_model.proofs.Facts.Allowed.{first_none}
use Rattle.ufs_model.proofs.Facts.Live.{number_is}
use Rattle.ufs_crash_laws.proofs.Facts.Local.{not_refused}
use Rattle.ufs_crash_laws.proofs.Facts.Sessions.{fsynced_live}
use Rattle.ufs_hand_laws.specs.Covers.{step_in, SyncsFile, SyncsNames}
use Rattle.ufs_hand_laws.specs.Draws.{IsIn, IsAbsent, IsUnchanged, IsFileAfter, IsNamesAfter, DrawsOn, MayDraw, Leaves, drawn, entry_of, new_file}
use Rattle.ufs_hand_laws.specs.LeasesTrue.{IsListedIn}
use Rattle.ufs_hand_laws.specs.Owned.{one, weigh, Has, count, each, times}
use Rattle.ufs_hand_laws.specs.Parts.{ClientPart, FilePart, NamesPart, View, OwnFds, Start, HoldsPart, only_one, file_uses, names_uses, dropped_uses, uses, is_holder}
use Rattle.ufs_hand_laws.specs.declared.fresh.Fresh.{Fresh}
use Rattle.ufs_hand_laws.proofs.Drawing.{touches_own}
use Rattle.ufs_hand_laws.proofs.Keys.{itself, alike}
use Rattle.ufs_hand_laws.proofs.Owning.{weigh_each, has_append, append_has, count_has, has_count, none_some}
use Rattle.ufs_one_hand.specs.OneHand.{HasSession, KnowsSynced}
use Rattle.ufs_one_hand.specs.Drawn.{IsAnswer, leaves_after, names_drawn, file_drawn, files_gone}
use Rattle.ufs_one_hand.proofs.Alike.{AreAlike, IsMine, TouchesMine, alike_dir, alike_fsync, session_alike, names_there, names_are, alike_reply, alike_after, alike_file_changes, alike_name_changes, alike_touched}
use Rattle.ufs_one_hand.proofs.Files.{stays, gone_has, gone_empty, file_after, bytes_after, still_count, new_count, gone_count}
use Rattle.ufs_one_hand.proofs.Holding.{listed_hold}
use Rattle.ufs_one_hand.proofs.Reached.{sync_touches}
use Rattle.ufs_one_hand.proofs.Started.{one_client}
use Rattle.ufs_one_hand.proofs.Touching.{may_touch}

-- what weighs nothing
pub weigh_none : {A : Type 0} (m : A → ℕ) (xs : List A) → ((x : A) → Has x xs → m x ≡ 0) → weigh m xs ≡ 0
weigh_none m [] none = refl
weigh_none m (x ∷ xs) none = let a = none x (inl refl) in let b = weigh_none m xs (λ y h. none y (inr h)) in omega arith

one_most : (b : Bool) → one b ≤ 1
one_most true = omega arith
one_most false = omega arith

-- ---- what a request asks to last, it syncs

file_asks : (t : PosixTree) (client g : ℕ) (o : Op) → SyncsFile t client o g → asks_commit o ≡ true
file_asks t client g (op.Fsync fd) x = refl
file_asks t client g op.Sync x = refl
file_asks t client g _ x = ⊎_elim (λ (e : false ≡ true). cc) (λ (e : (false ≡ true) × (is_some (fin.get t.bytes g) ≡ true)). let f = e.0 in cc) x

birth_asks : (t : PosixTree) (client g : ℕ) (o : Op) → asks_fsync g t client o ≡ true → asks_commit o ≡ true
birth_asks t client g (op.Fsync fd) x = refl
birth_asks t client g _ x = cc

names_ask : (t : PosixTree) (client : ℕ) (o : Op) → SyncsNames t client o → asks_commit o ≡ true
names_ask t client (op.Fsync fd) x = refl
names_ask t client op.Sync x = refl
names_ask t client _ x = cc

either_true : (a b : Bool) → (a ≡ true) ⊎ (b ≡ true) → (a || b) ≡ true
either_true a b (inl e) = ap (λ z. z || b) e
either_true a b (inr e) = ap (λ z. a || z) e ∙ or_true a
  where
    or_true : (z : Bool) → (z || true) ≡ true
    or_true true = refl
    or_true false = refl

-- and touches
asked_touched : (t : PosixTree) (client g : ℕ) (o : Op) → own_refusal t client o ≡ None → SyncsFile t client o g → IsPartOf (touched_parts t client o) (part.File g)
asked_touched t client g (op.Fsync fd) own (inl asks) =
    subst (λ (r : Option Errno). IsPartOf (part.Client client ∷ cond (is_some r) [] (open_part (opened t client fd).file)) (part.File g)) (sym own)
    (subst (λ (f : Option ℕ). IsPartOf (part.Client client ∷ open_part f) (part.File g)) (sym (number_is g (opened t client fd).file asks)) (inr (inl refl)))
asked_touched t client g (op.Fsync fd) own (inr x) = let no : false ≡ true = x.0 in cc
asked_touched t client g op.Sync own (inl x) = cc
asked_touched t client g op.Sync own (inr x) = sync_touches t client g x.1
asked_touched t client g _ own (inl x) = cc
asked_touched t client g _ own (inr x) = let no : false ≡ true = x.0 in cc

-- the step of an acknowledged request syncs what that asks to last
file_syncs : (t : PosixTree) (e : Entry) (g : ℕ) → e.reply ≡ reply.Done → SyncsFile t e.client e.op g → syncs_file g (step_in t e) ≡ true
file_syncs t e g done x = ap (λ (r : Reply). is_ok r && (asks_fsync g t e.client e.op || asks_sync e.op)) done ∙ either_true (asks_fsync g t e.client e.op) (asks_sync e.op) (⊎_elim inl (λ (y : (asks_sync e.op ≡ true) × (is_some (fin.get t.bytes g) ≡ true)). inr y.0) x)

names_sync : (t : PosixTree) (e : Entry) → e.reply ≡ reply.Done → SyncsNames t e.client e.op → syncs_names (step_in t e) ≡ true
names_sync t e done x = ap (λ (r : Reply). is_ok r && (asks_dir_fsync t e.client e.op || asks_sync e.op)) done ∙ x

module _ (local : Locality) (k : Start) (h : List Entry) (f : Fresh) (own_fds : OwnFds) (v : View) (a : IsAnswer k h (tree_after k.tree h) f own_fds v) where
  abbrev now : PosixTree
  now = tree_after k.tree h

  abbrev e : Entry
  e = entry_of 0 f

  abbrev l : Leaves
  l = leaves_after now e own_fds v

  abbrev s : HasSession k h (Some (f.client, f.op)) v
  s = a.session

  -- ---- its parts

  pub own_part : (p : ClientPart) × Has (f.client, p) v.clients
  own_part = let c = one_client k h (Some (f.client, f.op)) v s f.client a.low in has_count eqb itself alike f.client v.clients (omega arith)

  -- its request touches files that it has, or that aren't there
  pub touches_mine : TouchesMine (IsMine now v) now e
  touches_mine other g x = by (is_some (fin.get now.bytes g)) refl
    where
      by : (b : Bool) → is_some (fin.get now.bytes g) ≡ b → IsMine now v g
      by true there = inl (a.touched other g x there)
      by false none = inr none

  pub file_mine : (g : ℕ) (p : FilePart) → Has (g, p) v.files → IsMine now v g
  file_mine g p has = inl (count_has eqb itself alike g p v.files has)

  next_mine : (g : ℕ) → g ≡ now.next → IsMine now v g
  next_mine g next = by (is_some (fin.get now.bytes g)) refl
    where
      by : (b : Bool) → is_some (fin.get now.bytes g) ≡ b → IsMine now v g
      by true there = let l = s.tree.numbered g there in absurd (omega arith)
      by false none = inr none

  -- what is acknowledged is asked of files that it has
  synced_there : f.reply ≡ reply.Done → (g : ℕ) → SyncsFile now f.client f.op g → is_some (fin.get now.bytes g) ≡ true → (p : FilePart) × Has (g, p) v.files
  synced_there done g asks there =
      let own = (first_none (own_refusal now f.client f.op) (tree_refusal now f.client f.op) (not_refused now e a.replied (ap is_served done))).0 in
      has_count eqb itself alike g v.files (a.touched (λ memory. let no : reply.Done ≡ reply.Excused excuse.Memory = sym done ∙ memory in cc) g (asked_touched now f.client g f.op own asks) there)

  -- ---- no block anywhere

  no_file_block : (b : ℕ) (x : ℕ × FilePart) → x.1.blocks ≡ [] → x.1.quarantine ≡ [] → x.1.spare ≡ [] → file_uses b x ≡ 0
  no_file_block b x blocks quarantine spare = λ i. times b (blocks i) + (times b (quarantine i) + times b (spare i))

  no_old_files : (b : ℕ) → weigh (file_uses b) v.files ≡ 0
  no_old_files b = weigh_none (file_uses b) v.files (λ x has. let p = s.files x.0 x.1 has in no_file_block b x p.blocks p.quarantine p.spare)

  -- a file that the hand has then has no block
  pub bare_file : (g : ℕ) (q : FilePart) → Has (g, q) l.files → (q.blocks ≡ []) × (q.quarantine ≡ []) × (q.spare ≡ []) × (q.leases ≡ []) × (q.loaded ≡ [])
  bare_file g q has = ⊎_elim
      (λ (x : (p : FilePart) × Has (g, p) v.files × (q ≡ file_drawn now e g p) × (stays now e g ≡ true)).
      let p = s.files g x.0 x.1 in
      (ap (λ (y : FilePart). y.blocks) x.2 ∙ p.blocks, ap (λ (y : FilePart). y.quarantine) x.2 ∙ p.quarantine, ap (λ (y : FilePart). y.spare) x.2 ∙ p.spare, ap (λ (y : FilePart). y.leases) x.2 ∙ p.leases, ap (λ (y : FilePart). y.loaded) x.2 ∙ p.loaded))
      (λ (x : (g ≡ now.next) × (q ≡ new_file) × (stays now e now.next ≡ true)).
      (ap (λ (y : FilePart). y.blocks) x.1, ap (λ (y : FilePart). y.quarantine) x.1, ap (λ (y : FilePart). y.spare) x.1, ap (λ (y : FilePart). y.leases) x.1, ap (λ (y : FilePart). y.loaded) x.1))
      (file_after now e v.files g q has)

  no_new_files : (b : ℕ) → weigh (file_uses b) l.files ≡ 0
  no_new_files b = weigh_none (file_uses b) l.files (λ x has. let p = bare_file x.0 x.1 has in no_file_block b x p.0 p.1 p.2)

  no_names_block : (b : ℕ) (n : NamesPart) → n.blocks ≡ [] → ((g : ℕ) (bs : List ℕ) → Has (g, bs) n.dropped → bs ≡ []) → n.spare ≡ [] → names_uses b (tt, n) ≡ 0
  no_names_block b n blocks dropped spare =
      let z = weigh_none (dropped_uses b) n.dropped (λ x has. ap (times b) (dropped x.0 x.1 has)) in
      (λ i. times b (blocks i) + (z i + times b (spare i)))

  no_old_names : (b : ℕ) → weigh (names_uses b) v.names ≡ 0
  no_old_names b = let z = no_names_block b s.names s.names_at.blocks s.names_at.dropped s.names_at.spare in ap (weigh (names_uses b)) s.has_names ∙ (omega arith)

  abbrev pub later_names : NamesPart
  later_names = names_drawn now e v.files s.names

  pub later_names_are : l.names ≡ (tt, later_names) ∷ []
  later_names_are = ap (each (λ (_ : Unit {0}) p. names_drawn now e v.files p)) s.has_names

  pub dropped_bare : (g : ℕ) (bs : List ℕ) → Has (g, bs) later_names.dropped → bs ≡ []
  dropped_bare g bs has = ⊎_elim (λ x. s.names_at.dropped g bs x) (λ x. gone_empty now e g bs v.files x) (has_append (g, bs) s.names.dropped (files_gone now e v.files) has)

  no_new_names : (b : ℕ) → weigh (names_uses b) l.names ≡ 0
  no_new_names b = let z = no_names_block b later_names s.names_at.blocks dropped_bare s.names_at.spare in ap (weigh (names_uses b)) later_names_are ∙ (omega arith)

  same_blocks : (b : ℕ) → uses b (drawn 0 f l v) ≡ uses b v
  same_blocks b = let x = no_old_files b in let y = no_new_files b in let z = no_old_names b in let w = no_new_names b in omega arith

  -- ---- the files

  -- of each that it had or that wasn't there it has those that are there then,
  pub later_count : (g : ℕ) → IsMine now v g → count eqb g l.files ≡ one (stays now e g)
  later_count g mine = by (stays now e g) refl (is_some (fin.get now.bytes g)) refl mine
    where
      by : (b : Bool) → stays now e g ≡ b → (c : Bool) → is_some (fin.get now.bytes g) ≡ c → IsMine now v g → count eqb g l.files ≡ one b
      by false gone c there mine = gone_count now e s.tree a.replied v.files g gone
      by true here false there mine = let z = s.one_file g in let o = ap one there in new_count now e s.tree a.replied v.files g here there (omega arith)
      by true here true there (inl has) = let z = s.one_file g in let o = ap one there in let c = still_count now e s.tree a.replied v.files g here there in omega arith
      by true here true there (inr none) = cc

  -- and none that was there and that it hadn't
  pub later_other : (g : ℕ) → count eqb g v.files ≡ 0 → is_some (fin.get now.bytes g) ≡ true → count eqb g l.files ≡ 0
  later_other g zero there = by (stays now e g) refl
    where
      by : (b : Bool) → stays now e g ≡ b → count eqb g l.files ≡ 0
      by false gone = gone_count now e s.tree a.replied v.files g gone
      by true here = still_count now e s.tree a.replied v.files g here there ∙ zero

  pub later_most : (g : ℕ) → count eqb g l.files ≤ one (stays now e g)
  later_most g = by (stays now e g) refl (is_some (fin.get now.bytes g)) refl
    where
      by : (b : Bool) → stays now e g ≡ b → (c : Bool) → is_some (fin.get now.bytes g) ≡ c → count eqb g l.files ≤ one b
      by false gone c there = let z = gone_count now e s.tree a.replied v.files g gone in omega arith
      by true here false there = let z = later_count g (inr there) in let o = ap one here in omega arith
      by true here true there = let z = s.one_file g in let o = ap one there in let c = still_count now e s.tree a.replied v.files g here there in omega arith

  went : (g : ℕ) (p : FilePart) → Has (g, p) v.files → count eqb g l.files ≡ 0
      → (n : NamesPart) × Has (tt, n) l.names × (bs : List ℕ) × Has (g, bs) n.dropped × ((b : ℕ) → Has b p.blocks ⊎ Has b p.quarantine → Has b bs)
  went g p has zero = (
    later_names,
    subst (Has {A = Unit {0} × NamesPart} (tt, later_names)) (sym later_names_are) (inl refl),
    [],
    append_has (g, []) s.names.dropped (files_gone now e v.files) (inr (gone_has now e g p (gone (stays now e g) (sym (later_count g (file_mine g p has)) ∙ zero)) v.files has)),
    λ b x. ⊎_elim (λ y. subst (Has b) (s.files g p has).blocks y) (λ y. subst (Has b) (s.files g p has).quarantine y) x,
  )
    where
      gone : (b : Bool) → one b ≡ 0 → b ≡ false
      gone true z = absurd (omega arith)
      gone false z = refl

  -- ---- in a tree that has its parts

  module _ (t : PosixTree) (is : IsTree t) (within : IsIn v t) where
    same : AreAlike (IsMine now v) f.client now t
    same = session_alike k h (Some (f.client, f.op)) v f.client a.low s t is within

    same_after : AreAlike (IsMine now v) f.client (goes_on now e) (goes_on t e)
    same_after = alike_after local (IsMine now v) now t e s.tree is same a.replied touches_mine

    touched : is_excused f.reply ≡ false → (p : PartName) → IsPartOf (touched_parts t f.client f.op) p → HoldsPart p v ⊎ (IsAbsent p t ⊎ IsUnchanged p t e)
    touched served (part.Client c) x = inl (subst (λ (n : ℕ). 1 ≤ count eqb n v.clients) (sym (touches_own t f.client f.op c x)) (count_has eqb itself alike f.client own_part.0 v.clients own_part.1))
    touched served (part.Asked c) x = absurd (may_touch t f.client f.op (part.Asked c) x)
    touched served (part.File g) x = by (fin.get t.bytes g) refl
      where
        by : (o : Option (List ℕ)) → fin.get t.bytes g ≡ o → HoldsPart (part.File g) v ⊎ (IsAbsent (part.File g) t ⊎ IsUnchanged (part.File g) t e)
        by None none = inr (inl none)
        by (Some b) some =
            inl (a.touched (λ memory. let no : is_excused f.reply ≡ true = ap is_excused memory in cc) g (alike_touched local (IsMine now v) now t e s.tree is same a.replied touches_mine (part.File g) x) (same.live g ∙ ap is_some some))
    touched served part.Names x = inl (let c : count only_one tt v.names ≡ 1 = ap (count only_one tt) s.has_names in omega arith)
    touched served part.Store x = absurd (may_touch t f.client f.op part.Store x)

    -- what the hand has then has the same bytes in each tree
    later_mine : (g : ℕ) (q : FilePart) → Has (g, q) l.files → IsMine now v g
    later_mine g q has = ⊎_elim
        (λ (x : (p : FilePart) × Has (g, p) v.files × (q ≡ file_drawn now e g p) × (stays now e g ≡ true)). file_mine g x.0 x.1)
        (λ (x : (g ≡ now.next) × (q ≡ new_file) × (stays now e now.next ≡ true)). next_mine g x.0)
        (file_after now e v.files g q has)

    file_on : (g : ℕ) (q : FilePart) → Has (g, q) l.files → IsFileAfter t e v g q
    file_on g q has = ⊎_elim
        (λ (x : (p : FilePart) × Has (g, p) v.files × (q ≡ file_drawn now e g p) × (stays now e g ≡ true)).
        inl (
          x.0,
          x.1,
          subst (λ (y : FilePart). y ≡ record (x.0) { bytes = y.bytes; changes = x.0.changes ++ change_of g (step_in t e); blocks = y.blocks; quarantine = y.quarantine; spare = y.spare; loaded = y.loaded }) (sym x.2)
              (λ i. record (file_drawn now e g x.0) { changes = x.0.changes ++ alike_file_changes local (IsMine now v) now t e s.tree is same a.replied touches_mine g i }),
        ))
        (λ (x : (g ≡ now.next) × (q ≡ new_file) × (stays now e now.next ≡ true)). inr (x.0 ∙ same.next, x.1))
        (file_after now e v.files g q has)

    names_on : (q : NamesPart) (u : Unit {0}) → Has (u, q) l.names → q ≡ later_names
    names_on q u has = ⊎_elim (λ (x : (u, q) ≡ (tt, later_names)). ap (λ (z : Unit {0} × NamesPart). z.1) x) (λ x. absurd x) (subst (Has {A = Unit {0} × NamesPart} (u, q)) later_names_are has)

    commits : f.reply ≡ reply.Done → asks_commit f.op ≡ true → KnowsSynced (step_in now e) v
    commits = a.known

    -- what is asked in one tree is asked in the other
    same_fsync : (g : ℕ) → asks_fsync g t f.client f.op ≡ asks_fsync g now f.client f.op
    same_fsync g = alike_fsync (IsMine now v) f.client now t same g f.op

    asks_now : (g : ℕ) → SyncsFile t f.client f.op g → SyncsFile now f.client f.op g
    asks_now g asks = ⊎_elim (λ (x : asks_fsync g t f.client f.op ≡ true). inl (sym (same_fsync g) ∙ x)) (λ (x : (asks_sync f.op ≡ true) × (is_some (fin.get t.bytes g) ≡ true)). inr (x.0, same.live g ∙ x.1)) asks

    there_in : f.reply ≡ reply.Done → (g : ℕ) → SyncsFile t f.client f.op g → (p : FilePart) × Has (g, p) v.files
    there_in done g asks = synced_there done g (asks_now g asks)
        (same.live g ∙ ⊎_elim (λ x. fsynced_live t is f.client f.op g x) (λ (x : (asks_sync f.op ≡ true) × (is_some (fin.get t.bytes g) ≡ true)). x.1) asks)

    same_dir : asks_dir_fsync t f.client f.op ≡ asks_dir_fsync now f.client f.op
    same_dir = alike_dir (IsMine now v) f.client now t same f.op

    pub draws_on : DrawsOn f own_part.0 v l t
    draws_on = record {
      replied = alike_reply local (IsMine now v) now t e s.tree is same a.replied touches_mine;
      touched = touched;
      fds = λ fd. a.fds fd ∙ same_after.fds fd;
      bytes = λ g q has. sym (same_after.bytes g (later_mine g q has)) ∙ bytes_after now e s.tree a.replied v.files g q has;
      files = file_on;
      paths = λ u q has. ap (λ (n : NamesPart). n.paths) (names_on q u has) ∙ same_after.paths;
      next = λ u q has. ap (λ (n : NamesPart). n.next) (names_on q u has) ∙ same_after.next;
      holds = λ u q has c g. ap (λ (n : NamesPart). is_holder n.holds c g) (names_on q u has) ∙ listed_hold (goes_on now e).fds c g ∙ same_after.holds c g;
      names = λ u q has. subst (λ (y : NamesPart). IsNamesAfter t e v u y) (sym (names_on q u has)) (
        s.names,
        names_there k h (Some (f.client, f.op)) v s,
        (λ i. record later_names { changes = s.names.changes ++ alike_name_changes local (IsMine now v) now t e s.tree is same a.replied touches_mine i }),
        (λ g bs x. append_has (g, bs) s.names.dropped (files_gone now e v.files) (inl x)),
        (λ b x. x),
      );
      own = λ g mine. later_count g (⊎_elim inl (λ (none : fin.get t.bytes g ≡ None). inr (same.live g ∙ ap is_some none)) mine) ∙ ap one (same_after.live g);
      other = λ g none there. later_other g none (same.live g ∙ there);
      single = λ g. let c = later_most g in let m = one_most (stays now e g) in omega arith;
      leases = λ x listed. absurd (unlisted x x.part listed);
      own_leases = λ x has. absurd (subst (Has x) (s.clients f.client own_part.0 own_part.1).copies has);
      synced = λ done g asks.
          let there = there_in done g asks in
          (there.0, there.1, (commits done (file_asks t f.client g f.op asks)).files g there.0 there.1 (file_syncs now e g done (asks_now g asks)));
      synced_names = λ done asks. (
        s.names,
        names_there k h (Some (f.client, f.op)) v s,
        (commits done (names_ask t f.client f.op asks)).names s.names (names_there k h (Some (f.client, f.op)) v s) (names_sync now e done (ap (λ b. b || asks_sync f.op) (sym same_dir) ∙ asks)),
      );
      synced_birth = λ done g asks. let there = there_in done g (inl asks) in
          (there.0, there.1, (commits done (birth_asks t f.client g f.op asks)).born g there.0 there.1 (file_syncs now e g done (asks_now g (inl asks))));
    }
      where
        unlisted : (x : Lease) (p : PartName) → IsListedIn v x p → ⊥
        unlisted x (part.Client c) y = y
        unlisted x (part.Asked c) y = y
        unlisted x (part.File g) y = subst (Has x) (s.files g y.0 y.1).leases y.2
        unlisted x part.Names y = subst (Has x) (ap (λ (n : NamesPart). n.leases) (names_are k h (Some (f.client, f.op)) v s tt y.0 y.1) ∙ s.names_at.leases) y.2
        unlisted x part.Store y = y

  -- ---- the whole

  pub may_draw : MayDraw f v l []
  may_draw = record {
    self = own_part.0;
    client = own_part.1;
    low = a.low;
    seq = a.seq ∙ ap length (sym (s.clients f.client own_part.0 own_part.1).entries);
    asked = (s.clients f.client own_part.0 own_part.1).asked ∙ ap (λ b. cond b (Some f.op) None) (itself f.client);
    on = λ t is within _. draws_on t is within;
    copies = λ x none. absurd none;
    names = λ u. weigh_each (λ (_ : Unit {0}) p. names_drawn now e v.files p) (λ n. one (only_one u n)) v.names;
    others = λ n ne. a.fds n ∙ a.others n ne ∙ sym ((s.clients f.client own_part.0 own_part.1).fds n);
    blocks = same_blocks;
    dropped = went;
    kept = λ g p q has _ b x. absurd (⊎_elim (λ y. subst (Has b) (s.files g p has).blocks y) (λ y. subst (Has b) (s.files g p has).quarantine y) x);
    loaded = λ g p q _ has place b at _. absurd (none_some b (ap (λ (bs : List ℕ). slice_get bs place) (sym (bare_file g q has).0) ∙ at));
    device = a.causes.device;
    stopped = a.causes.stopped;
    short = a.causes.short;
  }

-- So in the tree that its caller names.
pub may_draw_in : Locality → (k : Start) (h : List Entry) (t : PosixTree) (f : Fresh) (own_fds : OwnFds) (v : View) → IsAnswer k h t f own_fds v → MayDraw f v (leaves_after t (entry_of 0 f) own_fds v) []
may_draw_in local k h t f own_fds v a =
    subst (λ (u : PosixTree). MayDraw f v (leaves_after u (entry_of 0 f) own_fds v) []) (sym a.tree_is)
    (may_draw local k h f own_fds v (subst (λ (u : PosixTree). IsAnswer k h u f own_fds v) a.tree_is a))
