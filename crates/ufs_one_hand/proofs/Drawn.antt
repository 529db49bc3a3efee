-- The hand of a session has its parts after the entry that it drew, and the files that were apart are as they were.
use Rattle.std.proofs.Common.{◌≡◌, ℕ, ◌+◌, ◌≤◌, ◌≢◌, Bool, true, false, cond, eqb, eq-eqb, ne_eqb, List, [], ◌∷◌, ◌++◌, length, Option, Some, None, is_some, refl, ap, sym, ◌∙◌, subst, inl, inr, ⊎_elim, arith, append-nil}
use Rattle.std.specs.FinMap as fin
use native.Mathlib.Decide.{ℕ_discrete}
use Rattle.ufs_model.specs.History.{entries_of, goes_on, tree_after}
use Rattle.ufs_model.specs.Laws.{KeepsTrees, Locality}
use Rattle.ufs_model.specs.PosixTree.{PosixTree, IsTree, desc_at}
use Rattle.ufs_model.specs.Touched.{holds}
use Rattle.ufs_model.specs.declared.data.Entry.{Entry}
use Rattle.ufs_model.specs.declared.data.PartName.TheVariants as part
use Rattle.ufs_model.proofs.Facts.Histories.{tree_after-push, legal_from_push, own-push, others-push}
use Rattle.ufs_crash_laws.specs.Changes.{NameState, change_of, changes_of, name_changes, names_by}
use Rattle.ufs_crash_laws.specs.declared.data.FileChange.{FileChange}
use Rattle.ufs_crash_laws.proofs.Facts.Contents.{unborn_still}
use Rattle.ufs_crash_laws.proofs.Facts.Histories.{changes_of-push, name_changes-push}
use Rattle.ufs_crash_laws.proofs.Facts.Stores.{unborn_changes}
use Rattle.ufs_crash_laws.proofs.Facts.Sessions.{tree_goes_on}
use Rattle.ufs_hand_laws.specs.Covers.{step_in}
use Rattle.ufs_hand_laws.specs.Draws.{Leaves, client_after, drawn, entry_of, new_file}
use Rattle.ufs_hand_laws.specs.Owned.{one, Has, count}
use Rattle.ufs_hand_laws.specs.Parts.{ClientPart, FilePart, NamesPart, View, OwnFds, Start}
use Rattle.ufs_hand_laws.specs.declared.fresh.Fresh.{Fresh}
use Rattle.ufs_hand_laws.proofs.Covering.{excused_or, tree_served, tree_stays}
use Rattle.ufs_hand_laws.proofs.Drawing.{touches_own}
use Rattle.ufs_hand_laws.proofs.Owning.{weigh_each, has_append, has_each}
use Rattle.ufs_one_hand.specs.Apart.{FileViews, HasEachFile, IsHandOfFile}
use Rattle.ufs_one_hand.specs.OneHand.{HasSession, IsClientAt, IsFileAt, AreNamesAt}
use Rattle.ufs_one_hand.specs.Drawn.{IsAnswer, file_drawn, leaves_after}
use Rattle.ufs_one_hand.proofs.Alike.{IsMine, same_self, untouched}
use Rattle.ufs_one_hand.proofs.Draws.{bare_file, dropped_bare, later_count, later_most, later_names, later_names_are, later_other}
use Rattle.ufs_one_hand.proofs.Files.{bytes_after, file_after, stays}
use Rattle.ufs_one_hand.proofs.Holding.{listed_hold}
use Rattle.ufs_one_hand.proofs.Started.{one_client, start_tree}

module _ (keeps : KeepsTrees) (local : Locality) (k : Start) (h : List Entry) (f : Fresh) (own_fds : OwnFds) (v : View) (a : IsAnswer k h (tree_after k.tree h) f own_fds v) (ticket : ℕ) (is_next : ticket ≡ length h) where
  abbrev now : PosixTree
  now = tree_after k.tree h

  abbrev e : Entry
  e = entry_of 0 f

  abbrev last : Entry
  last = entry_of ticket f

  abbrev longer : List Entry
  longer = h ++ last ∷ []

  abbrev after : PosixTree
  after = goes_on now e

  abbrev l : Leaves
  l = leaves_after now e own_fds v

  abbrev w : View
  w = drawn ticket f l v

  abbrev s : HasSession k h (Some (f.client, f.op)) v
  s = a.session

  then' : after ≡ tree_after k.tree longer
  then' = sym (tree_after-push k.tree h last)

  -- ---- clients

  descs_stay : (c : ℕ) → c ≢ f.client → (fd : ℕ) → desc_at now c fd ≡ desc_at after c fd
  descs_stay c ne fd = ⊎_elim
      (λ x. ap (λ (t : PosixTree). desc_at t c fd) (sym (tree_stays now f.client f.op f.reply x)))
      (λ x. (local now now f.client f.op s.tree s.tree (λ q _. same_self q now)).others (part.Client c) (λ y. ne (touches_own now f.client f.op c y)) fd
      ∙ ap (λ (t : PosixTree). desc_at t c fd) (sym (tree_served now f.client f.op f.reply x)))
      (excused_or f.reply)

  client_counts : (c : ℕ) → count eqb c w.clients ≡ count eqb c v.clients
  client_counts c = weigh_each (client_after last own_fds) (λ n. one (eqb c n)) v.clients

  client_then : (c : ℕ) (p : ClientPart) → Has (c, p) v.clients → Dec (f.client ≡ c) → IsClientAt (tree_after k.tree longer) longer None c (client_after last own_fds c p)
  client_then c p has (yes same) =
      let q = s.clients c p has in
      subst (λ (b : Bool). IsClientAt (tree_after k.tree longer) longer None c (cond b (record p { entries = p.entries ++ last ∷ []; fds = own_fds; asked = None }) p)) (sym (eq-eqb f.client c same)) (record {
        entries = ap (λ es. es ++ last ∷ []) q.entries ∙ subst (λ (n : ℕ). entries_of n h ++ last ∷ [] ≡ entries_of n longer) same (sym (own-push h last));
        fds = λ fd. a.fds fd ∙ (λ i. desc_at (then' i) (same i) fd);
        copies = q.copies;
        asked = refl;
      })
  client_then c p has (no ne) =
      let q = s.clients c p has in
      subst (λ (b : Bool). IsClientAt (tree_after k.tree longer) longer None c (cond b (record p { entries = p.entries ++ last ∷ []; fds = own_fds; asked = None }) p)) (sym (ne_eqb f.client c ne)) (record {
        entries = q.entries ∙ sym (others-push c h last ne);
        fds = λ fd. q.fds fd ∙ descs_stay c (λ is. ne (sym is)) fd ∙ ap (λ (t : PosixTree). desc_at t c fd) then';
        copies = q.copies;
        asked = q.asked ∙ ap (λ b. cond b (Some f.op) None) (ne_eqb f.client c ne);
      })

  client_at : (c : ℕ) (p : ClientPart) → Has (c, p) w.clients → IsClientAt (tree_after k.tree longer) longer None c p
  client_at c p has =
      let x = has_each (client_after last own_fds) c p v.clients has in
      subst (IsClientAt (tree_after k.tree longer) longer None c) x.2 (client_then c x.0 x.1 (ℕ_discrete f.client c))

  their_part : (x : Entry) → Has x longer → 1 ≤ count eqb x.client w.clients
  their_part x has = ⊎_elim
      (λ y. let t = s.theirs x y in let c = client_counts x.client in omega arith)
      (λ y. ⊎_elim (λ (is : x ≡ last). subst (λ (z : Entry). 1 ≤ count eqb z.client w.clients) (sym is) own) (λ z. absurd z) y)
      (has_append x h (last ∷ []) has)
    where
      own : 1 ≤ count eqb f.client w.clients
      own = let o = one_client k h (Some (f.client, f.op)) v s f.client a.low in let c = client_counts f.client in omega arith

  -- ---- files

  file_at : (g : ℕ) (q : FilePart) → Has (g, q) w.files → IsFileAt (tree_after k.tree longer) g q
  file_at g q has =
      let bare = bare_file local k h f own_fds v a g q has in
      record {
        bytes = ap (λ (t : PosixTree). fin.get t.bytes g) (sym then') ∙ bytes_after now e s.tree a.replied v.files g q has;
        leases = bare.3;
        blocks = bare.0;
        quarantine = bare.1;
        spare = bare.2;
        loaded = bare.4;
      }

  file_changes : (g : ℕ) (q : FilePart) → Has (g, q) w.files → q.changes ≡ changes_of g k.tree longer
  file_changes g q has = ⊎_elim
      (λ (x : (p : FilePart) × Has (g, p) v.files × (q ≡ file_drawn now e g p) × (stays now e g ≡ true)).
      ap (λ (y : FilePart). y.changes) x.2 ∙ ap (λ (l : List FileChange). l ++ change_of g (step_in now e)) (s.changes g x.0 x.1) ∙ sym (changes_of-push g k.tree h last))
      (λ (x : (g ≡ now.next) × (q ≡ new_file) × (stays now e now.next ≡ true)).
      ap (λ (y : FilePart). y.changes) x.1
      ∙ sym (changes_of-push g k.tree h last
      ∙ (λ i. (unborn_changes keeps 0 k.tree (start_tree k s.start) h s.legal g (let n = ap (λ (m : ℕ). m) (x.0) in omega arith)).1 i ++ unborn_still now s.tree last g (let n = x.0 in omega arith) i)))
      (file_after now e v.files g q has)

  -- ---- names

  abbrev names : NamesPart
  names = later_names local k h f own_fds v a

  -- a step goes by the request and its reply, and not by its ticket
  changes_then : names.changes ≡ name_changes k.tree longer
  changes_then = ap (λ (l : List NameState). l ++ names_by (step_in now e)) s.names_at.changes ∙ sym (name_changes-push k.tree h last)

  names_then : AreNamesAt k.tree longer (tree_after k.tree longer) names
  names_then = record {
    opening = s.names_at.opening;
    changes = changes_then;
    paths = ap (λ (t : PosixTree). t.paths) then';
    next = ap (λ (t : PosixTree). t.next) then';
    holds = λ c g. listed_hold after.fds c g ∙ ap (λ (t : PosixTree). holds t.fds c g) then';
    leases = s.names_at.leases;
    blocks = s.names_at.blocks;
    spare = s.names_at.spare;
    dropped = dropped_bare local k h f own_fds v a;
  }

  -- ---- the whole

  pub session_after : HasSession k longer None w
  session_after = record {
    legal = legal_from_push 0 k.tree h last s.legal (record { numbered = (let n = is_next in omega arith); replied = a.replied });
    changes = file_changes;
    tree = subst IsTree then' (tree_goes_on keeps now s.tree e a.replied);
    start = s.start;
    all_clients = λ c. client_counts c ∙ s.all_clients c;
    all_asked = s.all_asked;
    clients = client_at;
    theirs = their_part;
    one_file = λ g. subst (λ (t : PosixTree). count eqb g l.files ≤ one (is_some (fin.get t.bytes g))) then' (later_most local k h f own_fds v a g);
    files = file_at;
    pools = s.pools;
    names = names;
    has_names = later_names_are local k h f own_fds v a;
    names_at = names_then;
    store = s.store;
    has_store = s.has_store;
    store_at = s.store_at;
  }

  -- ---- files that are apart

  module _ (files : FileViews) (each : HasEachFile k h v files) where
    -- one that is apart is there, and the hand hasn't it
    away : (g : ℕ) (u : View) → fin.get files g ≡ Some u → (count eqb g v.files ≡ 0) × (is_some (fin.get now.bytes g) ≡ true)
    away g u at = by (is_some (fin.get now.bytes g)) refl
      where
        by : (b : Bool) → is_some (fin.get now.bytes g) ≡ b → (count eqb g v.files ≡ 0) × (b ≡ true)
        by true there = let n = each.here g in let o = ap one there in let c : one (is_some (fin.get files g)) ≡ 1 = ap (λ (x : Option View). one (is_some x)) at in (omega arith, refl)
        by false none = let n = each.here g in let o = ap one none in let c : one (is_some (fin.get files g)) ≡ 1 = ap (λ (x : Option View). one (is_some x)) at in absurd (omega arith)

    -- so the entry doesn't touch it
    stays_away : (g : ℕ) (u : View) → fin.get files g ≡ Some u → (fin.get now.bytes g ≡ fin.get after.bytes g) × (change_of g (step_in now e) ≡ [])
    stays_away g u at = untouched local now e s.tree a.replied g (λ other x. let w = away g u at in let z = w.0 in let c = a.touched other g x w.1 in absurd (omega arith))

    here_after : (g : ℕ) → count eqb g l.files + one (is_some (fin.get files g)) ≡ one (stays now e g)
    here_after g = by (fin.get files g) refl
      where
        mine : (b : Bool) → is_some (fin.get now.bytes g) ≡ b → fin.get files g ≡ None → IsMine now v g
        mine true there at = let n = each.here g in let o = ap one there in let c : one (is_some (fin.get files g)) ≡ 0 = ap (λ (x : Option View). one (is_some x)) at in inl (omega arith)
        mine false none at = inr none

        by : (o : Option View) → fin.get files g ≡ o → count eqb g l.files + one (is_some o) ≡ one (stays now e g)
        by None at = let c = later_count local k h f own_fds v a g (mine (is_some (fin.get now.bytes g)) refl at) in omega arith
        by (Some u) at =
            let w = away g u at in
            let c = later_other local k h f own_fds v a g w.0 w.1 in
            let o : one (stays now e g) ≡ 1 = ap one (ap is_some (sym (stays_away g u at).0) ∙ w.1) in
            omega arith

    hand_after : (g : ℕ) (u : View) → fin.get files g ≡ Some u → IsHandOfFile k longer w.stop g u
    hand_after g u at =
        let old = each.apart g u at in
        let still = stays_away g u at in
        record {
          part = old.part;
          files = old.files;
          at = record {
            bytes = ap (λ (t : PosixTree). fin.get t.bytes g) (sym then') ∙ sym still.0 ∙ old.at.bytes;
            leases = old.at.leases;
            blocks = old.at.blocks;
            quarantine = old.at.quarantine;
            spare = old.at.spare;
            loaded = old.at.loaded;
          };
          changes = old.changes ∙ sym (changes_of-push g k.tree h last ∙ ap (λ (l : List FileChange). changes_of g k.tree h ++ l) still.1 ∙ append-nil (changes_of g k.tree h));
          clients = old.clients;
          asked = old.asked;
          pools = old.pools;
          names = old.names;
          store = old.store;
          faults = old.faults;
          shortages = old.shortages;
          stop = old.stop;
        }

    pub each_after : HasEachFile k longer w files
    each_after = record {
      here = λ g. here_after g ∙ ap (λ (t : PosixTree). one (is_some (fin.get t.bytes g))) then';
      apart = hand_after;
    }

-- So in the tree that its caller names.
pub session_after_in : KeepsTrees → Locality → (k : Start) (h : List Entry) (t : PosixTree) (f : Fresh) (own_fds : OwnFds) (v : View) (ticket : ℕ) → ticket ≡ length h → IsAnswer k h t f own_fds v
    → HasSession k (h ++ entry_of ticket f ∷ []) None (drawn ticket f (leaves_after t (entry_of 0 f) own_fds v) v)
session_after_in keeps local k h t f own_fds v ticket is_next a =
    subst (λ (u : PosixTree). HasSession k (h ++ entry_of ticket f ∷ []) None (drawn ticket f (leaves_after u (entry_of 0 f) own_fds v) v)) (sym a.tree_is)
    (session_after keeps local k h f own_fds v (subst (λ (u : PosixTree). IsAnswer k h u f own_fds v) a.tree_is a) ticket is_next)

pub each_after_in : KeepsTrees → Locality → (k : Start) (h : List Entry) (t : PosixTree) (f : Fresh) (own_fds : OwnFds) (v : View) (ticket : ℕ) → ticket ≡ length h → IsAnswer k h t f own_fds v
    → (files : FileViews) → HasEachFile k h v files → HasEachFile k (h ++ entry_of ticket f ∷ []) (drawn ticket f (leaves_after t (entry_of 0 f) own_fds v) v) files
each_after_in keeps local k h t f own_fds v ticket is_next a files each =
    subst (λ (u : PosixTree). HasEachFile k (h ++ entry_of ticket f ∷ []) (drawn ticket f (leaves_after u (entry_of 0 f) own_fds v) v) files) (sym a.tree_is)
    (each_after keeps local k h f own_fds v (subst (λ (u : PosixTree). IsAnswer k h u f own_fds v) a.tree_is a) ticket is_next files each)
