-- How many changes of names an acknowledgement asks for: no more than there are, no more than any number that covers what is
-- acknowledged, and enough that each file that it syncs is made by then.
use Rattle.std.proofs.Common.{◌≡◌, ℕ, zero, suc, ◌<◌, ◌≤◌, ◌&&◌, ◌||◌, eqb-true, Bool, true, false, cond, eqb, List, [], ◌∷◌, ◌++◌, length, Option, Some, None, sym, refl, ap, ◌∙◌, subst, inl, inr, arith, append-nil}
use Rattle.std.specs.Prelude.{nat_lt, slice_index_or, is_none, is_some, if◌then◌else◌}
use Rattle.std.specs.FinMap as fin
use Rattle.std.proofs.lemmas.Bool.Decides.{nat_tests}
use Rattle.ufs_model.specs.Descriptors.{opened}
use Rattle.ufs_model.specs.History.{goes_on, tree_after}
use Rattle.ufs_model.specs.PosixTree.{PosixTree, is_number}
use Rattle.ufs_model.specs.declared.data.Entry.{Entry}
use Rattle.ufs_model.specs.declared.data.Op.{Op}
use Rattle.ufs_model.specs.declared.data.Op.TheVariants as op
use Rattle.ufs_crash_laws.specs.Changes.{NameState, asks_commit, asks_dir_fsync, asks_fsync, asks_sync, changes_names, name_changes, names_after, names_by, names_of, syncs_file, syncs_names}
use Rattle.ufs_crash_laws.specs.Steps.{is_ok, is_served}
use Rattle.ufs_crash_laws.proofs.Facts.Histories.{name_changes-push}
use Rattle.ufs_crash_laws.proofs.Facts.Sessions.{fsynced_live, names_last, next_names}
use Rattle.ufs_hand_laws.specs.Acknowledged.{AreNamesAcknowledged, BirthsAreAcknowledged, NamesAreAcknowledged}
use Rattle.ufs_hand_laws.specs.Covers.{SyncsFile, SyncsNames, step_in}
use Rattle.ufs_hand_laws.specs.Marks.{IsMadeBy}
use Rattle.ufs_hand_laws.specs.Owned.{one, Has}
use Rattle.ufs_hand_laws.specs.Parts.{FilePart, NamesPart, Start, View}
use Rattle.ufs_hand_laws.proofs.Keys.{itself, alike}
use Rattle.ufs_hand_laws.proofs.Owning.{count_has}
use Rattle.ufs_one_hand.specs.Drawn.{IsAcknowledged}
use Rattle.ufs_one_hand.specs.OneHand.{HasSession}
use Rattle.ufs_one_hand.proofs.Passage.{store_there}
use Rattle.ufs_one_hand.proofs.Kept.{birth_of, file_asked, made_with, names_asked}

-- ---- the first change that makes a file

-- it isn't behind one that has made it
made_least : (file : ℕ) (ss : List NameState) (d : NameState) (n : ℕ) → n < length ss → file < (slice_index_or ss n d).next → made_with file ss ≤ n
made_least file [] d n low there = absurd (omega (arith, low))
made_least file (s ∷ ss) d zero low there = subst (λ b. cond b 0 (suc (made_with file ss)) ≤ 0) (sym (let e : nat_lt file s.next ≡ true = grind (arith, nat_tests, there) in e)) (omega arith)
made_least file (s ∷ ss) d (suc n) low there = by (nat_lt file s.next) (made_least file ss d n (omega (arith, low)) there)
  where
    by : (b : Bool) → made_with file ss ≤ n → cond b 0 (suc (made_with file ss)) ≤ suc n
    by true r = omega arith
    by false r = omega arith

-- and has made it, if any has
made_there : (file : ℕ) (ss : List NameState) (d : NameState) (n : ℕ) → n < length ss → file < (slice_index_or ss n d).next → file < (slice_index_or ss (made_with file ss) d).next
made_there file [] d n low there = absurd (omega (arith, low))
made_there file (s ∷ ss) d n low there = by (nat_lt file s.next) refl n low there (made_there file ss d)
  where
    by : (b : Bool) → nat_lt file s.next ≡ b → (n : ℕ) → n < length (s ∷ ss) → file < (slice_index_or (s ∷ ss) n d).next
        → ((m : ℕ) → m < length ss → file < (slice_index_or ss m d).next → file < (slice_index_or ss (made_with file ss) d).next) → file < (slice_index_or (s ∷ ss) (cond b 0 (suc (made_with file ss))) d).next
    by true is n low there rest = grind (arith, nat_tests, is)
    by false is zero low there rest = let no : nat_lt file s.next ≡ true = grind (arith, nat_tests, there) in let f : false ≡ true = sym is ∙ no in cc
    by false is (suc n) low there rest = rest n (omega (arith, low)) there

-- ---- which acknowledgement it is

data Asks (t : PosixTree) (client : ℕ) (o : Op) : Type 0 where
  All : o ≡ op.Sync → Asks t client o
  Dir : (fd : ℕ) → o ≡ op.Fsync fd → (opened t client fd).file ≡ None → Asks t client o
  One : (fd file : ℕ) → o ≡ op.Fsync fd → (opened t client fd).file ≡ Some file → Asks t client o

which : (t : PosixTree) (client : ℕ) (o : Op) → asks_commit o ≡ true → Asks t client o
which t client (op.Fsync fd) is = by (opened t client fd).file refl
  where
    by : (f : Option ℕ) → (opened t client fd).file ≡ f → Asks t client (op.Fsync fd)
    by None e = Dir fd refl e
    by (Some file) e = One fd file refl e
which t client op.Sync is = All refl
which t client _ is = cc

module _ (k : Start) (history : List Entry) (t : PosixTree) (e : Entry) (v : View) (a : IsAcknowledged k history t e v) where
  abbrev h : HasSession k history (Some (e.client, e.op)) v
  h = a.session

  abbrev p : NamesPart
  p = h.names

  abbrev now : PosixTree
  now = tree_after k.tree history

  kind : Asks t e.client e.op
  kind = which t e.client e.op a.asks

  -- ---- what each acknowledges

  all_names : e.op ≡ op.Sync → syncs_names (step_in t e) ≡ true
  all_names o = λ i. is_ok (a.done i) && (asks_dir_fsync t e.client (o i) || asks_sync (o i))

  dir_names : (fd : ℕ) → e.op ≡ op.Fsync fd → (opened t e.client fd).file ≡ None → syncs_names (step_in t e) ≡ true
  dir_names fd o f = (λ i. is_ok (a.done i) && (asks_dir_fsync t e.client (o i) || asks_sync (o i))) ∙ ap (λ (x : Option ℕ). true && (is_none x || false)) f

  one_names : (fd file : ℕ) → e.op ≡ op.Fsync fd → (opened t e.client fd).file ≡ Some file → syncs_names (step_in t e) ≡ false
  one_names fd file o f = (λ i. is_ok (a.done i) && (asks_dir_fsync t e.client (o i) || asks_sync (o i))) ∙ ap (λ (x : Option ℕ). true && (is_none x || false)) f

  dir_file : (fd g : ℕ) → e.op ≡ op.Fsync fd → (opened t e.client fd).file ≡ None → syncs_file g (step_in t e) ≡ false
  dir_file fd g o f = (λ i. is_ok (a.done i) && (asks_fsync g t e.client (o i) || asks_sync (o i))) ∙ ap (λ (x : Option ℕ). true && (is_number g x || false)) f

  one_file : (fd file g : ℕ) → e.op ≡ op.Fsync fd → (opened t e.client fd).file ≡ Some file → syncs_file g (step_in t e) ≡ (is_number g (Some file) || false)
  one_file fd file g o f = (λ i. is_ok (a.done i) && (asks_fsync g t e.client (o i) || asks_sync (o i))) ∙ ap (λ (x : Option ℕ). true && (is_number g x || false)) f

  pub asked_all : syncs_names (step_in t e) ≡ true → names_asked t e p ≡ length p.changes
  asked_all is = ap (λ b. cond b (length p.changes) (birth_of p (file_asked t e.client e.op))) is

  asked_one : (fd file : ℕ) → e.op ≡ op.Fsync fd → (opened t e.client fd).file ≡ Some file → names_asked t e p ≡ made_with file (p.opening ∷ p.changes)
  asked_one fd file o f = ap (λ b. cond b (length p.changes) (birth_of p (file_asked t e.client e.op))) (one_names fd file o f) ∙ ap (λ (r : Op). birth_of p (file_asked t e.client r)) o ∙ ap (birth_of p) f

  -- ---- the names of the history

  abbrev states : List NameState
  states = p.opening ∷ p.changes

  states_are : states ≡ names_of k.tree ∷ name_changes k.tree history
  states_are = λ i. h.names_at.opening i ∷ h.names_at.changes i

  made_is : (m : ℕ) → (slice_index_or states m p.opening).next ≡ (names_after k.tree history m).next
  made_is m = λ i. (slice_index_or (states_are i) m (h.names_at.opening i)).next

  changes_are : length p.changes ≡ length (name_changes k.tree history)
  changes_are = ap length h.names_at.changes

  last_is : (names_after k.tree history (length p.changes)).next ≡ now.next
  last_is = ap (λ m. (names_after k.tree history m).next) changes_are ∙ ap (λ (s : NameState). s.next) (names_last k.tree history h.legal)

  -- a file that the hand has was made
  born : (g : ℕ) (x : FilePart) → Has (g, x) v.files → g < now.next
  born g x has =
      let c = count_has eqb itself alike g x v.files has in
      let n = h.one_file g in
      h.tree.numbered g (there (is_some (fin.get now.bytes g)) (omega (arith, c, n)))
    where
      there : (b : Bool) → 1 ≤ one b → b ≡ true
      there true l = refl
      there false l = absurd (omega arith)

  -- ---- the number

  -- a file that is open was made
  open_born : (fd file : ℕ) → e.op ≡ op.Fsync fd → (opened t e.client fd).file ≡ Some file → file < now.next
  open_born fd file o f = h.tree.numbered file (fsynced_live now h.tree e.client e.op file (ap (λ (u : PosixTree). asks_fsync file u e.client e.op) (sym a.tree_is) ∙ ap (asks_fsync file t e.client) o ∙ ap (is_number file) f ∙ itself file))

  -- the names after all changes have made it
  made_last : (file : ℕ) → file < now.next → file < (slice_index_or states (length p.changes) p.opening).next
  made_last file low = let i = made_is (length p.changes) in let l = last_is in omega arith

  -- it changes no names
  no_change : Asks t e.client e.op → names_by (step_in now e) ≡ []
  no_change (All o) = λ i. if is_served (a.done i) && changes_names now (o i) then names_of (goes_on now e) ∷ [] else []
  no_change (Dir fd o f) = λ i. if is_served (a.done i) && changes_names now (o i) then names_of (goes_on now e) ∷ [] else []
  no_change (One fd file o f) = λ i. if is_served (a.done i) && changes_names now (o i) then names_of (goes_on now e) ∷ [] else []

  pub same_changes : name_changes k.tree (history ++ e ∷ []) ≡ name_changes k.tree history
  same_changes = name_changes-push k.tree history e ∙ ap (λ (l : List NameState). name_changes k.tree history ++ l) (no_change kind) ∙ append-nil (name_changes k.tree history)

  -- no more than there are
  pub asked_most : names_asked t e p ≤ length p.changes
  asked_most = by kind
    where
      by : Asks t e.client e.op → names_asked t e p ≤ length p.changes
      by (All o) = let n = asked_all (all_names o) in omega arith
      by (Dir fd o f) = let n = asked_all (dir_names fd o f) in omega arith
      by (One fd file o f) =
          let n = asked_one fd file o f in
          let l = made_least file states p.opening (length p.changes) (omega arith) (made_last file (open_born fd file o f)) in
          omega arith

  -- no more than any number that covers what is acknowledged
  pub asked_least : NamesAreAcknowledged → BirthsAreAcknowledged → AreNamesAcknowledged k.tree (history ++ e ∷ []) (names_asked t e p)
  asked_least law births n made synced covers = by kind
    where
      all : SyncsNames now e.client e.op → syncs_names (step_in t e) ≡ true → names_asked t e p ≤ n
      all syncs is = let x = asked_all is in let y = law k.tree history e a.done syncs in let z = changes_are in omega arith

      by : Asks t e.client e.op → names_asked t e p ≤ n
      by (All o) = all ((λ i. asks_dir_fsync now e.client (o i) || asks_sync (o i))) (all_names o)
      by (Dir fd o f) = all ((λ i. asks_dir_fsync (sym a.tree_is i) e.client (o i) || asks_sync (o i)) ∙ ap (λ (x : Option ℕ). is_none x || false) f) (dir_names fd o f)
      by (One fd file o f) =
          let x = asked_one fd file o f in
          let syncs : asks_fsync file now e.client e.op ≡ true = ap (λ (u : PosixTree). asks_fsync file u e.client e.op) (sym a.tree_is) ∙ ap (asks_fsync file t e.client) o ∙ ap (is_number file) f ∙ itself file in
          let low = covers file (births k.tree history e file a.done syncs) in
          let same : (names_after k.tree (history ++ e ∷ []) n).next ≡ (slice_index_or states n p.opening).next = ap (λ (l : List NameState). (slice_index_or (names_of k.tree ∷ l) n (names_of k.tree)).next) same_changes ∙ sym (made_is n) in
          let few = ap length same_changes in let z = changes_are in
          let l = made_least file states p.opening n (omega arith) (omega arith) in
          omega arith

  -- enough that each file that it syncs is made by then
  pub asked_made : (g : ℕ) (x : FilePart) → Has (g, x) v.files → syncs_file g (step_in t e) ≡ true → (m : ℕ) → names_asked t e p ≤ m → m ≤ length p.changes → IsMadeBy p m g
  asked_made g x has syncs m least most = by kind
    where
      last : syncs_names (step_in t e) ≡ true → IsMadeBy p m g
      last is = let n = asked_all is in let same : m ≡ length p.changes = omega arith in subst (λ j. g < (slice_index_or states j p.opening).next) (sym same) (made_last g (born g x has))

      by : Asks t e.client e.op → IsMadeBy p m g
      by (All o) = last (all_names o)
      by (Dir fd o f) = let no : false ≡ true = sym (dir_file fd g o f) ∙ syncs in cc
      by (One fd file o f) =
          let is : g ≡ file = by_name (eqb file g) refl (sym (one_file fd file g o f) ∙ syncs) in
          let n = asked_one fd file o f in
          let first = made_there file states p.opening (length p.changes) (omega arith) (made_last file (open_born fd file o f)) in
          let i = made_is (made_with file states) in let j = made_is m in
          let z = changes_are in
          let up = next_names k.tree history h.legal (made_with file states) m (omega arith) (omega arith) in
          omega arith
        where
          by_name : (b : Bool) → eqb file g ≡ b → (b || false) ≡ true → g ≡ file
          by_name true e syncs = sym (eqb-true file g e)
          by_name false e syncs = cc

  -- the store has no more than there are
  pub store_low : h.store.names ≤ length p.changes
  store_low =
      let c = (a.covered h.store (store_there k history (Some (e.client, e.op)) v h)).made in
      let few = ap length same_changes in let z = changes_are in omega arith

  -- whose changes it acknowledges, it syncs
  pub synced_file : (g : ℕ) (x : FilePart) → Has (g, x) v.files → syncs_file g (step_in t e) ≡ true → SyncsFile now e.client e.op g
  synced_file g x has syncs = by kind
    where
      there : is_some (fin.get now.bytes g) ≡ true
      there = at (is_some (fin.get now.bytes g)) (let c = count_has eqb itself alike g x v.files has in let n = h.one_file g in omega arith)
        where
          at : (b : Bool) → 1 ≤ one b → b ≡ true
          at true l = refl
          at false l = absurd (omega arith)

      by : Asks t e.client e.op → SyncsFile now e.client e.op g
      by (All o) = inr (ap asks_sync o, there)
      by (Dir fd o f) = let no : false ≡ true = sym (dir_file fd g o f) ∙ syncs in cc
      by (One fd file o f) = inl (ap (λ (u : PosixTree). asks_fsync g u e.client e.op) (sym a.tree_is) ∙ ap (asks_fsync g t e.client) o ∙ ap (is_number g) f ∙ name (eqb file g) (sym (one_file fd file g o f) ∙ syncs))
        where
          name : (b : Bool) → (b || false) ≡ true → b ≡ true
          name true s = refl
          name false s = cc
