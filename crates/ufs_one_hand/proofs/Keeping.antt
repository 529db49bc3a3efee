-- What an entry acknowledges is committed, in three steps: the changes of names, by a turn of the disk; then the files that
-- it syncs learn that they are born; then the changes of those files, by another turn. The disk stays as it is: by the
-- entry it shows that so much is committed.
use Rattle.std.proofs.Common.{◌≡◌, ◌⊎◌, ℕ, ◌+◌, ◌-◌, ◌≤◌, ◌||◌, eq-eqb, Bool, true, false, cond, leb, eqb, List, [], ◌∷◌, ◌++◌, length, Option, Some, None, unwrap_or, sym, refl, ap, ◌∙◌, subst, inl, inr, ⊎_elim, arith}
use native.Mathlib.Decide.{ℕ_discrete, dec_le}
use Rattle.std.specs.Prelude.{is_some}
use Rattle.std.proofs.lemmas.Bool.Decides.{nat_tests}
use Rattle.std.specs.Ordering.{nat_cmp}
use Rattle.std.specs.FinMap as fin
use Rattle.std.specs.FinMap.{nat_cmp-IsAntisymmetric}
use Rattle.std.specs.Cmp.{nat_cmp_total}
use Rattle.ufs_model.specs.History.{IsLegal, IsReplyTo, tree_after}
use Rattle.ufs_model.specs.Laws.{KeepsTrees}
use Rattle.ufs_model.specs.PosixTree.{PosixTree}
use Rattle.ufs_model.specs.declared.data.Entry.{Entry}
use Rattle.ufs_model.specs.declared.data.Op.{Op}
use Rattle.ufs_model.proofs.Facts.Lookups.{inserted_here, inserted_else}
use Rattle.ufs_crash_laws.specs.Changes.{name_changes, file_synced, syncs_file, syncs_names}
use Rattle.ufs_hand_laws.specs.Acknowledged.{AcknowledgedShow, AreFilesAcknowledged, AreNamesAcknowledged, BirthsAreAcknowledged, FilesAreAcknowledged, NamesAreAcknowledged}
use Rattle.ufs_hand_laws.specs.ByImages.{by_images}
use Rattle.ufs_hand_laws.specs.Covers.{step_in}
use Rattle.ufs_hand_laws.specs.Marks.{value_after, IsSingle, IsMadeBy, StoreGoes, NamesGo, RemakesOn, MayRemake, IsBeginningKnown}
use Rattle.ufs_hand_laws.specs.Owned.{one, Has, count, each, weigh}
use Rattle.ufs_hand_laws.specs.Parts.{Cells, FilePart, NamesPart, Start, StorePart, View, committed, file_uses, later, only_one, store_uses}
use Rattle.ufs_hand_laws.specs.Shown.{ExplainsImages, ShowsImages}
use Rattle.ufs_hand_laws.specs.Visible.{IsDiskVisible}
use Rattle.ufs_hand_laws.proofs.Happening.Staying.{answers_stay, blocks_stay, both_remake, same_file, same_parts_keep, same_parts_know}
use Rattle.ufs_hand_laws.proofs.Keys.{itself, alike}
use Rattle.ufs_hand_laws.proofs.Owning.{count_has, has_count, has_append, append_has, has_each, weigh_each}
use Rattle.ufs_hand.specs.Session.{IsEvent}
use Rattle.ufs_one_hand.specs.Drawn.{IsAcknowledged, turned}
use Rattle.ufs_one_hand.specs.OneHand.{HasSession, IsCovered, IsCoveredIn, IsStampedIn, IsStoreAt, KnowsSynced, faults_in, in_store, passed_in, state_in}
use Rattle.ufs_one_hand.proofs.Asked.{asked_all, asked_least, asked_made, asked_most, same_changes, store_low, synced_file}
use Rattle.ufs_one_hand.proofs.Bare.{disk_kept}
use Rattle.ufs_one_hand.proofs.Kept.{AreBirthsTold, AreBorn, births_kept, counts_with, files_asked, files_kept, names_asked, names_asked_in, names_kept}
use Rattle.ufs_one_hand.proofs.Passage.{is_turn, one_part, stays_stamped, store_there, turned_at, with_parts}
use Rattle.ufs_one_hand.proofs.Showing.{acknowledged_shows, legal_with}
use Rattle.ufs_one_hand.proofs.Tickets.{known_tickets, begun_is, whole_is}

-- ---- lists of parts

-- what is listed is a file of the hand whose changes the entry acknowledges,
asked_has : (t : PosixTree) (e : Entry) (g : ℕ) (ps : List (ℕ × FilePart)) → Has g (files_asked t e ps) → (x : FilePart) × Has (g, x) ps × (syncs_file g (step_in t e) ≡ true)
asked_has t e g [] a = absurd a
asked_has t e g (p ∷ ps) a = by (syncs_file p.0 (step_in t e)) refl a (asked_has t e g ps)
  where
    by : (b : Bool) → syncs_file p.0 (step_in t e) ≡ b → Has g (cond b (p.0 ∷ files_asked t e ps) (files_asked t e ps)) → (Has g (files_asked t e ps) → (x : FilePart) × Has (g, x) ps × (syncs_file g (step_in t e) ≡ true))
        → (x : FilePart) × Has (g, x) (p ∷ ps) × (syncs_file g (step_in t e) ≡ true)
    by true is (inl same) rest = (p.1, inl (ap (λ (n : ℕ). (n, p.1)) same), ap (λ n. syncs_file n (step_in t e)) same ∙ is)
    by true is (inr more) rest = let r = rest more in (r.0, inr r.1, r.2)
    by false is more rest = let r = rest more in (r.0, inr r.1, r.2)

-- and each of them is
has_asked : (t : PosixTree) (e : Entry) (g : ℕ) (x : FilePart) (ps : List (ℕ × FilePart)) → Has (g, x) ps → syncs_file g (step_in t e) ≡ true → Has g (files_asked t e ps)
has_asked t e g x [] a syncs = absurd a
has_asked t e g x (p ∷ ps) a syncs = by (syncs_file p.0 (step_in t e)) refl a (λ b. has_asked t e g x ps b syncs)
  where
    by : (b : Bool) → syncs_file p.0 (step_in t e) ≡ b → Has (g, x) (p ∷ ps) → (Has (g, x) ps → Has g (files_asked t e ps)) → Has g (cond b (p.0 ∷ files_asked t e ps) (files_asked t e ps))
    by true is (inl same) r = inl (ap (λ (q : ℕ × FilePart). q.0) same)
    by true is (inr more) r = inr (r more)
    by false is (inl same) r = let no : false ≡ true = sym is ∙ ap (λ n. syncs_file n (step_in t e)) (sym (ap (λ (q : ℕ × FilePart). q.0) same)) ∙ syncs in cc
    by false is (inr more) r = r more

-- a sum over the files stays, where what is summed stays of each
weigh_stays : (go : ℕ → FilePart → FilePart) (m : ℕ × FilePart → ℕ) → ((f : ℕ) (x : FilePart) → m (f, go f x) ≡ m (f, x)) → (ps : List (ℕ × FilePart)) → weigh m (each go ps) ≡ weigh m ps
weigh_stays go m same [] = refl
weigh_stays go m same (p ∷ ps) = let e = same p.0 p.1 in let i = weigh_stays go m same ps in omega (arith, e, i)

module _ (t : PosixTree) (e : Entry) where
  -- of a file that isn't listed the number is as it was,
  counts_else : (fs : List (ℕ × FilePart)) (counts : fin.FinMap nat_cmp ℕ) (g : ℕ) → count eqb g fs ≡ 0 → fin.get (counts_with t e fs counts) g ≡ fin.get counts g
  counts_else [] counts g z = refl
  counts_else (f ∷ fs) counts g z =
      inserted_else nat_cmp_total nat_cmp-IsAntisymmetric (counts_with t e fs counts) f.0 (cond (syncs_file f.0 (step_in t e)) (length f.1.changes) (unwrap_or (fin.get counts f.0) 0)) g
      (λ e. let c : one (eqb g f.0) ≡ 1 = ap one (eq-eqb g f.0 e) in absurd (omega (arith, c, z)))
      ∙ counts_else fs counts g (omega (arith, z))

  -- and of one that is listed once it is this
  counts_here : (fs : List (ℕ × FilePart)) (counts : fin.FinMap nat_cmp ℕ) (g : ℕ) (x : FilePart) → count eqb g fs ≤ 1 → Has (g, x) fs
      → fin.get (counts_with t e fs counts) g ≡ Some (cond (syncs_file g (step_in t e)) (length x.changes) (unwrap_or (fin.get counts g) 0))
  counts_here [] counts g x l a = absurd a
  counts_here (f ∷ fs) counts g x l a = by (ℕ_discrete g f.0) a (λ m b. counts_here fs counts g x m b)
    where
      number : ℕ → FilePart → ℕ
      number n y = cond (syncs_file n (step_in t e)) (length y.changes) (unwrap_or (fin.get counts n) 0)

      by : Dec (g ≡ f.0) → ((g, x) ≡ f) ⊎ Has (g, x) fs → (count eqb g fs ≤ 1 → Has (g, x) fs → fin.get (counts_with t e fs counts) g ≡ Some (number g x)) → fin.get (counts_with t e (f ∷ fs) counts) g ≡ Some (number g x)
      by (yes same) (inl s) r =
          ap (fin.get (counts_with t e (f ∷ fs) counts)) same ∙ inserted_here nat_cmp_total nat_cmp-IsAntisymmetric (counts_with t e fs counts) f.0 (number f.0 f.1)
          ∙ ap (λ (q : ℕ × FilePart). Some (number q.0 q.1)) (sym s)
      by (yes same) (inr b) r = let c : one (eqb g f.0) ≡ 1 = ap one (eq-eqb g f.0 same) in let d = count_has eqb itself alike g x fs b in absurd (omega (arith, c, d, l))
      by (no n) (inl s) r = absurd (n (ap (λ (q : ℕ × FilePart). q.0) s))
      by (no n) (inr b) r = inserted_else nat_cmp_total nat_cmp-IsAntisymmetric (counts_with t e fs counts) f.0 (number f.0 f.1) g n ∙ r (omega (arith, l)) b

-- the same file, but for what it knows
record IsSameFile (x y : FilePart) : Type 0 where
  bytes : y.bytes ≡ x.bytes
  leases : y.leases ≡ x.leases
  blocks : y.blocks ≡ x.blocks
  quarantine : y.quarantine ≡ x.quarantine
  spare : y.spare ≡ x.spare
  loaded : y.loaded ≡ x.loaded
  changes : y.changes ≡ x.changes

-- ---- what each step has from the entry

module _ (k : Start) (history : List Entry) (t : PosixTree) (e : Entry) (v : View) (a : IsAcknowledged k history t e v) where
  abbrev asked : Option (ℕ × Op)
  asked = Some (e.client, e.op)

  abbrev h : HasSession k history asked v
  h = a.session

  -- no more is committed than the history with the entry acknowledges
  covered : IsCovered k (history ++ e ∷ []) h.store
  covered = a.covered h.store (store_there k history asked v h)

  -- what the disk shows of each history that the hand may know, if so much is committed
  shown : KeepsTrees → AcknowledgedShow → (files : ℕ → ℕ) (names n : ℕ) (g : List Entry) → IsDiskVisible k → IsBeginningKnown k v n n g
      → AreFilesAcknowledged k.tree (history ++ e ∷ []) files → AreNamesAcknowledged k.tree (history ++ e ∷ []) names → ShowsImages k.tree g files names None h.store.state
  shown keeps law files names n g visible b of_files of_names =
      let late = known_tickets k history asked v h n n g b in
      let legal = subst (IsLegal k.tree) (whole_is k history asked v h n n g b) b.legal in
      subst (λ (z : List Entry). ShowsImages k.tree z files names None h.store.state) (sym (begun_is k history asked v h n n g b (omega arith)))
      (acknowledged_shows keeps k h.start history h.store h.store.state e files names law
      (legal_with k history e legal a.ticket (subst (λ (u : PosixTree). IsReplyTo u e) a.tree_is a.replied) a.done) a.done a.asks of_files of_names
      (subst (λ (ss : List (Unit {0} × StorePart)). ExplainsImages k.tree (history ++ e ∷ []) (in_store [] (λ s. s.state) ss)) h.has_store (a.explained visible)))

  -- a session with other files and another store, where the files are the same but for what they know
  files_session : (fs : List (ℕ × FilePart)) → ((f : ℕ) (y : FilePart) → Has (f, y) fs → (x : FilePart) × Has (f, x) v.files × IsSameFile x y) → ((f : ℕ) → count eqb f fs ≡ count eqb f v.files)
      → (u : StorePart) → IsStoreAt v.stop u → (n : ℕ) → HasSession k history asked (record v { files = fs; store = (tt, u) ∷ []; seen = n })
  files_session fs same counts u at n = with_parts k history asked v h fs counts
      (λ f y has. let r = same f y has in let at = h.files f r.0 r.1 in (
        record {
          bytes = at.bytes ∙ ap Some (sym r.2.bytes);
          leases = r.2.leases ∙ at.leases;
          blocks = r.2.blocks ∙ at.blocks;
          quarantine = r.2.quarantine ∙ at.quarantine;
          spare = r.2.spare ∙ at.spare;
          loaded = r.2.loaded ∙ at.loaded;
        },
        r.2.changes ∙ h.changes f r.0 r.1,
      ))
      v.names h.names h.has_names h.names_at u v.faults v.stop v.shortages n at

  -- ---- first the changes of names

  module _ (n : ℕ) where
    -- so many of them, in these parts
    abbrev number : ℕ
    number = later h.store.names (names_asked t e h.names)

    abbrev t1 : StorePart
    t1 = record (turned n [] h.store) { names = number }

    abbrev q1 : NamesPart
    q1 = record h.names { born = h.names.born ++ files_asked t e v.files; known = cond (syncs_names (step_in t e)) (length h.names.changes) h.names.known }

    abbrev w1 : View
    w1 = record v { names = (tt, q1) ∷ []; store = (tt, t1) ∷ []; seen = n }

    is1 : w1 ≡ names_kept t e v n
    is1 = λ j. names_kept t e (record v { names = sym h.has_names j; store = sym h.has_store j }) n

    -- the number is the later of two: no less than before, and one of them
    at_least : h.store.names ≤ number
    at_least = by (leb h.store.names (names_asked t e h.names)) refl
      where
        by : (b : Bool) → leb h.store.names (names_asked t e h.names) ≡ b → h.store.names ≤ cond b (names_asked t e h.names) h.store.names
        by true is = grind (arith, nat_tests, is)
        by false is = omega arith

    one_of : (P : ℕ → Type 0) → P h.store.names → P (names_asked t e h.names) → P number
    one_of P old new = by (leb h.store.names (names_asked t e h.names))
      where
        by : (b : Bool) → P (cond b (names_asked t e h.names) h.store.names)
        by true = new
        by false = old

    -- as many as the entry acknowledges, and no more than there are
    asked_later : names_asked t e h.names ≤ number
    asked_later = by (leb h.store.names (names_asked t e h.names)) refl
      where
        by : (b : Bool) → leb h.store.names (names_asked t e h.names) ≡ b → names_asked t e h.names ≤ cond b (names_asked t e h.names) h.store.names
        by true is = omega arith
        by false is = grind (arith, nat_tests, is)

    made : number ≤ length h.names.changes
    made = one_of (λ m. m ≤ length h.names.changes) (store_low k history t e v a) (asked_most k history t e v a)

    -- each file of which the names tell is made by then
    made_by : (g : ℕ) → Has g (files_asked t e v.files) → IsMadeBy h.names number g
    made_by g has = let r = asked_has t e g v.files has in asked_made k history t e v a g r.0 r.1 r.2 number asked_later made

    -- what the entry asks for holds on
    module _ (names_law : NamesAreAcknowledged) (births_law : BirthsAreAcknowledged) where
      numbers : AreNamesAcknowledged k.tree (history ++ e ∷ []) number
      numbers m few synced born = one_of (λ j. j ≤ m) (covered.names m few synced born) (asked_least k history t e v a names_law births_law m few synced born)

      names_acked : IsAcknowledged k history t e (names_kept t e v n)
      names_acked = subst (IsAcknowledged k history t e) is1 (record {
        tree_is = a.tree_is;
        session = session;
        covered = λ s has. subst (IsCovered k (history ++ e ∷ [])) (sym (one_part s t1 has)) (record { files = covered.files; names = numbers; made = let l = made in let z = few in omega arith });
        ticket = a.ticket;
        replied = a.replied;
        done = a.done;
        asks = a.asks;
        explained = λ visible. subst (λ (ss : List (Unit {0} × StorePart)). ExplainsImages k.tree (history ++ e ∷ []) (in_store [] (λ s. s.state) ss)) h.has_store (a.explained visible);
      })
        where
          few : length h.names.changes ≡ length (name_changes k.tree (history ++ e ∷ []))
          few = ap length (h.names_at.changes ∙ sym (same_changes k history t e v a))

          session : HasSession k history asked w1
          session = with_parts k history asked v h v.files (λ f. refl) (λ f p has. (h.files f p has, h.changes f p has)) ((tt, q1) ∷ []) q1 refl
              (record {
                opening = h.names_at.opening;
                changes = h.names_at.changes;
                paths = h.names_at.paths;
                next = h.names_at.next;
                holds = h.names_at.holds;
                leases = h.names_at.leases;
                blocks = h.names_at.blocks;
                spare = h.names_at.spare;
                dropped = h.names_at.dropped;
              })
              t1 v.faults v.stop v.shortages n (turned_at v.stop h.store h.store_at n [] h.store.files number)

    -- the hand may take this step
    module _ (keeps : KeepsTrees) (law : AcknowledgedShow) (names_law : NamesAreAcknowledged) (births_law : BirthsAreAcknowledged) where
      here1 : IsSingle v → RemakesOn by_images k n v w1 h.store t1 h.names q1
      here1 single = record {
        kept = blocks_stay v w1 h.store t1 h.names q1 (same_parts_keep v w1 (same_file v single)) (λ g bs e. e) (λ g bs a. a) (λ kept. kept);
        rise = record {
          others = λ g z. refl;
          made = λ g x a l. (omega arith, l);
          only_born = λ g x a. inl refl;
          names_made = λ l. (at_least, made);
          known = λ g x y a b l m. let e = (same_parts_know v w1 (same_file v single) g x y a b).0 in (omega (arith, e), omega (arith, e, l));
          born = λ g x y a b e. inl (sym (same_parts_know v w1 (same_file v single) g x y a b).1 ∙ e);
          names_known = λ l m. known l m;
          names_born = λ g has. ⊎_elim inl (λ x. inr (made_by g x)) (has_append g h.names.born (files_asked t e v.files) has);
        };
        disk = λ visible. disk_kept k h.start v w1 h.store t1 (λ g y has. (h.files g y has).blocks);
        shown = inr (is_turn k n v h.store t1 h.names [] (inl refl) refl (λ visible g b x has. absurd has)
            (λ visible g b has shows. shown keeps law (committed h.store) number n g visible b covered.files (numbers names_law births_law)));
        answers = answers_stay v w1 h.store t1 refl refl refl refl refl refl;
      }
        where
          known : h.names.known ≤ h.store.names → h.store.names ≤ length h.names.changes → (h.names.known ≤ q1.known) × (q1.known ≤ number)
          known l m = by (syncs_names (step_in t e)) refl
            where
              by : (b : Bool) → syncs_names (step_in t e) ≡ b → (h.names.known ≤ cond b (length h.names.changes) h.names.known) × (cond b (length h.names.changes) h.names.known ≤ number)
              by true is = let s : names_asked t e h.names ≡ length h.names.changes = asked_all k history t e v a is in let u = asked_later in (omega arith, omega arith)
              by false is = let u = at_least in (omega arith, omega arith)

      may_keep_names : MayRemake by_images k n v (names_kept t e v n)
      may_keep_names = subst (MayRemake by_images k n v) is1 (both_remake by_images k n v h.names q1 h.store t1 h.has_names h.has_store refl (λ b. refl) here1)

    -- the names tell of each file that the entry syncs
    names_tell : AreBirthsTold t e (names_kept t e v n)
    names_tell = subst (AreBirthsTold t e) is1 (λ f x p a b syncs. subst (λ (z : NamesPart). Has f z.born) (sym (the_names p b)) (append_has f h.names.born (files_asked t e v.files) (inr (has_asked t e f x v.files a syncs))))
      where
        the_names : (p : NamesPart) → Has {A = Unit {0} × NamesPart} (tt, p) ((tt, q1) ∷ []) → p ≡ q1
        the_names p b = ⊎_elim (λ (e : (tt, p) ≡ (tt, q1)). ap (λ (z : Unit {0} × NamesPart). z.1) e) (λ e. absurd e) b

  -- ---- then each file that it syncs knows that it is born

  module _ (n : ℕ) where
    abbrev w2 : View
    w2 = births_kept t e v n

    abbrev go2 : ℕ → FilePart → FilePart
    go2 f p = record p { born = syncs_file f (step_in t e) || p.born }

    -- the hand may take this step: names and store stay
    module _ (told : AreBirthsTold t e v) (single : IsSingle v) (s u : StorePart) (p q : NamesPart) (store : StoreGoes v w2 s u) (names : NamesGo v w2 p q) where
      still : u ≡ s
      still = store.1 ∙ sym store.0

      same_names : q ≡ p
      same_names = names.1 ∙ sym names.0

      p_is : p ≡ h.names
      p_is = names.0 ∙ ap (λ l. value_after l p) h.has_names

      goes2 : (g : ℕ) (x y : FilePart) → Has (g, x) v.files → Has (g, y) w2.files → y ≡ go2 g x
      goes2 g x y a b = let r = has_each go2 g y v.files b in sym r.2 ∙ ap (go2 g) (same_file v single g r.0 x r.1 a)

      born2 : (g : ℕ) (x y : FilePart) → Has (g, x) v.files → Has (g, y) w2.files → y.born ≡ true → (x.born ≡ true) ⊎ Has g p.born
      born2 g x y has after is = by (syncs_file g (step_in t e)) refl (sym (ap (λ (z : FilePart). z.born) (goes2 g x y has after)) ∙ is)
        where
          by : (b : Bool) → syncs_file g (step_in t e) ≡ b → (b || x.born) ≡ true → (x.born ≡ true) ⊎ Has g p.born
          by true syncs z = inr (subst (λ (u : NamesPart). Has g u.born) (sym p_is) (told g x h.names has (subst (Has {A = Unit {0} × NamesPart} (tt, h.names)) (sym h.has_names) (inl refl)) syncs))
          by false syncs z = inl z

      here2 : RemakesOn by_images k n v w2 s u p q
      here2 = record {
        kept = blocks_stay v w2 s u p q (λ g x y a b c i. subst (λ (u : FilePart). Has c u.blocks ⊎ Has c u.quarantine) (sym (goes2 g x y a b)) i)
            (λ g bs e. ap (λ (z : StorePart). fin.get z.extents g) (sym still) ∙ e)
            (λ g bs a. subst (λ (u : NamesPart). Has (g, bs) u.dropped) (sym same_names) a)
            (λ kept b a. subst (λ (u : NamesPart). Has b u.blocks) (sym same_names) (kept b (subst (λ (z : StorePart). Has b z.dirs) still a)));
        rise = record {
          others = λ g z. ap (λ z. committed z g) still;
          made = λ g x a l. let e = ap (λ z. committed z g) still in (omega (arith, e), omega (arith, e, l));
          only_born = λ g x a. inl (ap (λ z. committed z g) still);
          names_made = λ l. let e = ap (λ (z : StorePart). z.names) still in (omega (arith, e), omega (arith, e, l));
          known = λ g x y a b l m. let c = ap (λ z. committed z g) still in let e = ap (λ (u : FilePart). u.known) (goes2 g x y a b) in (omega (arith, e), omega (arith, c, e, l));
          born = born2;
          names_known = λ l m. let e = ap (λ (u : NamesPart). u.known) same_names in let c = ap (λ (z : StorePart). z.names) still in (omega (arith, e), omega (arith, e, c, l));
          names_born = λ g a. inl (subst (λ (u : NamesPart). Has g u.born) same_names a);
        };
        disk = λ visible. disk_kept k h.start v w2 s u (λ g y has. let r = has_each go2 g y v.files has in ap (λ (z : FilePart). z.blocks) (sym r.2) ∙ (h.files g r.0 r.1).blocks);
        shown = inl (record {
          mark = ap (λ (x : StorePart). x.mark) still;
          past = ap (λ (x : StorePart). x.past) still;
          lent = ap (λ (x : StorePart). x.lent) still;
          lent_names = ap (λ (x : StorePart). x.lent_names) still;
          state = ap (λ (x : StorePart). x.state) still;
          paths = ap (λ (x : StorePart). x.paths) still;
          names = ap (λ (x : StorePart). x.names) still;
          files = λ g. ap (λ x. committed x g) still;
        });
        answers = answers_stay v w2 s u refl refl refl (ap (λ (z : StorePart). z.faults) still) (ap (λ (z : StorePart). z.stop) still) (ap (λ (z : StorePart). z.shortages) still);
      }

    may_keep_births : AreBirthsTold t e v → MayRemake by_images k n v w2
    may_keep_births told = record {
      clients = refl;
      asked = refl;
      clock = refl;
      seen = refl;
      file_names = λ g. weigh_each go2 (λ m. one (eqb g m)) v.files;
      pool_names = λ g. refl;
      has_names = λ u. refl;
      has_store = λ u. refl;
      uses_stay = λ b. let e = weigh_stays go2 (file_uses b) (λ f x. refl) v.files in omega (arith, e);
      files = λ g y a. let r = has_each go2 g y v.files a in
          (r.0, r.1, subst (λ (z : FilePart). z ≡ record r.0 { blocks = z.blocks; quarantine = z.quarantine; spare = z.spare; loaded = z.loaded; born = z.born; known = z.known }) r.2 refl);
      names = λ u q a. (q, a, refl);
      on = here2 told;
    }

    -- what the entry asks for holds on
    births_acked : IsAcknowledged k history t e w2
    births_acked = record {
      tree_is = a.tree_is;
      session = subst (λ (ss : List (Unit {0} × StorePart)). HasSession k history asked (record v { files = each go2 v.files; store = ss; seen = n })) (sym h.has_store)
          (files_session (each go2 v.files) (λ f y has. let r = has_each go2 f y v.files has in (r.0, r.1, subst (IsSameFile r.0) r.2 (same f r.0))) (λ f. weigh_each go2 (λ m. one (eqb f m)) v.files) h.store h.store_at n);
      covered = a.covered;
      ticket = a.ticket;
      replied = a.replied;
      done = a.done;
      asks = a.asks;
      explained = a.explained;
    }
      where
        same : (f : ℕ) (x : FilePart) → IsSameFile x (go2 f x)
        same f x = record { bytes = refl; leases = refl; blocks = refl; quarantine = refl; spare = refl; loaded = refl; changes = refl }

    -- and they know
    births_born : AreBorn t e w2
    births_born f y has syncs = let r = has_each go2 f y v.files has in sym (ap (λ (z : FilePart). z.born) r.2) ∙ ap (λ b. b || r.0.born) syncs

  -- ---- then the changes of those files

  module _ (n : ℕ) where
    -- these parts
    abbrev t3 : StorePart
    t3 = record (turned n [] h.store) { files = counts_with t e v.files h.store.files }

    abbrev go3 : ℕ → FilePart → FilePart
    go3 f p = record p { known = cond (syncs_file f (step_in t e)) (length p.changes) p.known }

    abbrev w3 : View
    w3 = record v { files = each go3 v.files; store = (tt, t3) ∷ []; seen = n }

    is3 : w3 ≡ files_kept t e v n
    is3 = λ j. files_kept t e (record v { store = sym h.has_store j }) n

    -- so many changes of each are acknowledged
    files_numbers : FilesAreAcknowledged → AreFilesAcknowledged k.tree (history ++ e ∷ []) (committed t3)
    files_numbers law g = by (dec_le 1 (count eqb g v.files))
      where
        here : (x : FilePart) → Has (g, x) v.files → (b : Bool) → syncs_file g (step_in t e) ≡ b → cond b (length x.changes) (committed h.store g) ≤ file_synced g k.tree (history ++ e ∷ [])
        here x has true syncs =
            let l = law k.tree history e g a.done (synced_file k history t e v a g x has syncs) in
            let c = ap length (h.changes g x has) in omega arith
        here x has false syncs = covered.files g

        by : Dec (1 ≤ count eqb g v.files) → committed t3 g ≤ file_synced g k.tree (history ++ e ∷ [])
        by (yes l) =
            let x = has_count eqb itself alike g v.files l in
            let once : count eqb g v.files ≤ 1 = (let c = h.one_file g in let m = at_most (is_some (fin.get (tree_after k.tree history).bytes g)) in omega arith) in
            let n = ap (λ (o : Option ℕ). unwrap_or o 0) (counts_here t e v.files h.store.files g x.0 once x.1) in
            let low = here x.0 x.1 (syncs_file g (step_in t e)) refl in
            omega arith
          where
            at_most : (b : Bool) → one b ≤ 1
            at_most true = omega arith
            at_most false = omega arith
        by (no z) = let n = ap (λ (o : Option ℕ). unwrap_or o 0) (counts_else t e v.files h.store.files g (omega (arith, z))) in let low = covered.files g in omega arith

    -- the hand may take this step
    module _ (keeps : KeepsTrees) (law : AcknowledgedShow) (files_law : FilesAreAcknowledged) (born : AreBorn t e v) where
      module _ (single : IsSingle v) (p : NamesPart) where
        goes3 : (g : ℕ) (x y : FilePart) → Has (g, x) v.files → Has (g, y) w3.files → y ≡ go3 g x
        goes3 g x y a b = let r = has_each go3 g y v.files b in sym r.2 ∙ ap (go3 g) (same_file v single g r.0 x r.1 a)

        number3 : (g : ℕ) (x : FilePart) → Has (g, x) v.files → committed t3 g ≡ cond (syncs_file g (step_in t e)) (length x.changes) (committed h.store g)
        number3 g x has = ap (λ (o : Option ℕ). unwrap_or o 0) (counts_here t e v.files h.store.files g x (single.files g) has)

        here3 : RemakesOn by_images k n v w3 h.store t3 p p
        here3 = record {
          kept = blocks_stay v w3 h.store t3 p p (λ g x y a b c i. subst (λ (u : FilePart). Has c u.blocks ⊎ Has c u.quarantine) (sym (goes3 g x y a b)) i) (λ g bs e. e) (λ g bs a. a) (λ kept. kept);
          rise = record {
            others = λ g z. ap (λ (o : Option ℕ). unwrap_or o 0) (counts_else t e v.files h.store.files g z);
            made = λ g x has l. made3 g x has l (syncs_file g (step_in t e)) refl;
            only_born = λ g x has. born3 g x has (syncs_file g (step_in t e)) refl;
            names_made = λ l. (omega arith, l);
            known = λ g x y has after l m. known3 g x y has after l m (syncs_file g (step_in t e)) refl;
            born = λ g x y a b e. inl (sym (ap (λ (u : FilePart). u.born) (goes3 g x y a b)) ∙ e);
            names_known = λ l m. (omega arith, l);
            names_born = λ g a. inl a;
          };
          disk = λ visible. disk_kept k h.start v w3 h.store t3 (λ g y has. let r = has_each go3 g y v.files has in ap (λ (z : FilePart). z.blocks) (sym r.2) ∙ (h.files g r.0 r.1).blocks);
          shown = inr (is_turn k n v h.store t3 p [] (inl refl) refl (λ visible g b x has. absurd has)
              (λ visible g b has shows. shown keeps law (committed t3) h.store.names n g visible b (files_numbers files_law) covered.names));
          answers = answers_stay v w3 h.store t3 refl refl refl refl refl refl;
        }
          where
            made3 : (g : ℕ) (x : FilePart) → Has (g, x) v.files → committed h.store g ≤ length x.changes → (b : Bool) → syncs_file g (step_in t e) ≡ b → (committed h.store g ≤ committed t3 g) × (committed t3 g ≤ length x.changes)
            made3 g x has l true is = let c = number3 g x has ∙ ap (λ b. cond b (length x.changes) (committed h.store g)) is in (omega arith, omega arith)
            made3 g x has l false is = let c = number3 g x has ∙ ap (λ b. cond b (length x.changes) (committed h.store g)) is in (omega arith, omega arith)

            born3 : (g : ℕ) (x : FilePart) → Has (g, x) v.files → (b : Bool) → syncs_file g (step_in t e) ≡ b → (committed t3 g ≡ committed h.store g) ⊎ (x.born ≡ true)
            born3 g x has true is = inr (born g x has is)
            born3 g x has false is = inl (number3 g x has ∙ ap (λ b. cond b (length x.changes) (committed h.store g)) is)

            known3 : (g : ℕ) (x y : FilePart) → Has (g, x) v.files → Has (g, y) w3.files → x.known ≤ committed h.store g → committed h.store g ≤ length x.changes → (b : Bool) → syncs_file g (step_in t e) ≡ b
                → (x.known ≤ y.known) × (y.known ≤ committed t3 g)
            known3 g x y has after l m true is =
                let c = number3 g x has ∙ ap (λ b. cond b (length x.changes) (committed h.store g)) is in
                let u = ap (λ (u : FilePart). u.known) (goes3 g x y has after) ∙ ap (λ b. cond b (length x.changes) x.known) is in (omega arith, omega arith)
            known3 g x y has after l m false is =
                let c = number3 g x has ∙ ap (λ b. cond b (length x.changes) (committed h.store g)) is in
                let u = ap (λ (u : FilePart). u.known) (goes3 g x y has after) ∙ ap (λ b. cond b (length x.changes) x.known) is in (omega arith, omega arith)

      may_keep_files : MayRemake by_images k n v (files_kept t e v n)
      may_keep_files = subst (MayRemake by_images k n v) is3 (record {
        clients = refl;
        asked = refl;
        clock = refl;
        seen = refl;
        file_names = λ g. weigh_each go3 (λ m. one (eqb g m)) v.files;
        pool_names = λ g. refl;
        has_names = λ u. refl;
        has_store = λ u. ap (count only_one u) (sym h.has_store);
        uses_stay = λ b.
            let e = weigh_stays go3 (file_uses b) (λ f x. refl) v.files in
            let s : weigh (store_uses b) v.store ≡ weigh (store_uses b) ((tt, h.store) ∷ []) = ap (weigh (store_uses b)) h.has_store in
            omega (arith, e, s);
        files = λ g y a. let r = has_each go3 g y v.files a in
            (r.0, r.1, subst (λ (z : FilePart). z ≡ record r.0 { blocks = z.blocks; quarantine = z.quarantine; spare = z.spare; loaded = z.loaded; born = z.born; known = z.known }) r.2 refl);
        names = λ u q a. (q, a, refl);
        on = λ single s u p q store names.
            let a : s ≡ h.store = store.0 ∙ ap (λ l. value_after l s) h.has_store in
            let b : q ≡ p = names.1 ∙ sym names.0 in
            subst (λ (r : StorePart × StorePart × NamesPart). RemakesOn by_images k n v w3 r.0 r.1 p r.2) (λ j. (sym a j, sym store.1 j, sym b j)) (here3 single p);
      })

    -- the session stays, and no more is committed than is acknowledged
    pub kept_session : HasSession k history asked (files_kept t e v n)
    kept_session = subst (HasSession k history asked) is3
        (files_session (each go3 v.files) (λ f y has. let r = has_each go3 f y v.files has in (r.0, r.1, subst (IsSameFile r.0) r.2 (same f r.0))) (λ f. weigh_each go3 (λ m. one (eqb f m)) v.files) t3 (turned_at v.stop h.store h.store_at n [] (counts_with t e v.files h.store.files) h.store.names) n)
      where
        same : (f : ℕ) (x : FilePart) → IsSameFile x (go3 f x)
        same f x = record { bytes = refl; leases = refl; blocks = refl; quarantine = refl; spare = refl; loaded = refl; changes = refl }

    pub kept_covered : FilesAreAcknowledged → IsCoveredIn k (history ++ e ∷ []) (files_kept t e v n)
    kept_covered law = subst (IsCoveredIn k (history ++ e ∷ [])) is3 (λ s has. subst (IsCovered k (history ++ e ∷ [])) (sym (one_part s t3 has)) (record { files = files_numbers law; names = covered.names; made = covered.made }))

-- ---- the three together

module _ (k : Start) (history : List Entry) (t : PosixTree) (e : Entry) (v : View) (acked : IsAcknowledged k history t e v) (names_law : NamesAreAcknowledged) (births_law : BirthsAreAcknowledged) where
  -- the first may be, and each of the others behind the one before it
  pub first_learned : KeepsTrees → AcknowledgedShow → IsEvent k v (names_kept t e v)
  first_learned keeps law = inr (inr (λ n. may_keep_names k history t e v acked n keeps law names_law births_law))

  module _ (a : ℕ) where
    abbrev v1 : View
    v1 = names_kept t e v a

    acked_1 : IsAcknowledged k history t e v1
    acked_1 = names_acked k history t e v acked a names_law births_law

    pub next_learned : IsEvent k v1 (births_kept t e v1)
    next_learned = inr (inr (λ n. may_keep_births k history t e v1 acked_1 n (names_tell k history t e v acked a)))

    module _ (b : ℕ) where
      abbrev v2 : View
      v2 = births_kept t e v1 b

      acked_2 : IsAcknowledged k history t e v2
      acked_2 = births_acked k history t e v1 acked_1 b

      pub last_learned : KeepsTrees → AcknowledgedShow → FilesAreAcknowledged → IsEvent k v2 (files_kept t e v2)
      last_learned keeps law files_law = inr (inr (λ n. may_keep_files k history t e v2 acked_2 n keeps law files_law (births_born k history t e v1 acked_1 b)))

      module _ (c : ℕ) where
        abbrev v3 : View
        v3 = files_kept t e v2 c

        -- the disk stays as it is
        pub same_rest : state_in v3 ≡ state_in v
        same_rest = ap (λ (ss : List (Unit {0} × StorePart)). state_in (files_kept t e (births_kept t e (names_kept t e (record v { store = ss }) a) b) c)) acked.session.has_store
            ∙ sym (ap (in_store [] (λ s. s.state)) acked.session.has_store)

        -- and no call failed
        pub same_faults : faults_in v3 ≡ faults_in v
        same_faults = ap (λ (ss : List (Unit {0} × StorePart)). faults_in (files_kept t e (births_kept t e (names_kept t e (record v { store = ss }) a) b) c)) acked.session.has_store
            ∙ sym (ap (in_store [] (λ s. s.faults)) acked.session.has_store)

        -- the store's part behind the three
        abbrev last : StorePart → StorePart
        last s = record (turned c [] (record (turned a [] s) { names = later s.names (names_asked_in t e v.names) })) { files = counts_with t e v2.files s.files }

        store_is : v3.store ≡ (tt, last acked.session.store) ∷ []
        store_is = ap (λ (ss : List (Unit {0} × StorePart)). (files_kept t e (births_kept t e (names_kept t e (record v { store = ss }) a) b) c).store) acked.session.has_store

        pub all_stamped : (x : Cells) → IsStampedIn v.store x → IsStampedIn v3.store x
        all_stamped x is = subst (λ (ss : List (Unit {0} × StorePart)). IsStampedIn ss x) (sym store_is)
            (stays_stamped acked.session.store (last acked.session.store) x (inl refl) (λ y has. inr (inr has)) (subst (λ (ss : List (Unit {0} × StorePart)). IsStampedIn ss x) acked.session.has_store is))

        pub same_passed : passed_in v3 ≡ passed_in v
        same_passed = ap (in_store 0 (λ s. weigh (λ x. length x.states - 2) s.past)) store_is ∙ nothing (weigh (λ x. length x.states - 2) acked.session.store.past) ∙ sym (ap (in_store 0 (λ s. weigh (λ x. length x.states - 2) s.past)) acked.session.has_store)
          where
            nothing : (m : ℕ) → 0 + (0 + m) ≡ m
            nothing m = omega arith

        -- it has the same files
        pub same_counts : (f : ℕ) → count eqb f v3.files ≡ count eqb f v.files
        same_counts f =
            weigh_each (λ f p. record p { known = cond (syncs_file f (step_in t e)) (length p.changes) p.known }) (λ m. one (eqb f m)) v2.files
            ∙ weigh_each (λ f p. record p { born = syncs_file f (step_in t e) || p.born }) (λ m. one (eqb f m)) v.files

        pub all_session : HasSession k history (Some (e.client, e.op)) v3
        all_session = kept_session k history t e v2 acked_2 c

        pub all_covered : FilesAreAcknowledged → IsCoveredIn k (history ++ e ∷ []) v3
        all_covered law = kept_covered k history t e v2 acked_2 c law

        -- the hand knows what the entry acknowledges
        pub knows : KnowsSynced (step_in t e) v3
        knows = record {
          files = λ f y i syncs. let r = has_each (λ f p. record p { known = cond (syncs_file f (step_in t e)) (length p.changes) p.known }) f y v2.files i in
              let e = ap (λ (z : FilePart). z.known) r.2 in let d = ap (λ (z : FilePart). length z.changes) r.2 in
              let is = ap (λ b. cond b (length r.0.changes) r.0.known) syncs in omega arith;
          born = λ f y i syncs. let r = has_each (λ f p. record p { known = cond (syncs_file f (step_in t e)) (length p.changes) p.known }) f y v2.files i in
              sym (ap (λ (z : FilePart). z.born) r.2) ∙ births_born k history t e v1 acked_1 b f r.0 r.1 syncs;
          names = λ q i syncs. let r = has_each (λ _ p. record p { born = p.born ++ files_asked t e v.files; known = cond (syncs_names (step_in t e)) (length p.changes) p.known }) tt q v.names i in
              let e = ap (λ (z : NamesPart). z.known) r.2 in let d = ap (λ (z : NamesPart). length z.changes) r.2 in
              let is = ap (λ b. cond b (length r.0.changes) r.0.known) syncs in omega arith;
        }
