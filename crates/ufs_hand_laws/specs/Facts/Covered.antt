-- What shows a history by numbers that cover what is acknowledged is explained by it.
use Rattle.std.proofs.Common.{◌≡◌, ◌≤◌, ◌<◌, ℕ, ◌⊎◌, inl, inr, Bool, true, false, cond, ◌&&◌, ◌||◌, List, [], ◌∷◌, ◌++◌, length, Option, is_some, ap, sym, refl, ◌∙◌, subst, arith, append_assoc, append-nil}
use Rattle.std.proofs.lemmas.Bool.{and_parts}
use Rattle.std.specs.FinMap as map
use Rattle.ufs_model.specs.PosixTree.{PosixTree, Paths, IsTree}
use Rattle.ufs_model.specs.Laws.{KeepsTrees}
use Rattle.ufs_model.specs.History.{IsLegalFrom, tree_after}
use Rattle.ufs_model.specs.Start.{PathNodes}
use Rattle.ufs_model.proofs.Facts.Live.{held_has}
use Rattle.ufs_model.specs.declared.data.Entry.{Entry}
use Rattle.ufs_model.specs.declared.data.Reply.{Reply}
use Rattle.ufs_model.specs.declared.data.Reply.TheVariants as reply
use Rattle.ufs_crash_laws.specs.Steps.{is_ok}
use Rattle.ufs_crash_laws.specs.Changes.{NameState, names_of, changes_of, name_changes, names_after, asks_fsync, asks_dir_fsync, asks_sync, is_fsync_of, is_fsynced, syncs_file, syncs_names, file_synced, names_synced}
use Rattle.ufs_crash_laws.specs.Explained.{IsExplained}
use Rattle.ufs_crash_laws.specs.Stored.{IsNamed}
use Rattle.ufs_crash_laws.specs.Steps.{next_step}
use Rattle.ufs_crash_laws.proofs.Facts.Histories.{names_after-append, file_synced-push, names_synced-push, is_fsynced-push}
use Rattle.ufs_crash_laws.proofs.Facts.Between.{file_less, names_less}
use Rattle.ufs_crash_laws.proofs.Facts.Explains.{explained_by_named, shown_by-append}
use Rattle.std.proofs.lemmas.Bool.{cases_lt}
use Rattle.ufs_crash_laws.proofs.Facts.Sessions.{front_legal, tree_after_is, names_then, next_names}
use Rattle.ufs_crash_laws.proofs.Facts.Stores.{unborn_changes, stays_lost}
use Rattle.ufs_hand_laws.specs.Shown.{ShowsAtLeast}
use Rattle.ufs_hand_laws.specs.Covers.{SyncsFile, CoversFile, CoversNames, CoversBirths}

pub shows_more : (start : PosixTree) (h : List Entry) (e : Entry) (files : ℕ → ℕ) (names : ℕ) (paths : Option Paths) (tree : PathNodes) → ShowsAtLeast start h files names paths tree → ShowsAtLeast start (h ++ e ∷ []) files names paths tree
shows_more start h e files names paths tree s = record {
  shown_names = s.shown_names;
  shown_files = s.shown_files;
  most_names = s.most_names;
  most_files = s.most_files;
  shown = shown_by-append start h (e ∷ []) s.shown_names s.shown_files tree s.shown;
  placed = λ p is. ap (λ (n : NameState). n.paths) (names_after-append start h (e ∷ []) s.shown_names s.shown.made) ∙ s.placed p is;
}

-- the reply `ok` is that
pub ok_done : (r : Reply) → is_ok r ≡ true → r ≡ reply.Done
ok_done reply.Done e = refl
ok_done _ e = cc

or_true : (b : Bool) → (b || true) ≡ true
or_true true = refl
or_true false = refl

-- ---- what is acknowledged only grows

names_grow : (start : PosixTree) (h more : List Entry) → names_synced start h ≤ names_synced start (h ++ more)
names_grow start h [] = subst (λ l. names_synced start h ≤ names_synced start l) (sym (append-nil h)) (omega arith)
names_grow start h (e ∷ more) =
    let a = names_less start h e in
    let b = subst (λ l. names_synced start (h ++ e ∷ []) ≤ names_synced start l) (append_assoc h (e ∷ []) more) (names_grow start (h ++ e ∷ []) more) in
    omega (arith, a, b)

file_grow : (f : ℕ) (start : PosixTree) (h more : List Entry) → file_synced f start h ≤ file_synced f start (h ++ more)
file_grow f start h [] = subst (λ l. file_synced f start h ≤ file_synced f start l) (sym (append-nil h)) (omega arith)
file_grow f start h (e ∷ more) =
    let a = file_less f start h e in
    let b = subst (λ l. file_synced f start (h ++ e ∷ []) ≤ file_synced f start l) (append_assoc h (e ∷ []) more) (file_grow f start (h ++ e ∷ []) more) in
    omega (arith, a, b)

fsynced_grow : (f : ℕ) (start : PosixTree) (h more : List Entry) → is_fsynced f start h ≡ true → is_fsynced f start (h ++ more) ≡ true
fsynced_grow f start h [] is = ap (is_fsynced f start) (append-nil h) ∙ is
fsynced_grow f start h (e ∷ more) is =
    sym (ap (is_fsynced f start) (append_assoc h (e ∷ []) more))
    ∙ fsynced_grow f start (h ++ e ∷ []) more (is_fsynced-push f start h e ∙ ap (λ b. b || is_fsync_of f (next_step start h e)) is)

-- ---- a file that is named

pub there_or : (t : PosixTree) (f : ℕ) → (is_some (map.get t.bytes f) ≡ true) ⊎ (is_some (map.get t.bytes f) ≡ true → ⊥)
there_or t f = by (is_some (map.get t.bytes f)) refl
  where
    by : (b : Bool) → is_some (map.get t.bytes f) ≡ b → (is_some (map.get t.bytes f) ≡ true) ⊎ (is_some (map.get t.bytes f) ≡ true → ⊥)
    by true e = inl e
    by false e = inr (λ t. cc)

module _ (keeps : KeepsTrees) (start : PosixTree) (is : IsTree start) (history : List Entry) (legal : IsLegalFrom 0 start history) (names file k : ℕ)
    (synced : names_synced start history ≤ names) (made : names ≤ length (name_changes start history)) (named : IsNamed (names_after start history names).paths file) (covers : CoversFile start history file k) where
  -- A `sync` of a file that isn't there: it was lost before, and so it has no name now, or it isn't made yet.
  gone : (a b : List Entry) (x : Entry) → history ≡ a ++ x ∷ b → syncs_names (next_step start a x) ≡ true → (is_some (map.get (tree_after start a).bytes file) ≡ true → ⊥) → length (changes_of file start a) ≤ k
  gone a b x e syncs none = by (cases_lt file (tree_after start a).next)
    where
      front : IsLegalFrom 0 start a
      front = front_legal 0 start a (x ∷ b) (subst (IsLegalFrom 0 start) e legal)

      before : length (name_changes start a) ≤ names
      before =
          let now : names_synced start (a ++ x ∷ []) ≡ length (name_changes start a) = names_synced-push start a x ∙ ap (λ b. cond b (length (name_changes start a)) (names_synced start a)) syncs in
          let all : names_synced start (a ++ x ∷ []) ≤ names_synced start history = subst (λ l. names_synced start (a ++ x ∷ []) ≤ names_synced start l) (append_assoc a (x ∷ []) b ∙ sym e) (names_grow start (a ++ x ∷ []) b) in
          omega (arith, now, all, synced)

      then : names_after start history (length (name_changes start a)) ≡ names_of (tree_after start a)
      then = ap (λ l. names_after start l (length (name_changes start a))) e ∙ names_then start a (x ∷ b) front

      unnamed : IsNamed (names_after start history (length (name_changes start a))).paths file → ⊥
      unnamed at = none (held_has (tree_after start a) (tree_after_is keeps 0 start is a front) file (inl (subst (λ (n : NameState). IsNamed n.paths file) then at)))

      by : (file < (tree_after start a).next) ⊎ ((tree_after start a).next ≤ file) → length (changes_of file start a) ≤ k
      by (inr unborn) = let n = ap length (unborn_changes keeps 0 start is a front file unborn).1 in omega (arith, n)
      by (inl below) = absurd (stays_lost start history legal file (length (name_changes start a)) names before made (subst (λ (n : NameState). file < n.next) (sym then) below) unnamed named)

  step : (a b : List Entry) (x : Entry) → history ≡ a ++ x ∷ b → file_synced file start a ≤ k → file_synced file start (a ++ x ∷ []) ≤ k
  step a b x e so_far = subst (λ n. n ≤ k) (sym (file_synced-push file start a x)) (by (syncs_file file (next_step start a x)) refl)
    where
      asked : is_ok x.reply ≡ true → (c : Bool) → asks_fsync file (tree_after start a) x.client x.op ≡ c → (c || asks_sync x.op) ≡ true → length (changes_of file start a) ≤ k
      asked ok true is' any = covers a b x e (ok_done x.reply ok) (inl is')
      asked ok false is' any = there (there_or (tree_after start a) file)
        where
          there : (is_some (map.get (tree_after start a).bytes file) ≡ true) ⊎ (is_some (map.get (tree_after start a).bytes file) ≡ true → ⊥) → length (changes_of file start a) ≤ k
          there (inl t) = covers a b x e (ok_done x.reply ok) (inr (any, t))
          there (inr none) = gone a b x e ((λ i. ok i && (asks_dir_fsync (tree_after start a) x.client x.op || any i)) ∙ or_true _) none

      by : (c : Bool) → syncs_file file (next_step start a x) ≡ c → cond c (length (changes_of file start a)) (file_synced file start a) ≤ k
      by true is' = let parts = and_parts (is_ok x.reply) (asks_fsync file (tree_after start a) x.client x.op || asks_sync x.op) is' in asked parts.0 (asks_fsync file (tree_after start a) x.client x.op) refl parts.1
      by false is' = so_far

  go : (a b : List Entry) → history ≡ a ++ b → file_synced file start a ≤ k → file_synced file start history ≤ k
  go a [] e so_far = subst (λ l. file_synced file start l ≤ k) (sym (e ∙ append-nil a)) so_far
  go a (x ∷ b) e so_far = go (a ++ x ∷ []) b (e ∙ sym (append_assoc a (x ∷ []) b)) (step a b x e so_far)

  -- its number covers what is acknowledged of it
  pub file_covered : file_synced file start history ≤ k
  file_covered = go [] history refl (omega arith)

-- and a number that covers what is acknowledged of a file meets the relation
pub synced_covers : (start : PosixTree) (history : List Entry) (file k : ℕ) → file_synced file start history ≤ k → CoversFile start history file k
synced_covers start history file k synced a b x e done asks =
    let now : file_synced file start (a ++ x ∷ []) ≡ length (changes_of file start a) = file_synced-push file start a x ∙ ap (λ b. cond b (length (changes_of file start a)) (file_synced file start a)) (syncs asks) in
    let all : file_synced file start (a ++ x ∷ []) ≤ file_synced file start history = subst (λ l. file_synced file start (a ++ x ∷ []) ≤ file_synced file start l) (append_assoc a (x ∷ []) b ∙ sym e) (file_grow file start (a ++ x ∷ []) b) in
    omega (arith, now, all, synced)
  where
    syncs : SyncsFile (tree_after start a) x.client x.op file → syncs_file file (next_step start a x) ≡ true
    syncs (inl f) = λ i. is_ok (done i) && (f i || asks_sync x.op)
    syncs (inr s) = (λ i. is_ok (done i) && (asks_fsync file (tree_after start a) x.client x.op || s.0 i)) ∙ or_true _

-- ---- explained

pub shown_explained : KeepsTrees → (start : PosixTree) → IsTree start → (h more : List Entry) → IsLegalFrom 0 start (h ++ more) → (files : ℕ → ℕ) (names : ℕ) (paths : Option Paths) (tree : PathNodes) → ShowsAtLeast start h files names paths tree
    → ((f : ℕ) → CoversFile start (h ++ more) f (files f)) → CoversNames start (h ++ more) names → CoversBirths start (h ++ more) names → IsExplained tree start h
shown_explained keeps start is h more legal files names paths tree s covers synced born = explained_by_named start h s.shown_names s.shown_files tree synced_names
    (λ f fsynced. births f fsynced)
    (λ path f at.
    let c = file_covered keeps start is h front s.shown_names f (files f) synced_names s.shown.made (path, at) (cut f) in
    let m = s.most_files f in omega (arith, c, m))
    s.shown
  where
    front : IsLegalFrom 0 start h
    front = front_legal 0 start h more legal

    synced_names : names_synced start h ≤ s.shown_names
    synced_names = let a = names_grow start h more in let b = s.most_names in omega (arith, a, b, synced)

    births : (f : ℕ) → is_fsynced f start h ≡ true → f < (names_after start h s.shown_names).next
    births f fsynced =
        let low = s.most_names in let made = s.shown.made in
        let all = born f (fsynced_grow f start h more fsynced) in
        let few : names ≤ length (name_changes start h) = omega (arith, low, made) in
        let now : f < (names_after start h names).next = subst (λ (n : NameState). f < n.next) (names_after-append start h more names few) all in
        let up = next_names start h front names s.shown_names low made in
        omega (arith, now, up)

    cut : (f : ℕ) → CoversFile start h f (files f)
    cut f a b x e = covers f a (b ++ more) x (ap (λ l. l ++ more) e ∙ append_assoc a (x ∷ b) more)
