-- What a legal history's changes lead to. That a request keeps a tree a tree is taken as given.
use Rattle.std.proofs.Common.{◌≡◌, ◌≤◌, ◌<◌, ℕ, zero, suc, ◌+◌, ◌⊎◌, inl, inr, Bool, true, false, cond, ◌&&◌, ◌||◌, List, [], ◌∷◌, ◌++◌, length, get_or, ap, sym, refl, ◌∙◌, subst, arith}
use Rattle.std.specs.List.{sum_by, list_any}
use Rattle.std.proofs.lemmas.List.Sums.{sum_by-cons}
use Rattle.std.proofs.lemmas.List.Concat.{length-flat_map}
use Rattle.std.proofs.lemmas.Bool.{and_parts, cases_lt}
use Rattle.ufs_model.specs.PosixTree.{PosixTree, IsTree}
use Rattle.ufs_model.specs.FileBytes.{bytes_of}
use Rattle.ufs_model.specs.Posix.{served}
use Rattle.ufs_model.specs.Laws.{KeepsTrees}
use Rattle.ufs_model.specs.History.{IsLegalFrom, IsReplyTo, goes_on, tree_after}
use Rattle.ufs_model.proofs.Facts.Live.{HasBytes, number_is}
use Rattle.ufs_model.specs.declared.data.Entry.{Entry}
use Rattle.ufs_model.specs.declared.data.Op.{Op}
use Rattle.ufs_model.specs.declared.data.Op.TheVariants as op
use Rattle.ufs_crash_laws.specs.FileChanges.{all_changed, bytes_after}
use Rattle.ufs_crash_laws.specs.Steps.{Step, steps, is_ok, before_last}
use Rattle.ufs_crash_laws.specs.Changes.{NameState, names_of, change_of, changes_of, changes_names, names_by, name_changes, names_after, asks_fsync, is_fsync_of, is_fsynced, syncs_file, syncs_names, file_synced, names_synced}
use Rattle.ufs_crash_laws.specs.Steps.{is_served}
use Rattle.ufs_crash_laws.proofs.Facts.Shows.{all_changed-append, bytes_after-append, bytes_after_all}
use Rattle.ufs_crash_laws.proofs.Facts.Histories.{changes_of-append, names_after-append}
use Rattle.ufs_crash_laws.proofs.Facts.Entries.{IsDone, Left, Went, done, names_still, next_rises}
use Rattle.ufs_crash_laws.proofs.Facts.Contents.{unborn_empty, unborn_still, bytes_go_on, opened_live}

-- ---- legal histories

pub front_legal : (ticket : ℕ) (t : PosixTree) (history more : List Entry) → IsLegalFrom ticket t (history ++ more) → IsLegalFrom ticket t history
front_legal ticket t [] more legal = tt
front_legal ticket t (e ∷ history) more legal = (legal.0, front_legal (ticket + 1) (goes_on t e) history more legal.1)

pub last_replied : (ticket : ℕ) (t : PosixTree) (history : List Entry) (entry : Entry) → IsLegalFrom ticket t (history ++ entry ∷ []) → IsReplyTo (tree_after t history) entry
last_replied ticket t [] entry legal = legal.0.replied
last_replied ticket t (e ∷ history) entry legal = last_replied (ticket + 1) (goes_on t e) history entry legal.1

-- ---- trees

pub tree_goes_on : KeepsTrees → (t : PosixTree) → IsTree t → (entry : Entry) → IsReplyTo t entry → IsTree (goes_on t entry)
tree_goes_on keeps t is entry legal = by (done t entry legal)
  where
    by : IsDone t entry → IsTree (goes_on t entry)
    by (Left stays not_served) = subst IsTree (sym stays) is
    by (Went passed goes is_served) = subst IsTree (ap (λ o. (served t entry.client entry.op o).0) passed ∙ sym goes) (keeps t entry.client entry.op is)

pub tree_after_is : KeepsTrees → (ticket : ℕ) (t : PosixTree) → IsTree t → (history : List Entry) → IsLegalFrom ticket t history → IsTree (tree_after t history)
tree_after_is keeps ticket t is [] legal = is
tree_after_is keeps ticket t is (e ∷ history) legal = tree_after_is keeps (ticket + 1) (goes_on t e) (tree_goes_on keeps t is e legal.0.replied) history legal.1

pub next_after : (ticket : ℕ) (t : PosixTree) (history : List Entry) → IsLegalFrom ticket t history → t.next ≤ (tree_after t history).next
next_after ticket t [] legal = omega arith
next_after ticket t (e ∷ history) legal = omega (arith, next_rises t e legal.0.replied, next_after (ticket + 1) (goes_on t e) history legal.1)

-- ---- contents

-- its bytes come from those of one entry before
abbrev ComesFrom : PosixTree → List Entry → ℕ → Type 0
ComesFrom t history f = (f < t.next → HasBytes t.bytes f) × (bytes_of (tree_after t history).bytes f ≡ all_changed (bytes_of t.bytes f) (changes_of f t history))

contents_step : KeepsTrees → (t : PosixTree) → IsTree t → (e : Entry) → IsReplyTo t e → (history : List Entry) (f : ℕ) → ComesFrom (goes_on t e) history f → ComesFrom t (e ∷ history) f
contents_step keeps t is e legal history f rest = (
  first,
  rest.1 ∙ ap (λ bytes. all_changed bytes (changes_of f (goes_on t e) history)) (by (cases_lt f (goes_on t e).next))
      ∙ sym (all_changed-append (bytes_of t.bytes f) (change_of f (record { before = t; entry = e })) (changes_of f (goes_on t e) history)),
)
  where
    is' : IsTree (goes_on t e)
    is' = tree_goes_on keeps t is e legal

    rises : t.next ≤ (goes_on t e).next
    rises = next_rises t e legal

    was : f < t.next → HasBytes t.bytes f ⊎ (f ≡ t.next) → HasBytes t.bytes f
    was below (inl h) = h
    was below (inr e) = absurd (omega (arith, below, e))

    first : f < t.next → HasBytes t.bytes f
    first below = was below (bytes_go_on t is e legal f (rest.0 (omega (arith, below, rises)))).0

    by : (f < (goes_on t e).next) ⊎ ((goes_on t e).next ≤ f) → bytes_of (goes_on t e).bytes f ≡ all_changed (bytes_of t.bytes f) (change_of f (record { before = t; entry = e }))
    by (inl below) = (bytes_go_on t is e legal f (rest.0 below)).1
    by (inr unborn) =
        let before : t.next ≤ f = omega (arith, unborn, rises) in
        unborn_empty (goes_on t e) is' f unborn ∙ sym (unborn_empty t is f before) ∙ ap (all_changed (bytes_of t.bytes f)) (sym (unborn_still t is e f before))

-- A file's bytes are its opening bytes after all its changes, and a file that was made before had bytes before.
pub contents_after : KeepsTrees → (ticket : ℕ) (t : PosixTree) → IsTree t → (history : List Entry) → IsLegalFrom ticket t history → (f : ℕ) → HasBytes (tree_after t history).bytes f
    → (f < t.next → HasBytes t.bytes f) × (bytes_of (tree_after t history).bytes f ≡ all_changed (bytes_of t.bytes f) (changes_of f t history))
contents_after keeps ticket t is [] legal f has = (λ _. has, refl)
contents_after keeps ticket t is (e ∷ history) legal f has =
    contents_step keeps t is e legal.0.replied history f (contents_after keeps (ticket + 1) (goes_on t e) (tree_goes_on keeps t is e legal.0.replied) history legal.1 f has)

-- At each moment of a history the file has the bytes after the changes that it had by then.
pub bytes_then : KeepsTrees → (start : PosixTree) → IsTree start → (history more : List Entry) → IsLegalFrom 0 start history → (f : ℕ) → HasBytes (tree_after start history).bytes f
    → bytes_after (bytes_of start.bytes f) (changes_of f start (history ++ more)) (length (changes_of f start history)) ≡ bytes_of (tree_after start history).bytes f
bytes_then keeps start is history more legal f has =
    ap (λ changes. bytes_after (bytes_of start.bytes f) changes (length (changes_of f start history))) (changes_of-append f start history more)
    ∙ bytes_after-append (bytes_of start.bytes f) (changes_of f start history) (changes_of f (tree_after start history) more) (length (changes_of f start history)) (omega arith)
    ∙ bytes_after_all (bytes_of start.bytes f) (changes_of f start history)
    ∙ sym (contents_after keeps 0 start is history legal f has).1

-- ---- names

-- the names behind so many of their changes
abbrev behind : NameState → NameState → PosixTree → List Entry → ℕ → NameState
behind d x t history count = get_or (x ∷ name_changes t history) count d

last_step : (t : PosixTree) (e : Entry) → IsReplyTo t e → (history : List Entry) (d : NameState)
    → behind d (names_of (goes_on t e)) (goes_on t e) history (length (name_changes (goes_on t e) history)) ≡ names_of (tree_after (goes_on t e) history)
    → behind d (names_of t) t (e ∷ history) (length (name_changes t (e ∷ history))) ≡ names_of (tree_after (goes_on t e) history)
last_step t e legal history d rest = by (is_served e.reply && changes_names t e.op) refl
  where
    by : (b : Bool) → (is_served e.reply && changes_names t e.op) ≡ b
        → get_or (names_of t ∷ (cond b (names_of (goes_on t e) ∷ []) [] ++ name_changes (goes_on t e) history)) (length (cond b (names_of (goes_on t e) ∷ []) [] ++ name_changes (goes_on t e) history)) d ≡ names_of (tree_after (goes_on t e) history)
    by true is = rest
    by false is = ap (λ (n : NameState). get_or (n ∷ name_changes (goes_on t e) history) (length (name_changes (goes_on t e) history)) d) (sym (names_still t e legal is)) ∙ rest

last_names : (ticket : ℕ) (t : PosixTree) (history : List Entry) (d : NameState) → IsLegalFrom ticket t history → behind d (names_of t) t history (length (name_changes t history)) ≡ names_of (tree_after t history)
last_names ticket t [] d legal = refl
last_names ticket t (e ∷ history) d legal = last_step t e legal.0.replied history d (last_names (ticket + 1) (goes_on t e) history d legal.1)

-- After all their changes the names are those of the last tree.
pub names_last : (start : PosixTree) (history : List Entry) → IsLegalFrom 0 start history → names_after start history (length (name_changes start history)) ≡ names_of (tree_after start history)
names_last start history legal = last_names 0 start history (names_of start) legal

-- At each moment of a history the tree has the names after the changes that there were by then.
pub names_then : (start : PosixTree) (history more : List Entry) → IsLegalFrom 0 start history → names_after start (history ++ more) (length (name_changes start history)) ≡ names_of (tree_after start history)
names_then start history more legal = names_after-append start history more (length (name_changes start history)) (omega arith) ∙ names_last start history legal

-- the next number only rises
abbrev Rises : NameState → PosixTree → List Entry → Type 0
Rises d t history = (x : NameState) → x.next ≤ t.next → (i j : ℕ) → i ≤ j → j ≤ length (name_changes t history) → (behind d x t history i).next ≤ (behind d x t history j).next

rises_none : (d : NameState) (t : PosixTree) → Rises d t []
rises_none d t x low zero zero le made = omega arith
rises_none d t x low zero (suc j) le made = absurd (omega arith)
rises_none d t x low (suc i) zero le made = absurd (omega arith)
rises_none d t x low (suc i) (suc j) le made = absurd (omega arith)

rises_step : (t : PosixTree) (e : Entry) → IsReplyTo t e → (history : List Entry) (d : NameState) → Rises d (goes_on t e) history → Rises d t (e ∷ history)
rises_step t e legal history d rest x low = by (is_served e.reply && changes_names t e.op)
  where
    up : t.next ≤ (goes_on t e).next
    up = next_rises t e legal

    later : (i j : ℕ) → i ≤ j → j ≤ suc (length (name_changes (goes_on t e) history))
        → (get_or (x ∷ names_of (goes_on t e) ∷ name_changes (goes_on t e) history) i d).next ≤ (get_or (x ∷ names_of (goes_on t e) ∷ name_changes (goes_on t e) history) j d).next
    later zero zero le made = omega arith
    later zero (suc j) le made = let above = rest (names_of (goes_on t e)) (omega arith) 0 j (omega arith) (omega arith) in omega (arith, above, low, up)
    later (suc i) zero le made = absurd (omega arith)
    later (suc i) (suc j) le made = rest (names_of (goes_on t e)) (omega arith) i j (omega arith) (omega arith)

    by : (b : Bool) (i j : ℕ) → i ≤ j → j ≤ length (cond b (names_of (goes_on t e) ∷ []) [] ++ name_changes (goes_on t e) history)
        → (get_or (x ∷ (cond b (names_of (goes_on t e) ∷ []) [] ++ name_changes (goes_on t e) history)) i d).next ≤ (get_or (x ∷ (cond b (names_of (goes_on t e) ∷ []) [] ++ name_changes (goes_on t e) history)) j d).next
    by true = later
    by false = rest x (omega (arith, low, up))

rising : (ticket : ℕ) (t : PosixTree) (history : List Entry) (d : NameState) → IsLegalFrom ticket t history → Rises d t history
rising ticket t [] d legal = rises_none d t
rising ticket t (e ∷ history) d legal = rises_step t e legal.0.replied history d (rising (ticket + 1) (goes_on t e) history d legal.1)

pub next_names : (start : PosixTree) (history : List Entry) → IsLegalFrom 0 start history → (i j : ℕ) → i ≤ j → j ≤ length (name_changes start history) → (names_after start history i).next ≤ (names_after start history j).next
next_names start history legal = rising 0 start history (names_of start) legal (names_of start) (omega arith)

-- ---- what is acknowledged is made

before_last_made : (passes : Step → Bool) (counted : Step → ℕ) (ss : List Step) → before_last passes counted ss ≤ sum_by counted ss
before_last_made passes counted [] = omega arith
before_last_made passes counted (s ∷ ss) = by (before_last_made passes counted ss) (list_any passes ss)
  where
    by : before_last passes counted ss ≤ sum_by counted ss → (b : Bool) → cond b (counted s + before_last passes counted ss) 0 ≤ sum_by counted (s ∷ ss)
    by rest true = omega (arith, rest, sum_by-cons counted s ss)
    by rest false = omega arith

pub file_synced_made : (file : ℕ) (start : PosixTree) (history : List Entry) → file_synced file start history ≤ length (changes_of file start history)
file_synced_made file start history =
    let most = before_last_made (syncs_file file) (λ s. length (change_of file s)) (steps start history) in
    omega (arith, most, length-flat_map (change_of file) (steps start history))

pub names_synced_made : (start : PosixTree) (history : List Entry) → names_synced start history ≤ length (name_changes start history)
names_synced_made start history =
    let most = before_last_made syncs_names (λ s. length (names_by s)) (steps start history) in
    omega (arith, most, length-flat_map names_by (steps start history))

pub fsynced_live : (t : PosixTree) → IsTree t → (client : ℕ) (request : Op) (f : ℕ) → asks_fsync f t client request ≡ true → HasBytes t.bytes f
fsynced_live t is client (op.OpenFile path read write creat excl trunc append) f e = cc
fsynced_live t is client (op.Close fd) f e = cc
fsynced_live t is client (op.Read fd n) f e = cc
fsynced_live t is client (op.Write fd data') f e = cc
fsynced_live t is client (op.Pread fd n at) f e = cc
fsynced_live t is client (op.Pwrite fd data' at) f e = cc
fsynced_live t is client (op.Seek fd from by) f e = cc
fsynced_live t is client (op.Trunc fd size) f e = cc
fsynced_live t is client (op.Fsync fd) f e = opened_live t is client fd f (number_is f _ e)
fsynced_live t is client op.Sync f e = cc
fsynced_live t is client (op.Mkdir path) f e = cc
fsynced_live t is client (op.Rmdir path) f e = cc
fsynced_live t is client (op.Unlink path) f e = cc
fsynced_live t is client (op.Rename from to) f e = cc
fsynced_live t is client (op.Stat path) f e = cc
fsynced_live t is client (op.List path) f e = cc

born_step : (t : PosixTree) → IsTree t → (e : Entry) → IsReplyTo t e → (f last : ℕ) (rest : Bool) → (goes_on t e).next ≤ last → (rest ≡ true → f < last) → (is_fsync_of f (record { before = t; entry = e }) || rest) ≡ true → f < last
born_step t is e legal f last rest up later h = by (is_fsync_of f (record { before = t; entry = e })) refl h
  where
    by : (b : Bool) → is_fsync_of f (record { before = t; entry = e }) ≡ b → (b || rest) ≡ true → f < last
    by true asked h = let below : f < t.next = is.numbered f (fsynced_live t is e.client e.op f (and_parts (is_ok e.reply) (asks_fsync f t e.client e.op) asked).1) in omega (arith, up, next_rises t e legal)
    by false asked h = later h

-- a file that has an acknowledged `fsync` was made
pub fsynced_born : KeepsTrees → (ticket : ℕ) (t : PosixTree) → IsTree t → (history : List Entry) → IsLegalFrom ticket t history → (f : ℕ) → is_fsynced f t history ≡ true → f < (tree_after t history).next
fsynced_born keeps ticket t is [] legal f e = cc
fsynced_born keeps ticket t is (e ∷ history) legal f h =
    born_step t is e legal.0.replied f (tree_after (goes_on t e) history).next (is_fsynced f (goes_on t e) history) (next_after (ticket + 1) (goes_on t e) history legal.1)
    (fsynced_born keeps (ticket + 1) (goes_on t e) (tree_goes_on keeps t is e legal.0.replied) history legal.1 f) h
