-- Numbers of changes, and what they cover, as a history goes on by an entry.
use Rattle.std.proofs.Common.{◌≡◌, ℕ, ◌≤◌, ◌<◌, ◌⊎◌, Bool, true, false, cond, ◌||◌, List, [], ◌∷◌, ◌++◌, length, sym, refl, ap, ◌∙◌, subst, inl, inr, ⊎_elim, arith, length-append}
use Rattle.std.proofs.lemmas.Bool.{and_parts}
use Rattle.ufs_model.specs.PosixTree.{PosixTree}
use Rattle.ufs_model.specs.Posix.{posix}
use Rattle.ufs_model.specs.History.{IsLegalFrom, tree_with, tree_after, is_excused}
use Rattle.ufs_model.specs.declared.data.Op.{Op}
use Rattle.ufs_model.specs.declared.data.Entry.{Entry}
use Rattle.ufs_model.specs.declared.data.Reply.{Reply}
use Rattle.ufs_model.specs.declared.data.Reply.TheVariants as reply
use Rattle.ufs_crash_laws.specs.Steps.{is_served, is_ok}
use Rattle.ufs_crash_laws.specs.Changes.{NameState, changes_of, name_changes, names_synced, asks_fsync, asks_dir_fsync, asks_sync, is_fsync_of, is_fsynced, syncs_names}
use Rattle.ufs_crash_laws.specs.Steps.{next_step}
use Rattle.ufs_crash_laws.proofs.Facts.Histories.{changes_of-append, name_changes-append, names_after-append, names_synced-push, is_fsynced-push}
use Rattle.ufs_crash_laws.proofs.Facts.Sessions.{next_names}
use Rattle.ufs_hand_laws.specs.Facts.Covered.{ok_done}
use Rattle.ufs_hand_laws.specs.Covers.{IsBornBy, CoversFile, CoversNames, CoversBirths, SyncsFile, SyncsNames, SyncsBirth}

-- ---- lists that end in one more

head_is : {A : Type 0} (x y : A) (xs ys : List A) → ◌≡◌ {A = List A} (x ∷ xs) (y ∷ ys) → x ≡ y
head_is x y xs ys e = cc

tail_is : {A : Type 0} (x y : A) (xs ys : List A) → ◌≡◌ {A = List A} (x ∷ xs) (y ∷ ys) → xs ≡ ys
tail_is x y xs ys e = cc

no_cons : {A : Type 0} (a : List A) (x : A) (b : List A) → [] ≡ a ++ x ∷ b → ⊥
no_cons [] x b e = cc
no_cons (y ∷ a) x b e = cc

-- an element of a list with one more is the last, or stands before it
last_or : {A : Type 0} (h : List A) (e : A) (a : List A) (x : A) (b : List A) → h ++ e ∷ [] ≡ a ++ x ∷ b → ((a ≡ h) × (x ≡ e)) ⊎ ((b' : List A) × (h ≡ a ++ x ∷ b'))
last_or [] e [] x b is = inl (refl, sym (head_is e x [] b is))
last_or [] e (y ∷ a) x b is = absurd (no_cons a x b (tail_is e y [] (a ++ x ∷ b) is))
last_or (z ∷ h) e [] x b is = inr (h, ap (λ y. y ∷ h) (head_is z x (h ++ e ∷ []) b is))
last_or (z ∷ h) e (y ∷ a) x b is =
    let hd = head_is z y (h ++ e ∷ []) (a ++ x ∷ b) is in
    ⊎_elim (λ r. inl ((λ i. sym hd i ∷ r.0 i), r.1)) (λ r. inr (r.0, λ i. hd i ∷ r.1 i))
    (last_or h e a x b (tail_is z y (h ++ e ∷ []) (a ++ x ∷ b) is))

-- ---- changes

pub changes_front : (t : PosixTree) (a b : List Entry) (g : ℕ) → length (changes_of g t a) ≤ length (changes_of g t (a ++ b))
changes_front t a b g = let e = ap length (changes_of-append g t a b) in let l = length-append (changes_of g t a) (changes_of g (tree_after t a) b) in omega arith

pub more_changes : (t : PosixTree) (h : List Entry) (e : Entry) (f : ℕ) → length (changes_of f t h) ≤ length (changes_of f t (h ++ e ∷ []))
more_changes t h e f = changes_front t h (e ∷ []) f

pub names_front : (t : PosixTree) (a b : List Entry) → length (name_changes t a) ≤ length (name_changes t (a ++ b))
names_front t a b = let e = ap length (name_changes-append t a b) in let l = length-append (name_changes t a) (name_changes (tree_after t a) b) in omega arith

pub more_names : (t : PosixTree) (h : List Entry) (e : Entry) → length (name_changes t h) ≤ length (name_changes t (h ++ e ∷ []))
more_names t h e = names_front t h (e ∷ [])

pub born_push : (t : PosixTree) (h : List Entry) (e : Entry) (f k : ℕ) → k ≤ length (name_changes t h) → IsBornBy t h f k → IsBornBy t (h ++ e ∷ []) f k
born_push t h e f k made born = subst (λ (n : NameState). f < n.next) (sym (names_after-append t h (e ∷ []) k made)) born

-- ---- numbers may rise

pub covers_more : (t : PosixTree) (h : List Entry) (g k n : ℕ) → k ≤ n → CoversFile t h g k → CoversFile t h g n
covers_more t h g k n le c a b e is done syncs = let x = c a b e is done syncs in omega arith

pub names_more : (t : PosixTree) (h : List Entry) (k n : ℕ) → k ≤ n → CoversNames t h k → CoversNames t h n
names_more t h k n le c = omega (arith, c)

module _ (t : PosixTree) (h : List Entry) (legal : IsLegalFrom 0 t h) (k n : ℕ) (le : k ≤ n) (made : n ≤ length (name_changes t h)) where
  pub born_more : (g : ℕ) → IsBornBy t h g k → IsBornBy t h g n
  born_more g born = let up = next_names t h legal k n le made in omega (arith, born, up)

  pub births_more : CoversBirths t h k → CoversBirths t h n
  births_more c g is = born_more g (c g is)

-- ---- acknowledgements

pub covers_file_push : (t : PosixTree) (h : List Entry) (e : Entry) (f k : ℕ) → CoversFile t h f k
    → (e.reply ≡ reply.Done → SyncsFile (tree_after t h) e.client e.op f → length (changes_of f t h) ≤ k) → CoversFile t (h ++ e ∷ []) f k
covers_file_push t h e f k before now a b x is done syncs = ⊎_elim
    (λ (r : (a ≡ h) × (x ≡ e)).
    let done' : e.reply ≡ reply.Done = sym (ap (λ (y : Entry). y.reply) r.1) ∙ done in
    let syncs' = subst (λ (p : List Entry × Entry). SyncsFile (tree_after t p.0) p.1.client p.1.op f) (λ i. (r.0 i, r.1 i)) syncs in
    subst (λ l. length (changes_of f t l) ≤ k) (sym r.0) (now done' syncs'))
    (λ r. before a r.0 x r.1 done syncs) (last_or h e a x b is)

pub covers_names_push : (t : PosixTree) (h : List Entry) (e : Entry) (k : ℕ) → CoversNames t h k
    → (e.reply ≡ reply.Done → SyncsNames (tree_after t h) e.client e.op → length (name_changes t h) ≤ k) → CoversNames t (h ++ e ∷ []) k
covers_names_push t h e k before now = subst (λ n. n ≤ k) (sym (names_synced-push t h e)) (by (syncs_names (next_step t h e)) refl)
  where
    by : (b : Bool) → syncs_names (next_step t h e) ≡ b → cond b (length (name_changes t h)) (names_synced t h) ≤ k
    by true is = let parts = and_parts (is_ok e.reply) (asks_dir_fsync (tree_after t h) e.client e.op || asks_sync e.op) is in now (ok_done e.reply parts.0) parts.1
    by false is = before

pub covers_births_push : (t : PosixTree) (h : List Entry) (e : Entry) (k : ℕ) → k ≤ length (name_changes t h) → CoversBirths t h k
    → ((f : ℕ) → e.reply ≡ reply.Done → SyncsBirth (tree_after t h) e.client e.op f → IsBornBy t h f k) → CoversBirths t (h ++ e ∷ []) k
covers_births_push t h e k made before now f is = born_push t h e f k made (by (is_fsynced f t h) refl (sym (is_fsynced-push f t h e) ∙ is))
  where
    by : (b : Bool) → is_fsynced f t h ≡ b → (b || is_fsync_of f (next_step t h e)) ≡ true → IsBornBy t h f k
    by true was e' = before f was
    by false was e' = let parts = and_parts (is_ok e.reply) (asks_fsync f (tree_after t h) e.client e.op) e' in now f (ok_done e.reply parts.0) parts.1

-- ---- replies

pub excused_or : (r : Reply) → (is_excused r ≡ true) ⊎ (is_excused r ≡ false)
excused_or r = by (is_excused r) refl
  where
    by : (b : Bool) → is_excused r ≡ b → (is_excused r ≡ true) ⊎ (is_excused r ≡ false)
    by true e = inl e
    by false e = inr e

pub tree_served : (t : PosixTree) (c : ℕ) (o : Op) (r : Reply) → is_excused r ≡ false → tree_with t c o r ≡ (posix t c o).0
tree_served t c o (reply.Excused x) e = cc
tree_served t c o _ e = refl

pub tree_stays : (t : PosixTree) (c : ℕ) (o : Op) (r : Reply) → is_excused r ≡ true → tree_with t c o r ≡ t
tree_stays t c o (reply.Excused x) e = refl
tree_stays t c o _ e = cc

pub excused_unserved : (r : Reply) → is_excused r ≡ true → is_served r ≡ false
excused_unserved (reply.Excused x) e = refl
excused_unserved _ e = cc
