-- Which device faults a history tells.
use Rattle.std.proofs.Common.{◌≡◌, ◌≢◌, ℕ, ◌<◌, List, [], ◌∷◌, ◌++◌, Some, None, false, true, ap, sym, refl, subst, ◌∙◌, length, arith, zero, suc, ◌⊎◌, inl, inr, eqb, not, Bool, IsTrue}
use Rattle.std.specs.List.{AllByRecursion, Contains, list_any}
use Rattle.std.specs.Prelude.{◌↔◌}
use Rattle.std.proofs.lemmas.Bool.{cases_eq, ne_eqb, eqb-false}
use Rattle.std.specs.Ordering.{nat_cmp, match_ordering, is_eq}
use Rattle.std.specs.Cmp.{Equal-is, nat_cmp_is}
use Rattle.std.proofs.lemmas.List.Folds.{list_any_at}
use Rattle.std.proofs.lemmas.Map.Views.{Contains-from_any}
use Rattle.std.specs.declared.cmp.Ordering.{Ordering}
use Rattle.std.specs.declared.cmp.Ordering.TheVariants.{Less, Equal, Greater}
use Rattle.std.specs.BTreeSet.{insert_key}
use Rattle.std.proofs.lemmas.Map.Lookups.{exact_unsigned}
use Rattle.std.proofs.lemmas.List.Elements.{Contains-append_left, Contains-append_right, Contains-append_cases}
use Rattle.ufs_model.specs.History.{share_fault, TellsNewFault, is_excused}
use Rattle.ufs_model.specs.declared.data.Entry.{Entry}
use Rattle.ufs_model.specs.declared.data.Excuse.{Excuse}
use Rattle.ufs_model.specs.declared.data.Excuse.TheVariants as excuse
use Rattle.ufs_model.specs.declared.data.Reply.{Reply}
use Rattle.ufs_model.specs.declared.data.Reply.TheVariants as reply
use Rattle.ufs_model.proofs.Facts.Histories.{all-push}
use Rattle.ufs_audit.specs.Following.{AreFaultsOf, IsFresh, with_fault}

abbrev pub NoDevice : Reply → Type 0
NoDevice r = (fault : ℕ) → r ≡ reply.Excused (excuse.Device fault) → ⊥

own_fault : (x : Excuse) (fault : ℕ) → ((g : ℕ) → x ≡ excuse.Device g → ⊥) → share_fault (reply.Excused x) (reply.Excused (excuse.Device fault)) ≡ false
own_fault excuse.Memory fault h = refl
own_fault (excuse.Device g) fault h = absurd (h g refl)
own_fault (excuse.Stopped g) fault h = refl
own_fault (excuse.Blocks need had) fault h = refl
own_fault excuse.Inodes fault h = refl
own_fault (excuse.Extents need) fault h = refl

-- a reply that tells no fault shares none
left_none : (r : Reply) (fault : ℕ) → NoDevice r → share_fault r (reply.Excused (excuse.Device fault)) ≡ false
left_none (reply.Excused x) fault h = own_fault x fault (λ g is. h g (ap reply.Excused is))
left_none reply.Done fault h = refl
left_none (reply.Fd n) fault h = refl
left_none (reply.Count n) fault h = refl
left_none (reply.At n) fault h = refl
left_none (reply.Got bytes) fault h = refl
left_none (reply.IsFile size) fault h = refl
left_none (reply.IsDir entries) fault h = refl
left_none (reply.Names names) fault h = refl
left_none (reply.Refused e) fault h = refl

their_fault : (fault : ℕ) (x : Excuse) → ((g : ℕ) → x ≡ excuse.Device g → ⊥) → share_fault (reply.Excused (excuse.Device fault)) (reply.Excused x) ≡ false
their_fault fault excuse.Memory h = refl
their_fault fault (excuse.Device g) h = absurd (h g refl)
their_fault fault (excuse.Stopped g) h = refl
their_fault fault (excuse.Blocks need had) h = refl
their_fault fault excuse.Inodes h = refl
their_fault fault (excuse.Extents need) h = refl

device_none : (fault : ℕ) (r : Reply) → NoDevice r → share_fault (reply.Excused (excuse.Device fault)) r ≡ false
device_none fault (reply.Excused x) h = their_fault fault x (λ g is. h g (ap reply.Excused is))
device_none fault reply.Done h = refl
device_none fault (reply.Fd n) h = refl
device_none fault (reply.Count n) h = refl
device_none fault (reply.At n) h = refl
device_none fault (reply.Got bytes) h = refl
device_none fault (reply.IsFile size) h = refl
device_none fault (reply.IsDir entries) h = refl
device_none fault (reply.Names names) h = refl
device_none fault (reply.Refused e) h = refl

excused_none : (x : Excuse) (r : Reply) → NoDevice r → share_fault (reply.Excused x) r ≡ false
excused_none (excuse.Device fault) r h = device_none fault r h
excused_none excuse.Memory r h = refl
excused_none (excuse.Stopped g) r h = refl
excused_none (excuse.Blocks need had) r h = refl
excused_none excuse.Inodes r h = refl
excused_none (excuse.Extents need) r h = refl

right_none : (a r : Reply) → NoDevice r → share_fault a r ≡ false
right_none (reply.Excused x) r h = excused_none x r h
right_none reply.Done r h = refl
right_none (reply.Fd n) r h = refl
right_none (reply.Count n) r h = refl
right_none (reply.At n) r h = refl
right_none (reply.Got bytes) r h = refl
right_none (reply.IsFile size) r h = refl
right_none (reply.IsDir entries) r h = refl
right_none (reply.Names names) r h = refl
right_none (reply.Refused e) r h = refl

all_none : (history : List Entry) (r : Reply) → NoDevice r → AllByRecursion (λ o. share_fault o.reply r ≡ false) history
all_none [] r h = tt
all_none (e ∷ history) r h = (right_none e.reply r h, all_none history r h)

-- ---- the cases of a reply

data Kind (r : Reply) : Type 0 where
  device : (fault : ℕ) → r ≡ reply.Excused (excuse.Device fault) → Kind r
  other : NoDevice r → ((faults : List ℕ) → IsFresh faults r) → ((faults : List ℕ) → with_fault faults r ≡ faults) → Kind r

kind_of_excuse : (x : Excuse) → Kind (reply.Excused x)
kind_of_excuse (excuse.Device fault) = device fault refl
kind_of_excuse excuse.Memory = other (λ g is. cc) (λ _. tt) (λ _. refl)
kind_of_excuse (excuse.Stopped g) = other (λ g is. cc) (λ _. tt) (λ _. refl)
kind_of_excuse (excuse.Blocks need had) = other (λ g is. cc) (λ _. tt) (λ _. refl)
kind_of_excuse excuse.Inodes = other (λ g is. cc) (λ _. tt) (λ _. refl)
kind_of_excuse (excuse.Extents need) = other (λ g is. cc) (λ _. tt) (λ _. refl)

kind_of : (r : Reply) → Kind r
kind_of (reply.Excused x) = kind_of_excuse x
kind_of reply.Done = other (λ g is. cc) (λ _. tt) (λ _. refl)
kind_of (reply.Fd n) = other (λ g is. cc) (λ _. tt) (λ _. refl)
kind_of (reply.Count n) = other (λ g is. cc) (λ _. tt) (λ _. refl)
kind_of (reply.At n) = other (λ g is. cc) (λ _. tt) (λ _. refl)
kind_of (reply.Got bytes) = other (λ g is. cc) (λ _. tt) (λ _. refl)
kind_of (reply.IsFile size) = other (λ g is. cc) (λ _. tt) (λ _. refl)
kind_of (reply.IsDir entries) = other (λ g is. cc) (λ _. tt) (λ _. refl)
kind_of (reply.Names names) = other (λ g is. cc) (λ _. tt) (λ _. refl)
kind_of (reply.Refused e) = other (λ g is. cc) (λ _. tt) (λ _. refl)

-- ---- what a history tells

pub fresh_is_new : (faults : List ℕ) (history : List Entry) (r : Reply) → AreFaultsOf faults history → IsFresh faults r → AllByRecursion (λ o. share_fault o.reply r ≡ false) history
fresh_is_new faults history r are fresh = elim (kind_of r) [
  | device fault is ↦ subst (λ (r : Reply). AllByRecursion (λ o. share_fault o.reply r ≡ false) history) (sym is) ((are fault).0 (subst (λ (r : Reply). IsFresh faults r) is fresh))
  | other none f w ↦ all_none history r none
]

pub new_is_fresh : (faults : List ℕ) (history : List Entry) (r : Reply) → AreFaultsOf faults history → AllByRecursion (λ o. share_fault o.reply r ≡ false) history → IsFresh faults r
new_is_fresh faults history r are new = elim (kind_of r) [
  | device fault is ↦ subst (λ (r : Reply). IsFresh faults r) (sym is) ((are fault).1 (subst (λ (r : Reply). AllByRecursion (λ o. share_fault o.reply r ≡ false) history) is new))
  | other none f w ↦ f faults
]

all_front : {X : Type 0} (P : X → Type 0) (xs : List X) (x : X) → AllByRecursion P (xs ++ x ∷ []) → AllByRecursion P xs × P x
all_front P [] x all = (tt, all.0)
all_front P (y ∷ xs) x all = let rest = all_front P xs x all.1 in ((all.0, rest.0), rest.1)

one_contained : (g fault : ℕ) → Contains (g ∷ []) fault → g ≡ fault
one_contained g fault c = at c.0 c.1 c.2
  where
    at : (k : ℕ) → k < 1 → Rattle.std.specs.List.slice_index_or (g ∷ []) k fault ≡ fault → g ≡ fault
    at zero h e = e
    at (suc k) h e = absurd (omega (arith, h))

more_contained : (x : ℕ) (xs : List ℕ) (fault : ℕ) → Contains xs fault → Contains (x ∷ xs) fault
more_contained x xs fault c = Contains-append_right (x ∷ []) xs fault c

none_contained : (fault : ℕ) → Contains [] fault → ⊥
none_contained fault c = absurd (let h = c.1 in omega (arith, h))

-- what stands in order stays when a key is put there
kept_inserted : (faults : List ℕ) (g fault : ℕ) → Contains faults fault → Contains (insert_key nat_cmp faults g) fault
kept_inserted [] g fault c = absurd (none_contained fault c)
kept_inserted (x ∷ xs) g fault c = by (λ rest. kept_inserted xs g fault rest) (nat_cmp g x) (Contains-append_cases (x ∷ []) xs fault c)
  where
    by : (Contains xs fault → Contains (insert_key nat_cmp xs g) fault) → (o : Ordering) → Contains (x ∷ []) fault ⊎ Contains xs fault
        → Contains (match_ordering o (g ∷ x ∷ xs) (x ∷ xs) (x ∷ insert_key nat_cmp xs g)) fault
    by kept Less either = more_contained g (x ∷ xs) fault c
    by kept Equal either = c
    by kept Greater (inl first) = Contains-append_left (x ∷ []) (insert_key nat_cmp xs g) fault first
    by kept Greater (inr rest) = more_contained x (insert_key nat_cmp xs g) fault (kept rest)

-- the key that was put there stands there
own_inserted : (faults : List ℕ) (g : ℕ) → Contains (insert_key nat_cmp faults g) g
own_inserted [] g = (0, omega arith, refl)
own_inserted (x ∷ xs) g = by (own_inserted xs g) (nat_cmp g x) refl
  where
    by : Contains (insert_key nat_cmp xs g) g → (o : Ordering) → nat_cmp g x ≡ o → Contains (match_ordering o (g ∷ x ∷ xs) (x ∷ xs) (x ∷ insert_key nat_cmp xs g)) g
    by own Less is = (0, omega arith, refl)
    by own Equal is = subst (λ (k : ℕ). Contains (x ∷ xs) k) (sym (exact_unsigned g x is)) (0, omega arith, refl)
    by own Greater is = more_contained x (insert_key nat_cmp xs g) g own

-- and nothing else comes there
inserted_cases : (faults : List ℕ) (g fault : ℕ) → Contains (insert_key nat_cmp faults g) fault → Contains faults fault ⊎ (g ≡ fault)
inserted_cases [] g fault c = inr (one_contained g fault c)
inserted_cases (x ∷ xs) g fault c = by (λ rest. inserted_cases xs g fault rest) (nat_cmp g x) c
  where
    front : (Contains (insert_key nat_cmp xs g) fault → Contains xs fault ⊎ (g ≡ fault)) → Contains (x ∷ []) fault ⊎ Contains (insert_key nat_cmp xs g) fault → Contains (x ∷ xs) fault ⊎ (g ≡ fault)
    front cases (inl first) = inl (Contains-append_left (x ∷ []) xs fault first)
    front cases (inr rest) = elim (cases rest) [
      | inl old ↦ inl (more_contained x xs fault old)
      | inr own ↦ inr own
    ]

    first : Contains (g ∷ []) fault ⊎ Contains (x ∷ xs) fault → Contains (x ∷ xs) fault ⊎ (g ≡ fault)
    first (inl own) = inr (one_contained g fault own)
    first (inr old) = inl old

    by : (Contains (insert_key nat_cmp xs g) fault → Contains xs fault ⊎ (g ≡ fault)) → (o : Ordering) → Contains (match_ordering o (g ∷ x ∷ xs) (x ∷ xs) (x ∷ insert_key nat_cmp xs g)) fault
        → Contains (x ∷ xs) fault ⊎ (g ≡ fault)
    by cases Less c = first (Contains-append_cases (g ∷ []) (x ∷ xs) fault c)
    by cases Equal c = inl c
    by cases Greater c = front cases (Contains-append_cases (x ∷ []) (insert_key nat_cmp xs g) fault c)

pub faults_more : (faults : List ℕ) (history : List Entry) (entry : Entry) → AreFaultsOf faults history → AreFaultsOf (with_fault faults entry.reply) (history ++ entry ∷ [])
faults_more faults history entry are fault = elim (kind_of entry.reply) [
  | device g is ↦ (
    (λ none.
        let apart : g ≡ fault → ⊥ = λ same. none (subst (λ (l : List ℕ). Contains l fault) (sym (ap (with_fault faults) is)) (subst (λ (k : ℕ). Contains (insert_key nat_cmp faults g) k) same (own_inserted faults g))) in
        all-push (λ (o : Entry). share_fault o.reply (reply.Excused (excuse.Device fault)) ≡ false) history entry
        ((are fault).0 (λ c. none (subst (λ (l : List ℕ). Contains l fault) (sym (ap (with_fault faults) is)) (kept_inserted faults g fault c))))
        (ap (λ (r : Reply). share_fault r (reply.Excused (excuse.Device fault))) is ∙ ne_eqb g fault apart)),
    (λ all c.
        let parts = all_front (λ (o : Entry). share_fault o.reply (reply.Excused (excuse.Device fault)) ≡ false) history entry all in
        let differs : eqb g fault ≡ false = sym (ap (λ (r : Reply). share_fault r (reply.Excused (excuse.Device fault))) is) ∙ parts.1 in
        elim (inserted_cases faults g fault (subst (λ (l : List ℕ). Contains l fault) (ap (with_fault faults) is) c)) [
          | inl old ↦ (are fault).1 parts.0 old
          | inr own ↦ eqb-false g fault differs own
        ]),
  )
  | other none f w ↦ (
    (λ absent.
        all-push (λ (o : Entry). share_fault o.reply (reply.Excused (excuse.Device fault)) ≡ false) history entry
        ((are fault).0 (λ c. absent (subst (λ (l : List ℕ). Contains l fault) (sym (w faults)) c)))
        (left_none entry.reply fault none)),
    (λ all c. (are fault).1 (all_front (λ (o : Entry). share_fault o.reply (reply.Excused (excuse.Device fault)) ≡ false) history entry all).0 (subst (λ (l : List ℕ). Contains l fault) (w faults) c)),
  )
]

pub no_device : (r : Reply) → is_excused r ≡ false → NoDevice r
no_device r plain fault is = let bad : true ≡ false = sym (ap is_excused is) ∙ plain in cc

pub none_fresh : (faults : List ℕ) (r : Reply) → NoDevice r → IsFresh faults r
none_fresh faults r none = elim (kind_of r) [
  | device fault is ↦ absurd (none fault is)
  | other n f w ↦ f faults
]

pub none_with : (faults : List ℕ) (r : Reply) → NoDevice r → with_fault faults r ≡ faults
none_with faults r none = elim (kind_of r) [
  | device fault is ↦ absurd (none fault is)
  | other n f w ↦ w faults
]

-- ---- as the code looks a fault up

contained : (faults : List ℕ) (fault : ℕ) → list_any (λ k. is_eq (nat_cmp fault k)) faults ≡ true → Contains faults fault
contained faults fault found = Contains-from_any {eq = λ (x y : ℕ). is_eq (nat_cmp x y)} (λ x y same. exact_unsigned x y ((Equal-is (nat_cmp x y)).0 same)) fault faults found

found_by : (faults : List ℕ) (fault : ℕ) → Contains faults fault → list_any (λ k. is_eq (nat_cmp fault k)) faults ≡ true
found_by faults fault c = list_any_at (λ k. is_eq (nat_cmp fault k)) faults c.0 fault c.1 (ap (λ k. is_eq (nat_cmp fault k)) c.2 ∙ ap is_eq (sym (nat_cmp_is fault fault Equal refl)))

pub fresh_told : (faults : List ℕ) (fault : ℕ) (there : Bool) → there ≡ list_any (λ k. is_eq (nat_cmp fault k)) faults → IsTrue (not there) ↔ IsFresh faults (reply.Excused (excuse.Device fault))
fresh_told faults fault true is = ((λ bad. cc), (λ none. absurd (none (contained faults fault (sym is)))))
fresh_told faults fault false is = ((λ _ c. let yes = found_by faults fault c in let bad : false ≡ true = is ∙ yes in cc), (λ _. refl))

-- an excuse that is no device's tells none
pub fresh_other : (faults : List ℕ) (x : Excuse) → ((g : ℕ) → x ≡ excuse.Device g → ⊥) → IsFresh faults (reply.Excused x)
fresh_other faults x none = none_fresh faults (reply.Excused x) (λ g is. none g cc)

pub with_other : (faults : List ℕ) (x : Excuse) → ((g : ℕ) → x ≡ excuse.Device g → ⊥) → with_fault faults (reply.Excused x) ≡ faults
with_other faults x none = none_with faults (reply.Excused x) (λ g is. none g cc)
