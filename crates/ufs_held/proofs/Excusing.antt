-- What a turn of the store refused excuses a request on a file.
use Rattle.std.proofs.Common.{◌≡◌, ℕ, ◌+◌, ◌-◌, ◌^◌, ◌≤◌, ◌<◌, Bool, true, false, cond, leb, le-leb, None, Some, List, [], ◌∷◌, ◌++◌, Option, subst, ap, sym, refl, ◌∙◌, arith}
use Rattle.ufs_file.specs.Hand.{FileState, IsFileOf, IsOf}
use Rattle.ufs_file.proofs.FilledLemmas.{same_refusal}
use Rattle.ufs_model.specs.Asks.{IsAsk}
use Rattle.ufs_model.specs.Excuses.{ExcuseFits}
use Rattle.ufs_model.specs.History.{is_excused}
use Rattle.ufs_model.specs.FileCalls.{RefusalsArePosix, file_refusal, is_on_file}
use Rattle.ufs_model.specs.PosixTree.{PosixTree}
use Rattle.ufs_model.specs.Refusals.{refusal}
use Rattle.ufs_model.specs.declared.data.Ask.{Ask}
use Rattle.ufs_model.specs.declared.data.Desc.{Desc}
use Rattle.ufs_model.specs.declared.data.Excuse.{Excuse}
use Rattle.ufs_model.specs.declared.data.Excuse.TheVariants as excuse
use Rattle.ufs_model.specs.declared.data.Op.{Op}
use Rattle.ufs_model.specs.declared.data.Reply.{Reply}
use Rattle.ufs_model.specs.declared.data.Reply.TheVariants as reply
use Rattle.ufs_hand_laws.specs.Draws.{left_faults}
use Rattle.ufs_hand_laws.specs.Owned.{less, one, times}
use Rattle.ufs_hand_laws.specs.Parts.{either}
use Rattle.ufs_hand_laws.proofs.Keys.{itself}
use Rattle.ufs_joint.specs.Cells.{View}
use Rattle.ufs_joint.proofs.FaultsTold.{times_both}
use Rattle.ufs_turns.specs.Lent.{AreTold}
use Rattle.ufs_turns.specs.Told.{fault_told, told_list}
use Rattle.ufs_turns.proofs.Syncing.{told_some}
use Rattle.ufs_held.specs.Asking.{faults_of, is_of_turn}
use Rattle.ufs_held.proofs.Drawing.{of_desc}

turn_fits : (t : PosixTree) (client : ℕ) (request : Op) (x : Excuse) → is_of_turn x ≡ true → refusal t client request ≡ None → ExcuseFits t client request x
turn_fits t client request excuse.Memory e allowed = record { due = λ _. allowed; told = tt }
turn_fits t client request (excuse.Device fault) e allowed = record { due = λ _. allowed; told = tt }
turn_fits t client request (excuse.Stopped fault) e allowed = record { due = λ _. allowed; told = tt }
turn_fits t client request (excuse.Blocks need had) e allowed = absurd cc
turn_fits t client request excuse.Inodes e allowed = absurd cc
turn_fits t client request (excuse.Extents need) e allowed = absurd cc

-- It fits on whichever tree has the file, where the file's own bytes refuse nothing.
pub excuse_fits : RefusalsArePosix → (f : FileState) (ask : Ask) (x : Excuse) → is_on_file ask.op ≡ true → IsOf ask.desc f.file → ((d : Desc) → ask.desc ≡ Some d → file_refusal f.content.bytes d ask.op ≡ None) → is_of_turn x ≡ true
    → (t : PosixTree) → IsFileOf f t → IsAsk t ask → ExcuseFits t ask.client ask.op x
excuse_fits law f ask x kind named allowed of_turn t of asked =
    let d = of_desc ask.desc f.file named in
    turn_fits t ask.client ask.op x of_turn
    (law t ask.client ask.op d.0 f.file of.bytes kind (sym asked.desc ∙ d.1) d.2 of.has ∙ same_refusal of.bytes f.content.bytes d.0 ask.op of.may.long ∙ allowed d.0 d.1)

told_first : (n : ℕ) (xs : List ℕ) → 1 ≤ times n (n ∷ xs)
told_first n xs = let a = ap one (itself n) in omega (arith, a)

-- What a hand was told stands when another joins it.
pub told_joined : (n : ℕ) (xs ys : List ℕ) → 1 ≤ times n xs → 1 ≤ times n (xs ++ ys)
told_joined n xs ys l = let a = times_both n xs ys in omega (arith, a, l)

pub stop_joined : (a b : Option ℕ) (n : ℕ) → a ≡ Some n → either a b ≡ Some n
stop_joined a b n is = ap (λ (q : Option ℕ). either q b) is

-- The fault that excuses is used, and no other.
pub used_by : (x : Excuse) (faults : List ℕ) → left_faults (reply.Excused x) (faults_of x ++ faults) ≡ faults
used_by excuse.Memory faults = refl
used_by (excuse.Device fault) faults = ap (λ (b : Bool). cond b faults (fault ∷ less fault faults)) (itself fault)
used_by (excuse.Stopped fault) faults = refl
used_by (excuse.Blocks need had) faults = refl
used_by excuse.Inodes faults = refl
used_by (excuse.Extents need) faults = refl

pub its_fault : (x : Excuse) (faults : List ℕ) (fault : ℕ) → faults ≡ faults_of x → x ≡ excuse.Device fault → 1 ≤ times fault faults
its_fault x faults fault told is = subst (λ (xs : List ℕ). 1 ≤ times fault xs) (sym (told ∙ ap faults_of is)) (told_first fault [])

abbrev first_of : ℕ → List ℕ → ℕ
first_of d [] = d
first_of d (x ∷ xs) = x

-- The fault that an excuse tells is the one that was told.
pub told_alone : (o : Option ℕ) (x : Excuse) (n : ℕ) → told_list o ≡ faults_of x → x ≡ excuse.Device n → o ≡ Some n
told_alone None x n used is = (let none : [] ≡ n ∷ [] = used ∙ ap faults_of is in absurd cc)
told_alone (Some m) x n used is = ap Some (ap (first_of m) (used ∙ ap faults_of is))

pub told_below : (n : ℕ) → n < 2 ^ 64 - 1 → told_list (fault_told (Some n)) ≡ n ∷ []
told_below n low = ap told_list (told_some (Some n) n refl low)

pub told_last : (n : ℕ) → 2 ^ 64 - 1 ≤ n → told_list (fault_told (Some n)) ≡ []
told_last n l = ap (λ (b : Bool). told_list (cond b None (Some n))) (le-leb (2 ^ 64 - 1) n l)

-- one excuse stands in a reply
abbrev excuse_or : Excuse → Reply → Excuse
excuse_or x (reply.Excused y) = y
excuse_or x _ = x

pub one_excuse : (r : Reply) (x y : Excuse) → r ≡ reply.Excused x → r ≡ reply.Excused y → x ≡ y
one_excuse r x y is also = ap (excuse_or x) (sym is ∙ also)

-- a reply isn't both an excuse and an acknowledgement
pub not_done : (r : Reply) (x : Excuse) → r ≡ reply.Excused x → r ≡ reply.Done → ⊥
not_done r x is done = (let clash : true ≡ false = sym (ap is_excused is) ∙ ap is_excused done in cc)

pub not_excused : (r : Reply) → r ≡ reply.Done → is_excused r ≡ true → ⊥
not_excused r done is = (let clash : false ≡ true = sym (ap is_excused done) ∙ is in cc)

-- what is told of a store stays where nothing is done
pub same_told : (o : Option View) → AreTold o o (λ had has. has ≡ had)
same_told None = tt
same_told (Some v) = refl
