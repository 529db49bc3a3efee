-- Room for transcripts.
use Rattle.std.proofs.Common.{◌≡◌, ◌+◌, ◌≤◌, ℕ, zero, suc, List, [], ◌∷◌, ◌++◌, length, take, Some, None, slice_get, refl, ap, subst, arith}
use Rattle.std.specs.Global.{Vec}
use Rattle.ufs_rounds.specs.OfCaller.{entries_in}
use Rattle.ufs_rounds.specs.OfCaller.{Told}
use Rattle.ufs_model.specs.declared.data.Entry.{Entry}
use Rattle.ufs_model.specs.declared.data.Op.{Op}
use Rattle.ufs_rounds.specs.OfGathered.{AnswerAll}
use Rattle.ufs_engine.specs.Asked.{AreRoomsFor, DoFit, HasRoomFor, given, lists_in}

pub length_push : {A : Type 0} (xs : List A) (x : A) → length (xs ++ x ∷ []) ≡ suc (length xs)
length_push [] x = refl
length_push (y ∷ xs) x = ap suc (length_push xs x)

pub push_on : {A : Type 0} (xs : List A) (x : A) (ys : List A) → (xs ++ x ∷ []) ++ ys ≡ xs ++ (x ∷ ys)
push_on [] x ys = refl
push_on (y ∷ xs) x ys = λ i. y ∷ push_on xs x ys i

pub no_items : {A : Type 0} (xs : List A) → length xs ≡ 0 → xs ≡ []
no_items [] none = refl
no_items (x ∷ xs) none = absurd (omega (arith, none))

pub take_none : {A : Type 0} (n : ℕ) → take {A = A} n [] ≡ []
take_none zero = refl
take_none (suc n) = refl

pub take_whole : {A : Type 0} (xs : List A) (n : ℕ) → length xs ≤ n → take n xs ≡ xs
take_whole [] n low = take_none n
take_whole (x ∷ xs) zero low = absurd (omega (arith, low))
take_whole (x ∷ xs) (suc n) low = λ i. x ∷ take_whole xs n (omega (arith, low)) i

-- one room more, for the next script
pub rooms_more : (xs : List (List Op)) (i : ℕ) (x : List Op) (rooms : List (Vec Entry)) (room : Vec Entry) → slice_get xs i ≡ Some x → HasRoomFor (length x) room → AreRoomsFor (take i xs) rooms → AreRoomsFor (take (suc i) xs) (rooms ++ room ∷ [])
rooms_more [] i x rooms room at has are = absurd (let none : None ≡ Some x = at in cc)
rooms_more (y ∷ xs) zero x [] room at has are = (let same : Some y ≡ Some x = at in subst (λ (z : List Op). HasRoomFor (length z) room) (let e : x ≡ y = cc in e) has, tt)
rooms_more (y ∷ xs) zero x (r ∷ rooms) room at has are = absurd are
rooms_more (y ∷ xs) (suc i) x [] room at has are = absurd are
rooms_more (y ∷ xs) (suc i) x (r ∷ rooms) room at has are = (are.0, rooms_more xs i x rooms room at has are.1)

-- ---- a session's transcripts fit

rooms_as_many : (scripts : List (List Op)) (rooms : List (Vec Entry)) → AreRoomsFor scripts rooms → length rooms ≡ length scripts
rooms_as_many [] [] are = refl
rooms_as_many [] (r ∷ rooms) are = absurd are
rooms_as_many (x ∷ scripts) [] are = absurd are
rooms_as_many (x ∷ scripts) (r ∷ rooms) are = ap suc (rooms_as_many scripts rooms are.1)

as_long : (told : List Told) → length (entries_in told) ≡ length told
as_long [] = refl
as_long (x ∷ told) = ap suc (as_long told)

fits : (scripts : List (List Op)) (told : List (Vec Told)) (rooms : List (Vec Entry)) → AreRoomsFor scripts rooms → AnswerAll scripts (lists_in told) → DoFit told rooms
fits [] told [] are all = tt
fits [] told (r ∷ rooms) are all = absurd are
fits (x ∷ scripts) told [] are all = absurd are
fits (x ∷ scripts) [] (r ∷ rooms) are all = tt
fits (x ∷ scripts) (t ∷ told) (r ∷ rooms) are all =
    (record { none = are.0.none; enough = (let as_many = all 0 in let same = as_long t.items in let room = are.0.enough in omega (arith, as_many, same, room)) }, fits scripts told rooms are.1 (λ i. all (suc i)))

pub given_fit : (scripts : List (List Op)) (told : List (Vec Told)) (rooms : List (Vec Entry)) → AreRoomsFor scripts rooms → AnswerAll (given scripts) (lists_in told) → DoFit told rooms
given_fit [] told [] are all = tt
given_fit [] told (r ∷ rooms) are all = absurd are
given_fit (x ∷ scripts) told rooms are all = fits (x ∷ scripts) told rooms are all

pub has_room : (scripts : List (List Op)) (rooms : List (Vec Entry)) (room : ℕ) → AreRoomsFor scripts rooms → length scripts ≤ room → length rooms ≤ room
has_room scripts rooms room are enough = let same = rooms_as_many scripts rooms are in omega (arith, same, enough)

-- All are told; none where no client was given.
pub all_told : (script : List Op) (scripts : List (List Op)) (rooms : List (Vec Entry)) (lists : List (List Entry)) → AreRoomsFor (script ∷ scripts) rooms → length lists ≡ length (script ∷ scripts) → take (length rooms) lists ≡ lists
all_told script scripts rooms lists are each = take_whole lists (length rooms) (let same = rooms_as_many (script ∷ scripts) rooms are in omega (arith, same, each))

pub none_told : (rooms : List (Vec Entry)) (lists : List (List Entry)) → AreRoomsFor [] rooms → take (length rooms) lists ≡ []
none_told [] lists are = refl
none_told (r ∷ rooms) lists are = absurd are
