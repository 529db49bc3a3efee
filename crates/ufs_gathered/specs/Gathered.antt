-- What the actors of a session have in the end, and the hand to which all of it comes.
use Rattle.std.specs.Prelude.{ℕ, suc, ◌≡◌, ◌≤◌, ◌++◌, eqb, List, [], ◌∷◌, IsSome}
use Rattle.std.specs.FinMap as fin
use Rattle.ufs_caller.specs.Hands.{IsHome}
use Rattle.ufs_fds.specs.Descriptors.{Descs}
use Rattle.ufs_held.specs.Together.{under_numbers}
use Rattle.ufs_joint.specs.Cells.{FileCell, NamesCell, Start, View, both_of}
use Rattle.ufs_model.specs.declared.data.Entry.{Entry}
use Rattle.ufs_hand_laws.specs.Owned.{count}
use Rattle.ufs_hand_laws.specs.Parts.{ClientPart}

-- the hand once these came to it, one after the other
abbrev pub with_all : View → List View → View
with_all v [] = v
with_all v (u ∷ us) = with_all (both_of v u) us

-- what some hands have of one kind, all together
abbrev pub all_in : {A : Type 0} → (View → List A) → List View → List A
all_in part [] = []
all_in part (v ∷ vs) = part v ++ all_in part vs

abbrev pub clients_in : List View → List (ℕ × ClientPart)
clients_in vs = all_in (λ v. v.clients) vs

-- The hand has pools, and nothing else.
pub record HasPoolsAlone (v : View) : Type 0 where
  pub clients : v.clients ≡ []
  pub files : v.files ≡ []
  pub names : v.names ≡ []
  pub store : v.store ≡ []

-- The hand has pools and these files, and nothing else.
pub record HasFilesToo (cells : List FileCell) (v : View) : Type 0 where
  pub clients : v.clients ≡ []
  pub files : v.files ≡ under_numbers cells
  pub names : v.names ≡ []
  pub store : v.store ≡ []

-- The hands are those of clients, from this one on, each at home with its transcript.
abbrev pub AreHomeFrom : ℕ → List (List Entry) → List View → Type 0
AreHomeFrom n [] [] = Unit {0}
AreHomeFrom n [] (v ∷ vs) = ⊥
AreHomeFrom n (entries ∷ lists) [] = ⊥
AreHomeFrom n (entries ∷ lists) (v ∷ vs) = ((table : Descs) × IsHome n entries table v) × AreHomeFrom (suc n) lists vs

abbrev pub AreHome : List (List Entry) → List View → Type 0
AreHome lists vs = AreHomeFrom 0 lists vs

-- Each client and each pool of the beginning is among them, and each file that the names know.
pub record AreAllBack (k : Start) (names : NamesCell) (files : List FileCell) (pools : View) (clients : List View) : Type 0 where
  pub clients_back : (c : ℕ) → count eqb c k.view.clients ≤ count eqb c (clients_in clients)
  pub pools_back : (n : ℕ) → count eqb n k.view.pools ≤ count eqb n pools.pools
  pub files_back : (file : ℕ) → IsSome (fin.get names.value.held file) → 1 ≤ count eqb file (under_numbers files)

-- The hand has what all of them have.
pub record HasAllOf (names : NamesCell) (files : List FileCell) (pools : View) (clients : List View) (v : View) : Type 0 where
  pub clients_are : v.clients ≡ clients_in clients
  pub files_are : v.files ≡ under_numbers files
  pub pools_are : v.pools ≡ pools.pools
  pub names_are : v.names ≡ (tt, names) ∷ []
