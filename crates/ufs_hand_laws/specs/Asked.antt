-- A client that comes back has what it had, or its answer.
use Rattle.std.specs.Prelude.{ℕ, ◌≤◌, ◌≡◌, ◌≢◌, ◌⊎◌, List, [], ◌∷◌, ◌++◌, Option, Some, None}
use Rattle.std.specs.FinMap as fin
use Rattle.ufs_model.specs.Asks.{fd_told}
use Rattle.ufs_model.specs.declared.data.Entry.{Entry}
use Rattle.ufs_hand_laws.specs.Parts.{ClientPart, AskedPart, World, Word}

-- the client has what it had when it asked
pub record IsStill (a : AskedPart) (p : ClientPart) : Type 0 where
  pub entries : p.entries ≡ a.entries
  pub fds : p.fds ≡ a.fds
  pub asked : p.asked ≡ a.asked

-- the client has one more entry, of the request that it asked
pub record IsAnswered (a : AskedPart) (p : ClientPart) : Type 0 where
  pub entry : Entry
  pub entries : p.entries ≡ a.entries ++ entry ∷ []
  pub asked : a.asked ≡ Some entry.op
  pub later : a.tickets ≤ entry.ticket
  pub others : (n : ℕ) → fd_told entry.op entry.reply ≢ Some n → fin.get p.fds n ≡ fin.get a.fds n
  pub done : p.asked ≡ None

pub record AskedTrue (word : Word) (asked : ℕ → Option AskedPart) (clients : ℕ → Option ClientPart) : Type 0 where
  pub seen : (c : ℕ) (a : AskedPart) → asked c ≡ Some a → a.tickets ≤ word.tickets
  pub kept : (c : ℕ) (a : AskedPart) (p : ClientPart) → asked c ≡ Some a → clients c ≡ Some p → IsStill a p ⊎ IsAnswered a p
  pub copies : (c : ℕ) (a : AskedPart) (p : ClientPart) → asked c ≡ Some a → clients c ≡ Some p → (more : List Rattle.ufs_model.specs.declared.data.Lease.Lease) × (p.copies ≡ a.copies ++ more)

abbrev pub IsAskedTrue : Word → World → Type 0
IsAskedTrue word G = AskedTrue word G.asked G.client
