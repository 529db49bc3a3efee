-- Histories: what was served, entry by entry.
use Rattle.std.specs.Prelude.{ℕ, ◌+◌, ◌<◌, ◌≡◌, ◌==◌, nat_eq, ◌⊎◌, Bool, true, false, List, [], ◌∷◌, length, take, map, filter, unwrap_or, slice_get, Some}
use Rattle.std.specs.List.{range_with_len, AllByRecursion, flat_map, IsDistinct}
use Rattle.ufs_model.specs.PosixTree.{PosixTree}
use Rattle.ufs_model.specs.Posix.{posix}
use Rattle.ufs_model.specs.Excuses.{ExcuseFits}
use Rattle.ufs_model.specs.declared.data.Op.{Op}
use Rattle.ufs_model.specs.declared.data.Entry.{Entry}
use Rattle.ufs_model.specs.declared.data.Excuse.TheVariants as excuse
use Rattle.ufs_model.specs.declared.data.Reply.{Reply}
use Rattle.ufs_model.specs.declared.data.Reply.TheVariants as reply

-- ---- legal: one tree gives the replies

-- the reply is an excuse that fits
abbrev pub IsExcused : PosixTree → ℕ → Op → Reply → Type 0
IsExcused t client request (reply.Excused x) = ExcuseFits t client request x
IsExcused t client request _ = ⊥

-- the reply that POSIX gives on the tree, or an excuse that fits
abbrev pub IsReplyTo : PosixTree → Entry → Type 0
IsReplyTo t entry = (entry.reply ≡ (posix t entry.client entry.op).1) ⊎ IsExcused t entry.client entry.op entry.reply

pub record IsLegalEntry (ticket : ℕ) (tree : PosixTree) (entry : Entry) : Type 0 where
  pub numbered : entry.ticket ≡ ticket
  pub replied : IsReplyTo tree entry

-- the tree after a reply; an excused request leaves it as it was
abbrev pub tree_with : PosixTree → ℕ → Op → Reply → PosixTree
tree_with t client request (reply.Excused x) = t
tree_with t client request _ = (posix t client request).0

-- the tree after an entry
abbrev pub goes_on : PosixTree → Entry → PosixTree
goes_on t entry = tree_with t entry.client entry.op entry.reply

-- the entry has that ticket and the reply that POSIX gives on the tree, which goes on to the next one
pub record IsPosixEntry (ticket : ℕ) (before after : PosixTree) (entry : Entry) : Type 0 where
  pub numbered : entry.ticket ≡ ticket
  pub stepped : posix before entry.client entry.op ≡ (after, entry.reply)

-- the tree after a whole history
abbrev pub tree_after : PosixTree → List Entry → PosixTree
tree_after tree [] = tree
tree_after tree (entry ∷ history) = tree_after (goes_on tree entry) history

-- entry by entry, from a ticket on
abbrev pub IsLegalFrom : ℕ → PosixTree → List Entry → Type 0
IsLegalFrom ticket tree [] = Unit {0}
IsLegalFrom ticket tree (entry ∷ history) = IsLegalEntry ticket tree entry × IsLegalFrom (ticket + 1) (goes_on tree entry) history

abbrev pub is_excused : Reply → Bool
is_excused (reply.Excused x) = true
is_excused _ = false

-- each reply is POSIX's own
abbrev pub AreUnexcused : List Entry → Type 0
AreUnexcused history = AllByRecursion (λ entry. is_excused entry.reply ≡ false) history

-- both replies tell the same fault of a device
abbrev pub share_fault : Reply → Reply → Bool
share_fault (reply.Excused (excuse.Device a)) (reply.Excused (excuse.Device b)) = a == b
share_fault _ _ = false

-- the entry tells a fault that none of the others tells
abbrev pub TellsNewFault : List Entry → Entry → Type 0
TellsNewFault others entry = AllByRecursion (λ other. share_fault other.reply entry.reply ≡ false) others

-- no two entries tell one fault
abbrev pub AreFaultsOnce : List Entry → Type 0
AreFaultsOnce [] = Unit {0}
AreFaultsOnce (entry ∷ history) = AllByRecursion (λ later. share_fault entry.reply later.reply ≡ false) history × AreFaultsOnce history

-- One tree, served by one thread, gives these replies in this order, or they are excused.
pub record IsLegal (start : PosixTree) (history : List Entry) : Type 0 where
  pub entries : IsLegalFrom 0 start history
  pub faults : AreFaultsOnce history

-- ---- in order: each client's requests, in its order

-- a client's entries
abbrev pub entries_of : ℕ → List Entry → List Entry
entries_of client history = filter (λ e. e.client == client) history

-- a client's requests; one that isn't there has none
abbrev pub requests_of : List (List Op) → ℕ → List Op
requests_of clients client = unwrap_or (slice_get clients client) []

pub record IsInOrder (clients : List (List Op)) (history : List Entry) : Type 0 where
  -- each client's entries are numbered 0, 1, 2 and so on
  pub numbers : (client : ℕ) → map (λ e. e.seq) (entries_of client history) ≡ range_with_len 0 (length (entries_of client history))
  -- and they answer its first requests
  pub requests : (client : ℕ) → map (λ e. e.op) (entries_of client history) ≡ take (length (entries_of client history)) (requests_of clients client)

-- every request has its entry
abbrev pub IsComplete : List (List Op) → List Entry → Type 0
IsComplete clients history = (client : ℕ) → length (entries_of client history) ≡ length (requests_of clients client)

-- the entry answers the next request of its client
pub record IsNext (clients : List (List Op)) (history : List Entry) (entry : Entry) : Type 0 where
  pub numbered : entry.seq ≡ length (entries_of entry.client history)
  pub asked : slice_get (requests_of clients entry.client) entry.seq ≡ Some entry.op

-- ---- one history of several lists

-- the entries of several lists, one list after the other
abbrev pub joined : List (List Entry) → List Entry
joined lists = flat_map (λ entries. entries) lists

abbrev pub tickets_of : List Entry → List ℕ
tickets_of entries = map (λ e. e.ticket) entries

-- no two entries have one ticket
abbrev pub AreTicketsOnce : List Entry → Type 0
AreTicketsOnce entries = IsDistinct nat_eq (tickets_of entries)

-- each ticket is below those behind it
abbrev pub DoTicketsRise : List Entry → Type 0
DoTicketsRise [] = Unit {0}
DoTicketsRise (entry ∷ entries) = AllByRecursion (λ later. entry.ticket < later.ticket) entries × DoTicketsRise entries
