-- Each ticket has one entry.
use Rattle.std.specs.Prelude.{ℕ, ◌+◌, ◌≤◌, ◌<◌, ◌≡◌, List, length, map, Option, Some}
use Rattle.std.specs.List.{range_with_len}
use Rattle.ufs_model.specs.History.{tree_after, entries_of}
use Rattle.ufs_model.specs.declared.data.Op.{Op}
use Rattle.ufs_model.specs.declared.data.Entry.{Entry}
use Rattle.ufs_hand_laws.specs.Owned.{present, Has}
use Rattle.ufs_hand_laws.specs.Parts.{ClientPart, World, Word, Start}

-- each ticket has one entry, and each client's entries are numbered in their order
pub record TicketsOnce (k : Start) (word : Word) (h : List Entry) (clients : ℕ → Option ClientPart) : Type 0 where
  pub tickets : length h ≡ word.tickets
  pub entries : (c : ℕ) (p : ClientPart) → clients c ≡ Some p → p.entries ≡ entries_of c h
  pub numbers : (c : ℕ) → map (λ e. e.seq) (entries_of c h) ≡ range_with_len 0 (length (entries_of c h))
  pub room : (c : ℕ) → length (entries_of c h) ≤ 65536
  pub there : (e : Entry) → Has e h → (e.client < 16) × (present (clients e.client) ≡ 1)
  pub asked : (c : ℕ) (p : ClientPart) (r : Op) → clients c ≡ Some p → p.asked ≡ Some r → length p.entries < 65536
  pub next : (tree_after k.tree h).next ≤ 1073741824 + word.tickets

abbrev pub AreTicketsOnce : Start → Word → List Entry → World → Type 0
AreTicketsOnce k word h G = TicketsOnce k word h G.client
