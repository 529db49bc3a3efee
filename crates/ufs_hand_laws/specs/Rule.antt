-- The rule of the table that the hands of a session share: its word, and the views of its seats.
use Rattle.std.specs.Prelude.{ℕ, ◌+◌, ◌*◌, ◌/◌, ◌%◌, ◌≤◌, ◌<◌, ◌≡◌, ◌≢◌, List, [], ◌∷◌, length}
use Rattle.atomic_table.specs.Table.{State}
use Rattle.ufs_model.specs.History.{IsLegal, entries_of}
use Rattle.ufs_model.specs.declared.data.Entry.{Entry}
use Rattle.ufs_hand_laws.specs.declared.fresh.Fresh.{Fresh}
use Rattle.ufs_hand_laws.specs.Owned.{Has}
use Rattle.ufs_hand_laws.specs.Parts.{ClientPart, NamesPart, View, Word, Start}
use Rattle.ufs_hand_laws.specs.Explained.{Showing}
use Rattle.ufs_hand_laws.specs.Sound.{IsSound}
use Rattle.ufs_hand_laws.specs.Draws.{Leaves, drawn}
use Rattle.ufs_hand_laws.specs.Clock.{looked, ticked}

-- the clock stands above the low 40 bits, which are the tickets
abbrev pub clock_step : ℕ
clock_step = 1099511627776

abbrev pub word_number : Word → ℕ
word_number word = word.tickets + word.clock * clock_step

pub record IsRuled (S : Showing) (k : Start) (s : State (Unit {0}) View) : Type 0 where
  pub word : Word
  pub is : s.words ≡ word_number word ∷ []
  pub clock : word.clock < 16777216
  pub sound : IsSound S k word s.views

-- There is one legal history with so many entries, and the hand's clients have their entries of it.
pub record KnowsTickets (k : Start) (v : View) (tickets : ℕ) : Type 0 where
  pub history : List Entry
  pub legal : IsLegal k.tree history
  pub all : length history ≡ tickets
  pub entries : (client : ℕ) (p : ClientPart) → Has (client, p) v.clients → p.entries ≡ entries_of client history
  pub low : (e : Entry) → Has e history → e.client < 16

-- what a draw leaves: the old low 40 bits are the ticket, and so many entries there are before it
abbrev pub Drew : Start → Fresh → Leaves → View × List (ℕ × Unit {0}) → ℕ → View × List (ℕ × Unit {0}) → Type 0
Drew k f l v n w = (w ≡ (drawn (n % clock_step) f l v.0, v.1)) × (v.0.seen ≤ n % clock_step) × KnowsTickets k v.0 (n % clock_step)

-- what a mark leaves: it may look at the tickets, and so many entries there are then
abbrev pub Marked : Start → (ℕ → View) → View × List (ℕ × Unit {0}) → ℕ → View × List (ℕ × Unit {0}) → Type 0
Marked k w v n u = (u ≡ (w (n % clock_step), v.1)) × (v.0.seen ≤ n % clock_step) × KnowsTickets k v.0 (n % clock_step)

-- the word that a number has
abbrev pub word_at : ℕ → Word
word_at n = record { tickets = n % clock_step; clock = n / clock_step }

-- no hand has seen more than the number has
abbrev pub IsSeenBy : ℕ → View → Type 0
IsSeenBy n v = (v.seen ≤ n % clock_step) × (v.clock ≤ n / clock_step)

-- What a draw leaves that is made only while the word is still this one. Else nothing, and the word isn't one from before
-- what the hand has seen.
abbrev pub DrewAt : ℕ → Fresh → Leaves → View × List (ℕ × Unit {0}) → ℕ → View × List (ℕ × Unit {0}) → Type 0
DrewAt old f l v n w = (n ≡ old → w ≡ (drawn (old % clock_step) f l v.0, v.1)) × (n ≢ old → (w ≡ v) × IsSeenBy n v.0)

-- what a look leaves
abbrev pub Looked : View × List (ℕ × Unit {0}) → ℕ → View × List (ℕ × Unit {0}) → Type 0
Looked v n w = (w ≡ (looked (word_at n) v.0, v.1)) × IsSeenBy n v.0

-- what a tick leaves, by the names that the hand has: the clock was theirs
abbrev pub TickedBy : ℕ → View × List (ℕ × Unit {0}) → ℕ → View × List (ℕ × Unit {0}) → NamesPart → Type 0
TickedBy by v n w p = (w ≡ (ticked (word_at n) by p v.0, v.1)) × (n / clock_step ≡ p.clock)

abbrev pub Ticked : ℕ → View × List (ℕ × Unit {0}) → ℕ → View × List (ℕ × Unit {0}) → Type 0
Ticked by v n w = ((p : NamesPart) → v.0.names ≡ (tt, p) ∷ [] → TickedBy by v n w p) × (w.1 ≡ v.1) × IsSeenBy n v.0

-- The hand with the names may move the clock by so much, below 2^24.
pub record MayTick (by : ℕ) (v : View) : Type 0 where
  pub names : NamesPart
  pub has : v.names ≡ (tt, names) ∷ []
  pub room : names.clock + by < 16777216
