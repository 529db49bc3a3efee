-- A look and a tick keep the sound state.
use Rattle.std.proofs.Common.{◌≡◌, ℕ, ◌+◌, List, [], ◌∷◌, set}
use mathlib.Core.Option.{some}
use lib.ListN.{get_elem?}
use Rattle.ufs_hand_laws.specs.Parts.{NamesPart, View, Word, Start}
use Rattle.ufs_hand_laws.specs.Sound.{IsSound}
use Rattle.ufs_hand_laws.specs.Explained.{Showing}
use Rattle.ufs_hand_laws.specs.Clock.{looked, ticked}
use Rattle.ufs_hand_laws.proofs.Clock.Setting.{Look, Tick, ticks}
use Rattle.ufs_hand_laws.proofs.Clock.Hands.{look_hands, tick_hands}
use Rattle.ufs_hand_laws.proofs.Clock.History.{tick_legal}
use Rattle.ufs_hand_laws.proofs.Clock.Blocks.{look_apart, tick_apart, tick_held}
use Rattle.ufs_hand_laws.proofs.Clock.Numbers.{tick_numbers}
use Rattle.ufs_hand_laws.proofs.Clock.Explained.{tick_explained}
use Rattle.ufs_hand_laws.proofs.Clock.Leases.{tick_leases}
use Rattle.ufs_hand_laws.proofs.Clock.Faults.{look_faults, tick_faults}
use Rattle.ufs_hand_laws.proofs.Clock.Word.{look_clock, tick_clock}

module _ (S : Showing) (k : Start) (word : Word) (views : List View) (i : ℕ) (v : View) (o : IsSound S k word views) (at : get_elem? views i ≡ some v) where
  abbrev look : Look
  look = record { S = S; k = k; word = word; views = views; i = i; v = v; o = o; at = at }

  pub look_sound : IsSound S k word (set views i (looked word v))
  look_sound = record {
    history = o.history;
    world = o.world;
    one_hand = look_hands look;
    parts = o.parts;
    tickets_once = o.tickets_once;
    legal = o.legal;
    leases_true = o.leases_true;
    blocks_apart = look_apart look;
    committed_held = o.committed_held;
    committed_numbers = o.committed_numbers;
    disk_bytes = o.disk_bytes;
    holds = o.holds;
    explained = o.explained;
    faults_once = look_faults look;
    clock = look_clock look;
    asked = o.asked;
  }

  module _ (by : ℕ) (n : NamesPart) (has : v.names ≡ (tt, n) ∷ []) where
    abbrev tick : Tick
    tick = record { look = look; by = by; n = n; has = has }

    pub tick_sound : IsSound S k (record { tickets = word.tickets; clock = word.clock + by }) (set views i (ticked word by n v))
    tick_sound = record {
      history = o.history;
      world = (ticks tick).next;
      one_hand = tick_hands tick;
      parts = record { clients = o.parts.clients; asked = o.parts.asked; pools = o.parts.pools };
      tickets_once = record { tickets = o.tickets_once.tickets; entries = o.tickets_once.entries; numbers = o.tickets_once.numbers; room = o.tickets_once.room; there = o.tickets_once.there; asked = o.tickets_once.asked; next = o.tickets_once.next };
      legal = tick_legal tick;
      leases_true = tick_leases tick;
      blocks_apart = tick_apart tick;
      committed_held = tick_held tick;
      committed_numbers = tick_numbers tick;
      disk_bytes = o.disk_bytes;
      holds = o.holds;
      explained = tick_explained tick;
      faults_once = tick_faults tick;
      clock = tick_clock tick;
      asked = let z = o.asked in record { seen = z.seen; kept = z.kept; copies = z.copies };
    }
