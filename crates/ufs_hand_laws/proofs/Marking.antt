-- An event without an entry keeps the sound state.
use Rattle.std.proofs.Common.{ℕ, List, set, ◌≡◌}
use mathlib.Core.Option.{some}
use lib.ListN.{get_elem?}
use Rattle.ufs_model.specs.Laws.{KeepsTrees}
use Rattle.ufs_hand_laws.specs.Explained.{Showing}
use Rattle.ufs_hand_laws.specs.Marks.{MayRemake}
use Rattle.ufs_hand_laws.specs.Parts.{View, Word, Start}
use Rattle.ufs_hand_laws.specs.Sound.{IsSound}
use Rattle.ufs_hand_laws.proofs.Mark.Setting.{Mark, remade}
use Rattle.ufs_hand_laws.proofs.Mark.Hands.{held_remade, parts_remade}
use Rattle.ufs_hand_laws.proofs.Mark.History.{legal_remade}
use Rattle.ufs_hand_laws.proofs.Mark.Leases.{leases_remade}
use Rattle.ufs_hand_laws.proofs.Mark.Blocks.{committed_remade, apart_remade}
use Rattle.ufs_hand_laws.proofs.Mark.Numbers.{numbers_remade}
use Rattle.ufs_hand_laws.proofs.Mark.Disk.{disk_remade}
use Rattle.ufs_hand_laws.proofs.Mark.Holds.{holds_remade}
use Rattle.ufs_hand_laws.proofs.Mark.Explained.{explained_remade}
use Rattle.ufs_hand_laws.proofs.Mark.Faults.{faults_remade}
use Rattle.ufs_hand_laws.proofs.Mark.Clock.{clock_remade}

mark_sound : (mark : Mark) → IsSound mark.S mark.k mark.word (set mark.views mark.i mark.w)
mark_sound mark = record {
  history = mark.o.history;
  world = remade mark;
  one_hand = held_remade mark;
  parts = parts_remade mark;
  tickets_once = mark.o.tickets_once;
  legal = legal_remade mark;
  leases_true = leases_remade mark;
  blocks_apart = apart_remade mark;
  committed_held = committed_remade mark;
  committed_numbers = numbers_remade mark;
  disk_bytes = disk_remade mark;
  holds = holds_remade mark;
  explained = explained_remade mark;
  faults_once = faults_remade mark;
  clock = clock_remade mark;
  asked = mark.o.asked;
}

pub remake_sound : (keeps : KeepsTrees) (S : Showing) (k : Start) (word : Word) (views : List View) (i : ℕ) (v w : View) (o : IsSound S k word views) (at : get_elem? views i ≡ some v) → MayRemake S k word.tickets v w → IsSound S k word (set views i w)
remake_sound keeps S k word views i v w o at m = mark_sound (record { keeps = keeps; S = S; k = k; word = word; views = views; i = i; v = v; w = w; o = o; at = at; m = m })
