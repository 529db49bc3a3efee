-- A draw keeps the sound state.
use Rattle.std.proofs.Common.{◌≡◌, ℕ, List, set, ◌∙◌}
use mathlib.Core.Option.{some}
use lib.ListN.{get_elem?}
use Rattle.ufs_model.specs.declared.data.Entry.{Entry}
use Rattle.ufs_hand_laws.specs.Parts.{uses, View, World, Word, Start}
use Rattle.ufs_hand_laws.specs.Sound.{IsSound}
use Rattle.ufs_hand_laws.specs.Explained.{Showing}
use Rattle.ufs_hand_laws.specs.Draws.{MayDraw}
use Rattle.ufs_hand_laws.proofs.Owning.{change_total}
use Rattle.ufs_hand_laws.proofs.Draw.Setting
use Rattle.ufs_hand_laws.proofs.Draw.Cases.{held_after, parts_after}
use Rattle.ufs_hand_laws.proofs.Draw.History.{history_after}
use Rattle.ufs_hand_laws.proofs.Draw.Tickets.{tickets_after}
use Rattle.ufs_hand_laws.proofs.Draw.Leases.{leases_after}
use Rattle.ufs_hand_laws.proofs.Draw.Numbers.{numbers_after}
use Rattle.ufs_hand_laws.proofs.Draw.Blocks.{committed_after, disk_after, holds_after}
use Rattle.ufs_hand_laws.proofs.Draw.Disk.{explained_after}
use Rattle.ufs_hand_laws.proofs.Draw.Faults.{faults_after, clock_after, asked_after}
use Rattle.ufs_hand_laws.proofs.Draw.Setting.{Draw}

module _ (draw : Draw) where
  abbrev S : Showing
  S = draw.S

  abbrev k : Start
  k = draw.k

  abbrev views : List View
  views = draw.views

  abbrev i : ℕ
  i = draw.i

  abbrev v : View
  v = draw.v

  abbrev o : IsSound draw.S draw.k draw.word draw.views
  o = draw.o

  abbrev at : get_elem? draw.views draw.i ≡ some draw.v
  at = draw.at

  abbrev m : MayDraw draw.f draw.v draw.l draw.known
  m = draw.m

  abbrev w : View
  w = Setting.w draw

  abbrev next_world : World
  next_world = Setting.next_world draw

  abbrev longer : List Entry
  longer = Setting.longer draw

  abbrev next_word : Word
  next_word = Setting.next_word draw

  pub draw_sound : IsSound S k next_word (set views i w)
  draw_sound = record {
    history = longer;
    world = next_world;
    one_hand = held_after draw;
    parts = parts_after draw;
    tickets_once = tickets_after draw;
    legal = history_after draw;
    leases_true = leases_after draw;
    blocks_apart = record { same = λ b. change_total (uses b) views i v w at (m.blocks b) ∙ o.blocks_apart.same b; once = o.blocks_apart.once };
    committed_held = committed_after draw;
    committed_numbers = numbers_after draw;
    disk_bytes = disk_after draw;
    holds = holds_after draw;
    explained = explained_after draw;
    faults_once = faults_after draw;
    clock = clock_after draw;
    asked = asked_after draw;
  }
