-- Each fault excuses once, and each excuse has what the store answered.
use Rattle.std.specs.Prelude.{ℕ, ◌+◌, ◌≤◌, ◌≡◌, ◌==◌, Bool, false, List, Some}
use mathlib.Core.Option.{some}
use lib.ListN.{get_elem?}
use Rattle.ufs_model.specs.declared.data.Entry.{Entry}
use Rattle.ufs_model.specs.declared.data.Reply.{Reply}
use Rattle.ufs_model.specs.declared.data.Reply.TheVariants as reply
use Rattle.ufs_model.specs.declared.data.Excuse.TheVariants as excuse
use Rattle.ufs_hand_laws.specs.Owned.{one, total, weigh, Has, times}
use Rattle.ufs_hand_laws.specs.Parts.{StorePart, Shortage, View}

abbrev pub tells : ℕ → Reply → Bool
tells n (reply.Excused (excuse.Device fault)) = fault == n
tells n _ = false

-- how many entries are excused by that fault
abbrev pub told : ℕ → List Entry → ℕ
told n h = weigh (λ e. one (tells n e.reply)) h

pub record AreFaultsOnce (views : List View) (h : List Entry) (s : StorePart) : Type 0 where
  pub single : (n : ℕ) → times n s.faults ≤ 1
  pub device : (n : ℕ) → total (λ v. times n v.faults) views + told n h ≤ times n s.faults
  pub stops : (i : ℕ) (v : View) → get_elem? views i ≡ some v → (n : ℕ) → v.stop ≡ Some n → s.stop ≡ Some n
  pub stopped : (e : Entry) (n : ℕ) → Has e h → e.reply ≡ reply.Excused (excuse.Stopped n) → s.stop ≡ Some n
  pub shortages : (i : ℕ) (v : View) → get_elem? views i ≡ some v → (x : Shortage) → Has x v.shortages → Has x s.shortages
  pub short : (e : Entry) (need had : ℕ) → Has e h → e.reply ≡ reply.Excused (excuse.Blocks need had) → (x : Shortage) × Has x s.shortages × (had ≡ x.had + x.pool)
