use Rattle.std.proofs.Common.{◌≡◌, ◌+◌, List, map, drop, length, Ok}
use Rattle.std.specs.List.{fold}
use Rattle.ufs_script.specs.Schedule.{with_turn}
use Rattle.ufs_script.specs.declared.lists.ScheduleWord.{ScheduleWord}
use Rattle.ufs_script.proofs.schedule.too_many.Given as goal

abbrev pub invariant-loop-word : goal.invariant-loop-word
invariant-loop-word l = (all : List ScheduleWord)
    × (length all ≡ length l.turns + l.word-index)
    × (fold (with_turn l.clients l.workers) (Ok all) (map (λ w. w.now) (drop l.word-index l.words)) ≡ fold (with_turn l.clients l.workers) (Ok l.turns) (map (λ w. w.now) l.words))
