use Rattle.std.proofs.Common.{◌≡◌, ◌+◌, map, drop, length, Ok}
use Rattle.std.specs.List.{fold}
use Rattle.ufs_script.specs.Schedule.{with_turn}
use Rattle.ufs_script.proofs.schedule.put_turns.Given as goal

abbrev pub invariant-loop-word : goal.invariant-loop-word
invariant-loop-word l = record {
  all : fold (with_turn l.clients l.workers) (Ok l.list) (map (λ w. w.now) (drop l.word-index l.words)) ≡ fold (with_turn l.clients l.workers) (Ok l.initial.list) (map (λ w. w.now) l.words);
  count : length l.list ≡ length l.initial.list + l.word-index;
}
