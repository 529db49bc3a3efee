use Rattle.std.proofs.Common.{◌≡◌, ◌≤◌, length, map, take}
use Rattle.std.specs.Vec.{vec_capacity}
use Rattle.ufs_turn_words.specs.Actors.{actor_in}
use Rattle.ufs_turn_words.proofs.actors.actors_of.Given as goal

abbrev pub invariant-loop-word : goal.invariant-loop-word
invariant-loop-word l = record {
  are : l.actors.items ≡ map actor_in (take l.word-index l.words);
  all : length l.actors.items ≡ l.word-index;
  room : length l.words ≤ vec_capacity l.actors;
}
