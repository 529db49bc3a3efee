use Rattle.std.proofs.Common.{◌≡◌, ◌+◌, ◌++◌, ◌≤◌, length, take}
use Rattle.std.specs.Vec.{vec_capacity}
use Rattle.ufs_engine.specs.Asked.{DoFit, lists_in}
use Rattle.ufs_engine.proofs.asked.tell.Given as goal

abbrev pub invariant-loop-answers : goal.invariant-loop-answers
invariant-loop-answers l = record {
  all : l.lists.items ++ take (length l.rooms.items) (lists_in l.answers-iterator.rest.items) ≡ take (length l.fn.rooms.items) (lists_in l.fn.told.items);
  room : length l.lists.items + length l.rooms.items ≤ vec_capacity l.lists;
  fit : DoFit l.answers-iterator.rest.items l.rooms.items;
}
