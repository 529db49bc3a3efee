use Rattle.std.proofs.Common.{◌≡◌, true, take, ◌<◌, ◌^◌, ◌≤◌, length}
use Rattle.std.specs.List.{list_all}
use Rattle.ufs_words.specs.Numbers.{value_of, is_digit}
use Rattle.ufs_words.proofs.numbers.number.Given as goal

abbrev pub invariant-loop-b : goal.invariant-loop-b
invariant-loop-b l = record {
  some : 1 ≤ length l.word;
  few : length l.word ≤ 10;
  digits : list_all is_digit (take l.b-index l.word) ≡ true;
  value : l.value ≡ value_of (take l.b-index l.word);
  bound : l.value < 10 ^ l.b-index;
}
