use Rattle.std.proofs.Common.{◌≡◌, ◌+◌, ◌≤◌, ◌++◌, length}
use Rattle.std.specs.Vec.{vec_capacity, vec_len}
use Rattle.ufs_held.specs.Together.{under_numbers}
use Rattle.ufs_dealt.specs.Dealt.{AreApart, values_in, values_of}
use Rattle.ufs_dealt.proofs.dealing.deal_files.Given as goal

abbrev pub invariant-loop-known : goal.invariant-loop-known
invariant-loop-known g l = record {
  here : values_in l.hand.files ≡ values_of l.known-iterator.rest.items;
  apart : AreApart l.hand;
  cells : under_numbers l.held.items ++ l.hand.files ≡ under_numbers l.fn.held.items ++ l.fn.hand.files;
  room : vec_len l.held + length l.known-iterator.rest.items ≤ vec_capacity l.held;
  beside : l.hand ≡ record l.fn.hand { files = l.hand.files };
}
