use Rattle.std.proofs.Common.{◌≡◌, sym, subst}
use Rattle.ufs_joint.specs.NamesHands.{NamesRequestsMayDraw}
use Rattle.ufs_layout.specs.declared.geometry.Geometry.{Geometry}
use Rattle.ufs_promise_laws.specs.AlwaysLaws.{RestIsExplained}
use Rattle.ufs_joint_tests.specs.Row.{IsStoreHand}
use Rattle.ufs_joint_tests.proofs.NamesRowSteps.{names_row_keeps}
use Rattle.ufs_joint_tests.proofs.row.a_row_of_names_is_sound.Goals as goal

pub returns : goal.returns
returns c k n v u s was same sound home a b f =
    names_row_keeps k (record {
      draw = c.an_entry_is_drawn.ensures.draw;
      join = c.hands_are_split_and_joined.ensures.join;
      split = c.hands_are_split_and_joined.ensures.split;
      begin = c.a_turn_is_made.ensures.begin;
      end = c.a_turn_is_made.ensures.end;
      tell = c.births_are_told.ensures;
      know = c.a_hand_knows.ensures;
      requests = subst NamesRequestsMayDraw (sym same) c.a_names_request_is_drawn.ensures;
      writes = c.a_file_request_is_drawn.ensures;
      commits = c.a_commit_of_names_ends.ensures.may;
      rest = subst RestIsExplained (sym same) c.always_law.ensures.rest;
    }) n v u s was sound (subst (λ (q : Geometry). IsStoreHand q s was) (sym same) home) a b f
