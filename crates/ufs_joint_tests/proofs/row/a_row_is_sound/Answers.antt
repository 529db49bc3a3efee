use Rattle.std.proofs.Common.{◌≡◌, sym, subst}
use Rattle.ufs_joint.specs.FileHands.{FileFailuresMayEnd}
use Rattle.ufs_layout.specs.declared.geometry.Geometry.{Geometry}
use Rattle.ufs_promise_laws.specs.AlwaysLaws.{RestIsExplained}
use Rattle.ufs_joint_tests.specs.Row.{IsStoreHand}
use Rattle.ufs_joint_tests.proofs.RowSteps.{keeps}
use Rattle.ufs_joint_tests.proofs.row.a_row_is_sound.Goals as goal

pub returns : goal.returns
returns c k n v u w s was same sound away home a born b f e =
    keeps k (record {
      draw = c.an_entry_is_drawn.ensures.draw;
      join = c.hands_are_split_and_joined.ensures.join;
      split = c.hands_are_split_and_joined.ensures.split;
      begin = c.a_turn_is_made.ensures.begin;
      end = c.a_turn_is_made.ensures.end;
      know = c.a_hand_knows.ensures;
      requests = c.a_file_request_is_drawn.ensures;
      acknowledgements = c.an_acknowledgement_is_drawn.ensures;
      failures = subst FileFailuresMayEnd (sym same) c.a_failed_commit_ends.ensures.may;
      rest = subst RestIsExplained (sym same) c.always_law.ensures.rest;
    }) n v u w s was sound away (subst (λ (q : Geometry). IsStoreHand q s was) (sym same) home) a born b f e
