use Rattle.std.proofs.Common.{inl, refl, ◌∙◌, arith}
use Rattle.ufs_model.specs.declared.data.Op.TheVariants.{Sync}
use Rattle.ufs_hand_laws.specs.Whole.{idle_asked, idle_client}
use Rattle.ufs_msg_tests.proofs.steps.ask.Goals as goal

pub mark-requires-clause-may : goal.mark-requires-clause-may
mark-requires-clause-may g c =
    inl (record {
      client = c.args.client;
      request = Sync;
      may = record { self = idle_client; has_self = c.requires.idle; before = idle_asked; has_before = c.requires.before; idle = refl; room = omega arith };
      is = c.requires.event;
    })

pub returns : goal.returns
returns g c = c.mark.ensures.cells ∙ (λ j. c.requires.event j c.mark.result)
