use Rattle.std.proofs.Common.{ℕ, inl, refl, ap, sym, subst, ◌∙◌, arith}
use Rattle.ufs_joint.specs.Cells.{View}
use Rattle.ufs_model.specs.declared.data.Op.TheVariants as op
use Rattle.ufs_hand_laws.specs.Owned.{Has}
use Rattle.ufs_hand_laws.specs.Whole.{idle_asked, idle_client}
use Rattle.ufs_held_tests.proofs.session.ask.Goals as goal

pub mark-requires-clause-may : goal.mark-requires-clause-may
mark-requires-clause-may g c = inl (record {
  client = 0;
  request = op.Sync;
  may = record {
    self = idle_client;
    has_self = subst (Has (0, idle_client)) (sym c.requires.client) (inl refl);
    before = idle_asked;
    has_before = subst (Has (0, idle_asked)) (sym c.requires.asked) (inl refl);
    idle = refl;
    room = omega arith;
  };
  is = c.requires.event;
})

pub returns : goal.returns
returns g c = c.mark.ensures.cells ∙ ap (λ (f : ℕ → View). f c.mark.result) c.requires.event
