use Rattle.std.proofs.Common.{sym, subst, ap, ◌∙◌}
use Rattle.ufs_joint.specs.Cells.{View, both_of}
use Rattle.ufs_turns.specs.HeldStore.{HasStoreAlone}
use Rattle.ufs_turns.specs.Lent.{IsBeside}
use Rattle.ufs_turns.proofs.Hands.{back_beside, back_files, back_home, back_names}
use Rattle.ufs_turns.proofs.held_store.give_back.Goals as goal

pub returns-clause-home : goal.returns-clause-home
returns-clause-home g c = λ s has.
    subst (HasStoreAlone s) (sym (c.join.ensures ∙ ap (both_of c.args.own.now) c.split-store.ensures.given)) (back_home s c.args.own.now c.args.hand.now c.requires.nothing has)

pub returns-clause-beside : goal.returns-clause-beside
returns-clause-beside g c = subst (IsBeside c.args.hand.now) (sym c.split-store.ensures.kept) (back_beside c.requires.store.0 c.args.own.now c.args.hand.now c.requires.nothing c.requires.store.1)

pub returns-clause-files : goal.returns-clause-files
returns-clause-files g c = ap (λ (v : View). v.files) c.split-store.ensures.kept ∙ back_files c.requires.store.0 c.args.own.now c.args.hand.now c.requires.nothing c.requires.store.1

pub returns-clause-names : goal.returns-clause-names
returns-clause-names g c = ap (λ (v : View). v.names) c.split-store.ensures.kept ∙ back_names c.requires.store.0 c.args.own.now c.args.hand.now c.requires.nothing c.requires.store.1

pub returns-clause-faults : goal.returns-clause-faults
returns-clause-faults g c = ap (λ (v : View). v.faults) c.split-store.ensures.kept

pub returns-clause-stop : goal.returns-clause-stop
returns-clause-stop g c = ap (λ (v : View). v.stop) c.split-store.ensures.kept
