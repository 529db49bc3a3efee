use Rattle.std.proofs.Common.{None, subst, ◌∙◌}
use Rattle.ufs_joint.specs.Checkpoints.{CheckpointsGoOn, CheckpointsMayEnd}
use Rattle.ufs_turns.proofs.Emptying.{beside_then, checkpoint_ends, checkpoint_went, faults_then, files_then, names_then, none_made, stop_then, store_then}
use Rattle.ufs_turns.proofs.space.stop_lent.Goals as goal

pub end_bare-requires-clause-may : goal.end_bare-requires-clause-may
end_bare-requires-clause-may g c =
    let s = g.D.Door.store c.args.store.now in
    checkpoint_ends g.N.Naming.start g.N.Naming.origin g.D.Door.visible g.D.Door.keeps c.begin_turn.result c.args.hand.now c.begin_turn.new.hand s s c.begin_turn.ensures.knows c.requires.store c.begin_turn.ensures.begun c.requires.files c.requires.names (λ visible. g.met.D.Door.whole visible c.args.store.now) (λ visible. g.met.D.Door.whole visible c.args.store.now) None (none_made g.D.Door.visible g.D.Door.keeps s)
    (subst CheckpointsMayEnd (c.geometry-geometry.ensures.is ∙ c.requires.store.formed) c.a_checkpoint_ends.ensures.may)

pub returns-clause-store : goal.returns-clause-store
returns-clause-store g c =
    let s = g.D.Door.store c.args.store.now in
    let made = none_made g.D.Door.visible g.D.Door.keeps s in
    store_then g.N.Naming.start g.N.Naming.origin g.D.Door.visible g.D.Door.keeps c.begin_turn.result c.args.hand.now c.begin_turn.new.hand s s c.begin_turn.ensures.knows c.requires.store c.begin_turn.ensures.begun None c.end_bare.result c.end_bare.new.hand c.end_bare.ensures.ended made.geometry made.sectors
    (checkpoint_went g.N.Naming.start g.N.Naming.origin g.D.Door.visible g.D.Door.keeps c.begin_turn.result c.args.hand.now c.begin_turn.new.hand s s c.begin_turn.ensures.knows c.requires.store c.begin_turn.ensures.begun c.requires.files c.requires.names (λ visible. g.met.D.Door.whole visible c.args.store.now) (λ visible. g.met.D.Door.whole visible c.args.store.now) None made
    (subst CheckpointsGoOn (c.geometry-geometry.ensures.is ∙ c.requires.store.formed) c.a_checkpoint_ends.ensures.on))

pub returns-clause-stop : goal.returns-clause-stop
returns-clause-stop g c =
    let s = g.D.Door.store c.args.store.now in
    stop_then g.N.Naming.start g.N.Naming.origin g.D.Door.visible g.D.Door.keeps c.begin_turn.result c.args.hand.now c.begin_turn.new.hand s s c.begin_turn.ensures.knows c.requires.store c.begin_turn.ensures.begun None c.end_bare.result c.end_bare.new.hand c.end_bare.ensures.ended

pub returns-clause-files : goal.returns-clause-files
returns-clause-files g c =
    let s = g.D.Door.store c.args.store.now in
    files_then g.N.Naming.start g.N.Naming.origin g.D.Door.visible g.D.Door.keeps c.begin_turn.result c.args.hand.now c.begin_turn.new.hand s s c.begin_turn.ensures.knows c.requires.store c.begin_turn.ensures.begun None c.end_bare.result c.end_bare.new.hand c.end_bare.ensures.ended

pub returns-clause-names : goal.returns-clause-names
returns-clause-names g c =
    let s = g.D.Door.store c.args.store.now in
    names_then g.N.Naming.start g.N.Naming.origin g.D.Door.visible g.D.Door.keeps c.begin_turn.result c.args.hand.now c.begin_turn.new.hand s s c.begin_turn.ensures.knows c.requires.store c.begin_turn.ensures.begun None c.end_bare.result c.end_bare.new.hand c.end_bare.ensures.ended

pub returns-clause-beside : goal.returns-clause-beside
returns-clause-beside g c =
    let s = g.D.Door.store c.args.store.now in
    beside_then g.N.Naming.start g.N.Naming.origin g.D.Door.visible g.D.Door.keeps c.begin_turn.result c.args.hand.now c.begin_turn.new.hand s s c.begin_turn.ensures.knows c.requires.store c.begin_turn.ensures.begun None c.end_bare.result c.end_bare.new.hand c.end_bare.ensures.ended c.begin_turn.ensures.later c.end_bare.ensures.later

pub returns-clause-faults : goal.returns-clause-faults
returns-clause-faults g c =
    let s = g.D.Door.store c.args.store.now in
    faults_then g.N.Naming.start g.N.Naming.origin g.D.Door.visible g.D.Door.keeps c.begin_turn.result c.args.hand.now c.begin_turn.new.hand s s c.begin_turn.ensures.knows c.requires.store c.begin_turn.ensures.begun None c.end_bare.result c.end_bare.new.hand c.end_bare.ensures.ended
