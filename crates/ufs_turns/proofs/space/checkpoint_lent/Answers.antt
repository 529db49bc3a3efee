use Rattle.std.proofs.Common.{◌≡◌, ◌++◌, ℕ, Option, sym, subst, ap, ◌∙◌}
use Rattle.ufs_bitmap.specs.Space.{Space}
use Rattle.ufs_joint.specs.Checkpoints.{CheckpointsGoOn, CheckpointsMayEnd}
use Rattle.ufs_joint.specs.Turns.{MayEndTurn}
use Rattle.ufs_store.specs.Refusals.{fault_in}
use Rattle.ufs_turns.specs.HeldStore.{bare_turn}
use Rattle.ufs_turns.specs.Told.{told_list}
use Rattle.ufs_turns.proofs.Emptying.{beside_then, checkpoint_ends, checkpoint_went, faults_then, files_then, names_then, stop_then, store_then}
use Rattle.ufs_turns.proofs.Syncing.{told_is_same}
use Rattle.ufs_turns.proofs.space.checkpoint_lent.Goals as goal

pub end_bare-requires-clause-may : goal.end_bare-requires-clause-may
end_bare-requires-clause-may g c =
    let s = g.D.Door.store c.args.store.now in
    let t = g.D.Door.store c.checkpoint_store-made.new.store in
    subst (λ (q : Option ℕ). MayEndTurn g.N.Naming.start.geometry g.N.Naming.start.is_visible c.begin_turn.new.hand (bare_turn g.D.Door.keeps q t c.begin_turn.new.hand)) (sym (told_is_same c.told_by-told.result (fault_in c.checkpoint_store-made.result) c.told_by-told.ensures.some c.told_by-told.ensures.none))
    (checkpoint_ends g.N.Naming.start g.N.Naming.origin g.D.Door.visible g.D.Door.keeps c.begin_turn.result c.args.hand.now c.begin_turn.new.hand s t c.begin_turn.ensures.knows c.requires.store c.begin_turn.ensures.begun c.requires.files c.requires.names (λ visible. g.met.D.Door.whole visible c.args.store.now) (λ visible. g.met.D.Door.whole visible c.checkpoint_store-made.new.store) (fault_in c.checkpoint_store-made.result) c.checkpoint_store-made.ensures.made
    (subst CheckpointsMayEnd (c.geometry-geometry.ensures.is ∙ c.requires.store.formed) c.a_checkpoint_ends.ensures.may))

pub returns-clause-store : goal.returns-clause-store
returns-clause-store g c =
    let s = g.D.Door.store c.args.store.now in
    let t = g.D.Door.store c.checkpoint_store-made.new.store in
    let made = c.checkpoint_store-made.ensures.made in
    store_then g.N.Naming.start g.N.Naming.origin g.D.Door.visible g.D.Door.keeps c.begin_turn.result c.args.hand.now c.begin_turn.new.hand s t c.begin_turn.ensures.knows c.requires.store c.begin_turn.ensures.begun c.told_by-told.result c.end_bare.result c.end_bare.new.hand c.end_bare.ensures.ended made.geometry made.sectors
    (checkpoint_went g.N.Naming.start g.N.Naming.origin g.D.Door.visible g.D.Door.keeps c.begin_turn.result c.args.hand.now c.begin_turn.new.hand s t c.begin_turn.ensures.knows c.requires.store c.begin_turn.ensures.begun c.requires.files c.requires.names (λ visible. g.met.D.Door.whole visible c.args.store.now) (λ visible. g.met.D.Door.whole visible c.checkpoint_store-made.new.store) (fault_in c.checkpoint_store-made.result) made
    (subst CheckpointsGoOn (c.geometry-geometry.ensures.is ∙ c.requires.store.formed) c.a_checkpoint_ends.ensures.on))

pub returns-clause-files : goal.returns-clause-files
returns-clause-files g c = files_then g.N.Naming.start g.N.Naming.origin g.D.Door.visible g.D.Door.keeps c.begin_turn.result c.args.hand.now c.begin_turn.new.hand (g.D.Door.store c.args.store.now) (g.D.Door.store c.checkpoint_store-made.new.store) c.begin_turn.ensures.knows c.requires.store c.begin_turn.ensures.begun c.told_by-told.result c.end_bare.result c.end_bare.new.hand c.end_bare.ensures.ended

pub returns-clause-names : goal.returns-clause-names
returns-clause-names g c = names_then g.N.Naming.start g.N.Naming.origin g.D.Door.visible g.D.Door.keeps c.begin_turn.result c.args.hand.now c.begin_turn.new.hand (g.D.Door.store c.args.store.now) (g.D.Door.store c.checkpoint_store-made.new.store) c.begin_turn.ensures.knows c.requires.store c.begin_turn.ensures.begun c.told_by-told.result c.end_bare.result c.end_bare.new.hand c.end_bare.ensures.ended

pub returns-clause-beside : goal.returns-clause-beside
returns-clause-beside g c = beside_then g.N.Naming.start g.N.Naming.origin g.D.Door.visible g.D.Door.keeps c.begin_turn.result c.args.hand.now c.begin_turn.new.hand (g.D.Door.store c.args.store.now) (g.D.Door.store c.checkpoint_store-made.new.store) c.begin_turn.ensures.knows c.requires.store c.begin_turn.ensures.begun c.told_by-told.result c.end_bare.result c.end_bare.new.hand c.end_bare.ensures.ended c.begin_turn.ensures.later c.end_bare.ensures.later

pub returns-clause-faults : goal.returns-clause-faults
returns-clause-faults g c =
    faults_then g.N.Naming.start g.N.Naming.origin g.D.Door.visible g.D.Door.keeps c.begin_turn.result c.args.hand.now c.begin_turn.new.hand (g.D.Door.store c.args.store.now) (g.D.Door.store c.checkpoint_store-made.new.store) c.begin_turn.ensures.knows c.requires.store c.begin_turn.ensures.begun c.told_by-told.result c.end_bare.result c.end_bare.new.hand c.end_bare.ensures.ended
    ∙ ap (λ (q : Option ℕ). told_list q ++ c.args.hand.now.faults) (told_is_same c.told_by-told.result (fault_in c.checkpoint_store-made.result) c.told_by-told.ensures.some c.told_by-told.ensures.none)

pub returns-clause-stop : goal.returns-clause-stop
returns-clause-stop g c fault is =
    stop_then g.N.Naming.start g.N.Naming.origin g.D.Door.visible g.D.Door.keeps c.begin_turn.result c.args.hand.now c.begin_turn.new.hand (g.D.Door.store c.args.store.now) (g.D.Door.store c.checkpoint_store-made.new.store) c.begin_turn.ensures.knows c.requires.store c.begin_turn.ensures.begun c.told_by-told.result c.end_bare.result c.end_bare.new.hand c.end_bare.ensures.ended
    ∙ c.checkpoint_store-made.ensures.stopped fault is

pub returns-clause-free : goal.returns-clause-free
returns-clause-free g c = ap (λ (q : Space). q.free) c.checkpoint_store-made.ensures.made.unassigned
