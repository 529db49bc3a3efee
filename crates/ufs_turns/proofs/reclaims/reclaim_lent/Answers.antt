use Rattle.std.proofs.Common.{◌≡◌, ◌++◌, ℕ, Option, None, Some, Ok, Err, Result, true, false, refl, sym, subst, ap, ◌∙◌}
use Rattle.std.specs.Prelude.{IsTrue, OnOk}
use Rattle.std.specs.FinSet as set
use Rattle.ufs_bitmap.specs.Blocks.{BlockSet}
use Rattle.ufs_bitmap.specs.Space.{Space}
use Rattle.ufs_layout.specs.Areas.{first_of_data}
use Rattle.ufs_layout.specs.declared.geometry.Geometry.{Geometry}
use Rattle.ufs_ledger.specs.Ledger.{Ledger}
use Rattle.ufs_joint.specs.Checkpoints.{CheckpointsGoOn}
use Rattle.ufs_joint.specs.Disks.{cell_of}
use Rattle.ufs_joint.specs.Reclaims.{ReclaimFailuresMayEnd, ReclaimsMayEnd}
use Rattle.ufs_joint.specs.Turns.{MayEndTurn}
use Rattle.ufs_store.specs.Blocks.{AreApart, AreInside}
use Rattle.ufs_store.specs.Ledgers.{HasLedger, checkpointed}
use Rattle.ufs_store.specs.Refusals.{fault_in, stop_after}
use Rattle.ufs_store.specs.State.{StoreState}
use Rattle.ufs_store.specs.declared.fault.StoreFault.{StoreFault}
use Rattle.ufs_store.specs.declared.fault.StoreFault.TheVariants as refusal
use Rattle.ufs_turns.specs.AllLent.{reclaiming_turn}
use Rattle.ufs_turns.specs.Lent.{HasRun}
use Rattle.ufs_turns.specs.Syncs.{HasMade}
use Rattle.ufs_turns.specs.Told.{fault_told, told_list}
use Rattle.ufs_turns.proofs.Emptying as emptying
use Rattle.ufs_turns.proofs.Reclaiming.{beside_then, dropped_apart, dropped_inside, failure_ends, faults_then, files_then, geometry_on, given_back, names_then, passing_ends, ran_on, sectors_on, stop_then, store_then, went_on}
use Rattle.ufs_turns.proofs.Syncing.{told_is_same}
use Rattle.ufs_turns.proofs.reclaims.reclaim_lent.Goals as goal

back_as : (t z : StoreState) (one other : BlockSet) → one ≡ other → z ≡ given_back t one → z ≡ given_back t other
back_as t z one other same back = back ∙ ap (given_back t) same

-- a store that made a checkpoint hadn't stopped
going_of : (stop : Option ℕ) (r : Result (Unit {0}) StoreFault) (x : Unit {0}) → r ≡ Ok x → ((fault : ℕ) → stop ≡ Some fault → r ≡ Err (refusal.Stopped fault)) → stop ≡ None
going_of None r x is halted = refl
going_of (Some n) r x is halted = (let clash : Ok x ≡ Err (refusal.Stopped n) = sym is ∙ halted n refl in absurd cc)

pub take_back-requires-clause-inside : goal.take_back-requires-clause-inside
take_back-requires-clause-inside g c =
    let s = g.D.Door.store c.args.store.now in
    let t = g.D.Door.store c.checkpoint_store-made.new.store in
    let is = c.geometry-geometry.ensures in
    let same : c.geometry-geometry.result ≡ g.N.Naming.start.geometry = is.is ∙ c.requires.store.formed in
    let f = c.requires.lent in
    subst (λ (q : Space × BlockSet). AreInside q.0 q.1) (λ i. (sym c.checkpoint_store-made.ensures.made.unassigned i, f.2 i))
    (dropped_inside g.N.Naming.start c.begin_turn.result c.args.hand.now c.begin_turn.ensures.knows f.0 f.1 s.unassigned (is.first ∙ ap first_of_data same) (is.blocks ∙ ap (λ (k : Geometry). k.blocks) same))

pub take_back-requires-clause-apart : goal.take_back-requires-clause-apart
take_back-requires-clause-apart g c =
    let s = g.D.Door.store c.args.store.now in
    let t = g.D.Door.store c.checkpoint_store-made.new.store in
    let home = c.requires.store in
    let f = c.requires.lent in
    subst (λ (q : Space × BlockSet). AreApart q.1 q.0.free) (λ i. (sym c.checkpoint_store-made.ensures.made.unassigned i, f.2 i))
    (dropped_apart g.N.Naming.start c.begin_turn.result c.args.hand.now c.begin_turn.ensures.knows f.0 f.1 (cell_of home.stamp home.past s) home.has)

pub end_all-requires-clause-may : goal.end_all-requires-clause-may
end_all-requires-clause-may g c =
    let s = g.D.Door.store c.args.store.now in
    let t = g.D.Door.store c.checkpoint_store-made.new.store in
    let z = g.D.Door.store c.take_back.new.self in
    let f = c.requires.lent in
    let back = back_as t z c.args.dropped.now f.0.dropped (sym f.2) c.take_back.ensures.back in
    let has = (subst (λ (r : Result (Unit {0}) StoreFault). HasMade g.D.Door.visible g.D.Door.keeps s t (fault_in r)) c.in-Ok.is c.checkpoint_store-made.ensures.made) in
    let going = going_of s.stop c.checkpoint_store-made.result tt c.in-Ok.is c.checkpoint_store-made.ensures.halted in
    let made : IsTrue g.D.Door.visible → (l : Ledger) → HasLedger s l → HasLedger t (checkpointed s l) = λ visible. subst (λ (r : Result (Unit {0}) StoreFault). OnOk r ((l : Ledger) → HasLedger s l → HasLedger t (checkpointed s l))) c.in-Ok.is (c.checkpoint_store-made.ensures.ok visible) in
    subst (λ (q : Option ℕ). MayEndTurn g.N.Naming.start.geometry g.N.Naming.start.is_visible c.begin_turn.new.hand (reclaiming_turn g.D.Door.keeps true q z c.begin_turn.new.hand)) (sym ((told_is_same c.told_by-told.result (fault_in c.checkpoint_store-made.result) c.told_by-told.ensures.some c.told_by-told.ensures.none) ∙ ap (λ (r : Result (Unit {0}) StoreFault). fault_told (fault_in r)) c.in-Ok.is))
    (passing_ends g.N.Naming.start g.N.Naming.origin g.D.Door.visible g.D.Door.keeps c.begin_turn.result c.args.hand.now c.begin_turn.new.hand s t c.begin_turn.ensures.knows c.requires.store c.begin_turn.ensures.begun f.0 f.1 (λ visible. g.met.D.Door.whole visible c.args.store.now) (λ visible. g.met.D.Door.whole visible c.checkpoint_store-made.new.store) has going made z back (subst ReclaimsMayEnd (c.geometry-geometry.ensures.is ∙ c.requires.store.formed) c.dropped_blocks_come_back.ensures.may))

pub end_all-requires-in-Err-clause-may : goal.end_all-requires-in-Err-clause-may
end_all-requires-in-Err-clause-may g c =
    let s = g.D.Door.store c.args.store.now in
    let t = g.D.Door.store c.checkpoint_store-made.new.store in
    let f = c.requires.lent in
    subst (λ (q : Option ℕ). MayEndTurn g.N.Naming.start.geometry g.N.Naming.start.is_visible c.begin_turn.new.hand (reclaiming_turn g.D.Door.keeps false q t c.begin_turn.new.hand)) (sym (told_is_same c.told_by-told.result (fault_in c.checkpoint_store-made.result) c.told_by-told.ensures.some c.told_by-told.ensures.none))
    (failure_ends g.N.Naming.start g.N.Naming.origin g.D.Door.visible g.D.Door.keeps c.begin_turn.result c.args.hand.now c.begin_turn.new.hand s t c.begin_turn.ensures.knows c.requires.store c.begin_turn.ensures.begun f.0 f.1 (λ visible. g.met.D.Door.whole visible c.args.store.now) (λ visible. g.met.D.Door.whole visible c.checkpoint_store-made.new.store) (fault_in c.checkpoint_store-made.result) c.checkpoint_store-made.ensures.made (subst ReclaimFailuresMayEnd (c.geometry-geometry.ensures.is ∙ c.requires.store.formed) c.dropped_blocks_come_back.ensures.failed))

pub returns-in-Ok-clause-store : goal.returns-in-Ok-clause-store
returns-in-Ok-clause-store g c =
    let s = g.D.Door.store c.args.store.now in
    let t = g.D.Door.store c.checkpoint_store-made.new.store in
    let z = g.D.Door.store c.take_back.new.self in
    let f = c.requires.lent in
    let back = back_as t z c.args.dropped.now f.0.dropped (sym f.2) c.take_back.ensures.back in
    let has = (subst (λ (r : Result (Unit {0}) StoreFault). HasMade g.D.Door.visible g.D.Door.keeps s t (fault_in r)) c.in-Ok.is c.checkpoint_store-made.ensures.made) in
    let going = going_of s.stop c.checkpoint_store-made.result tt c.in-Ok.is c.checkpoint_store-made.ensures.halted in
    let made : IsTrue g.D.Door.visible → (l : Ledger) → HasLedger s l → HasLedger t (checkpointed s l) = λ visible. subst (λ (r : Result (Unit {0}) StoreFault). OnOk r ((l : Ledger) → HasLedger s l → HasLedger t (checkpointed s l))) c.in-Ok.is (c.checkpoint_store-made.ensures.ok visible) in
    store_then g.N.Naming.start g.N.Naming.origin g.D.Door.visible g.D.Door.keeps c.begin_turn.result c.args.hand.now c.begin_turn.new.hand s t c.begin_turn.ensures.knows c.requires.store c.begin_turn.ensures.begun true c.told_by-told.result z c.end_all.result c.end_all.new.hand c.end_all.ensures.ended (geometry_on g.N.Naming.start g.N.Naming.origin g.D.Door.visible g.D.Door.keeps c.begin_turn.result c.args.hand.now c.begin_turn.new.hand s t c.begin_turn.ensures.knows c.requires.store c.begin_turn.ensures.begun f.0 f.1 (λ visible. g.met.D.Door.whole visible c.args.store.now) (λ visible. g.met.D.Door.whole visible c.checkpoint_store-made.new.store) has going made z back) (sectors_on g.N.Naming.start g.N.Naming.origin g.D.Door.visible g.D.Door.keeps c.begin_turn.result c.args.hand.now c.begin_turn.new.hand s t c.begin_turn.ensures.knows c.requires.store c.begin_turn.ensures.begun f.0 f.1 (λ visible. g.met.D.Door.whole visible c.args.store.now) (λ visible. g.met.D.Door.whole visible c.checkpoint_store-made.new.store) has going made z back)
    (went_on g.N.Naming.start g.N.Naming.origin g.D.Door.visible g.D.Door.keeps c.begin_turn.result c.args.hand.now c.begin_turn.new.hand s t c.begin_turn.ensures.knows c.requires.store c.begin_turn.ensures.begun f.0 f.1 (λ visible. g.met.D.Door.whole visible c.args.store.now) (λ visible. g.met.D.Door.whole visible c.checkpoint_store-made.new.store) has going made z back (subst CheckpointsGoOn (c.geometry-geometry.ensures.is ∙ c.requires.store.formed) c.a_checkpoint_ends.ensures.on))

pub returns-in-Err-clause-store : goal.returns-in-Err-clause-store
returns-in-Err-clause-store g c =
    let s = g.D.Door.store c.args.store.now in
    let t = g.D.Door.store c.checkpoint_store-made.new.store in
    store_then g.N.Naming.start g.N.Naming.origin g.D.Door.visible g.D.Door.keeps c.begin_turn.result c.args.hand.now c.begin_turn.new.hand s t c.begin_turn.ensures.knows c.requires.store c.begin_turn.ensures.begun false c.told_by-told.result t c.end_all-in-Err.result c.end_all-in-Err.new.hand c.end_all-in-Err.ensures.ended c.checkpoint_store-made.ensures.made.geometry c.checkpoint_store-made.ensures.made.sectors
    (emptying.went_on g.N.Naming.start g.N.Naming.origin g.D.Door.visible g.D.Door.keeps c.begin_turn.result c.args.hand.now c.begin_turn.new.hand s t c.begin_turn.ensures.knows c.requires.store c.begin_turn.ensures.begun (λ visible. g.met.D.Door.whole visible c.args.store.now) (λ visible. g.met.D.Door.whole visible c.checkpoint_store-made.new.store) (fault_in c.checkpoint_store-made.result) c.checkpoint_store-made.ensures.made (subst CheckpointsGoOn (c.geometry-geometry.ensures.is ∙ c.requires.store.formed) c.a_checkpoint_ends.ensures.on))

pub returns-in-Ok-clause-ok : goal.returns-in-Ok-clause-ok
returns-in-Ok-clause-ok g c names are =
    let s = g.D.Door.store c.args.store.now in
    let t = g.D.Door.store c.checkpoint_store-made.new.store in
    let z = g.D.Door.store c.take_back.new.self in
    names_then g.N.Naming.start g.N.Naming.origin g.D.Door.visible g.D.Door.keeps c.begin_turn.result c.args.hand.now c.begin_turn.new.hand s t c.begin_turn.ensures.knows c.requires.store c.begin_turn.ensures.begun true c.told_by-told.result z c.end_all.result c.end_all.new.hand c.end_all.ensures.ended names are

pub returns-in-Err-clause-err : goal.returns-in-Err-clause-err
returns-in-Err-clause-err g c =
    let s = g.D.Door.store c.args.store.now in
    let t = g.D.Door.store c.checkpoint_store-made.new.store in
    let f = c.requires.lent in
    names_then g.N.Naming.start g.N.Naming.origin g.D.Door.visible g.D.Door.keeps c.begin_turn.result c.args.hand.now c.begin_turn.new.hand s t c.begin_turn.ensures.knows c.requires.store c.begin_turn.ensures.begun false c.told_by-told.result t c.end_all-in-Err.result c.end_all-in-Err.new.hand c.end_all-in-Err.ensures.ended f.0 f.1.names_are ∙ sym f.1.names_are

pub returns-in-Ok-clause-files : goal.returns-in-Ok-clause-files
returns-in-Ok-clause-files g c =
    let s = g.D.Door.store c.args.store.now in
    let t = g.D.Door.store c.checkpoint_store-made.new.store in
    let z = g.D.Door.store c.take_back.new.self in
    files_then g.N.Naming.start g.N.Naming.origin g.D.Door.visible g.D.Door.keeps c.begin_turn.result c.args.hand.now c.begin_turn.new.hand s t c.begin_turn.ensures.knows c.requires.store c.begin_turn.ensures.begun true c.told_by-told.result z c.end_all.result c.end_all.new.hand c.end_all.ensures.ended

pub returns-in-Err-clause-files : goal.returns-in-Err-clause-files
returns-in-Err-clause-files g c =
    let s = g.D.Door.store c.args.store.now in
    let t = g.D.Door.store c.checkpoint_store-made.new.store in
    files_then g.N.Naming.start g.N.Naming.origin g.D.Door.visible g.D.Door.keeps c.begin_turn.result c.args.hand.now c.begin_turn.new.hand s t c.begin_turn.ensures.knows c.requires.store c.begin_turn.ensures.begun false c.told_by-told.result t c.end_all-in-Err.result c.end_all-in-Err.new.hand c.end_all-in-Err.ensures.ended

pub returns-in-Ok-clause-back : goal.returns-in-Ok-clause-back
returns-in-Ok-clause-back g c =
    let s = g.D.Door.store c.args.store.now in
    let t = g.D.Door.store c.checkpoint_store-made.new.store in
    (c.take_back.ensures.none, ap (λ (q : StoreState). q.unassigned.free) c.take_back.ensures.back ∙ ap (λ (q : Space). set.union q.free c.args.dropped.now) c.checkpoint_store-made.ensures.made.unassigned)

pub returns-in-Err-clause-kept : goal.returns-in-Err-clause-kept
returns-in-Err-clause-kept g c =
    (refl, ap (λ (q : Space). q.free) c.checkpoint_store-made.ensures.made.unassigned)

pub returns-in-Ok-clause-beside : goal.returns-in-Ok-clause-beside
returns-in-Ok-clause-beside g c =
    let s = g.D.Door.store c.args.store.now in
    let t = g.D.Door.store c.checkpoint_store-made.new.store in
    let z = g.D.Door.store c.take_back.new.self in
    beside_then g.N.Naming.start g.N.Naming.origin g.D.Door.visible g.D.Door.keeps c.begin_turn.result c.args.hand.now c.begin_turn.new.hand s t c.begin_turn.ensures.knows c.requires.store c.begin_turn.ensures.begun true c.told_by-told.result z c.end_all.result c.end_all.new.hand c.end_all.ensures.ended c.begin_turn.ensures.later c.end_all.ensures.later

pub returns-in-Err-clause-beside : goal.returns-in-Err-clause-beside
returns-in-Err-clause-beside g c =
    let s = g.D.Door.store c.args.store.now in
    let t = g.D.Door.store c.checkpoint_store-made.new.store in
    beside_then g.N.Naming.start g.N.Naming.origin g.D.Door.visible g.D.Door.keeps c.begin_turn.result c.args.hand.now c.begin_turn.new.hand s t c.begin_turn.ensures.knows c.requires.store c.begin_turn.ensures.begun false c.told_by-told.result t c.end_all-in-Err.result c.end_all-in-Err.new.hand c.end_all-in-Err.ensures.ended c.begin_turn.ensures.later c.end_all-in-Err.ensures.later

pub returns-in-Ok-clause-faults : goal.returns-in-Ok-clause-faults
returns-in-Ok-clause-faults g c =
    let s = g.D.Door.store c.args.store.now in
    let t = g.D.Door.store c.checkpoint_store-made.new.store in
    let z = g.D.Door.store c.take_back.new.self in
    faults_then g.N.Naming.start g.N.Naming.origin g.D.Door.visible g.D.Door.keeps c.begin_turn.result c.args.hand.now c.begin_turn.new.hand s t c.begin_turn.ensures.knows c.requires.store c.begin_turn.ensures.begun true c.told_by-told.result z c.end_all.result c.end_all.new.hand c.end_all.ensures.ended ∙ ap (λ (q : Option ℕ). told_list q ++ c.args.hand.now.faults) ((told_is_same c.told_by-told.result (fault_in c.checkpoint_store-made.result) c.told_by-told.ensures.some c.told_by-told.ensures.none) ∙ ap (λ (r : Result (Unit {0}) StoreFault). fault_told (fault_in r)) c.in-Ok.is)

pub returns-in-Err-clause-faults : goal.returns-in-Err-clause-faults
returns-in-Err-clause-faults g c =
    let s = g.D.Door.store c.args.store.now in
    let t = g.D.Door.store c.checkpoint_store-made.new.store in
    faults_then g.N.Naming.start g.N.Naming.origin g.D.Door.visible g.D.Door.keeps c.begin_turn.result c.args.hand.now c.begin_turn.new.hand s t c.begin_turn.ensures.knows c.requires.store c.begin_turn.ensures.begun false c.told_by-told.result t c.end_all-in-Err.result c.end_all-in-Err.new.hand c.end_all-in-Err.ensures.ended ∙ ap (λ (q : Option ℕ). told_list q ++ c.args.hand.now.faults) ((told_is_same c.told_by-told.result (fault_in c.checkpoint_store-made.result) c.told_by-told.ensures.some c.told_by-told.ensures.none) ∙ ap (λ (r : Result (Unit {0}) StoreFault). fault_told (fault_in r)) c.in-Err.is)

pub returns-in-Err-clause-stop : goal.returns-in-Err-clause-stop
returns-in-Err-clause-stop g c fault is =
    let s = g.D.Door.store c.args.store.now in
    let t = g.D.Door.store c.checkpoint_store-made.new.store in
    stop_then g.N.Naming.start g.N.Naming.origin g.D.Door.visible g.D.Door.keeps c.begin_turn.result c.args.hand.now c.begin_turn.new.hand s t c.begin_turn.ensures.knows c.requires.store c.begin_turn.ensures.begun false c.told_by-told.result t c.end_all-in-Err.result c.end_all-in-Err.new.hand c.end_all-in-Err.ensures.ended ∙ c.checkpoint_store-made.ensures.stopped fault (c.in-Err.is ∙ is)

pub returns-in-Ok-clause-halts : goal.returns-in-Ok-clause-halts
returns-in-Ok-clause-halts g c =
    ap (λ (q : StoreState). q.stop) c.take_back.ensures.back ∙ c.checkpoint_store-made.ensures.halts ∙ ap (λ (r : Result (Unit {0}) StoreFault). stop_after (g.D.Door.store c.args.store.now).stop (fault_in r)) c.in-Ok.is

pub returns-in-Err-clause-halts : goal.returns-in-Err-clause-halts
returns-in-Err-clause-halts g c =
    c.checkpoint_store-made.ensures.halts ∙ ap (λ (r : Result (Unit {0}) StoreFault). stop_after (g.D.Door.store c.args.store.now).stop (fault_in r)) c.in-Err.is

pub returns-in-Ok-clause-halted : goal.returns-in-Ok-clause-halted
returns-in-Ok-clause-halted g c fault is =
    sym c.in-Ok.is ∙ c.checkpoint_store-made.ensures.halted fault is

pub returns-in-Err-clause-halted : goal.returns-in-Err-clause-halted
returns-in-Err-clause-halted g c fault is =
    sym c.in-Err.is ∙ c.checkpoint_store-made.ensures.halted fault is

pub returns-in-Err-clause-stopped : goal.returns-in-Err-clause-stopped
returns-in-Err-clause-stopped g c fault is =
    c.checkpoint_store-made.ensures.stopped fault (c.in-Err.is ∙ is)

pub returns-in-Ok-clause-ran : goal.returns-in-Ok-clause-ran
returns-in-Ok-clause-ran g c =
    let s = g.D.Door.store c.args.store.now in
    let t = g.D.Door.store c.checkpoint_store-made.new.store in
    let z = g.D.Door.store c.take_back.new.self in
    ran_on None 1 0 s t z c.args.dropped.now c.take_back.ensures.back (subst (λ (o : Option ℕ). HasRun o 1 0 s t) (ap (λ (r : Result (Unit {0}) StoreFault). fault_in r) c.in-Ok.is) c.checkpoint_store-made.ensures.ran)

pub returns-in-Err-clause-ran : goal.returns-in-Err-clause-ran
returns-in-Err-clause-ran g c =
    let s = g.D.Door.store c.args.store.now in
    let t = g.D.Door.store c.checkpoint_store-made.new.store in
    (subst (λ (o : Option ℕ). HasRun o 1 0 s t) (ap (λ (r : Result (Unit {0}) StoreFault). fault_in r) c.in-Err.is) c.checkpoint_store-made.ensures.ran)
