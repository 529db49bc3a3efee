use Rattle.std.proofs.Common.{◌≡◌, ◌++◌, ℕ, Option, None, List, true, false, sym, subst, ap, ◌∙◌}
use Rattle.ufs_bitmap.specs.Space.{Space}
use Rattle.ufs_bitmap.specs.Taking.{has}
use Rattle.ufs_layout.specs.declared.geometry.Geometry.{Geometry}
use Rattle.ufs_ledger.specs.Ledger.{IsDataBlock}
use Rattle.ufs_name_tree.specs.NameTable.{IsNameTable}
use Rattle.ufs_names.specs.NamesPart.{NamesPart}
use Rattle.ufs_joint.specs.Turns.{MayEndTurn}
use Rattle.ufs_store.specs.Refusals.{fault_in, fault_of, stop_after}
use Rattle.ufs_turns.specs.Lent.{HasRun}
use Rattle.ufs_turns.specs.NamesLent.{HaveNotPassed, HavePassed, names_turn}
use Rattle.ufs_turns.specs.Told.{fault_told, told_list}
use Rattle.ufs_turns.proofs.Committing.{beside_then, commit_ends, commit_went, committed_then, failed_then, failure_ends, failure_went, faults_then, fresh_there, stop_then, store_then}
use Rattle.ufs_turns.proofs.Syncing.{told_is_same}
use Rattle.ufs_turns.proofs.Turning.{stop_told}
use Rattle.ufs_turns.proofs.commits.commit_lent.Goals as goal

pub commit_store-requires-clause-there : goal.commit_store-requires-clause-there
commit_store-requires-clause-there g c block is =
    let f = c.requires.names in
    subst (λ (q : Geometry). IsDataBlock q block) (sym c.requires.store.formed)
    (fresh_there g.N.Naming.start c.begin_turn.result c.args.hand.now c.begin_turn.ensures.knows f.0 f.1 block (ap (λ (l : List ℕ). has l block) f.3 ∙ is))

pub end_names-requires-clause-may : goal.end_names-requires-clause-may
end_names-requires-clause-may g c =
    let f = c.requires.names in
    let s = g.D.Door.store c.args.store.now in
    let t = g.D.Door.store c.commit_store.new.store in
    let table = subst (λ (q : NamesPart). IsNameTable q.tree) (sym f.2) c.commit_store.ensures.table in
    let has = subst (λ (q : List ℕ × NamesPart). HavePassed g.D.Door.visible g.D.Door.keeps s t q.0 q.1.tree.noted) (λ i. (sym f.3 i, sym f.2 i)) c.in-Ok.ensures.ok in
    commit_ends g.N.Naming.start g.N.Naming.origin g.D.Door.visible g.D.Door.keeps c.begin_turn.result c.args.hand.now c.begin_turn.new.hand s t c.begin_turn.ensures.knows c.requires.store c.begin_turn.ensures.begun f.0 f.1 table (λ visible. g.met.D.Door.whole visible c.args.store.now) (λ visible. g.met.D.Door.whole visible c.commit_store.new.store) has
    c.a_commit_of_names_ends.ensures.may

pub end_names-requires-in-Err-clause-may : goal.end_names-requires-in-Err-clause-may
end_names-requires-in-Err-clause-may g c =
    let f = c.requires.names in
    let s = g.D.Door.store c.args.store.now in
    let t = g.D.Door.store c.commit_store.new.store in
    let table = subst (λ (q : NamesPart). IsNameTable q.tree) (sym f.2) c.commit_store.ensures.table in
    let has = subst (λ (q : List ℕ × NamesPart). HaveNotPassed g.D.Door.visible g.D.Door.keeps s t q.0 q.1.tree.noted (fault_of c.in-Err.fault)) (λ i. (sym f.3 i, sym f.2 i)) (c.commit_store.ensures.err c.in-Err.fault c.in-Err.is) in
    subst (λ (q : Option ℕ). MayEndTurn g.N.Naming.start.geometry g.N.Naming.start.is_visible c.begin_turn.new.hand (names_turn g.D.Door.keeps false q t c.begin_turn.new.hand)) (sym (told_is_same c.told_of-told.result (fault_of c.in-Err.fault) c.told_of-told.ensures.some c.told_of-told.ensures.none))
    (failure_ends g.N.Naming.start g.N.Naming.origin g.D.Door.visible g.D.Door.keeps c.begin_turn.result c.args.hand.now c.begin_turn.new.hand s t c.begin_turn.ensures.knows c.requires.store c.begin_turn.ensures.begun f.0 f.1 table (λ visible. g.met.D.Door.whole visible c.args.store.now) (λ visible. g.met.D.Door.whole visible c.commit_store.new.store) (fault_of c.in-Err.fault) has
    c.a_commit_of_names_ends.ensures.failed)

pub returns-in-Ok-clause-store : goal.returns-in-Ok-clause-store
returns-in-Ok-clause-store g c =
    let f = c.requires.names in
    let s = g.D.Door.store c.args.store.now in
    let t = g.D.Door.store c.commit_store.new.store in
    let table = subst (λ (q : NamesPart). IsNameTable q.tree) (sym f.2) c.commit_store.ensures.table in
    let has = subst (λ (q : List ℕ × NamesPart). HavePassed g.D.Door.visible g.D.Door.keeps s t q.0 q.1.tree.noted) (λ i. (sym f.3 i, sym f.2 i)) c.in-Ok.ensures.ok in
    store_then g.N.Naming.start g.N.Naming.origin g.D.Door.visible g.D.Door.keeps c.begin_turn.result c.args.hand.now c.begin_turn.new.hand s t c.begin_turn.ensures.knows c.requires.store c.begin_turn.ensures.begun true None c.end_names.result c.end_names.new.hand c.end_names.ensures.ended has.tried.geometry has.tried.sectors
    (commit_went g.N.Naming.start g.N.Naming.origin g.D.Door.visible g.D.Door.keeps c.begin_turn.result c.args.hand.now c.begin_turn.new.hand s t c.begin_turn.ensures.knows c.requires.store c.begin_turn.ensures.begun f.0 f.1 table (λ visible. g.met.D.Door.whole visible c.args.store.now) (λ visible. g.met.D.Door.whole visible c.commit_store.new.store) has
    c.a_commit_of_names_ends.ensures.on)

pub returns-in-Err-clause-store : goal.returns-in-Err-clause-store
returns-in-Err-clause-store g c =
    let f = c.requires.names in
    let s = g.D.Door.store c.args.store.now in
    let t = g.D.Door.store c.commit_store.new.store in
    let table = subst (λ (q : NamesPart). IsNameTable q.tree) (sym f.2) c.commit_store.ensures.table in
    let has = subst (λ (q : List ℕ × NamesPart). HaveNotPassed g.D.Door.visible g.D.Door.keeps s t q.0 q.1.tree.noted (fault_of c.in-Err.fault)) (λ i. (sym f.3 i, sym f.2 i)) (c.commit_store.ensures.err c.in-Err.fault c.in-Err.is) in
    store_then g.N.Naming.start g.N.Naming.origin g.D.Door.visible g.D.Door.keeps c.begin_turn.result c.args.hand.now c.begin_turn.new.hand s t c.begin_turn.ensures.knows c.requires.store c.begin_turn.ensures.begun false c.told_of-told.result c.end_names-in-Err.result c.end_names-in-Err.new.hand c.end_names-in-Err.ensures.ended has.tried.geometry has.tried.sectors
    (failure_went g.N.Naming.start g.N.Naming.origin g.D.Door.visible g.D.Door.keeps c.begin_turn.result c.args.hand.now c.begin_turn.new.hand s t c.begin_turn.ensures.knows c.requires.store c.begin_turn.ensures.begun f.0 f.1 table (λ visible. g.met.D.Door.whole visible c.args.store.now) (λ visible. g.met.D.Door.whole visible c.commit_store.new.store) (fault_of c.in-Err.fault) has
    c.a_commit_of_names_ends.ensures.failed_on)

pub returns-in-Ok-clause-ok : goal.returns-in-Ok-clause-ok
returns-in-Ok-clause-ok g c cell names =
    let s = g.D.Door.store c.args.store.now in
    let t = g.D.Door.store c.commit_store.new.store in
    committed_then g.N.Naming.start g.N.Naming.origin g.D.Door.visible g.D.Door.keeps c.begin_turn.result c.args.hand.now c.begin_turn.new.hand s t c.begin_turn.ensures.knows c.requires.store c.begin_turn.ensures.begun cell names c.end_names.result c.end_names.new.hand c.end_names.ensures.ended

pub returns-in-Err-clause-err : goal.returns-in-Err-clause-err
returns-in-Err-clause-err g c cell names =
    let s = g.D.Door.store c.args.store.now in
    let t = g.D.Door.store c.commit_store.new.store in
    failed_then g.N.Naming.start g.N.Naming.origin g.D.Door.visible g.D.Door.keeps c.begin_turn.result c.args.hand.now c.begin_turn.new.hand s t c.begin_turn.ensures.knows c.requires.store c.begin_turn.ensures.begun c.told_of-told.result cell names c.end_names-in-Err.result c.end_names-in-Err.new.hand c.end_names-in-Err.ensures.ended

pub returns-in-Ok-clause-beside : goal.returns-in-Ok-clause-beside
returns-in-Ok-clause-beside g c =
    let s = g.D.Door.store c.args.store.now in
    let t = g.D.Door.store c.commit_store.new.store in
    beside_then g.N.Naming.start g.N.Naming.origin g.D.Door.visible g.D.Door.keeps c.begin_turn.result c.args.hand.now c.begin_turn.new.hand s t c.begin_turn.ensures.knows c.requires.store c.begin_turn.ensures.begun true None c.end_names.result c.end_names.new.hand c.end_names.ensures.ended c.begin_turn.ensures.later c.end_names.ensures.later

pub returns-in-Err-clause-beside : goal.returns-in-Err-clause-beside
returns-in-Err-clause-beside g c =
    let s = g.D.Door.store c.args.store.now in
    let t = g.D.Door.store c.commit_store.new.store in
    beside_then g.N.Naming.start g.N.Naming.origin g.D.Door.visible g.D.Door.keeps c.begin_turn.result c.args.hand.now c.begin_turn.new.hand s t c.begin_turn.ensures.knows c.requires.store c.begin_turn.ensures.begun false c.told_of-told.result c.end_names-in-Err.result c.end_names-in-Err.new.hand c.end_names-in-Err.ensures.ended c.begin_turn.ensures.later c.end_names-in-Err.ensures.later

pub returns-in-Ok-clause-faults : goal.returns-in-Ok-clause-faults
returns-in-Ok-clause-faults g c =
    let s = g.D.Door.store c.args.store.now in
    let t = g.D.Door.store c.commit_store.new.store in
    faults_then g.N.Naming.start g.N.Naming.origin g.D.Door.visible g.D.Door.keeps c.begin_turn.result c.args.hand.now c.begin_turn.new.hand s t c.begin_turn.ensures.knows c.requires.store c.begin_turn.ensures.begun true None c.end_names.result c.end_names.new.hand c.end_names.ensures.ended

pub returns-in-Err-clause-faults : goal.returns-in-Err-clause-faults
returns-in-Err-clause-faults g c =
    let s = g.D.Door.store c.args.store.now in
    let t = g.D.Door.store c.commit_store.new.store in
    faults_then g.N.Naming.start g.N.Naming.origin g.D.Door.visible g.D.Door.keeps c.begin_turn.result c.args.hand.now c.begin_turn.new.hand s t c.begin_turn.ensures.knows c.requires.store c.begin_turn.ensures.begun false c.told_of-told.result c.end_names-in-Err.result c.end_names-in-Err.new.hand c.end_names-in-Err.ensures.ended
    ∙ ap (λ (q : Option ℕ). told_list q ++ c.args.hand.now.faults) (told_is_same c.told_of-told.result (fault_of c.in-Err.fault) c.told_of-told.ensures.some c.told_of-told.ensures.none)

pub returns-in-Err-clause-stop : goal.returns-in-Err-clause-stop
returns-in-Err-clause-stop g c fault is =
    let s = g.D.Door.store c.args.store.now in
    let t = g.D.Door.store c.commit_store.new.store in
    stop_then g.N.Naming.start g.N.Naming.origin g.D.Door.visible g.D.Door.keeps c.begin_turn.result c.args.hand.now c.begin_turn.new.hand s t c.begin_turn.ensures.knows c.requires.store c.begin_turn.ensures.begun false c.told_of-told.result c.end_names-in-Err.result c.end_names-in-Err.new.hand c.end_names-in-Err.ensures.ended
    ∙ c.commit_store.ensures.stopped fault (c.in-Err.is ∙ is)

pub returns-in-Err-clause-stops : goal.returns-in-Err-clause-stops
returns-in-Err-clause-stops g c fault is =
    let s = g.D.Door.store c.args.store.now in
    let t = g.D.Door.store c.commit_store.new.store in
    stop_then g.N.Naming.start g.N.Naming.origin g.D.Door.visible g.D.Door.keeps c.begin_turn.result c.args.hand.now c.begin_turn.new.hand s t c.begin_turn.ensures.knows c.requires.store c.begin_turn.ensures.begun false c.told_of-told.result c.end_names-in-Err.result c.end_names-in-Err.new.hand c.end_names-in-Err.ensures.ended
    ∙ stop_told (g.D.Door.store c.args.store.now).stop (g.D.Door.store c.commit_store.new.store).stop c.commit_store.result fault c.commit_store.ensures.halts c.commit_store.ensures.halted (ap (λ (r : _). fault_told (fault_in r)) c.in-Err.is ∙ is)

pub returns-in-Ok-clause-free : goal.returns-in-Ok-clause-free
returns-in-Ok-clause-free g c = ap (λ (q : Space). q.free) c.in-Ok.ensures.ok.tried.unassigned

pub returns-in-Err-clause-free : goal.returns-in-Err-clause-free
returns-in-Err-clause-free g c = ap (λ (q : Space). q.free) (c.commit_store.ensures.err c.in-Err.fault c.in-Err.is).tried.unassigned

pub returns-in-Ok-clause-halts : goal.returns-in-Ok-clause-halts
returns-in-Ok-clause-halts g c = c.commit_store.ensures.halts ∙ ap (λ (r : _). stop_after (g.D.Door.store c.args.store.now).stop (fault_in r)) c.in-Ok.is

pub returns-in-Err-clause-halts : goal.returns-in-Err-clause-halts
returns-in-Err-clause-halts g c = c.commit_store.ensures.halts ∙ ap (λ (r : _). stop_after (g.D.Door.store c.args.store.now).stop (fault_in r)) c.in-Err.is

pub returns-in-Ok-clause-halted : goal.returns-in-Ok-clause-halted
returns-in-Ok-clause-halted g c fault is = sym c.in-Ok.is ∙ c.commit_store.ensures.halted fault is

pub returns-in-Err-clause-halted : goal.returns-in-Err-clause-halted
returns-in-Err-clause-halted g c fault is = sym c.in-Err.is ∙ c.commit_store.ensures.halted fault is

pub returns-in-Err-clause-stopped : goal.returns-in-Err-clause-stopped
returns-in-Err-clause-stopped g c fault is = c.commit_store.ensures.stopped fault (c.in-Err.is ∙ is)

pub returns-in-Ok-clause-ran : goal.returns-in-Ok-clause-ran
returns-in-Ok-clause-ran g c = subst (λ (o : Option ℕ). HasRun o 1 1 (g.D.Door.store c.args.store.now) (g.D.Door.store c.commit_store.new.store)) (ap (λ (r : _). fault_in r) c.in-Ok.is) c.commit_store.ensures.ran

pub returns-in-Err-clause-ran : goal.returns-in-Err-clause-ran
returns-in-Err-clause-ran g c = subst (λ (o : Option ℕ). HasRun o 1 1 (g.D.Door.store c.args.store.now) (g.D.Door.store c.commit_store.new.store)) (ap (λ (r : _). fault_in r) c.in-Err.is) c.commit_store.ensures.ran
