use Rattle.ufs_promise_laws.specs.Known.{nothing_known}
use Rattle.std.proofs.Common.{◌∙◌, ap, sym}
use Rattle.std.specs.Prelude.{IsSome}
use Rattle.std.proofs.lemmas.Result.{on_ok_weaker}
use Rattle.ufs_disk.specs.Moments.{reads}
use Rattle.ufs_image.specs.Images.{block_at}
use Rattle.ufs_ledger.specs.Changes.{tried}
use Rattle.ufs_ledger.specs.Laws.{MayWrite}
use Rattle.ufs_ledger.specs.Ledger.{IsLedgerOf, Ledger}
use Rattle.ufs_store.specs.Ledgers.{HasLedger}
use Rattle.ufs_store.specs.State.{StoreState, geometry_of_store}
use Rattle.ufs_store.proofs.Stamping.{written_more}
use Rattle.ufs_promise_laws.specs.OnDisk.{IsExplainedImage}
use Rattle.ufs_names_commit.specs.Laws.{IsBeside}
use Rattle.ufs_names_commit.specs.Ready.{zeros}
use Rattle.ufs_names_commit.proofs.Stops.{device_alone, has_stopped, on_err_cases, passed_ok, stop_is}
use Rattle.ufs_names_commit.proofs.zeros.write_zero.Goals as goal

pub returns-clause-ok : goal.returns-clause-ok
returns-clause-ok g c visible =
    let old = g.D.Door.store c.args.door.now in
    let new = g.D.Door.store c.write_block.new.self in
    let beside : IsBeside c.geometry-geometry.result old new = record {
      old_form = sym c.geometry-geometry.ensures.is;
      new_form = ap geometry_of_store c.write_block.ensures.rest ∙ sym c.geometry-geometry.ensures.is;
      unassigned = ap (λ (s : StoreState). s.unassigned) c.write_block.ensures.rest;
    } in
    on_ok_weaker c.write_block.result (λ writes start history p known done fresh z. c.zeros_law.ensures.write old new start history p known done c.args.block beside fresh writes z) (c.write_block.ensures.ok visible)

pub returns-clause-err : goal.returns-clause-err
returns-clause-err g c visible =
    let old = g.D.Door.store c.args.door.now in
    let new = g.D.Door.store c.write_block.new.self in
    let beside : IsBeside c.geometry-geometry.result old new = record {
      old_form = sym c.geometry-geometry.ensures.is;
      new_form = ap geometry_of_store c.write_block.ensures.rest ∙ sym c.geometry-geometry.ensures.is;
      unassigned = ap (λ (s : StoreState). s.unassigned) c.write_block.ensures.rest;
    } in
    let device = device_alone old.stop new.stop c.requires.going c.write_block.result c.write_block.ensures.refused c.write_block.ensures.stopped in
    let stopped = has_stopped old.stop new.stop c.requires.going c.write_block.result (stop_is old.stop new.stop _ c.requires.going c.write_block.ensures.stop) device in
    on_err_cases c.write_block.result _ (λ at start history p known done fresh z.
    c.zeros_law.ensures.write_fails old new start history p known done c.args.block (block_at (reads new.moments) c.args.block) beside fresh (at (IsSome new.stop) stopped)
    (at ((l : Ledger) → HasLedger old l → MayWrite l c.args.block zeros → IsLedgerOf new.sectors new.moments.state (tried c.args.block zeros (block_at (reads new.moments) c.args.block) l)) (c.write_block.ensures.err visible)) z)

pub returns-clause-stop : goal.returns-clause-stop
returns-clause-stop g c = stop_is _ _ _ c.requires.going c.write_block.ensures.stop

pub returns-clause-refused : goal.returns-clause-refused
returns-clause-refused g c = device_alone (g.D.Door.store c.args.door.now).stop (g.D.Door.store c.write_block.new.self).stop c.requires.going c.write_block.result c.write_block.ensures.refused c.write_block.ensures.stopped

pub returns-clause-passed : goal.returns-clause-passed
returns-clause-passed g c =
    passed_ok c.write_block.result (g.D.Door.store c.args.door.now) (g.D.Door.store c.write_block.new.self) c.requires.going c.write_block.ensures.rest c.write_block.ensures.cause c.write_block.ensures.stop

pub returns-clause-moments : goal.returns-clause-moments
returns-clause-moments g c visible start history p known done fresh z =
    c.zeros_law.ensures.write_moments g.D.Door.keeps (g.D.Door.store c.args.door.now) (g.D.Door.store c.write_block.new.self).moments start history p known done c.args.block (sym c.geometry-geometry.ensures.is) fresh
    (c.write_block.ensures.crash visible) z

pub write_block-requires-clause-stamped : goal.write_block-requires-clause-stamped
write_block-requires-clause-stamped g c stamps going =
    let s = g.D.Door.store c.args.door.now in
    let told = c.requires.stamped stamps in
    let e = told.3 in
    written_more (IsExplainedImage s.sectors e.start e.history) g.D.Door.allows s c.args.block zeros
    (c.zeros_law.ensures.write_may_leave s e.start e.history told.0 nothing_known told.1 c.args.block (sym c.geometry-geometry.ensures.is) told.2 e.zeroed) e.allowed
