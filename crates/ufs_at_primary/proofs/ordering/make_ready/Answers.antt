use Rattle.std.proofs.Common.{◌≡◌, ◌<◌, ◌^◌, ◌⊎◌, ℕ, Some, ap, refl, sym, subst, ◌∙◌}
use Rattle.std.specs.FinMap as fin
use Rattle.ufs_held_names.specs.HeldNames.{AreCommitted}
use Rattle.ufs_home.specs.Home.{HomeState}
use Rattle.ufs_home.specs.declared.moved.Moved.TheVariants as moved
use Rattle.ufs_joint.specs.Cells.{FileCell, NamesCell}
use Rattle.ufs_at_primary.specs.Stock.{stock_of}
use Rattle.ufs_at_primary.proofs.NamesTold.{free_still}
use Rattle.ufs_at_primary.proofs.Births.{kept_home, told_born}
use Rattle.ufs_at_primary.proofs.Trials.{back_home, lent_place}
use Rattle.ufs_held.proofs.Stopping.{stops_still}
use Rattle.ufs_turns.proofs.Runs.{runs_still}
use Rattle.ufs_at_primary.proofs.ordering.make_ready.Goals as goal

pub returns-in-Err-clause-unready : goal.returns-in-Err-clause-unready
returns-in-Err-clause-unready g c = (c.in-Err.memory, ap moved.Lack c.from.ensures)

pub returns-in-Err-clause-kept : goal.returns-in-Err-clause-kept
returns-in-Err-clause-kept g c = (refl, c.in-Err.ensures.kept)

pub returns-in-Err-clause-free : goal.returns-in-Err-clause-free
returns-in-Err-clause-free g c = free_still (g.T.Turns.tells c.args.door.now)

pub commit_birth-requires : goal.commit_birth-requires
commit_birth-requires g c = record { pool = c.requires.pool }

pub put_back-requires-clause-empty : goal.put_back-requires-clause-empty
put_back-requires-clause-empty g c = ap (fin.get c.lend.new.self.places) c.in-Ok.ensures.number ∙ lent_place c.args.home.now c.lend.new.self c.args.file c.in-Ok.ensures.lent

pub returns-in-Err-commit_birth-clause-kept : goal.returns-in-Err-commit_birth-clause-kept
returns-in-Err-commit_birth-clause-kept g c =
    (c.in-Err-commit_birth.ensures.err, kept_home c.args.home.now c.lend.new.self c.put_back.new.self c.args.file c.in-Ok.held c.in-Ok.ensures.number c.in-Ok.ensures.file c.in-Ok.ensures.lent c.put_back.ensures)

pub put_back-requires-2-clause-empty : goal.put_back-requires-2-clause-empty
put_back-requires-2-clause-empty g c =
    ap (fin.get c.lend.new.self.places) (ap (λ (k : FileCell). k.value.file.file) c.tell_born.ensures.told ∙ c.in-Ok.ensures.number) ∙ lent_place c.args.home.now c.lend.new.self c.args.file c.in-Ok.ensures.lent

pub put_back-requires-2-clause-low : goal.put_back-requires-2-clause-low
put_back-requires-2-clause-low g c = subst (λ (n : ℕ). n < 2 ^ 31) (sym (ap (λ (k : FileCell). k.value.file.file) c.tell_born.ensures.told)) c.in-Ok.ensures.low

pub returns-clause-ready : goal.returns-clause-ready
returns-clause-ready g c = λ pool.
    let names = c.commit_birth.new.names in
    let born = told_born names c.tell_born.new.self c.args.file c.in-Ok.held c.tell_born.new.file c.in-Ok.ensures.number c.tell_born.ensures.same c.tell_born.ensures.told c.tell_born.ensures.live c.in_default.ensures.known in
    let number = ap (λ (k : FileCell). k.value.file.file) c.tell_born.ensures.told ∙ c.in-Ok.ensures.number in
    let back = back_home c.args.home.now c.lend.new.self c.put_back-2.new.self c.args.file c.tell_born.new.file.value.file.file c.tell_born.new.file c.in-Ok.ensures.lent number c.put_back-2.ensures in
    record {
      was = c.in-Ok.held;
      here = c.in-Ok.ensures.file;
      names = subst (λ (n : NamesCell). (n ≡ c.args.names.now) ⊎ AreCommitted g.N.Naming.start.is_visible c.args.names.now n) (sym c.tell_born.ensures.same) c.in_default.ensures.names;
      rest = ap (λ (h : HomeState). stock_of c.tell_born.new.self h pool) (back ∙ (λ i. record (c.args.home.now) { places = fin.insert c.args.home.now.places c.args.file (Some (born i)) }));
    }

pub returns-in-Err-clause-halts : goal.returns-in-Err-clause-halts
returns-in-Err-clause-halts g c = stops_still (g.T.Turns.tells c.args.door.now)

pub returns-in-Err-commit_birth-clause-halts : goal.returns-in-Err-commit_birth-clause-halts
returns-in-Err-commit_birth-clause-halts g c = c.in-Err-commit_birth.ensures.halts

pub returns-clause-halts : goal.returns-clause-halts
returns-clause-halts g c = c.in_default.ensures.halts

pub returns-in-Err-clause-ran : goal.returns-in-Err-clause-ran
returns-in-Err-clause-ran g c = runs_still (g.T.Turns.tells c.args.door.now) 1 1

pub returns-in-Err-commit_birth-clause-ran : goal.returns-in-Err-commit_birth-clause-ran
returns-in-Err-commit_birth-clause-ran g c = c.in-Err-commit_birth.ensures.ran

pub returns-clause-ran : goal.returns-clause-ran
returns-clause-ran g c = c.in_default.ensures.ran
