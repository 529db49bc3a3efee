use Rattle.std.proofs.Common.{inl, inr, refl}
use Rattle.ufs_at_primary.proofs.NamesTold.{free_still}
use Rattle.ufs_at_primary.proofs.Births.{bare_pool, births_known, pool_beside, when_ok}
use Rattle.ufs_held.proofs.Stopping.{stops_still}
use Rattle.ufs_turns.proofs.Runs.{runs_still}
use Rattle.ufs_at_primary.proofs.ordering.commit_birth.Goals as goal

pub returns-then-knows_birth-clause-known : goal.returns-then-knows_birth-clause-known
returns-then-knows_birth-clause-known g c = c.knows_birth.ensures.known c.if-knows_birth.true

pub returns-then-knows_birth-clause-names : goal.returns-then-knows_birth-clause-names
returns-then-knows_birth-clause-names g c = inl refl

pub returns-then-knows_birth-clause-free : goal.returns-then-knows_birth-clause-free
returns-then-knows_birth-clause-free g c = free_still (g.T.Turns.tells c.args.door.now)

pub commit-requires : goal.commit-requires
commit-requires g c = let p = c.requires.pool in record { bare = bare_pool p.0 c.args.right.now p.1 }

pub returns-clause-pool : goal.returns-clause-pool
returns-clause-pool g c = λ pool mine. pool_beside pool c.args.right.now c.commit.new.guest mine c.commit.ensures.bare c.commit.ensures.beside

pub returns-clause-names : goal.returns-clause-names
returns-clause-names g c = when_ok c.commit.result inr c.commit.ensures.ok

pub returns-clause-known : goal.returns-clause-known
returns-clause-known g c = when_ok c.commit.result (births_known g.N.Naming.start.is_visible c.args.names.now c.commit.new.self c.args.file) c.commit.ensures.ok

pub returns-then-knows_birth-clause-halts : goal.returns-then-knows_birth-clause-halts
returns-then-knows_birth-clause-halts g c = stops_still (g.T.Turns.tells c.args.door.now)

pub returns-then-knows_birth-clause-ran : goal.returns-then-knows_birth-clause-ran
returns-then-knows_birth-clause-ran g c = runs_still (g.T.Turns.tells c.args.door.now) 1 1
