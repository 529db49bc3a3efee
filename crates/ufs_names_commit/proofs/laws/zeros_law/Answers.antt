use Rattle.ufs_names_commit.proofs.Beginning.{zeros_begin}
use Rattle.ufs_names_commit.proofs.Joining.{zeros_settle}
use Rattle.ufs_names_commit.proofs.Writing.{barrier_explained, barrier_fails, zeros_explained, zeros_go_on, zeros_may_leave, zeros_stay, zeros_stop}
use Rattle.ufs_names_commit.proofs.laws.zeros_law.Goals as goal

pub returns-clause-begin : goal.returns-clause-begin
returns-clause-begin c s start history p known go = zeros_begin c.form_law.ensures.sound s start history p known go

pub returns-clause-write : goal.returns-clause-write
returns-clause-write c old new start history p known done block beside fresh writes z = zeros_go_on c.args.geometry.now old new start history p known done beside z c.ready_law.ensures.write block fresh writes

pub returns-clause-write_fails : goal.returns-clause-write_fails
returns-clause-write_fails c old new start history p known done block seen beside fresh stop leaves z =
    zeros_stop c.args.geometry.now old new start history p known done beside z c.stopping_law.ensures.write block seen fresh stop leaves

pub returns-clause-barrier : goal.returns-clause-barrier
returns-clause-barrier c old new start history p known beside whole barrier z =
    zeros_settle c.args.geometry.now c.form_law.ensures.sound c.ready_law.ensures.barrier c.ready_law.ensures.spelled old new start history p known beside whole barrier z

pub returns-clause-barrier_fails : goal.returns-clause-barrier_fails
returns-clause-barrier_fails c old new start history p known done beside stop leaves z = barrier_fails c.args.geometry.now old new start history p known done beside z c.stopping_law.ensures.barrier stop leaves

pub returns-clause-write_may_leave : goal.returns-clause-write_may_leave
returns-clause-write_may_leave c = zeros_may_leave c.args.geometry.now c.always_law.ensures.image c.ready_law.ensures.write

pub returns-clause-write_moments : goal.returns-clause-write_moments
returns-clause-write_moments c = zeros_explained c.args.geometry.now (returns-clause-write_may_leave c)

pub returns-clause-barrier_moments : goal.returns-clause-barrier_moments
returns-clause-barrier_moments c = barrier_explained c.args.geometry.now c.always_law.ensures.ledger

pub returns-clause-rest : goal.returns-clause-rest
returns-clause-rest c = zeros_stay c.args.geometry.now c.always_law.ensures.ledger
