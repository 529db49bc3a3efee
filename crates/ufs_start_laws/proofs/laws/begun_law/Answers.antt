use Rattle.ufs_start_laws.proofs.Begun.{begins_on_disk, begins_there}
use Rattle.ufs_start_laws.proofs.laws.begun_law.Goals as goal

pub returns-clause-stored : goal.returns-clause-stored
returns-clause-stored c =
    begins_there c.args.geometry.now c.state_law.ensures.sound c.state_law.ensures.slots c.files_law.ensures.paths c.numbers_law.ensures.paths c.numbers_law.ensures.numbers c.numbers_law.ensures.unborn

pub returns-clause-going : goal.returns-clause-going
returns-clause-going c =
    begins_on_disk c.args.geometry.now c.state_law.ensures.sound c.state_law.ensures.slots c.files_law.ensures.paths c.numbers_law.ensures.paths c.numbers_law.ensures.numbers c.numbers_law.ensures.unborn
