use Rattle.ufs_promise_laws.proofs.Noted.{noted_may, noted_records, noted_lead}
use Rattle.ufs_promise_laws.proofs.names.noted_law.Goals as goal

pub returns-clause-may : goal.returns-clause-may
returns-clause-may c = noted_may c.args.geometry.now c.requires

pub returns-clause-records : goal.returns-clause-records
returns-clause-records c = noted_records

pub returns-clause-lead : goal.returns-clause-lead
returns-clause-lead c = noted_lead
