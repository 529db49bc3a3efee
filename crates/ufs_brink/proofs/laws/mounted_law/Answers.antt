use Rattle.ufs_brink.proofs.Starts.{goes_on, marking_explained, marking_proper, mountable}
use Rattle.ufs_brink.proofs.laws.mounted_law.Goals as goal

pub returns-clause-mountable : goal.returns-clause-mountable
returns-clause-mountable c sectors state s is = mountable c.args.geometry.now sectors state s is c.mounting_law.ensures

pub returns-clause-going : goal.returns-clause-going
returns-clause-going c sectors state s start store p is =
    goes_on c.args.geometry.now sectors state s is c.mounting_law.ensures c.start_law.ensures.opened c.start_law.ensures.named c.parts_law.ensures.whole c.begun_law.ensures.going start store p

pub returns-clause-explained : goal.returns-clause-explained
returns-clause-explained c sectors state s start image is =
    marking_explained c.args.geometry.now sectors state s is c.mounting_law.ensures c.start_law.ensures.opened c.start_law.ensures.named c.parts_law.ensures.whole c.begun_law.ensures.stored
    c.promise_law.ensures.beginning c.opening_law.ensures.ledger start image

pub returns-clause-proper : goal.returns-clause-proper
returns-clause-proper c sectors state s image is = marking_proper c.args.geometry.now sectors state s is c.proper_law.ensures image
