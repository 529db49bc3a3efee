use Rattle.ufs_store.proofs.store.StoreDoor.commit_file.Goals as goal

pub returns-in-Ok-clause-still : goal.returns-in-Ok-clause-still
returns-in-Ok-clause-still g c fault is =
    let refused = (c.commit_delta.ensures.stopped fault).1 is in
    let passed = c.in-Ok.is in
    absurd cc
