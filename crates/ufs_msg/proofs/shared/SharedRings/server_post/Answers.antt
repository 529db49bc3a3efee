use Rattle.ufs_msg.proofs.shared.SharedRings.server_post.Goals as goal

pub returns-clause-letters : goal.returns-clause-letters
returns-clause-letters g c = record { primary = c.new.ensures; others = c.in_ok-ends.ensures }
