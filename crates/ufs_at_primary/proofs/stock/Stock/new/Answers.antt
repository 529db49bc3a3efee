use Rattle.ufs_at_primary.proofs.stock.Stock.new.Goals as goal

pub invariant_of-result : goal.invariant_of-result
invariant_of-result g c = record { formed = c.requires.formed; its = c.requires.its; numbers = c.requires.numbers; hand = c.requires.hand; few = c.requires.few; here = c.requires.here }
