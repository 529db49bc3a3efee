use Rattle.std.proofs.Common.{[], ◌∷◌}
use Rattle.ufs_begin_hands_tests.proofs.session.close_all.Goals as goal

pub end-tickets-requires-clause-home : goal.end-tickets-requires-clause-home
end-tickets-requires-clause-home g c = ([] ∷ [] ∷ [], c.deal_all-table.ensures.dealt.home)

pub end-tickets-requires-clause-pools : goal.end-tickets-requires-clause-pools
end-tickets-requires-clause-pools g c = c.deal_all-table.ensures.dealt.alone

pub end-tickets-requires-clause-back : goal.end-tickets-requires-clause-back
end-tickets-requires-clause-back g c = c.deal_all-table.ensures.dealt.back
