use Rattle.std.proofs.Common.{[], ◌∷◌, refl, ◌∙◌}
use Rattle.ufs_gathered.proofs.Cleaned.{back_then, lends_bare}
use Rattle.ufs_begin_hands_tests.proofs.session.finish_all.Goals as goal

pub checkpoint_if-requires-clause-bare : goal.checkpoint_if-requires-clause-bare
checkpoint_if-requires-clause-bare g c = lends_bare c.deal_all-table.result.actors.pools c.deal_all-table.ensures.dealt.alone

pub finish-requires-clause-home : goal.finish-requires-clause-home
finish-requires-clause-home g c = ([] ∷ [] ∷ [], c.deal_all-table.ensures.dealt.home)

pub finish-requires-clause-pools : goal.finish-requires-clause-pools
finish-requires-clause-pools g c =
    let e = c.checkpoint_if.ensures in
    record { clients = e.clients ∙ c.deal_all-table.ensures.dealt.alone.clients; files = e.bare.files; names = e.bare.names; store = e.bare.away }

pub finish-requires-clause-back : goal.finish-requires-clause-back
finish-requires-clause-back g c =
    let a = c.deal_all-table.result.actors in
    back_then g.N.Naming.start a.names a.names a.files.items a.files.items a.pools c.checkpoint_if.new.pools a.clients.items c.deal_all-table.ensures.dealt.back refl (λ file. refl) c.checkpoint_if.ensures.pools
