use Rattle.std.proofs.Common.{◌∙◌}
use Rattle.ufs_turns_tests.proofs.session.take_turns.Goals as goal

pub give_pool-lacks-requires : goal.give_pool-lacks-requires
give_pool-lacks-requires g c = record { lent = c.requires.lent }

pub give_pool-some-requires : goal.give_pool-some-requires
give_pool-some-requires g c = (let l = c.requires.lent in record { lent = (l.0, c.give_pool-lacks.ensures.lent l.0 l.1) })

pub take_back-requires : goal.take_back-requires
take_back-requires g c = (let l = c.requires.lent in record { lent = (l.0, c.give_pool-some.ensures.lent l.0 (c.give_pool-lacks.ensures.lent l.0 l.1)) })

pub checkpoint-made-requires : goal.checkpoint-made-requires
checkpoint-made-requires g c =
    let l = c.requires.lent in
    record {
      bare = record {
        files = c.take_back.ensures.beside.files ∙ c.give_pool-some.ensures.beside.files ∙ c.give_pool-lacks.ensures.beside.files ∙ c.requires.files;
        names = c.take_back.ensures.beside.names ∙ c.give_pool-some.ensures.beside.names ∙ c.give_pool-lacks.ensures.beside.names ∙ c.requires.names;
        away = (c.take_back.ensures.lent l.0 (c.give_pool-some.ensures.lent l.0 (c.give_pool-lacks.ensures.lent l.0 l.1))).away;
      };
    }

pub returns-clause-clients : goal.returns-clause-clients
returns-clause-clients g c = c.checkpoint-made.ensures.beside.clients ∙ c.take_back.ensures.beside.clients ∙ c.give_pool-some.ensures.beside.clients ∙ c.give_pool-lacks.ensures.beside.clients

pub returns-clause-pool : goal.returns-clause-pool
returns-clause-pool g c = λ name l. record {
  pools = c.checkpoint-made.ensures.beside.pools ∙ (c.take_back.ensures.lent name (c.give_pool-some.ensures.lent name (c.give_pool-lacks.ensures.lent name l))).pools;
  away = c.checkpoint-made.ensures.bare.away;
}
