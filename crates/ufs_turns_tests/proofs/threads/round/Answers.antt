use Rattle.ufs_turns_tests.proofs.threads.round.Goals as goal

pub take_turns-told-requires : goal.take_turns-told-requires
take_turns-told-requires g c = (let l = c.seat.invariant in record {
  lent = (c.seat.inside.number, record { pools = l.pools; away = l.bare.away });
  files = l.bare.files;
  names = l.bare.names;
})
