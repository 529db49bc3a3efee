-- After a tick the committed numbers cover what is acknowledged.
use Rattle.ufs_hand_laws.specs.CommittedNumbers.{AreCommittedNumbers}
use Rattle.ufs_hand_laws.proofs.Clock.Setting.{Tick, ticks}

module _ (tick : Tick) where
  open tick use {look, by, n, has}
  open tick.look use {S, k, word, views, i, v, o, at}
  open ticks tick use {w, later, next}

  pub tick_numbers : AreCommittedNumbers k o.history next
  tick_numbers = let z = o.committed_numbers in record {
    files = z.files;
    names = z.names;
    births = z.births;
    after_birth = z.after_birth;
    known = z.known;
    covers = z.covers;
    born = z.born;
    names_known = z.names_known;
    names_cover = z.names_cover;
    names_born = z.names_born;
  }
