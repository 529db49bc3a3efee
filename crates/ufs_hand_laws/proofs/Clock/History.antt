-- After a tick the history leads to all parts.
use Rattle.ufs_hand_laws.specs.Legal.{IsOneHistory}
use Rattle.ufs_hand_laws.proofs.Clock.Setting.{Tick, ticks}

module _ (tick : Tick) where
  open tick use {look, by, n, has}
  open tick.look use {S, k, word, views, i, v, o, at}
  open ticks tick use {w, later, next}

  pub tick_legal : IsOneHistory k o.history next
  tick_legal = record {
    start = o.legal.start;
    legal = o.legal.legal;
    tree = o.legal.tree;
    clients = o.legal.clients;
    files = o.legal.files;
    there = o.legal.there;
    names = let z = o.legal.names in record { opening = z.opening; changes = z.changes; paths = z.paths; next = z.next };
    next = o.legal.next;
    unborn = o.legal.unborn;
  }
