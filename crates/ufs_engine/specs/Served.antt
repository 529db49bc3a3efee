-- What a session from a tree has told its clients.
use Rattle.std.specs.Prelude.{◌≡◌, List, Result, Ok, length}
use Rattle.ufs_model.specs.PosixTree.{PosixTree}
use Rattle.ufs_model.specs.History.{IsLegal, IsInOrder, IsComplete}
use Rattle.ufs_model.specs.declared.data.Op.{Op}
use Rattle.ufs_model.specs.declared.data.Entry.{Entry}
use Rattle.ufs_client.specs.Own.{AreServedFrom}
use Rattle.ufs_client.specs.Played.{IsMerged}
use Rattle.ufs_client.specs.declared.played.EndFault.{EndFault}

-- The transcripts are those of one history, in which a tree that begins as this one, and is served by one thread, gives
-- each reply, or the reply is an excuse that fits and leaves the tree; no two excuses tell one fault. The history has
-- each client's requests in its order, and all of them where the session ended well. A client answers itself what its
-- descriptors tell, and the primary server serves the others.
pub record IsPlayedFrom (start : PosixTree) (clients : List (List Op)) (told : List (List Entry)) (ended : Result (Unit {0}) EndFault) (history : List Entry) : Type 0 where
  pub merged : IsMerged told history
  -- a transcript for each client
  pub each : ended ≡ Ok tt → length told ≡ length clients
  pub legal : IsLegal start history
  pub servers : AreServedFrom start history
  pub ordered : IsInOrder clients history
  pub complete : ended ≡ Ok tt → IsComplete clients history
