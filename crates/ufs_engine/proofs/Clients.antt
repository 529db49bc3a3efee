-- A script without a client is played as that of one client which asks nothing.
use Rattle.std.proofs.Common.{◌≡◌, ℕ, Bool, List, [], ◌∷◌, length, Result, take, refl, sym, subst, arith}
use Rattle.std.specs.Global.{Vec}
use Rattle.ufs_disk.specs.Moments.{Moments}
use Rattle.ufs_rounds.specs.OfGathered.{AnswerAll}
use Rattle.ufs_joint.specs.Cells.{Start}
use Rattle.ufs_model.specs.PosixTree.{PosixTree}
use Rattle.ufs_model.specs.declared.data.Entry.{Entry}
use Rattle.ufs_model.specs.declared.data.Op.{Op}
use Rattle.ufs_model.proofs.Facts.Histories.{order_none}
use Rattle.ufs_client.specs.declared.played.EndFault.{EndFault}
use Rattle.ufs_store.specs.State.{StoreState}
use Rattle.ufs_engine.specs.Asked.{AreRoomsFor, given}
use Rattle.ufs_engine.specs.Played.{IsPlayedOn}
use Rattle.ufs_engine.specs.Plays.{served_end}
use Rattle.ufs_engine.specs.Served.{IsPlayedFrom}
use Rattle.ufs_engine.specs.declared.playing.PlayFault.{PlayFault}
use Rattle.ufs_engine.proofs.Rooms.{all_told, no_items, none_told}

-- One client that asked nothing was told nothing.
one_empty : (lists : List (List Entry)) → length lists ≡ 1 → AnswerAll ([] ∷ []) lists → lists ≡ [] ∷ []
one_empty [] each all = absurd (omega (arith, each))
one_empty (l ∷ []) each all = λ i. no_items l (all 0) i ∷ []
one_empty (l ∷ m ∷ lists) each all = absurd (omega (arith, each))

none_asked : (start : PosixTree) (ended : Result (Unit {0}) EndFault) → IsPlayedFrom start ([] ∷ []) ([] ∷ []) ended [] → IsPlayedFrom start [] [] ended []
none_asked start ended is = record {
  merged = record { rising = tt; each = λ client. refl };
  each = λ ok. refl;
  legal = is.legal;
  servers = is.servers;
  ordered = order_none [];
  complete = λ ok client. refl;
}

module _ (k : Start) (keeps : Bool) (opened : StoreState) (bytes : ℕ) (ended : Result (Unit {0}) PlayFault) (sectors faults : ℕ) (now : Moments) where
  without : IsPlayedOn k keeps ([] ∷ []) opened ([] ∷ []) bytes ended sectors faults now → IsPlayedOn k keeps [] opened [] bytes ended sectors faults now
  without is = record {
    start = is.start;
    closed = is.closed;
    seen = is.seen;
    played = none_asked is.start (served_end ended) is.played;
    sized = is.sized;
    tells = is.tells;
    closing = is.closing;
    size = is.size;
    throughout = is.throughout;
    stamped = is.stamped;
    clean = is.clean;
    last = is.last;
    numbers = is.numbers;
  }

  pub for_scripts : (scripts : List (List Op)) (rooms : List (Vec Entry)) (lists : List (List Entry)) → AreRoomsFor scripts rooms → length lists ≡ length (given scripts) → AnswerAll (given scripts) lists
      → IsPlayedOn k keeps (given scripts) opened lists bytes ended sectors faults now → IsPlayedOn k keeps scripts opened (take (length rooms) lists) bytes ended sectors faults now
  for_scripts [] rooms lists are each all is =
      subst (λ (told : List (List Entry)). IsPlayedOn k keeps [] opened told bytes ended sectors faults now) (sym (none_told rooms lists are))
      (without (subst (λ (told : List (List Entry)). IsPlayedOn k keeps ([] ∷ []) opened told bytes ended sectors faults now) (one_empty lists each all) is))
  for_scripts (script ∷ scripts) rooms lists are each all is =
      subst (λ (told : List (List Entry)). IsPlayedOn k keeps (script ∷ scripts) opened told bytes ended sectors faults now) (sym (all_told script scripts rooms lists are each)) is
