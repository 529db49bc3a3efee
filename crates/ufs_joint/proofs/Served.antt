-- Who served a history that goes on.
use Rattle.std.proofs.Common.{◌≡◌, ℕ, true, false, List, [], ◌∷◌, ◌++◌, sym, ◌∙◌}
use Rattle.ufs_client.specs.Own.{is_own}
use Rattle.ufs_hand_laws.specs.Parts.{OwnFds}
use Rattle.ufs_hand_laws.specs.declared.fresh.Fresh.{Fresh}
use Rattle.ufs_model.specs.History.{goes_on, tree_after}
use Rattle.ufs_model.specs.PosixTree.{PosixTree}
use Rattle.ufs_model.specs.declared.data.Entry.{Entry}
use Rattle.ufs_joint.specs.Servers.{AreServedSo, IsAlwaysServedSo, IsServedBy, IsServer, NeedsServer}

pub served_push : (t : PosixTree) (history : List Entry) (e : Entry) → AreServedSo t history → IsServedBy (tree_after t history) e.client e.op e.by → AreServedSo t (history ++ e ∷ [])
served_push t [] e all one = (one, tt)
served_push t (x ∷ history) e all one = (all.0, served_push (goes_on t x) history e all.1 one)

-- A server serves what the client doesn't answer itself.
pub by_server : (fds : OwnFds) (f : Fresh) → NeedsServer fds f.client f.op → IsServer f.by → IsAlwaysServedSo fds f
by_server fds f needs server t same = record {
  own = λ its. absurd (let clash : true ≡ false = sym its ∙ needs t same in cc);
  sent = λ _. server;
}
