-- A request on a file may be excused by a hand without the store.
use Rattle.std.proofs.Common.{◌≡◌, ℕ, inl, inr, Bool, true, List, Option, Some, None, sym, refl, ap, ◌∙◌, subst}
use Rattle.std.specs.FinMap as fin
use Rattle.ufs_bitmap.specs.Blocks.{BlockSet}
use Rattle.ufs_layout.specs.declared.geometry.Geometry.{Geometry}
use Rattle.ufs_file.specs.Hand.{IsFileOf}
use Rattle.ufs_model.specs.Asks.{IsAsk, desc_of_fd, fd_named}
use Rattle.ufs_model.specs.Excuses.{ExcuseFits}
use Rattle.ufs_model.specs.History.{IsExcused, IsReplyTo, is_excused, tree_after}
use Rattle.ufs_model.specs.PosixTree.{PosixTree}
use Rattle.ufs_model.specs.declared.data.Ask.{Ask}
use Rattle.ufs_model.specs.declared.data.Entry.{Entry}
use Rattle.ufs_model.specs.declared.data.Excuse.{Excuse}
use Rattle.ufs_model.specs.declared.data.Op.{Op}
use Rattle.ufs_model.specs.declared.data.Reply.{Reply}
use Rattle.ufs_hand_laws.specs.Draws.{entry_of}
use Rattle.ufs_hand_laws.specs.Owned.{Has}
use Rattle.ufs_hand_laws.specs.Parts.{ClientPart}
use Rattle.ufs_hand_laws.specs.declared.fresh.Fresh.{Fresh}
use Rattle.ufs_promise_laws.specs.Parts.{Parts}
use Rattle.ufs_joint.specs.KnownDraws.{ExcusesStayKept}
use Rattle.ufs_joint.specs.Cells.{FileCell, View}
use Rattle.ufs_joint.specs.Draws.{IsAround, MayDraw}
use Rattle.ufs_joint.specs.FileHands.{ExcusesMayDraw, IsFileHand, MayExcuse, own_desc, same_leaves}
use Rattle.ufs_joint.specs.Servers.{IsAlwaysServedSo}
use Rattle.ufs_joint.proofs.FileAcks.{all_stays}
use Rattle.ufs_joint.proofs.FileDraws.{no_last, no_new_fd}
use Rattle.ufs_joint.proofs.StillDraws as draws
use Rattle.ufs_joint.proofs.StillKinds.{excuse_still, file_still}

module _ (stays : ExcusesStayKept) (g : Geometry) (visible : Bool) (v : View) (client : ℕ) (part : ClientPart) (file : ℕ) (cell : FileCell) (n : ℕ) (pool : BlockSet) (f : Fresh) (ticket : ℕ) (ask : Ask) (x : Excuse)
    (hand : IsFileHand v client part file cell n pool) (may : MayExcuse v client part file cell f ask x) (who : IsAlwaysServedSo part.fds f) where
  has_part : Has (client, part) v.clients
  has_part = subst (Has (client, part)) (sym hand.clients) (inl refl)

  has_file : Has (file, cell) v.files
  has_file = subst (Has (file, cell)) (sym hand.files) (inl refl)

  module _ (start : PosixTree) (history : List Entry) (p : Parts) (rest : BlockSet) (a : IsAround g v ticket start history p rest) where
    abbrev t : PosixTree
    t = tree_after start history

    its_desc : (o : Option ℕ) → own_desc part.fds o ≡ desc_of_fd t.fds client o
    its_desc None = refl
    its_desc (Some fd) = a.fds client part has_part fd

    asked : IsAsk t ask
    asked = record {
      desc = may.told ∙ its_desc (fd_named ask.op) ∙ ap (λ c. desc_of_fd t.fds c (fd_named ask.op)) (sym may.ask_client);
      fd = may.no_fd ∙ sym (no_new_fd t ask.client ask.op may.on_file);
      last = may.not_last ∙ sym (no_last t ask.client ask.op may.on_file);
    }

    its_file : IsFileOf cell.value.file t
    its_file = (a.parts.files cell.value.file.file cell.value.file (ap (fin.get p.files) hand.number ∙ (a.cells.files file cell has_file).file_is)).1

    due : IsReplyTo t (entry_of ticket f)
    due = inr (subst (λ (q : Reply). IsExcused t f.client f.op q) (sym may.replied)
        (subst (λ (q : ℕ × Op). ExcuseFits t q.0 q.1 x) (λ i. ((may.ask_client ∙ sym may.by_client) i, sym may.same_op i)) (may.fits t its_file asked)))

  may_draw : MayDraw g visible v f (same_leaves part file cell n pool) ticket
  may_draw = all_stays v client part file cell n pool g visible f ticket hand
      (draws.may_draw g visible v client part n pool f ticket (file_still v client part file cell n pool hand) (record { low = may.low; by_client = may.by_client; asked = may.asked; seq = may.seq })
      (excuse_still v f ticket x may.replied may.device may.stopped may.committed may.asks) due
      (λ seen s start history p known formed legal fds cells knows on. stays s start history (entry_of ticket f) p known legal (ap is_excused may.replied) on) who)

pub excuses_may_draw : ExcusesStayKept → ExcusesMayDraw
excuses_may_draw stays g visible v client part file cell n pool f ticket ask x hand may who = may_draw stays g visible v client part file cell n pool f ticket ask x hand may who
