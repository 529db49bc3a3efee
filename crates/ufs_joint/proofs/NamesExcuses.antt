-- A request of the names may be excused by a hand without the store.
use Rattle.std.proofs.Common.{◌≡◌, ℕ, inl, inr, Bool, true, List, [], ◌∷◌, sym, refl, ap, ◌∙◌, subst}
use Rattle.ufs_bitmap.specs.Blocks.{BlockSet}
use Rattle.ufs_files.specs.Files.{Files}
use Rattle.ufs_layout.specs.declared.geometry.Geometry.{Geometry}
use Rattle.ufs_model.specs.Asks.{IsAsk}
use Rattle.ufs_model.specs.Excuses.{ExcuseFits}
use Rattle.ufs_model.specs.History.{IsExcused, IsReplyTo, is_excused, tree_after}
use Rattle.ufs_model.specs.PosixTree.{PosixTree}
use Rattle.ufs_model.specs.declared.data.Ask.{Ask}
use Rattle.ufs_model.specs.declared.data.Entry.{Entry}
use Rattle.ufs_model.specs.declared.data.Excuse.{Excuse}
use Rattle.ufs_model.specs.declared.data.Op.{Op}
use Rattle.ufs_model.specs.declared.data.Reply.{Reply}
use Rattle.ufs_names.specs.NamesPart.{IsNamesPart, NamesPart}
use Rattle.ufs_hand_laws.specs.Draws.{entry_of}
use Rattle.ufs_hand_laws.specs.Owned.{Has}
use Rattle.ufs_hand_laws.specs.Parts.{ClientPart}
use Rattle.ufs_hand_laws.specs.declared.fresh.Fresh.{Fresh}
use Rattle.ufs_promise_laws.specs.Parts.{Commits, Parts}
use Rattle.ufs_joint.specs.KnownDraws.{ExcusesStayKept}
use Rattle.ufs_joint.specs.Cells.{NamesCell, View}
use Rattle.ufs_joint.specs.Draws.{IsAround, MayDraw}
use Rattle.ufs_joint.specs.NamesHands.{IsNamesHand, IsNextOf, MayExcuseNames, NamesExcusesMayDraw, still_leaves}
use Rattle.ufs_joint.specs.Servers.{IsAlwaysServedSo}
use Rattle.ufs_joint.proofs.HandFiles.{sized}
use Rattle.ufs_joint.proofs.StillDraws.{IsStillHand, may_draw, own_fds}
use Rattle.ufs_joint.proofs.StillKinds.{excuse_still, names_still}

module _ (stays : ExcusesStayKept) (g : Geometry) (visible : Bool) (v : View) (client : ℕ) (part : ClientPart) (names : NamesCell) (n : ℕ) (pool : BlockSet) (files : Files) (commits : Commits) (f : Fresh) (ticket : ℕ) (ask : Ask) (x : Excuse)
    (hand : IsNamesHand v client part names n pool) (asked : IsNextOf client part f) (may : MayExcuseNames v part names files commits f ask x) (who : IsAlwaysServedSo part.fds f) where
  its_hand : IsStillHand v client part n pool
  its_hand = names_still v client part names n pool hand

  has_names : Has (tt, names) v.names
  has_names = subst (Has (tt, names)) (sym hand.names_are) (inl refl)

  due : (start : PosixTree) (history : List Entry) (p : Parts) (rest : BlockSet) → IsAround g v ticket start history p rest → IsReplyTo (tree_after start history) (entry_of ticket f)
  due start history p rest a = inr (subst (λ (r : Reply). IsExcused (tree_after start history) f.client f.op r) (sym may.replied) (subst (λ (q : ℕ × Op). ExcuseFits (tree_after start history) q.0 q.1 x) (λ i. (sym may.ask_client i, sym may.same_op i)) fits))
    where
      part_is : IsNamesPart names.value (tree_after start history)
      part_is = subst (λ (q : NamesPart). IsNamesPart q (tree_after start history)) (a.cells.names tt names has_names).names a.parts.names

      ask_is : IsAsk (tree_after start history) ask
      ask_is = may.told (tree_after start history) (own_fds g v client part n pool f ticket its_hand asked start history p rest a)

      fits : ExcuseFits (tree_after start history) ask.client ask.op x
      fits = may.fits (tree_after start history) (record { part = part_is; asked = ask_is; files = sized v files commits may.files p a.cells (tree_after start history) a.parts.files; gathered = may.gathered (tree_after start history) part_is ask_is })

  pub excuse_may_draw : MayDraw g visible v f (still_leaves part v) ticket
  excuse_may_draw = may_draw g visible v client part n pool f ticket its_hand asked (excuse_still v f ticket x may.replied may.device may.stopped may.committed may.asks) due
      (λ seen s start history p known formed legal fds cells knows on. stays s start history (entry_of ticket f) p known legal (ap is_excused may.replied) on) who

pub names_excuses_may_draw : ExcusesStayKept → NamesExcusesMayDraw
names_excuses_may_draw stays g visible v client part names n pool files commits f ticket ask x hand asked may who = excuse_may_draw stays g visible v client part names n pool files commits f ticket ask x hand asked may who
