-- No fault of the device, and no stop, is the cause of an excuse of the names.
use Rattle.std.proofs.Common.{◌≡◌, ℕ, true, false, List, None, ap, refl, sym, ◌∙◌}
use Rattle.ufs_bitmap.specs.Blocks.{BlockSet}
use Rattle.ufs_client.specs.Played.{tells_fault}
use Rattle.ufs_client.proofs.FaultLemmas.{names_faultless}
use Rattle.ufs_model.specs.Excuses.{ExcuseFits}
use Rattle.ufs_model.specs.PosixTree.{PosixTree}
use Rattle.ufs_model.specs.declared.data.Excuse.{Excuse}
use Rattle.ufs_model.specs.declared.data.Excuse.TheVariants as excuse
use Rattle.ufs_model.specs.declared.data.Op.{Op}
use Rattle.ufs_model.specs.declared.data.Reply.{Reply}
use Rattle.ufs_model.specs.declared.data.Reply.TheVariants as reply
use Rattle.ufs_names.specs.NamesPart.{IsNamesPart, NamesPart}
use Rattle.ufs_names.specs.Space.{IsCause}
use Rattle.ufs_hand_laws.specs.Draws.{left_faults}
use Rattle.ufs_held.specs.Stopping.{fault_by}
use Rattle.ufs_held.proofs.Stopping.{no_fault as none_by}

true_false : true ≡ false → ⊥
true_false e = cc

pub no_fault : (x : NamesPart) (t : PosixTree) (part : IsNamesPart x t) (client : ℕ) (lent : BlockSet) (request : Op) (e : Excuse) → ExcuseFits t client request e → IsCause x.tree.dirs lent request e → (fault : ℕ) → (e ≡ excuse.Device fault → ⊥) × (e ≡ excuse.Stopped fault → ⊥)
no_fault x t part client lent request e fits cause fault =
    let calm : tells_fault (reply.Excused e) ≡ false = names_faultless x t part client lent request e fits cause in
    (λ is. true_false (sym (ap (λ (q : Excuse). tells_fault (reply.Excused q)) is) ∙ calm), λ is. true_false (sym (ap (λ (q : Excuse). tells_fault (reply.Excused q)) is) ∙ calm))

-- It takes no fault that the hand was told.
pub calm : (r : Reply) → ((x : Excuse) → r ≡ reply.Excused x → (fault : ℕ) → x ≡ excuse.Device fault → ⊥) → (faults : List ℕ) → left_faults r faults ≡ faults
calm (reply.Excused (excuse.Device n)) none faults = absurd (none (excuse.Device n) refl n refl)
calm (reply.Excused excuse.Memory) none faults = refl
calm (reply.Excused (excuse.Stopped n)) none faults = refl
calm (reply.Excused (excuse.Blocks need had)) none faults = refl
calm (reply.Excused excuse.Inodes) none faults = refl
calm (reply.Excused (excuse.Extents need)) none faults = refl
calm reply.Done none faults = refl
calm (reply.Fd n) none faults = refl
calm (reply.Count n) none faults = refl
calm (reply.At n) none faults = refl
calm (reply.Got bytes) none faults = refl
calm (reply.IsFile n) none faults = refl
calm (reply.IsDir n) none faults = refl
calm (reply.Names names) none faults = refl
calm (reply.Refused x) none faults = refl

pub untold_by : (r : Reply) → tells_fault r ≡ false → fault_by r ≡ None
untold_by r calm = none_by r (λ n is. true_false (sym (ap tells_fault is) ∙ calm))
