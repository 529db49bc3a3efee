-- A file that goes with a request is one that the request touches, so its hand is here.
use Rattle.std.proofs.Common.{◌≡◌, ℕ, inl, inr, List, [], ◌∷◌, Bool, true, false, cond, Option, Some, None, is_some, refl, sym, subst, ◌∙◌}
use Rattle.std.specs.FinMap as map
use Rattle.ufs_files.specs.Files.{Files}
use Rattle.ufs_model.specs.Posix.{forget}
use Rattle.ufs_model.specs.PosixTree.{PosixTree, Paths, is_live}
use Rattle.ufs_model.specs.Refusals.{own_refusal}
use Rattle.ufs_model.specs.Touched as touched
use Rattle.ufs_model.specs.Touched.{dropped_part, reached}
use Rattle.ufs_model.specs.declared.data.Ask.{Ask}
use Rattle.ufs_model.specs.declared.data.Errno.{Errno}
use Rattle.ufs_model.specs.declared.data.Op.{Op}
use Rattle.ufs_model.specs.declared.data.PartName.{PartName}
use Rattle.ufs_model.specs.declared.data.PartName.TheVariants as name
use Rattle.ufs_names.specs.Calls.{AreGathered}
use Rattle.ufs_names.specs.NamesPart.{NamesPart, IsNamesPart, holding_of, without_name}
use Rattle.ufs_names.specs.Steps.{GoesHere}
use Rattle.ufs_names.proofs.LinkLemmas.{is_named}
use Rattle.ufs_names.proofs.HolderLemmas.{kept_is_live}

-- of what a request reaches that its client can't refuse the hands are here
pub reached_here : (t : PosixTree) (ask : Ask) (fs : Files) → AreGathered t ask fs → own_refusal t ask.client ask.op ≡ None → (request : Op) → ask.op ≡ request
    → (f : ℕ) → touched.IsPartOf (reached t ask.client request) (name.File f) → is_some (map.get t.bytes f) ≡ true → is_some (map.get fs f) ≡ true
reached_here t ask fs gathered own request of f at has =
    gathered f (inr (subst (λ (o : Option Errno). touched.IsPartOf (cond {A = List PartName} (is_some o) [] (reached t ask.client ask.op)) (name.File f)) (sym own)
    (subst (λ (r : Op). touched.IsPartOf (reached t ask.client r) (name.File f)) (sym of) at))) has

-- what is live is told by paths and descriptors, which stay
pub forget_live : (v : PosixTree) (g f : ℕ) → is_live (forget v (Some g)).paths (forget v (Some g)).fds f ≡ is_live v.paths v.fds f
forget_live v g f = by (is_live v.paths v.fds g)
  where
    by : (b : Bool) → is_live (cond {A = PosixTree} b v (record v { bytes = map.remove v.bytes g })).paths (cond {A = PosixTree} b v (record v { bytes = map.remove v.bytes g })).fds f ≡ is_live v.paths v.fds f
    by true = refl
    by false = refl

-- a file that is live no more is dropped
pub dropped : (v : PosixTree) (f : ℕ) → is_live v.paths v.fds f ≡ false → touched.IsPartOf (dropped_part (forget v (Some f)) (Some f)) (name.File f)
dropped v f dead =
    subst (λ (b : Bool). touched.IsPartOf (cond {A = List PartName} b [] (name.File f ∷ [])) (name.File f)) (sym (forget_live v f f ∙ dead)) (inl refl)

-- the file of what had a name
pub goes_here : (n : NamesPart) (t : PosixTree) → IsNamesPart n t → (fs : Files) (paths : Paths) (lost : Option ℕ) → ((f : ℕ) → lost ≡ Some f → is_named paths f ≡ false)
    → ((f : ℕ) → lost ≡ Some f → is_live paths t.fds f ≡ false → is_some (map.get fs f) ≡ true) → GoesHere n fs lost
goes_here n t part fs paths lost unnamed here f e gone =
    here f e (sym (kept_is_live (without_name (holding_of n.held f)) paths t.fds f (sym (unnamed f e)) (part.held f)) ∙ gone)
