-- How a run of calls goes on.
use Rattle.std.proofs.Common.{◌≡◌, Bool, List, [], ◌∷◌, ◌++◌, refl, sym, ◌∙◌, ap, subst, append_assoc}
use Rattle.std.specs.List.{AllByRecursion}
use Rattle.std.proofs.lemmas.List.{append-nil}
use Rattle.ufs_base.specs.Images.{Image}
use Rattle.ufs_disk.specs.Disk.{State, IsImage, Leaves}
use Rattle.ufs_disk.specs.Moments.{Moments, all, Passes, IsStill, LeavesOnly}

pub all_append : {X : Type 0} (P : X → Type 0) (xs ys : List X) → AllByRecursion P xs → AllByRecursion P ys → AllByRecursion P (xs ++ ys)
all_append P [] ys left right = right
all_append P (x ∷ xs) ys left right = (left.0, all_append P xs ys left.1 right)

pub all_map : {X : Type 0} (P Q : X → Type 0) → ((x : X) → P x → Q x) → (xs : List X) → AllByRecursion P xs → AllByRecursion Q xs
all_map P Q leads [] every = tt
all_map P Q leads (x ∷ xs) every = (leads x every.0, all_map P Q leads xs every.1)

pub passes_joined : (P : State → Type 0) (first mid new : Moments) → Passes P first mid → Passes P mid new → Passes P first new
passes_joined P first mid new front back = record {
  inside = front.inside ++ back.inside;
  whole = back.whole ∙ ap (λ (l : List State). l ++ back.inside) front.whole ∙ append_assoc (all first) front.inside back.inside;
  each = all_append P front.inside back.inside front.each back.each;
}

pub passes_weaker : (P Q : State → Type 0) → ((state : State) → P state → Q state) → (old new : Moments) → Passes P old new → Passes Q old new
passes_weaker P Q leads old new run = record { inside = run.inside; whole = run.whole; each = all_map P Q leads run.inside run.each }

-- ---- reads

module _ (keeps : Bool) where
  -- before the first one
  pub still : (now : Moments) → IsStill keeps now now
  still now = record { state = refl; between = λ kept. record { inside = []; whole = sym (append-nil (all now)); each = tt } }

  pub stays_still : (old new : Moments) → new ≡ old → IsStill keeps old new
  stays_still old new same = subst (IsStill keeps old) (sym same) (still old)

  -- one after another
  pub still_joined : (first mid new : Moments) → IsStill keeps first mid → IsStill keeps mid new → IsStill keeps first new
  still_joined first mid new front back = record {
    state = back.state ∙ front.state;
    between = λ kept.
        passes_joined (λ state. state ≡ first.state) first mid new (front.between kept)
        (passes_weaker (λ state. state ≡ mid.state) (λ state. state ≡ first.state) (λ state same. same ∙ front.state) mid new (back.between kept));
  }

-- ---- calls

module _ (keeps : Bool) (P : Image → Type 0) where
  -- before the first call
  pub started : (now : Moments) → Leaves P now.state → LeavesOnly keeps P now now
  started now here = record {
    before = here;
    after = here;
    between = λ kept. record { inside = []; whole = sym (append-nil (all now)); each = tt };
  }

  -- a call that left the disk as it was
  pub stays : (old new : Moments) → new ≡ old → Leaves P old.state → LeavesOnly keeps P old new
  stays old new same here = subst (LeavesOnly keeps P old) (sym same) (started old here)

  -- one run after another
  pub joined : (first mid new : Moments) → LeavesOnly keeps P first mid → LeavesOnly keeps P mid new → LeavesOnly keeps P first new
  joined first mid new front back = record {
    before = front.before;
    after = back.after;
    between = λ kept. passes_joined (Leaves P) first mid new (front.between kept) (back.between kept);
  }

  -- what follows from P is left too
  pub weaker : (Q : Image → Type 0) → ((image : Image) → P image → Q image) → (old new : Moments) → LeavesOnly keeps P old new → LeavesOnly keeps Q old new
  weaker Q leads old new run = record {
    before = λ image left. leads image (run.before image left);
    after = λ image left. leads image (run.after image left);
    between = λ kept. passes_weaker (Leaves P) (Leaves Q) (λ state leaves image left. leads image (leaves image left)) old new (run.between kept);
  }

module _ (keeps : Bool) (P : Image → Type 0) where
  -- one call more, at each moment of which a crash leaves what has P
  pub goes_on : (Q : Image → Type 0) (first old new : Moments) → LeavesOnly keeps P first old → LeavesOnly keeps Q old new
      → ((image : Image) → Q image → P image) → LeavesOnly keeps P first new
  goes_on Q first old new so_far call leads = joined keeps P first old new so_far (weaker keeps Q P leads old new call)

  -- a read, a barrier, or another run that leaves no more than before
  pub goes_on_quietly : (first old new : Moments) → LeavesOnly keeps P first old → LeavesOnly keeps (IsImage old.state) old new → LeavesOnly keeps P first new
  goes_on_quietly first old new so_far call = goes_on (IsImage old.state) first old new so_far call so_far.after
