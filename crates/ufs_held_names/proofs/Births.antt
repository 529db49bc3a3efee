-- Which births are known, through what is done with the names.
use Rattle.std.proofs.Common.{◌≡◌, ◌≤◌, ◌<◌, ◌+◌, ◌⊎◌, inl, inr, ℕ, Bool, true, false, cond, is_some, Option, Some, None, Result, Ok, Err, sym, refl, ap, ◌∙◌, subst, arith}
use Rattle.std.specs.Prelude.{IfSome, IsSome, OnErr, OnOk}
use Rattle.std.specs.FinMap as fin
use Rattle.std.specs.FinSet as set
use Rattle.ufs_bitmap.specs.Blocks.{BlockSet}
use Rattle.ufs_joint.specs.Cells.{FileCell, NamesCell}
use Rattle.ufs_joint.specs.NamesTurns.{live_files}
use Rattle.ufs_store.specs.declared.fault.StoreFault.{StoreFault}
use Rattle.ufs_held_names.specs.Asked.{number_of}
use Rattle.ufs_held_names.specs.Births.{KnowsBirths}
use Rattle.ufs_held_names.specs.Come.{IsNewborn}
use Rattle.ufs_held_names.specs.HeldNames.{AreCommitted}
use Rattle.ufs_held_names.proofs.Tried.{live_is}

pub births_same : (a b : NamesCell) (reached : ℕ) → b ≡ a → KnowsBirths reached a → KnowsBirths reached b
births_same a b reached same births = subst (KnowsBirths reached) (sym same) births

-- where the names tell of just the live files
pub births_all : (c : NamesCell) → c.named ≡ live_files c.value → ((file : ℕ) → IsSome (fin.get c.value.held file) → file < c.value.next) → KnowsBirths c.value.next c
births_all c all low = record {
  below = omega arith;
  live = λ file less here. its file ∙ here;
  named = λ file told. low file (sym (its file) ∙ told);
}
  where
    its : (file : ℕ) → set.contains c.named file ≡ is_some (fin.get c.value.held file)
    its file = ap (λ (s : BlockSet). set.contains s file) all ∙ live_is c.value file

-- behind a commit that was tried
pub births_tried : (visible : Bool) (r : Result (Unit {0}) StoreFault) (was now : NamesCell) (reached then : ℕ) → OnOk r (AreCommitted visible was now) → OnErr r (now ≡ was) → OnOk r (then ≡ now.value.next) → OnErr r (then ≡ reached)
    → ((file : ℕ) → IsSome (fin.get now.value.held file) → file < now.value.next) → KnowsBirths reached was → KnowsBirths then now
births_tried visible (Ok u) was now reached then done kept up stay low births =
    subst (λ (n : ℕ). KnowsBirths n now) (sym up) (births_all now (ap (λ (c : NamesCell). c.named) done.is ∙ sym (ap (λ (c : NamesCell). live_files c.value) done.is)) low)
births_tried visible (Err e) was now reached then done kept up stay low births = subst (λ (q : ℕ × NamesCell). KnowsBirths q.0 q.1) (λ i. (sym stay i, sym kept i)) births

abbrev number_or : ℕ → Option ℕ → ℕ
number_or n None = n
number_or n (Some m) = m

-- behind a request: a file that was made has a number that is still to be reached
pub births_served : (was now : NamesCell) (made : Option FileCell) (reached ticket : ℕ) → now.named ≡ was.named → now.value.next ≡ cond (is_some made) (was.value.next + 1) was.value.next → IfSome made (IsNewborn was.value.next ticket)
    → ((file : ℕ) → IsSome (fin.get now.value.held file) → IsSome (fin.get was.value.held file) ⊎ (number_of made ≡ Some file)) → KnowsBirths reached was → KnowsBirths reached now
births_served was now made reached ticket named next new lives births = record {
  below = grown made next;
  live = λ file less here. ap (λ (s : BlockSet). set.contains s file) named ∙ births.live file less (old file less (lives file here));
  named = λ file told. births.named file (sym (ap (λ (s : BlockSet). set.contains s file) named) ∙ told);
}
  where
    grown : (o : Option FileCell) → now.value.next ≡ cond (is_some o) (was.value.next + 1) was.value.next → reached ≤ now.value.next
    grown None e = (let q : now.value.next ≡ was.value.next = e in let l = births.below in omega (arith, l, q))
    grown (Some c) e = (let q : now.value.next ≡ was.value.next + 1 = e in let l = births.below in omega (arith, l, q))

    young : (o : Option FileCell) (file : ℕ) → IfSome o (IsNewborn was.value.next ticket) → number_of o ≡ Some file → file ≡ was.value.next
    young None file its is = (let clash : None ≡ Some file = is in absurd cc)
    young (Some c) file its is = ap (number_or 0) (sym is ∙ ap (λ (d : FileCell). Some d.value.file.file) its)

    old : (file : ℕ) → file < reached → IsSome (fin.get was.value.held file) ⊎ (number_of made ≡ Some file) → IsSome (fin.get was.value.held file)
    old file less (inl here) = here
    old file less (inr is) = (let e = young made file new is in let l = births.below in absurd (omega (arith, less, l, e)))
