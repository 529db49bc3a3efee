-- The names' cell goes to the hand that comes for a commit, and back.
use Rattle.std.proofs.Common.{◌≡◌, ℕ, ◌≤◌, ◌++◌, Bool, true, List, [], ◌∷◌, Some, Option, sym, refl, ap, ◌∙◌, subst, arith}
use Rattle.std.specs.Prelude.{OnErr, OnOk, Result, Ok, Err}
use Rattle.std.proofs.lemmas.List.{append-nil}
use Rattle.ufs_model.specs.declared.data.PartName.TheVariants.{Names}
use Rattle.ufs_hand_laws.specs.Owned.{only, without}
use Rattle.ufs_hand_laws.specs.Parts.{is_names}
use Rattle.ufs_store.specs.declared.fault.StoreFault.{StoreFault}
use Rattle.ufs_joint.specs.Cells.{NamesCell, View, both_of, given_of, kept_of}
use Rattle.ufs_turns.specs.Lent.{IsBare, IsBeside}
use Rattle.ufs_turns.specs.NamesLent.{AreNamesIn, HaveCommitted, LendsNames, names_kept}
use Rattle.ufs_turns.proofs.Hands.{later_left}
use Rattle.ufs_held.proofs.After.{only_none, without_none}
use Rattle.ufs_noted.specs.Noted.{Noted, committed_noted}
use Rattle.ufs_held_names.specs.HeldNames.{AreCommitted, HasNamesAlone, HoldsNames, first_names, noted_in}

-- ---- it goes

module _ (own guest : View) (x : Noted) (held : HoldsNames x own) (bare : IsBare guest) where
  pub lends : LendsNames held.cell (both_of guest (given_of Names own))
  lends = record {
    names = record {
      files = λ i. bare.files i ++ only_none own.files i;
      names = λ i. bare.names i ++ only (is_names Names) (held.alone.names i);
    };
    away = λ i. bare.away i ++ only_none own.store i;
  }

  pub lent_beside : IsBeside guest (both_of guest (given_of Names own))
  lent_beside = record {
    clients = ap (λ ps. guest.clients ++ ps) (only_none own.clients) ∙ append-nil guest.clients;
    asked = ap (λ ps. guest.asked ++ ps) (only_none own.asked) ∙ append-nil guest.asked;
    pools = ap (λ ps. guest.pools ++ ps) (only_none own.pools) ∙ append-nil guest.pools;
    seen = later_left guest.seen own.seen;
  }

-- ---- it was committed, or not

-- The hand has the cell, which is that or as it was.
pub record HaveGone (visible : Bool) (r : Result (Unit {0}) StoreFault) (was : NamesCell) (y : Noted) (m : View) : Type 0 where
  pub cell : NamesCell
  pub names : AreNamesIn cell m
  pub value : noted_in cell ≡ y
  pub ok : OnOk r (AreCommitted visible was cell)
  pub err : OnErr r (cell ≡ was)

pub gone : (visible : Bool) (r : Result (Unit {0}) StoreFault) (was : NamesCell) (x y : Noted) (l m : View) → noted_in was ≡ x → LendsNames was l → OnOk r ((cell : NamesCell) → LendsNames cell l → HaveCommitted visible cell m)
    → OnErr r ((cell : NamesCell) → LendsNames cell l → LendsNames cell m) → OnOk r (y ≡ committed_noted x) → OnErr r (y ≡ x) → HaveGone visible r was y m
gone visible (Ok u) was x y l m value lent ok err committed kept =
    let h = ok was lent in
    record { cell = names_kept h.known was; names = h.names; value = ap committed_noted value ∙ sym committed; ok = record { is = refl; all = h.all }; err = tt }
gone visible (Err e) was x y l m value lent ok err committed kept = record { cell = was; names = (err was lent).names; value = value ∙ sym kept; ok = tt; err = refl }

-- ---- it comes back

module _ (own m : View) (x : Noted) (held : HoldsNames x own) (cell : NamesCell) (has : AreNamesIn cell m) where
  pub back_bare : m.store ≡ [] → IsBare (kept_of Names m)
  back_bare away = record { files = without_none m.files ∙ has.files; names = ap (without (is_names Names)) has.names; away = without_none m.store ∙ away }

  pub back_beside : IsBeside m (kept_of Names m)
  back_beside = record { clients = without_none m.clients; asked = without_none m.asked; pools = without_none m.pools; seen = omega arith }

  pub back_names : (both_of (kept_of Names own) (given_of Names m)).names ≡ (tt, cell) ∷ []
  back_names = λ i. without (is_names Names) (held.alone.names i) ++ only (is_names Names) (has.names i)

  pub back_held : (y : Noted) → noted_in cell ≡ y → HoldsNames y (both_of (kept_of Names own) (given_of Names m))
  back_held y value = record {
    cell = cell;
    alone = record {
      clients = λ i. (without_none own.clients ∙ held.alone.clients) i ++ only_none m.clients i;
      asked = λ i. (without_none own.asked ∙ held.alone.asked) i ++ only_none m.asked i;
      files = λ i. (without_none own.files ∙ held.alone.files) i ++ only_none m.files i;
      pools = λ i. (without_none own.pools ∙ held.alone.pools) i ++ only_none m.pools i;
      names = back_names;
      store = λ i. (without_none own.store ∙ held.alone.store) i ++ only_none m.store i;
    };
    value = value;
  }

pub on_ok : {A B : Type 0} (r : Result (Unit {0}) StoreFault) → (A → B) → OnOk r A → OnOk r B
on_ok (Ok x) f a = f a
on_ok (Err e) f a = tt

pub on_err : {A B : Type 0} (r : Result (Unit {0}) StoreFault) → (A → B) → OnErr r A → OnErr r B
on_err (Ok x) f a = tt
on_err (Err e) f a = f a
