-- The names' cell goes to the hand that comes for a checkpoint, with the files' own, and back.
use Rattle.std.proofs.Common.{◌≡◌, ℕ, ◌+◌, ◌≤◌, ◌++◌, eqb, List, [], ◌∷◌, inl, inr, sym, refl, ap, ◌∙◌, subst}
use Rattle.std.specs.Prelude.{OnErr, OnOk, Result, Ok, Err}
use Rattle.std.proofs.lemmas.List.{append-nil}
use Rattle.ufs_bitmap.specs.Blocks.{BlockSet}
use Rattle.ufs_hand_laws.specs.Owned.{Has, count}
use Rattle.ufs_held.specs.Together.{AreApartFrom, HasThemToo, under_numbers}
use Rattle.ufs_held.proofs.After.{only_none}
use Rattle.ufs_joint.specs.Cells.{FileCell, NamesCell, View, both_of, given_of}
use Rattle.ufs_joint.specs.NamesHands.{AreNumberedOnce}
use Rattle.ufs_model.specs.declared.data.PartName.TheVariants.{Names}
use Rattle.ufs_noted.specs.Noted.{Noted, reclaimed_noted}
use Rattle.ufs_store.specs.declared.fault.StoreFault.{StoreFault}
use Rattle.ufs_turns.specs.AllLent.{LendsAll, without_dropped}
use Rattle.ufs_turns.specs.Lent.{IsBare}
use Rattle.ufs_turns.specs.NamesLent.{AreNamesIn, LendsNames}
use Rattle.ufs_held_names.specs.HeldNames.{HoldsNames, noted_in}
use Rattle.ufs_held_names.specs.Reclaims.{IsReclaimed, MayReclaim}

-- What stands under a number is one of the files.
numbered_has : (cells : List FileCell) (file : ℕ) (c : FileCell) → Has (file, c) (under_numbers cells) → Has c cells
numbered_has [] file c has = absurd has
numbered_has (x ∷ cells) file c (inl is) = inl (ap (λ (p : ℕ × FileCell). p.1) is)
numbered_has (x ∷ cells) file c (inr has) = inr (numbered_has cells file c has)

-- ---- it goes

module _ (own guest : View) (x : Noted) (held : HoldsNames x own) (bare : IsBare guest) where
  -- So the two together lend all that a checkpoint wants.
  pub lends_all : (cells : List FileCell) (joined v : View) → LendsNames held.cell joined → MayReclaim held.cell cells → HasThemToo cells joined v → LendsAll held.cell v
  lends_all cells joined v lends may too =
      let files : v.files ≡ under_numbers cells = too.files ∙ ap (λ (fs : List (ℕ × FileCell)). fs ++ under_numbers cells) lends.names.files in
      record {
        names_are = too.names ∙ lends.names.names;
        files = subst AreNumberedOnce (sym files) may.once;
        live = λ file is. let found = may.live file is in (found.0, subst (Has (file, found.0)) (sym files) found.1);
        committed = λ file c has. may.committed c (numbered_has cells file c (subst (Has (file, c)) files has));
        noted = may.noted;
        fresh = may.fresh;
      }

  pub apart_lent : (cells : List FileCell) → AreApartFrom guest cells → AreApartFrom (both_of guest (given_of Names own)) cells
  apart_lent cells apart n =
      subst (λ (q : List (ℕ × FileCell) × List (ℕ × BlockSet)). count eqb n (q.0 ++ under_numbers cells) + count eqb n q.1 ≤ 1)
      (λ i. (sym (ap (λ ps. guest.files ++ ps) (only_none own.files) ∙ append-nil guest.files) i, sym (ap (λ ps. guest.pools ++ ps) (only_none own.pools) ∙ append-nil guest.pools) i))
      (apart n)

-- ---- the checkpoint was made, or not

-- The hand has the cell, which drops nothing any more or is as it was.
pub record HaveComeBack (r : Result (Unit {0}) StoreFault) (was : NamesCell) (y : Noted) (m : View) : Type 0 where
  pub cell : NamesCell
  pub names : AreNamesIn cell m
  pub value : noted_in cell ≡ y
  pub ok : OnOk r (IsReclaimed was cell)
  pub err : OnErr r (cell ≡ was)

pub come_back : (r : Result (Unit {0}) StoreFault) (was : NamesCell) (x y : Noted) (l m : View) → noted_in was ≡ x → LendsNames was l → m.files ≡ l.files
    → OnOk r ((y ≡ reclaimed_noted x) × ((names : NamesCell) → l.names ≡ (tt, names) ∷ [] → m.names ≡ (tt, without_dropped names) ∷ [])) → OnErr r ((y ≡ x) × (m.names ≡ l.names)) → HaveComeBack r was y m
come_back (Ok u) was x y l m value lent own ok err = record {
  cell = without_dropped was;
  names = record { files = own ∙ lent.names.files; names = ok.1 was lent.names.names };
  value = ap reclaimed_noted value ∙ sym ok.0;
  ok = refl;
  err = tt;
}
come_back (Err e) was x y l m value lent own ok err = record { cell = was; names = record { files = own ∙ lent.names.files; names = err.1 ∙ lent.names.names }; value = value ∙ sym err.0; ok = tt; err = refl }
