-- A file's hand has the names for a moment.
use Rattle.std.proofs.Common.{◌≡◌, ℕ, ◌||◌, inl, List, [], ◌∷◌, ◌++◌, is_some, sym, refl, ap, ◌∙◌, subst}
use Rattle.std.specs.Prelude.{IsSome}
use Rattle.std.specs.FinMap as fin
use Rattle.std.proofs.lemmas.List.{append-nil}
use Rattle.std.specs.FinSet as set
use Rattle.ufs_file_commits.specs.State.{DurableState}
use Rattle.ufs_model.specs.History.{tree_after}
use Rattle.ufs_model.specs.declared.data.PartName.TheVariants.{Names}
use Rattle.ufs_hand_laws.specs.Owned.{Has, each, only, without}
use Rattle.ufs_hand_laws.specs.Parts.{is_names}
use Rattle.ufs_joint.specs.Cells.{FileCell, NamesCell, Start, View, both_of, given_of, kept_of}
use Rattle.ufs_joint.specs.Known.{Knows}
use Rattle.ufs_joint.specs.Marks.{births_told, with_birth}
use Rattle.ufs_joint.specs.Whole.{HasFileCell, HasNamesCell}
use Rattle.ufs_turns.proofs.Hands.{later_left}
use Rattle.ufs_held.specs.Births.{HasStill, told_in, told_view}
use Rattle.ufs_held.specs.Held.{IsHeld, first_cell}
use Rattle.ufs_held.proofs.After.{first_held, only_none, without_none}

-- A file that a hand has beside the names is live: they tell of it.
is_live : (k : Start) (n0 : ℕ) (v : View) (knows : Knows k n0 v) (names : NamesCell) (number : ℕ) (c : FileCell) → Has (tt, names) v.names → Has (number, c) v.files → IsSome (fin.get names.value.held number)
is_live k n0 v knows names number c has_names has_file =
    let here : HasNamesCell knows.parts names = knows.around.cells.names tt names has_names in
    let its : HasFileCell knows.parts number c = knows.around.cells.files number c has_file in
    let of = knows.around.parts.files number c.value.file its.file_is in
    (λ i. is_some (fin.get (sym here.names i).held number)) ∙ knows.around.parts.names.told number
    ∙ ap is_some (ap (fin.get (tree_after knows.start knows.history).bytes) (sym of.0) ∙ of.1.has)

module _ (own lender : View) (x : DurableState) (held : IsHeld x own) (cell : NamesCell) (has : lender.names ≡ (tt, cell) ∷ []) where
  abbrev pub joined : View
  joined = both_of own (given_of Names lender)

  pub joined_names : joined.names ≡ (tt, cell) ∷ []
  joined_names = λ i. held.names i ++ only (is_names Names) (has i)

  joined_files : joined.files ≡ (x.file.file, held.cell) ∷ []
  joined_files = λ i. held.files i ++ only_none lender.files i

  pub live_told : (k : Start) (n0 : ℕ) (v : View) → v ≡ joined → Knows k n0 v → IsSome (fin.get cell.value.held x.file.file)
  live_told k n0 v is knows =
      is_live k n0 v knows cell x.file.file held.cell
      (subst (Has (tt, cell)) (sym (ap (λ (q : View). q.names) is ∙ joined_names)) (inl refl))
      (subst (Has (x.file.file, held.cell)) (sym (ap (λ (q : View). q.files) is ∙ joined_files)) (inl refl))

  abbrev pub told : View
  told = births_told cell joined

  pub told_is : told_view joined ≡ told
  told_is = λ i. told_in (joined_names i) joined

  abbrev next : FileCell
  next = with_birth cell.named x.file.file held.cell

  files_then : (kept_of Names told).files ≡ (x.file.file, next) ∷ []
  files_then = without_none told.files ∙ ap (each (with_birth cell.named)) (λ i. held.files i ++ only_none lender.files i)

  pub held_told : IsHeld x (kept_of Names told)
  held_told = record {
    cell = next;
    clients = without_none told.clients ∙ (λ i. held.clients i ++ only_none lender.clients i);
    asked = without_none told.asked ∙ (λ i. held.asked i ++ only_none lender.asked i);
    files = files_then;
    pools = without_none told.pools ∙ (λ i. held.pools i ++ only_none lender.pools i);
    names = ap (without (is_names Names)) joined_names;
    store = without_none told.store ∙ (λ i. held.store i ++ only_none lender.store i);
    value = held.value;
  }

  pub first_told : first_cell x (kept_of Names told).files ≡ record (first_cell x own.files) { born = (first_cell x own.files).born || set.contains cell.named x.file.file }
  first_told = ap (first_cell x) files_then ∙ ap (λ (c : FileCell). record c { born = c.born || set.contains cell.named x.file.file }) (sym (first_held x own held))

  pub calm_told : own.faults ≡ [] → (kept_of Names told).faults ≡ []
  calm_told calm = ap (λ (faults : List ℕ). faults ++ []) calm

  pub has_still : HasStill lender (both_of (kept_of Names lender) (given_of Names told))
  has_still = record {
    clients = (λ i. without_none lender.clients i ++ only_none told.clients i) ∙ append-nil lender.clients;
    asked = (λ i. without_none lender.asked i ++ only_none told.asked i) ∙ append-nil lender.asked;
    files = (λ i. without_none lender.files i ++ only_none told.files i) ∙ append-nil lender.files;
    pools = (λ i. without_none lender.pools i ++ only_none told.pools i) ∙ append-nil lender.pools;
    names = (λ i. without (is_names Names) (has i) ++ only (is_names Names) (joined_names i)) ∙ sym has;
    store = (λ i. without_none lender.store i ++ only_none told.store i) ∙ append-nil lender.store;
    faults = append-nil lender.faults;
    seen = later_left lender.seen told.seen;
  }
