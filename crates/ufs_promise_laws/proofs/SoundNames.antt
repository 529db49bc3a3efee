-- The names of a server are sound.
use Rattle.std.proofs.Common.{◌≡◌, ◌≢◌, ℕ, ◌+◌, ◌<◌, ◌≤◌, ◌⊎◌, inl, inr, List, [], ◌∷◌, ◌++◌, Bool, true, false, Option, Some, None, length, ap, sym, refl, ◌∙◌, subst, arith}
use Rattle.std.specs.Prelude.{IsSome, ◌==◌, if◌then◌else◌}
use Rattle.std.specs.Option.{option_map}
use Rattle.std.specs.List.{slice_get}
use Rattle.std.proofs.lemmas.Bool.{eqb-true}
use Rattle.ufs_bitmap.specs.Blocks.{BlockSet}
use Rattle.ufs_dir_tree.specs.DirTable.{DirTable, IsDirTable, found_at, found_of, slots_at, step}
use Rattle.ufs_dir_tree.specs.Steps.{DirState, Step, after_all, table_after_all}
use Rattle.ufs_dir_tree.specs.declared.found.Found.{Found}
use Rattle.ufs_dir_tree.specs.declared.found.Found.TheVariants.{Dir, File}
use Rattle.ufs_dir_tree.proofs.NamedPlaces.{met_by_place}
use Rattle.ufs_dir_tree.proofs.WalkLemmas.{walk-append}
use Rattle.ufs_layout.specs.DentryForm.{DentryForm, is_named}
use Rattle.ufs_layout.specs.declared.geometry.Geometry.{Geometry}
use Rattle.ufs_model.proofs.Facts.Lookups.{from_some}
use Rattle.ufs_promise_laws.specs.Held.{HasName, HasSoundNames}
use Rattle.ufs_promise_laws.specs.Names.{IsWellNamed, TablesNameSoundly}
use Rattle.ufs_promise_laws.proofs.TableNames.{stands_for}
use Rattle.ufs_name_tree.specs.NameTable.{IsNameTable, NameTable, file_at}
use Rattle.ufs_name_tree.specs.Notes.{AreKindsOf, GoesNoted, HasKinds, IsOfKind, IsStateOf}
use Rattle.ufs_name_tree.proofs.StepOrder.{all_after}

-- A walk meets what a name stands for.
meets : (t : DirTable) → IsDirTable t → (i place : ℕ) (d : DentryForm) → slice_get (slots_at t i) place ≡ Some d → is_named d ≡ true → (names : List (List ℕ)) × (found_at t names ≡ Some (found_of d))
meets t is i place d at named =
    let met = met_by_place t is i place d at named in (
      met.0 ++ d.name ∷ [],
      walk-append t (Some (Dir 1)) met.0 (d.name ∷ []) ∙ ap (λ (o : Option Found). step t o d.name) met.1
          ∙ ap (option_map found_of) (stands_for (slots_at t i) (is.whole i).names_once place d at named),
    )

module _ (n : NameTable) (is : IsNameTable n) (kinds : ℕ → ℕ) (of : AreKindsOf n kinds) (i place : ℕ) (d : DentryForm) (at : slice_get (slots_at n.dirs i) place ≡ Some d) (named : is_named d ≡ true) where
  -- a file is of kind 1
  file_kind : (d.kind == 2) ≡ false → kinds d.inode ≡ 1
  file_kind off =
      let walk = meets n.dirs is.table i place d at named in
      let found : found_at n.dirs walk.0 ≡ Some (File d.inode) = walk.1 ∙ ap (λ (b : Bool). Some (if b then Dir d.inode else File d.inode)) off in
      let numbered = from_some (file_at n d.inode) (is.named walk.0 d.inode found) in
      of.file d.inode numbered.0 numbered.1

  -- and a directory of kind 2
  dir_kind : (d.kind == 2) ≡ true → kinds d.inode ≡ 2
  dir_kind on = let walk = meets n.dirs is.table i place d at named in of.dir d.inode walk.0 (walk.1 ∙ ap (λ (b : Bool). Some (if b then Dir d.inode else File d.inode)) on)

  -- where the inode of a name is of its kind, it is of one of the two
  pub one_kind : kinds d.inode ≡ d.kind → IsOfKind d
  one_kind same = by (d.kind == 2) refl
    where
      by : (b : Bool) → (d.kind == 2) ≡ b → IsOfKind d
      by true is_dir = inr (eqb-true d.kind 2 is_dir)
      by false unlike = inl (sym same ∙ file_kind unlike)

  -- and conversely
  pub kind_here : IsOfKind d → (kinds d.inode ≡ d.kind) × (d.kind ≢ 0)
  kind_here (inl one) = (file_kind (ap (λ (k : ℕ). k == 2) one) ∙ sym one, λ none. let no : 1 ≡ 0 = sym one ∙ none in omega (arith, no))
  kind_here (inr two) = (dir_kind (ap (λ (k : ℕ). k == 2) two) ∙ sym two, λ none. let no : 2 ≡ 0 = sym two ∙ none in omega (arith, no))

well_named : (n : NameTable) → IsNameTable n → (kinds : ℕ → ℕ) → AreKindsOf n kinds → HasKinds n.dirs → IsWellNamed n.dirs kinds
well_named n is kinds of has = record {
  dirs = is.table.whole;
  met = met_by_place n.dirs is.table;
  kind = λ i place d at named. kind_here n is kinds of i place d at named (has i place d at named);
}

-- ---- behind a change

module _ (g : Geometry) (tables : TablesNameSoundly g) (old new : NameTable) (was : IsNameTable old) (is : IsNameTable new) (pool : BlockSet) (go : GoesNoted old new pool)
    (counted : length old.dirs.dirs ≡ g.inodes + 1) (kept : length new.dirs.dirs ≡ length old.dirs.dirs) (s : DirState) (state : IsStateOf old pool s) (sound : HasSoundNames g s) where
  -- sound names have the two kinds
  has_kinds : HasKinds old.dirs
  has_kinds i place d at named =
      let met = met_by_place old.dirs was.table i place d at named in
      let used = was.table.met met.0 (Dir i) met.1 in
      let from = used.from_one in let within = used.within in
      let stands : HasName g s i place d = record {
        in_range = record { from_one = from; within = omega (arith, within, counted) };
        there = ap (λ (t : DirTable). slice_get (slots_at t i) place) state.table ∙ at;
        named = named;
      } in
      one_kind old was s.kinds state.kinds i place d at named (sound.fit i place d stands).kind

  abbrev next : DirState
  next = after_all go.steps s

  table_is : next.table ≡ new.dirs
  table_is = all_after s go.steps ∙ ap (table_after_all go.steps) state.table ∙ sym go.dirs

  pub sound_then : HasSoundNames g next
  sound_then =
      tables next (ap (λ (t : DirTable). length t.dirs) table_is ∙ kept ∙ counted) (subst IsDirTable (sym table_is) is.table)
      (subst (λ (t : DirTable). IsWellNamed t next.kinds) (sym table_is) (well_named new is next.kinds (go.kinds s state) (go.named has_kinds)))
