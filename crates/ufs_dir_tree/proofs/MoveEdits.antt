-- What stands at each path once a name is moved: the new name is cleared, the old one is taken out, and what it stood
-- for gets the new one.
use Rattle.std.proofs.Common.{◌≡◌, ◌≢◌, ℕ, ◌+◌, ◌-◌, ◌<◌, ◌⊎◌, inl, inr, List, [], ◌∷◌, ◌++◌, Some, None, IsSome, length, take, ap, sym, refl, ◌∙◌, subst, append_assoc, arith, add-one}
use Rattle.std.specs.Option.{option_map}
use Rattle.std.proofs.Math.Seq.{take-length, take-suc}
use Rattle.std.proofs.lemmas.Bool.{cases_eq}
use Rattle.std.proofs.lemmas.List.{append-nil}
use Rattle.ufs_layout.specs.DentryForm.{DentryForm}
use Rattle.ufs_dirs.specs.Directory.{Directory, entry_of}
use Rattle.ufs_dir_tree.specs.DirTable.{DirTable, IsMet, IsReached, slots_at, blocks_at, found_of, walk_from, found_at}
use Rattle.ufs_dir_tree.specs.DirCalls.{MayMove, MovesFounds, last_name, names_above}
use Rattle.ufs_dir_tree.specs.DirEdits.{SetsEntry, ClearsName, IsLoose}
use Rattle.ufs_dir_tree.specs.declared.found.Found.{Found}
use Rattle.ufs_dir_tree.specs.declared.found.Found.TheVariants.{Dir}
use Rattle.ufs_dir_tree.proofs.Prefixes.{Begins, NotBegins, begins_or_not, one_name, one_begins, no_more}
use Rattle.ufs_path.specs.Names.{IsName}
use Rattle.ufs_dir_tree.proofs.WalkedTables.{IsWalked, walked}
use Rattle.ufs_dir_tree.proofs.WalkLemmas.{none_below}
use Rattle.ufs_dir_tree.proofs.WalkEdits.{met_off}
use Rattle.ufs_dir_tree.proofs.EntryEdits.{entry_was, blocks-same, met_else}
use Rattle.ufs_dir_tree.proofs.DetachLemmas.{gone, moved_below, detached_table, detached_loose}
use Rattle.ufs_dir_tree.proofs.AttachLemmas.{now_below, attached_table}
use Rattle.ufs_dir_tree.proofs.FoundEdits.{entry_met, nothing_below}

-- neither of the two names is at or below the other
module _ (t : DirTable) (from to : List (List ℕ)) (may : MayMove t from to) where
  not_above : (rest : List (List ℕ)) → from ≢ to ++ rest
  not_above [] e = may.outside [] (sym (append-nil to) ∙ sym e ∙ sym (append-nil from))
  not_above (z ∷ zs) e = let none = ap (found_at t) e ∙ nothing_below t to may.replaced z zs in let some = subst IsSome none may.stands in cc

  pub apart : (a b : List (List ℕ)) → from ++ a ≢ to ++ b
  apart a b e = by (one_begins from to a b e)
    where
      by : Begins from to ⊎ Begins to from → ⊥
      by (inl below) = may.outside below.0 below.1
      by (inr above) = not_above above.0 above.1

pub ends_at : (t : DirTable) (from to : List (List ℕ)) (f : List (List ℕ)) (x : List ℕ) (g : List (List ℕ)) (y : List ℕ) → from ≡ f ++ x ∷ [] → to ≡ g ++ y ∷ [] → MayMove t from to → MayMove t (f ++ x ∷ []) (g ++ y ∷ [])
ends_at t from to f x g y ef eg may = subst (λ to. MayMove t (f ++ x ∷ []) to) eg (subst (λ from. MayMove t from to) ef may)

-- a name above another isn't below a third that the other isn't below
above_off : (above : List (List ℕ)) (x : List ℕ) (names : List (List ℕ)) → NotBegins names (above ++ x ∷ []) → NotBegins names above
above_off above x names off rest e = off (rest ++ x ∷ []) (ap (λ l. l ++ x ∷ []) e ∙ append_assoc names rest (x ∷ []))

-- a path is the names above its last one, and that one
pub ends : (path : List (List ℕ)) → path ≢ [] → path ≡ names_above path ++ last_name path ∷ []
ends [] some = absurd (some refl)
ends (x ∷ xs) some =
    let last = length (x ∷ xs) - 1 in
    let within : last < length (x ∷ xs) = omega arith in
    let next : length (x ∷ xs) ≡ last + 1 = omega arith in
    sym (take-length (x ∷ xs)) ∙ ap (λ n. take n (x ∷ xs)) (next ∙ add-one last) ∙ take-suc (x ∷ xs) last [] within

-- ---- the new name is cleared

module _ (t : DirTable) (from to g : List (List ℕ)) (y : List ℕ) (new_dir : ℕ) (may : MayMove t from to) (ends_to : to ≡ g ++ y ∷ []) (met_g : found_at t g ≡ Some (Dir new_dir)) (cleared : DirTable) (clears : ClearsName t cleared new_dir y) where
  met_still : (names : List (List ℕ)) → NotBegins to names → found_at cleared names ≡ found_at t names
  met_still names off = met_off t cleared new_dir y clears.others (walked t clears.before) g met_g names (λ rest e. off rest (e ∙ ap (λ l. l ++ rest) (sym ends_to)))

  from_stays : (rest : List (List ℕ)) → found_at cleared (from ++ rest) ≡ found_at t (from ++ rest)
  from_stays rest = met_still (from ++ rest) (λ more e. apart t from to may rest more e)

  pub target_met : found_at cleared g ≡ Some (Dir new_dir)
  target_met = met_still g (λ rest e. no_more g y rest (e ∙ ap (λ l. l ++ rest) ends_to)) ∙ met_g

  pub target_bare : found_at cleared to ≡ None
  target_bare = ap (found_at cleared) ends_to ∙ entry_met cleared g y new_dir target_met ∙ ap (option_map found_of) clears.this

  pub source_met : (f : List (List ℕ)) (x : List ℕ) (old_dir : ℕ) → from ≡ f ++ x ∷ [] → found_at t f ≡ Some (Dir old_dir) → found_at cleared f ≡ Some (Dir old_dir)
  source_met f x old_dir ends_from met_f = met_still f (above_off f x to (λ rest e. apart t from to may [] rest (append-nil from ∙ ends_from ∙ e))) ∙ met_f

  pub may_still : MayMove cleared from to
  may_still = record {
    stands = subst IsSome (sym (ap (found_at cleared) (sym (append-nil from)) ∙ from_stays [] ∙ ap (found_at t) (append-nil from))) may.stands;
    from_below = may.from_below;
    to_below = may.to_below;
    outside = may.outside;
    replaced = λ i at. let none = target_bare in absurd cc;
  }

  pub moves_on : (new : DirTable) → MovesFounds (found_at cleared) (found_at new) from to → MovesFounds (found_at t) (found_at new) from to
  moves_on new moves = record {
    moved = λ rest. moves.moved rest ∙ from_stays rest;
    gone = moves.gone;
    others = λ other off_from off_to. moves.others other off_from off_to ∙ met_still other off_to;
  }

-- ---- the old name is taken out

module _ (t : DirTable) (f : List (List ℕ)) (x : List ℕ) (g : List (List ℕ)) (y : List ℕ) (old_dir new_dir : ℕ) (may : MayMove t (f ++ x ∷ []) (g ++ y ∷ [])) (met_f : found_at t f ≡ Some (Dir old_dir)) (met_g : found_at t g ≡ Some (Dir new_dir)) (is : IsWalked t) (absent : entry_of (slots_at t new_dir) y ≡ None)
    (left : List Directory) (takes : SetsEntry t.dirs left old_dir x None) where
  abbrev from : List (List ℕ)
  from = f ++ x ∷ []

  abbrev to : List (List ℕ)
  to = g ++ y ∷ []

  abbrev between : DirTable
  between = record { dirs = left; free = t.free }

  from_off : (rest : List (List ℕ)) → NotBegins to (from ++ rest)
  from_off rest more = apart t from to may rest more

  met2 : (names : List (List ℕ)) → NotBegins from names → found_at between names ≡ found_at t names
  met2 names off = met_else t left old_dir x None takes is f met_f names off

  gone2 : (rest : List (List ℕ)) → found_at between (from ++ rest) ≡ None
  gone2 rest = gone t left old_dir x takes is f met_f rest

  pub met2_g : found_at between g ≡ Some (Dir new_dir)
  met2_g = met2 g (above_off g y from may.outside) ∙ met_g

  is2 : IsWalked between
  is2 = detached_table t left old_dir x takes is f met_f

  pub absent2 : entry_of (slots_at between new_dir) y ≡ None
  absent2 = by (cases_eq new_dir old_dir) (one_name y x)
    where
      by : (new_dir ≡ old_dir) ⊎ (new_dir ≢ old_dir) → (y ≡ x) ⊎ (y ≢ x) → entry_of (slots_at between new_dir) y ≡ None
      by (inr other) same = ap (λ (d : Directory). entry_of d.slots y) (takes.one.others new_dir other) ∙ absent
      by (inl at) (inl same) = (λ k. entry_of (slots_at between (at k)) (same k)) ∙ takes.names.this
      by (inl at) (inr other) = ap (λ j. entry_of (slots_at between j) y) at ∙ takes.names.others y other ∙ ap (λ j. entry_of (slots_at t j) y) (sym at) ∙ absent

  -- ---- what it stood for gets the new name

  module _ (e named : DentryForm) (was : entry_of (slots_at t old_dir) x ≡ Some e) (same : found_of e ≡ found_of named) (given : List Directory) (gives : SetsEntry left given new_dir y (Some named)) where
    abbrev moved : DirTable
    moved = record { dirs = given; free = t.free }

    loose_named : IsLoose between (found_of named)
    loose_named = subst (λ (n : Found). IsLoose between n) same (detached_loose t left old_dir x takes is f met_f e was)

    met3 : (names : List (List ℕ)) → NotBegins to names → found_at moved names ≡ found_at between names
    met3 names off = met_else between given new_dir y (Some named) gives is2 g met2_g names off

    moved3 : (rest : List (List ℕ)) → found_at moved (to ++ rest) ≡ found_at t (from ++ rest)
    moved3 rest =
        now_below between given new_dir y named gives is2 g met2_g loose_named rest
        ∙ ap (λ n. walk_from between (Some n) rest) (sym same)
        ∙ moved_below t left old_dir x takes is f met_f e was rest

    pub moves_founds : MovesFounds (found_at t) (found_at moved) from to
    moves_founds = record {
      moved = λ rest. moved3 rest;
      gone = λ rest. met3 (from ++ rest) (from_off rest) ∙ gone2 rest;
      others = λ other off_from off_to. met3 other off_to ∙ met2 other off_from;
    }

    pub moved_walked : IsName y → IsWalked moved
    moved_walked allowed = attached_table between given new_dir y named gives is2 g met2_g loose_named allowed

    pub moved_blocks : (i : ℕ) → blocks_at moved i ≡ blocks_at t i
    moved_blocks i = blocks-same between given new_dir y (Some named) gives i ∙ blocks-same t left old_dir x None takes i

    -- what was met is met, where it stood or where it was moved to
    still_met : (i : ℕ) → IsMet t i → IsMet moved i
    still_met i met = by (begins_or_not from met.0) (begins_or_not to met.0)
      where
        by : Begins from met.0 ⊎ NotBegins from met.0 → Begins to met.0 ⊎ NotBegins to met.0 → IsMet moved i
        by (inl begins) there = (to ++ begins.0, moved3 begins.0 ∙ ap (found_at t) (sym begins.1) ∙ met.1)
        by (inr off) (inl begins) =
            let none = ap (found_at t) begins.1 ∙ none_below t to begins.0 (entry_met t g y new_dir met_g ∙ ap (option_map found_of) absent) in
            let stood = met.1 in
            absurd cc
        by (inr off) (inr away) = (met.0, met3 met.0 away ∙ met2 met.0 off ∙ met.1)

    was_met : IsReached t → (i : ℕ) (name : List ℕ) → ((i ≡ old_dir) × (name ≡ x)) ⊎ IsSome (entry_of (slots_at t i) name) → IsSome (entry_of (slots_at between i) name) → IsMet moved i
    was_met reached i name (inl here) some = let none = (λ k. entry_of (slots_at between (here.0 k)) (here.1 k)) ∙ takes.names.this in let gone = subst IsSome none some in absurd cc
    was_met reached i name (inr old) some = still_met i (reached i name old)

    pub moved_reached : IsReached t → IsReached moved
    moved_reached reached i name some = by (entry_was between given new_dir y (Some named) gives i name some)
      where
        by : ((i ≡ new_dir) × (name ≡ y)) ⊎ IsSome (entry_of (slots_at between i) name) → IsMet moved i
        by (inl here) = (g, met3 g (λ rest. no_more g y rest) ∙ met2_g ∙ ap (λ j. Some (Dir j)) (sym here.0))
        by (inr old) = was_met reached i name (entry_was t left old_dir x None takes i name old) old
