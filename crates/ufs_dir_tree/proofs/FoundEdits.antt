-- What stands at each path once a name is given or taken.
use Rattle.std.proofs.Common.{◌≡◌, ◌≢◌, ℕ, ◌-◌, length, get_or, arith, length-append, ◌⊎◌, inl, inr, List, [], ◌∷◌, ◌++◌, Option, Some, None, IsSome, ap, sym, refl, ◌∙◌, subst}
use Rattle.std.proofs.Math.Seq.{get_or-append_seam}
use Rattle.std.specs.Option.{option_map}
use Rattle.std.proofs.lemmas.List.{append-nil}
use Rattle.ufs_layout.specs.DentryForm.{DentryForm}
use Rattle.ufs_dirs.specs.Directory.{Directory, entry_of}
use Rattle.ufs_dir_tree.specs.DirTable.{DirTable, InodeSet, IsDirTable, slots_at, found_of, walk_from, found_at}
use Rattle.ufs_dir_tree.specs.DirCalls.{last_name, IsBare, MayGo, SetsFound}
use Rattle.ufs_dir_tree.specs.DirEdits.{SetsEntry, SameEntries, IsLoose, NothingFrom, ClearsName}
use Rattle.ufs_dir_tree.specs.declared.found.Found.{Found}
use Rattle.ufs_dir_tree.specs.declared.found.Found.TheVariants.{Dir, File}
use Rattle.ufs_dir_tree.proofs.Prefixes.{Begins, NotBegins, begins_or_not, no_more}
use Rattle.ufs_dir_tree.proofs.WalkLemmas.{walk-append, walk_none, none_below}
use Rattle.ufs_dir_tree.proofs.WalkEdits.{walk-same, met_off}
use Rattle.ufs_dir_tree.proofs.EntryEdits.{met_else}
use Rattle.ufs_dir_tree.proofs.AttachLemmas.{now_below}
use Rattle.ufs_dir_tree.proofs.WalkedTables.{walked}

pub some_before : {A B : Type 0} (f : A → B) (o : Option A) → IsSome (option_map f o) → IsSome o
some_before f (Some x) e = refl
some_before f None e = e

pub some_after : {A B : Type 0} (f : A → B) (o : Option A) → IsSome o → IsSome (option_map f o)
some_after f (Some x) e = refl
some_after f None e = e

pub none_before : {A B : Type 0} (f : A → B) (o : Option A) → option_map f o ≡ None → o ≡ None
none_before f (Some x) e = cc
none_before f None e = refl

-- the last of a path's names
pub last_is : (path above : List (List ℕ)) (x : List ℕ) → path ≡ above ++ x ∷ [] → last_name path ≡ x
last_is path above x ends = ap last_name ends ∙ ap (λ (n : ℕ). get_or (above ++ x ∷ []) n []) (behind above) ∙ get_or-append_seam above x [] []
  where
    behind : (names : List (List ℕ)) → length (names ++ x ∷ []) - 1 ≡ length names
    behind names = omega (arith, length-append names (x ∷ []))

module _ (t : DirTable) where
  -- what stands at a name of a directory
  pub entry_met : (above : List (List ℕ)) (x : List ℕ) (p : ℕ) → found_at t above ≡ Some (Dir p) → found_at t (above ++ x ∷ []) ≡ option_map found_of (entry_of (slots_at t p) x)
  entry_met above x p met = walk-append t (Some (Dir 1)) above (x ∷ []) ∙ ap (λ at. walk_from t at (x ∷ [])) met

  module _ (path above : List (List ℕ)) (x : List ℕ) (p : ℕ) (ends : path ≡ above ++ x ∷ []) (met : found_at t above ≡ Some (Dir p)) where
    pub path_met : found_at t path ≡ option_map found_of (entry_of (slots_at t p) x)
    path_met = ap (found_at t) ends ∙ entry_met above x p met

    pub entry_stands : IsSome (found_at t path) → IsSome (entry_of (slots_at t p) x)
    entry_stands some = some_before found_of (entry_of (slots_at t p) x) (subst IsSome path_met some)

    pub entry_absent : found_at t path ≡ None → entry_of (slots_at t p) x ≡ None
    entry_absent none = none_before found_of (entry_of (slots_at t p) x) (sym path_met ∙ none)

    pub path_absent : entry_of (slots_at t p) x ≡ None → found_at t path ≡ None
    path_absent none = path_met ∙ ap (option_map found_of) none

    pub entry_may_go : MayGo t path → (i : ℕ) → option_map found_of (entry_of (slots_at t p) x) ≡ Some (Dir i) → IsBare (slots_at t i)
    entry_may_go may_go i e = may_go i (path_met ∙ e)

  pub below_file : (f : ℕ) → NothingFrom t (Some (File f))
  below_file f y ys = walk_none t ys

  pub below_bare : (i : ℕ) → IsBare (slots_at t i) → NothingFrom t (Some (Dir i))
  below_bare i bare y ys = ap (λ e. walk_from t (option_map found_of e) ys) (bare y) ∙ walk_none t ys

  below_what_goes : (at : Option Found) → ((i : ℕ) → at ≡ Some (Dir i) → IsBare (slots_at t i)) → NothingFrom t at
  below_what_goes None may_go y ys = walk_none t ys
  below_what_goes (Some (Dir i)) may_go y ys = below_bare i (may_go i refl) y ys
  below_what_goes (Some (File f)) may_go y ys = walk_none t ys

  pub nothing_below : (path : List (List ℕ)) → MayGo t path → (y : List ℕ) (ys : List (List ℕ)) → found_at t (path ++ y ∷ ys) ≡ None
  nothing_below path may_go y ys = walk-append t (Some (Dir 1)) path (y ∷ ys) ∙ below_what_goes (found_at t path) may_go y ys

pub met_after : (old t : DirTable) → SameEntries old.dirs t.dirs → (names : List (List ℕ)) → found_at t names ≡ found_at old names
met_after old t same names = walk-same old t same (Some (Dir 1)) names

-- free inodes make no difference to what is met
pub met_by_dirs : (t : DirTable) (dirs : List Directory) (free : InodeSet) → t.dirs ≡ dirs → (names : List (List ℕ)) → found_at t names ≡ found_at (record { dirs = dirs; free = free }) names
met_by_dirs t dirs free e names = walk-same (record { dirs = dirs; free = free }) t (λ i name. ap (λ (l : List Directory). entry_of (slots_at (record { dirs = l; free = free }) i) name) e) (Some (Dir 1)) names

-- all but the path itself: below it nothing stands before or after, and elsewhere what stood
others_by : (old new : DirTable) (path : List (List ℕ))
    → ((names : List (List ℕ)) → NotBegins path names → found_at new names ≡ found_at old names)
    → ((y : List ℕ) (ys : List (List ℕ)) → found_at new (path ++ y ∷ ys) ≡ None)
    → ((y : List ℕ) (ys : List (List ℕ)) → found_at old (path ++ y ∷ ys) ≡ None)
    → (other : List (List ℕ)) → other ≢ path → found_at new other ≡ found_at old other
others_by old new path off after before other apart = by (begins_or_not path other)
  where
    below : (rest : List (List ℕ)) → other ≡ path ++ rest → found_at new other ≡ found_at old other
    below [] e = absurd (apart (e ∙ append-nil path))
    below (y ∷ ys) e = ap (found_at new) e ∙ after y ys ∙ sym (before y ys) ∙ ap (found_at old) (sym e)

    by : Begins path other ⊎ NotBegins path other → found_at new other ≡ found_at old other
    by (inl begins) = below begins.0 begins.1
    by (inr not) = off other not

-- a name stands for nothing now, and nothing stood below
pub cleared_found : (t new : DirTable) (path : List (List ℕ)) → MayGo t path → ((names : List (List ℕ)) → NotBegins path names → found_at new names ≡ found_at t names) → found_at new path ≡ None → SetsFound (found_at t) (found_at new) path None
cleared_found t new path may_go off none = record {
  this = none;
  others = λ other apart. others_by t new path off (λ y ys. none_below new path (y ∷ ys) none) (nothing_below t path may_go) other apart;
}

module _ (t new : DirTable) (p : ℕ) (x : List ℕ) (clears : ClearsName t new p x) (above : List (List ℕ)) (met : found_at t above ≡ Some (Dir p)) where
  pub cleared_off : (names : List (List ℕ)) → NotBegins (above ++ x ∷ []) names → found_at new names ≡ found_at t names
  cleared_off names off = met_off t new p x clears.others (walked t clears.before) above met names off

  pub cleared_above : found_at new above ≡ Some (Dir p)
  cleared_above = cleared_off above (λ rest. no_more above x rest) ∙ met

  pub cleared : (path : List (List ℕ)) → path ≡ above ++ x ∷ [] → MayGo t path → SetsFound (found_at t) (found_at new) path None
  cleared path ends may_go =
      cleared_found t new path may_go (λ names off. cleared_off names (subst (λ path. NotBegins path names) ends off))
      (ap (found_at new) ends ∙ entry_met new above x p cleared_above ∙ ap (option_map found_of) clears.this)

-- a name is given
module _ (old t new : DirTable) (p : ℕ) (above : List (List ℕ)) (x : List ℕ) (path : List (List ℕ)) (e : DentryForm) (same : SameEntries old.dirs t.dirs) (sets : SetsEntry t.dirs new.dirs p x (Some e)) (is : IsDirTable t)
    (met : found_at old above ≡ Some (Dir p)) (ends : path ≡ above ++ x ∷ []) (absent : found_at old path ≡ None) (loose : IsLoose t (found_of e)) (bare : NothingFrom t (Some (found_of e))) where
  abbrev given : DirTable
  given = record { dirs = new.dirs; free = t.free }

  abbrev there : List (List ℕ)
  there = above ++ x ∷ []

  as_before : (names : List (List ℕ)) → found_at t names ≡ found_at old names
  as_before names = walk-same old t same (Some (Dir 1)) names

  met_then : found_at t above ≡ Some (Dir p)
  met_then = as_before above ∙ met

  given_found : SetsFound (found_at old) (found_at given) there (Some (found_of e))
  given_found = record {
    this = ap (found_at given) (sym (append-nil there)) ∙ now_below t new.dirs p x e sets (walked t is) above met_then loose [];
    others = λ other apart. others_by old given there
        (λ names off. met_else t new.dirs p x (Some e) sets (walked t is) above met_then names off ∙ as_before names)
        (λ y ys. now_below t new.dirs p x e sets (walked t is) above met_then loose (y ∷ ys) ∙ bare y ys)
        (λ y ys. none_below old there (y ∷ ys) (ap (found_at old) (sym ends) ∙ absent)) other apart;
  }

  pub added_found : SetsFound (found_at old) (found_at new) path (Some (found_of e))
  added_found =
      let at_new : SetsFound (found_at old) (found_at new) there (Some (found_of e)) = record {
        this = met_by_dirs new new.dirs t.free refl there ∙ given_found.this;
        others = λ other apart. met_by_dirs new new.dirs t.free refl other ∙ given_found.others other apart;
      } in
      subst (λ path. SetsFound (found_at old) (found_at new) path (Some (found_of e))) (sym ends) at_new
