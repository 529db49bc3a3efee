-- The notes tell what each call makes of the names.
use Rattle.std.proofs.Common.{◌≡◌, ◌≢◌, ℕ, zero, suc, ◌<◌, get_or, ◌⊎◌, inl, inr, List, [], ◌∷◌, ◌++◌, Option, Some, None, IsSome, is_some, length, ap, sym, refl, ◌∙◌, subst, arith, length-set, get_or-set_same}
use Rattle.std.specs.FinSet as set
use Rattle.std.specs.Prelude.{IfSome, IfNone, Bool, true, false, ◌==◌, if◌then◌else◌}
use Rattle.std.proofs.Common.{set as set_at}
use Rattle.std.proofs.lemmas.Bool.{cases_eq}
use Rattle.ufs_bitmap.specs.Blocks.{BlockSet}
use Rattle.ufs_layout.specs.DentryForm.{DentryForm, free_slot}
use Rattle.ufs_layout.specs.declared.records.LogRecord.{LogRecord}
use Rattle.ufs_layout.specs.declared.records.LogRecord.TheVariants.{Free}
use Rattle.ufs_dirs.specs.Directory.{Directory, IsDirectory}
use Rattle.ufs_dirs.specs.Changes.{with_entry}
use Rattle.ufs_dirs.specs.declared.Slot.{Slot}
use Rattle.ufs_dir_tree.specs.DirTable.{DirTable, IsDirTable, no_dir, dir_at, blocks_at, found_at, found_of, inode_of}
use Rattle.ufs_dir_tree.specs.DirCalls.{IsUnmet, Frees}
use Rattle.ufs_dir_tree.specs.Steps.{DirState, Born, Grown, Put, Freed, GoesBy, MayMakeAll, grown, with_kind, table_after, table_after_all, adding, growing, clearing}
use Rattle.ufs_dir_tree.specs.declared.found.Found.{Found}
use Rattle.ufs_dir_tree.specs.declared.found.Found.TheVariants.{Dir, File}
use Rattle.ufs_ilog.specs.Changes.{in_order}
use Rattle.ufs_base.specs.declared.lack.Lack.{Lack}
use Rattle.ufs_name_tree.specs.NameTable.{NameTable, IsNameTable, file_at}
use Rattle.ufs_name_tree.specs.Notes.{AreKindsOf, HasKinds, IsOfKind, IsStateOf, GoesByNotes}
use Rattle.ufs_name_tree.specs.Records.{records_of, dir_delta, born_noted, slot_noted, grown_noted, cleared_noted, replaced_noted, added_noted}
use Rattle.ufs_name_tree.proofs.Founds.{IsMetIn}
use Rattle.ufs_name_tree.proofs.NoteEdits.{known_of, may_add, may_clear, may_free, may_move, swaps_of_add, swaps_of_clear, swaps_of_move, kinds_added, kinds_cleared, kinds_moved, renaming, NotBoth, goes_noted}
use Rattle.ufs_name_tree.proofs.NoteFiles.{TouchesFiles, files_stay, file_goes, no_file_cleared, no_file_moved}
use Rattle.ufs_name_tree.proofs.NoteLost.{TellsOrLoses}
use Rattle.ufs_name_tree.proofs.NoteKinds.{kinds_gone, kinds_without}
use Rattle.ufs_name_tree.proofs.NoteNames.{kinds_of_add, kinds_of_clear, kinds_of_move}
use Rattle.ufs_name_tree.proofs.StepSwaps.{put_alike}

-- the same names with other notes
pub renoted : (t : NameTable) (noted : Option (List LogRecord)) → IsNameTable t → IsNameTable (record t { noted = noted })
renoted t noted is = record { table = is.table; counted = is.counted; named = is.named; used = is.used; no_dir = is.no_dir; bare = is.bare; once = is.once }

-- and for want of what they were lost
pub relost : (t : NameTable) (noted : Option (List LogRecord)) (lost : Option Lack) → IsNameTable t → IsNameTable (record t { noted = noted; lost = lost })
relost t noted lost is = record { table = is.table; counted = is.counted; named = is.named; used = is.used; no_dir = is.no_dir; bare = is.bare; once = is.once }

-- what isn't set is none
pub unset : (xs : List (Option ℕ)) (i : ℕ) → get_or (set_at xs i None) i None ≡ None
unset [] i = refl
unset (x ∷ xs) zero = refl
unset (x ∷ xs) (suc i) = unset xs i

-- what holds where there is something, and where there is nothing
pub if_some : {X : Type 0} (P : X → Type 0) (o : Option X) (x : X) → IfSome o P → o ≡ Some x → P x
if_some P o x holds is = subst (λ (o : Option _). IfSome o P) is holds

pub if_none : {X : Type 0} (Q : Type 0) (o : Option X) → IfNone o Q → o ≡ None → Q
if_none Q o holds is = subst (λ (o : Option _). IfNone o Q) is holds

-- a dentry that is met has an inode of the table
pub met_inode : (t : DirTable) (names : List (List ℕ)) (d : DentryForm) → IsDirTable t → found_at t names ≡ Some (found_of d) → d.inode < length t.dirs
met_inode t names d is met = by (d.kind == 2) refl
  where
    by : (b : Bool) → (d.kind == 2) ≡ b → d.inode < length t.dirs
    by true at = let used = is.met names (Dir d.inode) (met ∙ ap (λ (b : Bool). Some (if b then Dir d.inode else File d.inode)) at) in used.within
    by false at = let used = is.met names (File d.inode) (met ∙ ap (λ (b : Bool). Some (if b then Dir d.inode else File d.inode)) at) in used.within

-- ---- what is told

grown_blocks : (t : DirTable) (p block : ℕ) → p < length t.dirs → blocks_at (table_after (Grown p block) t) p ≡ blocks_at t p ++ block ∷ []
grown_blocks t p block within = ap (λ (d : Directory). d.blocks) (get_or-set_same t.dirs p (grown block (dir_at t p)) no_dir within)

grown_counted : (t : DirTable) (p block : ℕ) → length (table_after (Grown p block) t).dirs ≡ length t.dirs
grown_counted t p block = length-set t.dirs p (grown block (dir_at t p))

put_counted : (t : DirTable) (p : ℕ) (slot : Slot) (d : DentryForm) → length (table_after (Put p slot d) t).dirs ≡ length t.dirs
put_counted t p slot d = length-set t.dirs p (with_entry (dir_at t p) slot d)

noted_add : (t u : DirTable) (dir : ℕ) (g : Option ℕ) (slot : Slot) (d : DentryForm) → dir < length t.dirs → u ≡ table_after_all (growing dir g ++ adding dir slot d) t → added_noted u dir g slot d ≡ records_of t (growing dir g ++ adding dir slot d)
noted_add t u dir None slot d within leads = refl
noted_add t u dir (Some b) slot d within leads =
    let one = table_after (Grown dir b) t in
    let two = table_after (Born d.inode d.kind) one in
    let like = put_alike two dir slot d (omega (arith, within, grown_counted t dir b)) dir in
    ap (λ (bs : List ℕ). dir_delta dir bs ∷ born_noted d.inode d.kind ∷ slot_noted slot d ∷ []) (ap (λ (x : DirTable). blocks_at x dir) leads ∙ like.blocks ∙ grown_blocks t dir b within)

noted_clear : (t : DirTable) (dir : ℕ) (slot : Slot) (o : Option Found) → cleared_noted slot o ≡ records_of t (clearing dir slot o)
noted_clear t dir slot (Some (Dir i)) = refl
noted_clear t dir slot (Some (File i)) = refl
noted_clear t dir slot None = refl

module _ (from to : ℕ) (left taken : Slot) (d : DentryForm) (t u : DirTable) where
  noted_move : (dropped : Option Slot) (o : Option Found) (g : Option ℕ) → NotBoth from to left taken d dropped g → from < length t.dirs → to < length t.dirs → u ≡ table_after_all (renaming from to left taken d dropped o g) t
      → replaced_noted dropped o ++ grown_noted u to g ++ slot_noted left free_slot ∷ slot_noted taken d ∷ [] ≡ records_of t (renaming from to left taken d dropped o g)
  noted_move None o None not_both source target leads = refl
  noted_move None o (Some b) not_both source target leads =
      let one = table_after (Grown to b) t in
      let two = table_after (Put from left free_slot) one in
      let like_two = put_alike one from left free_slot (omega (arith, source, grown_counted t to b)) to in
      let like = put_alike two to taken d (omega (arith, target, grown_counted t to b, put_counted one from left free_slot)) to in
      ap (λ (bs : List ℕ). dir_delta to bs ∷ slot_noted left free_slot ∷ slot_noted taken d ∷ []) (ap (λ (x : DirTable). blocks_at x to) leads ∙ like.blocks ∙ like_two.blocks ∙ grown_blocks t to b target)
  noted_move (Some slot) o (Some b) not_both source target leads = let no : Some b ≡ None = not_both slot refl in absurd cc
  noted_move (Some slot) (Some (Dir i)) None not_both source target leads = refl
  noted_move (Some slot) (Some (File i)) None not_both source target leads = refl
  noted_move (Some slot) None None not_both source target leads = refl

-- ---- the calls

module _ (t u : NameTable) (is : IsNameTable t) (pool after : BlockSet) where
  module _ (dir : ℕ) (above : List (List ℕ)) (met : found_at t.dirs above ≡ Some (Dir dir)) (whole : IsDirectory (dir_at t.dirs dir)) (slot : Slot) where
    born_kind : (g : Option ℕ) (d : DentryForm) → MayMakeAll t.dirs pool (growing dir g ++ adding dir slot d) → IsOfKind d
    born_kind None d may = may.0.known
    born_kind (Some b) d may = may.1.0.known

    pub add_noted : (g : Option ℕ) (d e : DentryForm) → e ≡ d → GoesBy t.dirs u.dirs pool after (growing dir g ++ adding dir slot d) → ((s : DirState) → IsStateOf t pool s → AreKindsOf u (with_kind d.inode d.kind s.kinds))
        → TouchesFiles t u (growing dir g ++ adding dir slot d) → TellsOrLoses t u (in_order (added_noted u.dirs dir g slot e)) → GoesByNotes t u pool
    add_noted g d e same goes kinds files noted =
        let known = known_of t.dirs above dir is.table met whole in
        goes_noted t u pool dir above met (growing dir g ++ adding dir slot d) (swaps_of_add dir slot g d) goes.table (may_add t.dirs pool dir g slot d known goes.may)
        (λ s at. subst (AreKindsOf u) (sym (kinds_added dir slot g d s)) (kinds s at)) files (λ has. kinds_of_add dir g slot d (born_kind g d goes.may))
        (in_order (added_noted u.dirs dir g slot e)) (ap (λ (x : DentryForm). in_order (added_noted u.dirs dir g slot x)) same ∙ ap in_order (noted_add t.dirs u.dirs dir g slot d known.used.within goes.table)) noted

    pub remove_noted : (path : List (List ℕ)) (o e : Option Found) → e ≡ o → o ≡ found_at t.dirs path → GoesBy t.dirs u.dirs pool after (clearing dir slot o) → ((j : ℕ) → IsMetIn u.dirs (Dir j) → IsMetIn t.dirs (Dir j)) → u.files ≡ t.files
        → ((f : Found) → found_at t.dirs path ≡ Some f → IsUnmet u.dirs (inode_of f)) → Frees t.dirs u.dirs pool after o → IsSome o → TellsOrLoses t u (in_order (cleared_noted slot e)) → GoesByNotes t u pool
    remove_noted path o e same stood goes dirs files unmet frees stands noted =
        let known = known_of t.dirs above dir is.table met whole in
        goes_noted t u pool dir above met (clearing dir slot o) (swaps_of_clear dir slot o) goes.table (may_clear t.dirs pool dir slot o known goes.may)
        (λ s at. subst (AreKindsOf u) (sym (kinds_cleared dir slot o s)) (kinds_gone t u s.kinds is at.kinds dirs files path pool after o stood unmet (λ some. frees) (λ none. let no = sym (ap (λ (x : Option Found). is_some x) none) ∙ stands in absurd cc)))
        (files_stay t is u (clearing dir slot o) files (no_file_cleared t is path o stood dir slot)) (λ has. kinds_of_clear dir slot o)
        (in_order (cleared_noted slot e)) (ap (λ (x : Option Found). in_order (cleared_noted slot x)) same ∙ ap in_order (noted_clear t.dirs dir slot o)) noted

  module _ (from to : ℕ) (source target : List (List ℕ)) (from_met : found_at t.dirs source ≡ Some (Dir from)) (to_met : found_at t.dirs target ≡ Some (Dir to)) (from_whole : IsDirectory (dir_at t.dirs from)) (to_whole : IsDirectory (dir_at t.dirs to)) (left taken : Slot) where
    pub rename_noted : (path : List (List ℕ)) (dropped : Option Slot) (o e : Option Found) (g : Option ℕ) (d f : DentryForm) → d.inode < length t.dirs.dirs → (HasKinds t.dirs → IsOfKind d) → f ≡ d → e ≡ o → o ≡ found_at t.dirs path → ((slot : Slot) → dropped ≡ Some slot → g ≡ None) → (dropped ≡ None → o ≡ None)
        → GoesBy t.dirs u.dirs pool after (renaming from to left taken d dropped o g) → ((j : ℕ) → IsMetIn u.dirs (Dir j) → IsMetIn t.dirs (Dir j)) → u.files ≡ t.files
        → ((f : Found) → found_at t.dirs path ≡ Some f → IsUnmet u.dirs (inode_of f)) → (IsSome o → Frees t.dirs u.dirs pool after o) → (o ≡ None → u.dirs.free ≡ t.dirs.free)
        → TellsOrLoses t u (in_order (replaced_noted dropped e ++ grown_noted u.dirs to g ++ slot_noted left free_slot ∷ slot_noted taken f ∷ [])) → GoesByNotes t u pool
    rename_noted path dropped o e g d f inode kind same found stood not_both none goes dirs files unmet frees free noted =
        let known_from = known_of t.dirs source from is.table from_met from_whole in
        let known_to = known_of t.dirs target to is.table to_met to_whole in
        goes_noted t u pool to target to_met (renaming from to left taken d dropped o g) (swaps_of_move from to left taken d dropped o g not_both) goes.table (may_move from to left taken d t.dirs pool dropped o g not_both known_from known_to inode goes.may)
        (λ s at. subst (AreKindsOf u) (sym (kinds_moved from to left taken d dropped o g s none)) (kinds_gone t u s.kinds is at.kinds dirs files path pool after o stood unmet frees free))
        (files_stay t is u (renaming from to left taken d dropped o g) files (no_file_moved t is path o stood from to target to_met left taken d dropped g)) (λ has. kinds_of_move from to left taken d dropped o g (kind has))
        (in_order (replaced_noted dropped e ++ grown_noted u.dirs to g ++ slot_noted left free_slot ∷ slot_noted taken f ∷ []))
        ((λ i. in_order (replaced_noted dropped (found i) ++ grown_noted u.dirs to g ++ slot_noted left free_slot ∷ slot_noted taken (same i) ∷ []))
        ∙ ap in_order (noted_move from to left taken d t.dirs u.dirs dropped o g not_both known_from.used.within known_to.used.within goes.table)) noted

  -- a file's inode, which takes no block of any pool
  pub free_noted : (i : ℕ) → IsSome (file_at t i) → GoesBy t.dirs u.dirs pool after (Freed i ∷ []) → ((j : ℕ) → IsMetIn u.dirs (Dir j) → IsMetIn t.dirs (Dir j)) → u.dirs.free ≡ set.insert t.dirs.free i
      → file_at u i ≡ None → ((j : ℕ) → j ≢ i → file_at u j ≡ file_at t j) → TellsOrLoses t u (Free i ∷ []) → GoesByNotes t u set.empty
  free_noted i numbered goes dirs free gone others noted =
      goes_noted t u set.empty 1 [] refl (Freed i ∷ []) (tt, tt) goes.table (may_free t.dirs set.empty 1 pool i goes.may)
      (λ s at. kinds_without t u s.kinds at.kinds dirs (λ j f has. numbered_before j f (cases_eq j i) has) i free (λ j met same. no_dir_of (file_at t i) numbered refl j met same) (λ j f has same. let no = sym has ∙ ap (file_at u) same ∙ gone in absurd cc))
      (file_goes t is u i gone others) (λ has. (tt, tt))
      (Free i ∷ []) refl noted
    where
      numbered_before : (j f : ℕ) → (j ≡ i) ⊎ (j ≢ i) → file_at u j ≡ Some f → file_at t j ≡ Some f
      numbered_before j f (inl same) has = let no = sym has ∙ ap (file_at u) same ∙ gone in absurd cc
      numbered_before j f (inr other) has = sym (others j other) ∙ has

      no_dir_of : (o : Option ℕ) → IsSome o → file_at t i ≡ o → (j : ℕ) → IsMetIn u.dirs (Dir j) → j ≡ i → ⊥
      no_dir_of None some at j met same = absurd cc
      no_dir_of (Some f) some at j met same = let was = dirs j met in is.no_dir i f was.0 at (was.1 ∙ ap (λ k. Some (Dir k)) same)
