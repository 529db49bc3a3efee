-- The steps of each call may be noted.
use Rattle.std.proofs.Common.{◌≡◌, ◌≢◌, ℕ, ◌*◌, ◌<◌, ◌⊎◌, inl, inr, ◌&&◌, ◌||◌, not, eqb, List, [], ◌∷◌, ◌++◌, Option, Some, None, length, Bool, true, false, ap, sym, refl, ◌∙◌, subst, arith, length-append, length-set, get_or-set_same, get_or-set_other}
use Rattle.std.specs.Prelude.{replicate}
use Rattle.std.specs.FinSet as fin
use Rattle.std.proofs.lemmas.Bool.{cases_eq, true≢false}
use Rattle.std.proofs.lemmas.Bool.Decides.{nat_tests}
use Rattle.ufs_bitmap.specs.Blocks.{BlockSet}
use Rattle.ufs_bitmap.proofs.SetLemmas.{has-remove, has-insert}
use Rattle.ufs_layout.specs.DentryForm.{DentryForm, free_slot}
use Rattle.ufs_layout.specs.declared.records.LogRecord.{LogRecord}
use Rattle.ufs_dirs.specs.Directory.{Directory, IsDirectory}
use Rattle.ufs_dirs.specs.Changes.{IsSlot}
use Rattle.ufs_dirs.specs.declared.Slot.{Slot}
use Rattle.ufs_dir_tree.specs.DirTable.{DirTable, IsDirTable, no_dir, dir_at, slots_at, blocks_at, found_at}
use Rattle.ufs_dir_tree.specs.Steps.{DirState, Step, Born, Grown, Put, Freed, MayLose, MaySet, MayMakeAll, grown, with_kind, after, after_all, table_after, table_after_all, adding, moving, growing, clearing, replacing}
use Rattle.ufs_dir_tree.specs.declared.found.Found.{Found}
use Rattle.ufs_dir_tree.specs.declared.found.Found.TheVariants.{Dir, File}
use Rattle.ufs_ilog.specs.Changes.{in_order}
use Rattle.ufs_name_tree.specs.NameTable.{NameTable}
use Rattle.ufs_name_tree.specs.Notes.{AreKindsOf, HasKinds, IsLostAt, IsStateOf, MayNoteAll, MayNoteFreed, GoesByNotes}
use Rattle.ufs_name_tree.specs.Records.{records_of}
use Rattle.ufs_name_tree.proofs.NoteLost.{TellsOrLoses}
use Rattle.ufs_name_tree.proofs.NoteFiles.{TouchesFiles, ordered_touches}
use Rattle.ufs_name_tree.proofs.NoteKinds.{kinds_after}
use Rattle.ufs_name_tree.proofs.NoteNames.{PutKinds, kinds_all}
use Rattle.ufs_name_tree.proofs.StepOrder.{IsSameChange, MaySwapAll, ordered, told, told_is, all_after, order_goes}
use Rattle.ufs_name_tree.proofs.StepSwaps.{IsKnown, put_alike, put_counted, slot_alike, back, put_known, put_known_set, puts_swap, freed_swaps, grown_swaps}

-- ---- a directory through a step

pub known_of : (t : DirTable) (above : List (List ℕ)) (i : ℕ) → IsDirTable t → found_at t above ≡ Some (Dir i) → IsDirectory (dir_at t i) → IsKnown t i
known_of t above i is met whole = record { used = is.met above (Dir i) met; sized = whole.sized }

grown_known : (t : DirTable) (p block i : ℕ) → p < length t.dirs → IsKnown t i → IsKnown (table_after (Grown p block) t) i
grown_known t p block i within known = record {
  used = record { from_one = known.used.from_one; within = omega (arith, known.used.within, length-set t.dirs p (grown block (dir_at t p))); used = known.used.used };
  sized = by (cases_eq i p);
}
  where
    by : (i ≡ p) ⊎ (i ≢ p) → length (slots_at (table_after (Grown p block) t) i) ≡ 64 * length (blocks_at (table_after (Grown p block) t) i)
    by (inl same) =
        let now : dir_at (table_after (Grown p block) t) i ≡ grown block (dir_at t i) = ap (dir_at (table_after (Grown p block) t)) same ∙ get_or-set_same t.dirs p (grown block (dir_at t p)) no_dir within ∙ ap (λ k. grown block (dir_at t k)) (sym same) in
        let more = ap (λ (d : Directory). length d.slots) now ∙ length-append (slots_at t i) (replicate 64 free_slot) in
        let one = ap (λ (d : Directory). length d.blocks) now ∙ length-append (blocks_at t i) (block ∷ []) in
        omega (arith, more, one, known.sized)
    by (inr other) = subst (λ (d : Directory). length d.slots ≡ 64 * length d.blocks) (sym (get_or-set_other t.dirs p i (grown block (dir_at t p)) no_dir other)) known.sized

born_known : (t : DirTable) (j kind i : ℕ) → IsKnown t i → IsKnown (table_after (Born j kind) t) i
born_known t j kind i known = record {
  used = record { from_one = known.used.from_one; within = known.used.within; used = has-remove t.free j i ∙ ap (λ (b : Bool). not (eqb i j) && b) known.used.used ∙ and_false (not (eqb i j)) };
  sized = known.sized;
}
  where
    and_false : (b : Bool) → (b && false) ≡ false
    and_false true = refl
    and_false false = refl

not_same : (i j : ℕ) → i ≢ j → eqb i j ≡ false
not_same i j other = grind (arith, nat_tests)

-- a directory with a slot isn't the one that was freed
freed_known : (t : DirTable) (j i : ℕ) (a : Slot) → j < length t.dirs → IsSlot (dir_at (table_after (Freed j) t) i) a → IsKnown t i → IsKnown (table_after (Freed j) t) i
freed_known t j i a within slot known = record {
  used = record { from_one = known.used.from_one; within = omega (arith, known.used.within, length-set t.dirs j no_dir); used = has-insert t.free j i ∙ ap (λ (b : Bool). b || fin.contains t.free i) (not_same i j apart) ∙ known.used.used };
  sized = subst (λ (d : Directory). length d.slots ≡ 64 * length d.blocks) (sym (get_or-set_other t.dirs j i no_dir no_dir apart)) known.sized;
}
  where
    apart : i ≢ j
    apart same = let here = subst (λ (d : Directory). IsSlot d a) (ap (dir_at (table_after (Freed j) t)) same ∙ get_or-set_same t.dirs j no_dir no_dir within) slot in omega (arith, here.in_blocks)

none_within : (t : DirTable) (i : ℕ) → IsKnown t i → 0 < length t.dirs
none_within t i known = omega (arith, known.used.within)

lost : (t : DirTable) (i : ℕ) → MayLose t i → MayNoteFreed t i
lost t i may = record { used = may.used; no_root = λ e. may.unmet [] (Dir 1) refl (sym e) }

-- ---- each list of steps

-- The steps may be noted in each state of the directories in which this is a directory and the pool's blocks are zeros.
abbrev pub MayBeNoted : DirTable → BlockSet → ℕ → List Step → Type 0
MayBeNoted t pool dir xs = (kinds : ℕ → ℕ) (zeroed : ℕ → Bool) → kinds dir ≡ 2 → ((b : ℕ) → fin.contains pool b ≡ true → zeroed b ≡ true) → MayNoteAll (record { table = t; kinds = kinds; zeroed = zeroed }) xs

module _ (t : DirTable) (pool : BlockSet) where
  pub may_add : (dir : ℕ) (g : Option ℕ) (slot : Slot) (d : DentryForm) → IsKnown t dir → MayMakeAll t pool (growing dir g ++ adding dir slot d) → MayBeNoted t pool dir (growing dir g ++ adding dir slot d)
  may_add dir None slot d known made kinds zeroed kind zeros =
      (made.0, (put_known_set (table_after (Born d.inode d.kind) t) dir slot d (born_known t d.inode d.kind dir known) made.1.0 made.0.free.within, tt))
  may_add dir (Some b) slot d known made kinds zeroed kind zeros = (
    record { used = known.used; is_dir = kind; zeroed = zeros b made.0.pooled; extents = made.0.extents },
    (made.1.0, (put_known_set (table_after (Born d.inode d.kind) (table_after (Grown dir b) t)) dir slot d (born_known (table_after (Grown dir b) t) d.inode d.kind dir (grown_known t dir b dir known.used.within known)) made.1.1.0 made.1.0.free.within, tt)),
  )

  pub may_clear : (dir : ℕ) (slot : Slot) (o : Option Found) → IsKnown t dir → MayMakeAll t pool (clearing dir slot o) → MayBeNoted t pool dir (clearing dir slot o)
  may_clear dir slot (Some (Dir i)) known made kinds zeroed kind zeros = (put_known_set t dir slot free_slot known made.0 (none_within t dir known), (lost (table_after (Put dir slot free_slot) t) i made.1.0, tt))
  may_clear dir slot (Some (File i)) known made kinds zeroed kind zeros = (put_known_set t dir slot free_slot known made.0 (none_within t dir known), tt)
  may_clear dir slot None known made kinds zeroed kind zeros = (put_known_set t dir slot free_slot known made.0 (none_within t dir known), tt)

pub may_free : (t : DirTable) (pool : BlockSet) (dir : ℕ) (before : BlockSet) (i : ℕ) → MayMakeAll t before (Freed i ∷ []) → MayBeNoted t pool dir (Freed i ∷ [])
may_free t pool dir before i made kinds zeroed kind zeros = (lost t i made.0, tt)

module _ (from to : ℕ) (left taken : Slot) (d : DentryForm) where
  may_pair : (s : DirState) → IsKnown s.table from → IsKnown s.table to → MaySet s.table from left free_slot → MaySet (table_after (Put from left free_slot) s.table) to taken d → d.inode < length s.table.dirs → MayNoteAll s (moving from left to taken d)
  may_pair s source target first second inode = (
    put_known_set s.table from left free_slot source first (none_within s.table from source),
    (put_known_set (table_after (Put from left free_slot) s.table) to taken d (put_known s.table from left free_slot source.used.within to target) second (omega (arith, inode, put_counted s.table from left free_slot source.used.within)), tt),
  )

  -- what a rename does, where a name gives place or the directory takes a block, and not both
  abbrev pub renaming : Option Slot → Option Found → Option ℕ → List Step
  renaming dropped o g = replacing to dropped o ++ growing to g ++ moving from left to taken d

  abbrev pub NotBoth : Option Slot → Option ℕ → Type 0
  NotBoth dropped g = (slot : Slot) → dropped ≡ Some slot → g ≡ None

  pub may_move : (t : DirTable) (pool : BlockSet) (dropped : Option Slot) (o : Option Found) (g : Option ℕ) → NotBoth dropped g → IsKnown t from → IsKnown t to → d.inode < length t.dirs → MayMakeAll t pool (renaming dropped o g) → MayBeNoted t pool to (renaming dropped o g)
  may_move t pool None o None not_both source target inode made kinds zeroed kind zeros = may_pair (record { table = t; kinds = kinds; zeroed = zeroed }) source target made.0 made.1.0 inode
  may_move t pool None o (Some b) not_both source target inode made kinds zeroed kind zeros = (
    record { used = target.used; is_dir = kind; zeroed = zeros b made.0.pooled; extents = made.0.extents },
    may_pair (after (Grown to b) (record { table = t; kinds = kinds; zeroed = zeroed })) (grown_known t to b from target.used.within source) (grown_known t to b to target.used.within target) made.1.0 made.1.1.0 (omega (arith, inode, length-set t.dirs to (grown b (dir_at t to)))),
  )
  may_move t pool (Some slot) o (Some b) not_both source target inode made kinds zeroed kind zeros = let no : Some b ≡ None = not_both slot refl in absurd cc
  may_move t pool (Some slot) (Some (Dir i)) None not_both source target inode made kinds zeroed kind zeros =
      let one = table_after (Put to slot free_slot) t in
      let two = table_after (Freed i) one in
      let three = table_after (Put from left free_slot) two in
      let source_one = put_known t to slot free_slot target.used.within from source in
      let target_one = put_known t to slot free_slot target.used.within to target in
      let source_two = freed_known one i from left made.1.0.used.within made.1.1.0.in_dir source_one in
      let like = put_alike two from left free_slot source_two.used.within to in
      let taken_two = slot_alike (dir_at three to) (dir_at two to) taken (back (dir_at two to) (dir_at three to) like) made.1.1.1.0.in_dir in (
        put_known_set t to slot free_slot target made.0 (none_within t to target),
        (
          lost one i made.1.0,
          may_pair (after (Freed i) (after (Put to slot free_slot) (record { table = t; kinds = kinds; zeroed = zeroed }))) source_two (freed_known one i to taken made.1.0.used.within taken_two target_one) made.1.1.0 made.1.1.1.0 (omega (arith, inode, put_counted t to slot free_slot target.used.within, length-set one.dirs i no_dir)),
        ),
      )
  may_move t pool (Some slot) (Some (File i)) None not_both source target inode made kinds zeroed kind zeros = (
    put_known_set t to slot free_slot target made.0 (none_within t to target),
    may_pair (after (Put to slot free_slot) (record { table = t; kinds = kinds; zeroed = zeroed })) (put_known t to slot free_slot target.used.within from source) (put_known t to slot free_slot target.used.within to target) made.1.0 made.1.1.0 (omega (arith, inode, put_counted t to slot free_slot target.used.within)),
  )
  may_move t pool (Some slot) None None not_both source target inode made kinds zeroed kind zeros = (
    put_known_set t to slot free_slot target made.0 (none_within t to target),
    may_pair (after (Put to slot free_slot) (record { table = t; kinds = kinds; zeroed = zeroed })) (put_known t to slot free_slot target.used.within from source) (put_known t to slot free_slot target.used.within to target) made.1.0 made.1.1.0 (omega (arith, inode, put_counted t to slot free_slot target.used.within)),
  )

  pub swaps_of_move : (dropped : Option Slot) (o : Option Found) (g : Option ℕ) → NotBoth dropped g → MaySwapAll (renaming dropped o g)
  swaps_of_move None o None not_both = ((puts_swap from to left taken free_slot d, tt), (tt, tt))
  swaps_of_move None o (Some b) not_both = (((λ s may next e. absurd (true≢false e)), ((λ s may next e. absurd (true≢false e)), tt)), ((puts_swap from to left taken free_slot d, tt), (tt, tt)))
  swaps_of_move (Some slot) o (Some b) not_both = let no : Some b ≡ None = not_both slot refl in absurd cc
  swaps_of_move (Some slot) (Some (Dir i)) None not_both = (
    ((λ s may next e. absurd (true≢false e)), (puts_swap to from slot left free_slot free_slot, (puts_swap to to slot taken free_slot d, tt))),
    ((freed_swaps i from left free_slot, (freed_swaps i to taken d, tt)), ((puts_swap from to left taken free_slot d, tt), (tt, tt))),
  )
  swaps_of_move (Some slot) (Some (File i)) None not_both = ((puts_swap to from slot left free_slot free_slot, (puts_swap to to slot taken free_slot d, tt)), ((puts_swap from to left taken free_slot d, tt), (tt, tt)))
  swaps_of_move (Some slot) None None not_both = ((puts_swap to from slot left free_slot free_slot, (puts_swap to to slot taken free_slot d, tt)), ((puts_swap from to left taken free_slot d, tt), (tt, tt)))

-- ---- what inodes are afterwards

pub kinds_added : (dir : ℕ) (slot : Slot) (g : Option ℕ) (d : DentryForm) (s : DirState) → (after_all (growing dir g ++ adding dir slot d) s).kinds ≡ with_kind d.inode d.kind s.kinds
kinds_added dir slot None d s = refl
kinds_added dir slot (Some b) d s = refl

pub kinds_cleared : (dir : ℕ) (slot : Slot) (o : Option Found) (s : DirState) → (after_all (clearing dir slot o) s).kinds ≡ kinds_after o s.kinds
kinds_cleared dir slot (Some (Dir i)) s = refl
kinds_cleared dir slot (Some (File i)) s = refl
kinds_cleared dir slot None s = refl

pub kinds_moved : (from to : ℕ) (left taken : Slot) (d : DentryForm) (dropped : Option Slot) (o : Option Found) (g : Option ℕ) (s : DirState) → (dropped ≡ None → o ≡ None) → (after_all (renaming from to left taken d dropped o g) s).kinds ≡ kinds_after o s.kinds
kinds_moved from to left taken d None (Some f) g s none = let no : Some f ≡ None = none refl in absurd cc
kinds_moved from to left taken d None None None s none = refl
kinds_moved from to left taken d None None (Some b) s none = refl
kinds_moved from to left taken d (Some slot) (Some (Dir i)) None s none = refl
kinds_moved from to left taken d (Some slot) (Some (Dir i)) (Some b) s none = refl
kinds_moved from to left taken d (Some slot) (Some (File i)) None s none = refl
kinds_moved from to left taken d (Some slot) (Some (File i)) (Some b) s none = refl
kinds_moved from to left taken d (Some slot) None None s none = refl
kinds_moved from to left taken d (Some slot) None (Some b) s none = refl

-- ---- which may change places

module _ (dir : ℕ) (slot : Slot) where
  pub swaps_of_add : (g : Option ℕ) (d : DentryForm) → MaySwapAll (growing dir g ++ adding dir slot d)
  swaps_of_add None d = (((λ s may next e. absurd (true≢false e)), tt), (tt, tt))
  swaps_of_add (Some b) d = ((grown_swaps dir b d.inode d.kind, ((λ s may next e. absurd (true≢false e)), tt)), (((λ s may next e. absurd (true≢false e)), tt), (tt, tt)))

  pub swaps_of_clear : (o : Option Found) → MaySwapAll (clearing dir slot o)
  swaps_of_clear (Some (Dir i)) = (((λ s may next e. absurd (true≢false e)), tt), (tt, tt))
  swaps_of_clear (Some (File i)) = (tt, tt)
  swaps_of_clear None = (tt, tt)

-- ---- a change

module _ (old new : NameTable) (pool : BlockSet) (dir : ℕ) (above : List (List ℕ)) (met : found_at old.dirs above ≡ Some (Dir dir)) (xs : List Step) (swaps : MaySwapAll xs) (leads : new.dirs ≡ table_after_all xs old.dirs)
    (may : MayBeNoted old.dirs pool dir xs) (kinds : (s : DirState) → IsStateOf old pool s → AreKindsOf new (after_all xs s).kinds) (files : TouchesFiles old new xs) (puts : HasKinds old.dirs → PutKinds xs) where
  -- a state in which they may, whatever the inodes are
  abbrev some : DirState
  some = record { table = old.dirs; kinds = λ i. 2; zeroed = λ b. true }

  in_some : IsSameChange some xs (ordered xs) (in_order (told some xs))
  in_some = order_goes some xs swaps (may (λ i. 2) (λ b. true) refl (λ b held. refl))

  in_state : (s : DirState) → IsStateOf old pool s → IsSameChange s xs (ordered xs) (in_order (told s xs))
  in_state s is =
      let are = is.kinds in
      order_goes s xs swaps (subst (λ (t : DirTable). MayNoteAll (record { table = t; kinds = s.kinds; zeroed = s.zeroed }) xs) (sym is.table) (may s.kinds s.zeroed (are.dir dir above met) is.zeroed))

  -- the records are those of the steps in their order, and these lead to the same
  told_ordered : (records : List LogRecord) → records ≡ in_order (records_of old.dirs xs) → records ≡ records_of old.dirs (ordered xs)
  told_ordered records are = let same = in_some in are ∙ ap in_order (sym (told_is some xs)) ∙ sym same.tells ∙ told_is some (ordered xs)

  leads_ordered : new.dirs ≡ table_after_all (ordered xs) old.dirs
  leads_ordered = let same = in_some in leads ∙ sym (all_after some xs) ∙ ap (λ (u : DirState). u.table) (sym same.same) ∙ all_after some (ordered xs)

  pub goes_noted : (records : List LogRecord) → records ≡ in_order (records_of old.dirs xs) → TellsOrLoses old new records → GoesByNotes old new pool
  goes_noted records are (inl gone) = inl (record { steps = ordered xs; dirs = leads_ordered; lost = subst (IsLostAt old new) (told_ordered records are) gone })
  goes_noted records are (inr (on, kept)) =
      inr (record {
        steps = ordered xs;
        noted = record { before = on.before; was = on.was; is = on.is ∙ ap (λ (rs : List LogRecord). Some (on.before ++ rs)) (told_ordered records are) };
        lost = kept;
        dirs = leads_ordered;
        may = λ s is. let now = in_state s is in now.may;
        kinds = λ s is. let now = in_state s is in subst (λ (u : DirState). AreKindsOf new u.kinds) (sym now.same) (kinds s is);
        kept = λ i f at now. ordered_touches xs i ∙ files.kept i f at now;
        given = λ i f none now. ordered_touches xs i ∙ files.given i f none now;
        gone = λ i f at off. ordered_touches xs i ∙ files.gone i f at off;
        stayed = files.stayed;
        named = λ has. subst HasKinds (sym leads) (kinds_all xs old.dirs (puts has) has);
      })
