-- A worked session: a file is appended to and synced, twice.
use Rattle.std.proofs.Common.{◌≡◌, ◌≤◌, ℕ, zero, suc, ◌+◌, ◌⊎◌, inl, inr, Bool, true, false, cond, ◌||◌, eqb, List, [], ◌∷◌, ◌++◌, length, Option, Some, None, is_none, unwrap_or, ap, sym, refl, ◌∙◌, subst, arith}
use Rattle.std.specs.Prelude.{codes}
use Rattle.std.specs.List.{flat_map, list_any}
use Rattle.std.specs.FinMap as map
use Rattle.std.specs.FinMap.{gets}
use Rattle.ufs_model.specs.PosixTree.{PosixTree, root_alone, is_number}
use Rattle.ufs_model.specs.Walk.{file_of}
use Rattle.ufs_model.specs.FileBytes.{content, place_of}
use Rattle.ufs_model.specs.Start.{PathNodes, path_root}
use Rattle.ufs_model.specs.Descriptors.{opened, closed}
use Rattle.ufs_model.specs.Posix.{posix}
use Rattle.ufs_model.proofs.Facts.Orders.{fd_total}
use Rattle.ufs_model.specs.declared.data.Desc.{Desc}
use Rattle.ufs_model.specs.declared.data.Entry.{Entry}
use Rattle.ufs_model.specs.declared.data.Op.TheVariants as op
use Rattle.ufs_model.specs.declared.data.PathNode.TheVariants as path_node
use Rattle.ufs_model.specs.declared.data.Reply.TheVariants as reply
use Rattle.ufs_crash_laws.specs.FileChanges.{IsShown}
use Rattle.ufs_crash_laws.specs.Places.{IsOneOf}
use Rattle.ufs_crash_laws.specs.Steps.{before_last}
use Rattle.ufs_crash_laws.specs.Changes.{names_of, written_at, change_of, names_by, name_changes, syncs_file, is_fsync_of, is_fsynced}
use Rattle.ufs_crash_laws.specs.Explained.{IsExplained}
use Rattle.ufs_crash_laws.proofs.Facts.Options.{AreOneOfEach, shown_options, options_shown}
use Rattle.ufs_crash_laws.proofs.Facts.Shows.{shown_now, shown_exactly}
use Rattle.ufs_crash_laws.proofs.Rows.Sessions.{entry, desc, Worked, history_of, IsWorked, steps_walked, with_file, HasFile, IsFileRow}
use Rattle.ufs_crash_laws.proofs.Rows.OneFile.{opens, made, made_is, nothing_there, or_false, opening_is, file_is, file_is_there, file_is_explained}
use Rattle.ufs_crash_laws.specs.declared.data.FileChange.{FileChange}
use Rattle.ufs_crash_laws.specs.declared.data.FileChange.TheVariants as change

-- ---- the session

abbrev writes : Entry
writes = entry 1 (op.Write 3 (codes "aa")) (reply.Count 2)

abbrev fsyncs : Entry
fsyncs = entry 2 (op.Fsync 3) reply.Done

abbrev writes_more : Entry
writes_more = entry 3 (op.Write 3 (codes "bb")) (reply.Count 2)

abbrev fsyncs_more : Entry
fsyncs_more = entry 4 (op.Fsync 3) reply.Done

abbrev one : PosixTree
one = record made { bytes = map.insert made.bytes 0 (codes "aa"); fds = map.insert made.fds (0, 3) (desc 0 2) }

abbrev two : PosixTree
two = record one { bytes = map.insert one.bytes 0 (codes "aabb"); fds = map.insert one.fds (0, 3) (desc 0 4) }

one_is : posix made 0 writes.op ≡ (one, reply.Count 2)
one_is = simp (gets, fd_total)

fsynced_is : posix one 0 fsyncs.op ≡ (one, reply.Done)
fsynced_is = simp (gets, fd_total)

two_is : posix one 0 writes_more.op ≡ (two, reply.Count 2)
two_is = simp (gets, fd_total)

done_is : posix two 0 fsyncs_more.op ≡ (two, reply.Done)
done_is = simp (gets, fd_total)

-- before the second `fsync`
abbrev pub four : Worked
four = (opens, made) ∷ (writes, one) ∷ (fsyncs, one) ∷ (writes_more, two) ∷ []

-- and after it
abbrev five : Worked
five = (opens, made) ∷ (writes, one) ∷ (fsyncs, one) ∷ (writes_more, two) ∷ (fsyncs_more, two) ∷ []

pub four_worked : IsWorked root_alone four
four_worked = ((λ i. (made_is i).0), ((λ i. (one_is i).0), ((λ i. (fsynced_is i).0), ((λ i. (two_is i).0), tt))))

five_worked : IsWorked root_alone five
five_worked = ((λ i. (made_is i).0), ((λ i. (one_is i).0), ((λ i. (fsynced_is i).0), ((λ i. (two_is i).0), ((λ i. (done_is i).0), tt)))))

-- ---- its changes

desc_made : opened made 0 3 ≡ desc 0 0
desc_made = let there : map.get made.fds (0, 3) ≡ Some (desc 0 0) = simp (gets, fd_total) in ap (λ (o : Option Desc). unwrap_or o closed) there

desc_one : opened one 0 3 ≡ desc 0 2
desc_one = let there : map.get one.fds (0, 3) ≡ Some (desc 0 2) = simp (gets, fd_total) in ap (λ (o : Option Desc). unwrap_or o closed) there

desc_two : opened two 0 3 ≡ desc 0 4
desc_two = let there : map.get two.fds (0, 3) ≡ Some (desc 0 4) = simp (gets, fd_total) in ap (λ (o : Option Desc). unwrap_or o closed) there

change_0 : change_of 0 (record { before = root_alone; entry = opens }) ≡ []
change_0 = ap (λ o. cond {A = List FileChange} (is_number 0 (file_of o)) [] []) nothing_there

change_1 : change_of 0 (record { before = made; entry = writes }) ≡ change.Written 0 (codes "aa") ∷ []
change_1 = ap (λ (d : Desc). cond (is_number 0 d.file) (written_at (place_of d (content made.bytes d.file)) (codes "aa")) []) desc_made

change_3 : change_of 0 (record { before = one; entry = writes_more }) ≡ change.Written 2 (codes "bb") ∷ []
change_3 = ap (λ (d : Desc). cond (is_number 0 d.file) (written_at (place_of d (content one.bytes d.file)) (codes "bb")) []) desc_one

abbrev pub changes : List FileChange
changes = change.Written 0 (codes "aa") ∷ change.Written 2 (codes "bb") ∷ []

pub four_row : IsFileRow root_alone (history_of four) 0 [] changes 1
four_row = record {
  opened = opening_is;
  changed = ap (flat_map (change_of 0)) (steps_walked root_alone four four_worked) ∙ (λ i. change_0 i ++ (change_1 i ++ ([] ++ (change_3 i ++ []))));
  counted = ap (before_last (syncs_file 0) (λ s. length (change_of 0 s))) (steps_walked root_alone four four_worked)
      ∙ (λ i. let b = (is_number 0 (desc_one i).file || false) || false in cond b (length (change_0 i) + cond b (length (change_1 i) + 0) 0) 0);
}

five_row : IsFileRow root_alone (history_of five) 0 [] changes 2
five_row = record {
  opened = opening_is;
  changed = ap (flat_map (change_of 0)) (steps_walked root_alone five five_worked) ∙ (λ i. change_0 i ++ (change_1 i ++ ([] ++ (change_3 i ++ ([] ++ [])))));
  counted = ap (before_last (syncs_file 0) (λ s. length (change_of 0 s))) (steps_walked root_alone five five_worked)
      ∙ (λ i.
      let b = (is_number 0 (desc_two i).file || false) || false in
      let a = (is_number 0 (desc_one i).file || false) || b in
      cond a (length (change_0 i) + cond a (length (change_1 i) + cond b (0 + cond b (length (change_3 i) + 0) 0) 0) 0) 0);
}

pub four_names : name_changes root_alone (history_of four) ≡ names_of made ∷ []
four_names = ap (flat_map names_by) (steps_walked root_alone four four_worked) ∙ (λ i. cond (is_none (nothing_there i)) (names_of (made_is i).0 ∷ []) [] ++ [])

five_names : name_changes root_alone (history_of five) ≡ names_of made ∷ []
five_names = ap (flat_map names_by) (steps_walked root_alone five five_worked) ∙ (λ i. cond (is_none (nothing_there i)) (names_of (made_is i).0 ∷ []) [] ++ [])

or_same : (b : Bool) → (b || (b || false)) ≡ b
or_same true = refl
or_same false = refl

four_fsynced : (file : ℕ) → is_fsynced file root_alone (history_of four) ≡ eqb 0 file
four_fsynced file = ap (list_any (is_fsync_of file)) (steps_walked root_alone four four_worked) ∙ (λ i. is_number file (desc_one i).file || false) ∙ or_false (eqb 0 file)

five_fsynced : (file : ℕ) → is_fsynced file root_alone (history_of five) ≡ eqb 0 file
five_fsynced file =
    ap (list_any (is_fsync_of file)) (steps_walked root_alone five five_worked) ∙ (λ i. is_number file (desc_one i).file || (is_number file (desc_two i).file || false))
    ∙ or_same (eqb 0 file)

-- ---- what a crash may leave

-- with both changes
all_four : (bytes : List ℕ) → IsShown [] changes 2 bytes → bytes ≡ codes "aabb"
all_four bytes shown = shown_exactly [] changes bytes shown

-- with the first
pub first_two : (bytes : List ℕ) → IsShown [] changes 1 bytes → bytes ≡ codes "aa"
first_two bytes shown = by bytes (shown_options [] changes 1 bytes shown)
  where
    only : (b : ℕ) → IsOneOf (97 ∷ []) b → b ≡ 97
    only b (inl e) = e
    only b (inr h) = absurd h

    by : (bytes : List ℕ) → AreOneOfEach ((97 ∷ []) ∷ (97 ∷ []) ∷ []) bytes → bytes ≡ codes "aa"
    by [] are = absurd are
    by (a ∷ []) are = absurd are.1
    by (a ∷ b ∷ []) are = λ i. only a are.0 i ∷ only b are.1.0 i ∷ []
    by (a ∷ b ∷ c ∷ bytes) are = absurd are.1.1

-- Before the second `fsync` is acknowledged the file has what was synced, or all of it: nothing less, and no part of what
-- was appended.
pub appended_bytes_are_there_or_not : (tree : PathNodes) → IsExplained tree root_alone (history_of four) → HasFile tree (codes "/f") (codes "aa") ⊎ HasFile tree (codes "/f") (codes "aabb")
appended_bytes_are_there_or_not tree is =
    let there = file_is_there (history_of four) changes 1 four_row four_names four_fsynced tree is in by there.0 there.1 there.2.count there.2.covers there.2.shown
  where
    by : (bytes : List ℕ) → HasFile tree (codes "/f") bytes → (count : ℕ) → 1 ≤ count → IsShown [] changes count bytes → HasFile tree (codes "/f") (codes "aa") ⊎ HasFile tree (codes "/f") (codes "aabb")
    by bytes has zero covers shown = absurd (omega arith)
    by bytes has (suc zero) covers shown = inl (has ∙ ap (λ bytes. Some (path_node.File bytes)) (first_two bytes shown))
    by bytes has (suc (suc zero)) covers shown = inr (has ∙ ap (λ bytes. Some (path_node.File bytes)) (all_four bytes shown))
    by bytes has (suc (suc (suc n))) covers shown = absurd (omega (arith, shown.made))

pub synced_bytes_alone_are_explained : IsExplained (with_file (codes "/f") (codes "aa")) root_alone (history_of four)
synced_bytes_alone_are_explained =
    file_is_explained (history_of four) changes 1 four_row four_names four_fsynced (codes "aa")
    (record { count = 1; covers = omega arith; shown = options_shown [] changes 1 (omega arith) (codes "aa") (inl refl, (inl refl, tt)) })

pub all_bytes_are_explained : IsExplained (with_file (codes "/f") (codes "aabb")) root_alone (history_of four)
all_bytes_are_explained = file_is_explained (history_of four) changes 1 four_row four_names four_fsynced (codes "aabb") (record { count = 2; covers = omega arith; shown = shown_now [] changes })

-- After it only all of it is left.
pub appended_bytes_are_there : (tree : PathNodes) → IsExplained tree root_alone (history_of five) → HasFile tree (codes "/f") (codes "aabb")
appended_bytes_are_there tree is =
    let there = file_is_there (history_of five) changes 2 five_row five_names five_fsynced tree is in
    let both : there.2.count ≡ 2 = omega (arith, there.2.covers, there.2.shown.made) in
    there.1 ∙ ap (λ bytes. Some (path_node.File bytes)) (all_four there.0 (subst (λ count. IsShown [] changes count there.0) both there.2.shown))

pub all_bytes_are_explained_then : IsExplained (with_file (codes "/f") (codes "aabb")) root_alone (history_of five)
all_bytes_are_explained_then = file_is_explained (history_of five) changes 2 five_row five_names five_fsynced (codes "aabb") (record { count = 2; covers = omega arith; shown = shown_now [] changes })

-- No tree without the file, and none with a part of what was appended.
pub no_part_is_explained : IsExplained (with_file (codes "/f") (codes "aab")) root_alone (history_of four) → ⊥
no_part_is_explained is = by (appended_bytes_are_there_or_not _ is)
  where
    by : HasFile (with_file (codes "/f") (codes "aab")) (codes "/f") (codes "aa") ⊎ HasFile (with_file (codes "/f") (codes "aab")) (codes "/f") (codes "aabb") → ⊥
    by (inl e) = let same = sym (file_is (codes "aab")) ∙ e in cc
    by (inr e) = let same = sym (file_is (codes "aab")) ∙ e in cc

pub root_alone_is_not_explained : IsExplained path_root root_alone (history_of four) → ⊥
root_alone_is_not_explained is = by (appended_bytes_are_there_or_not _ is)
  where
    none : map.get path_root (codes "/f") ≡ None
    none = simp gets

    by : HasFile path_root (codes "/f") (codes "aa") ⊎ HasFile path_root (codes "/f") (codes "aabb") → ⊥
    by (inl e) = let same = sym none ∙ e in cc
    by (inr e) = let same = sym none ∙ e in cc

pub synced_bytes_alone_are_too_few : IsExplained (with_file (codes "/f") (codes "aa")) root_alone (history_of five) → ⊥
synced_bytes_alone_are_too_few is = let same = sym (file_is (codes "aa")) ∙ appended_bytes_are_there _ is in cc
