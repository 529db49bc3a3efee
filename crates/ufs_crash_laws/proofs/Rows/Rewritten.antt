-- A worked session: four bytes are written and synced, then two of them are written anew.
use Rattle.std.proofs.Common.{◌≡◌, ◌≤◌, ℕ, zero, suc, ◌+◌, inl, inr, false, cond, ◌||◌, eqb, List, [], ◌∷◌, ◌++◌, length, Option, Some, is_none, unwrap_or, ap, sym, refl, ◌∙◌, subst, arith}
use Rattle.std.specs.Prelude.{codes}
use Rattle.std.specs.List.{flat_map, list_any}
use Rattle.std.specs.FinMap as map
use Rattle.std.specs.FinMap.{gets}
use Rattle.ufs_model.specs.PosixTree.{PosixTree, root_alone, is_number}
use Rattle.ufs_model.specs.Walk.{file_of}
use Rattle.ufs_model.specs.FileBytes.{content, place_of}
use Rattle.ufs_model.specs.Start.{PathNodes}
use Rattle.ufs_model.specs.Descriptors.{opened, closed}
use Rattle.ufs_model.specs.Posix.{posix}
use Rattle.ufs_model.proofs.Facts.Orders.{fd_total}
use Rattle.ufs_model.specs.declared.data.Desc.{Desc}
use Rattle.ufs_model.specs.declared.data.Entry.{Entry}
use Rattle.ufs_model.specs.declared.data.Op.TheVariants as op
use Rattle.ufs_model.specs.declared.data.Reply.TheVariants as reply
use Rattle.ufs_crash_laws.specs.FileChanges.{IsShown}
use Rattle.ufs_crash_laws.specs.Places.{IsOneOf}
use Rattle.ufs_crash_laws.specs.Steps.{before_last}
use Rattle.ufs_crash_laws.specs.Changes.{names_of, written_at, change_of, names_by, name_changes, syncs_file, is_fsync_of, is_fsynced}
use Rattle.ufs_crash_laws.specs.Explained.{IsExplained}
use Rattle.ufs_crash_laws.proofs.Facts.Options.{AreOneOfEach, shown_options, options_shown}
use Rattle.ufs_crash_laws.proofs.Rows.Sessions.{entry, desc, Worked, history_of, IsWorked, steps_walked, with_file, HasFile, IsFileRow}
use Rattle.ufs_crash_laws.proofs.Rows.OneFile.{opens, made, made_is, nothing_there, or_false, opening_is, file_is, file_is_there, file_is_explained}
use Rattle.ufs_crash_laws.specs.declared.data.FileChange.{FileChange}
use Rattle.ufs_crash_laws.specs.declared.data.FileChange.TheVariants as change

-- ---- the session

abbrev writes : Entry
writes = entry 1 (op.Write 3 (codes "aaaa")) (reply.Count 4)

abbrev fsyncs : Entry
fsyncs = entry 2 (op.Fsync 3) reply.Done

abbrev writes_anew : Entry
writes_anew = entry 3 (op.Pwrite 3 (codes "bb") 0) (reply.Count 2)

abbrev written : PosixTree
written = record made { bytes = map.insert made.bytes 0 (codes "aaaa"); fds = map.insert made.fds (0, 3) (desc 0 4) }

abbrev anew : PosixTree
anew = record written { bytes = map.insert written.bytes 0 (codes "bbaa") }

written_is : posix made 0 writes.op ≡ (written, reply.Count 4)
written_is = simp (gets, fd_total)

fsynced_is : posix written 0 fsyncs.op ≡ (written, reply.Done)
fsynced_is = simp (gets, fd_total)

anew_is : posix written 0 writes_anew.op ≡ (anew, reply.Count 2)
anew_is = simp (gets, fd_total)

abbrev session : Worked
session = (opens, made) ∷ (writes, written) ∷ (fsyncs, written) ∷ (writes_anew, anew) ∷ []

worked : IsWorked root_alone session
worked = ((λ i. (made_is i).0), ((λ i. (written_is i).0), ((λ i. (fsynced_is i).0), ((λ i. (anew_is i).0), tt))))

-- ---- its changes

desc_made : opened made 0 3 ≡ desc 0 0
desc_made = let there : map.get made.fds (0, 3) ≡ Some (desc 0 0) = simp (gets, fd_total) in ap (λ (o : Option Desc). unwrap_or o closed) there

desc_written : opened written 0 3 ≡ desc 0 4
desc_written = let there : map.get written.fds (0, 3) ≡ Some (desc 0 4) = simp (gets, fd_total) in ap (λ (o : Option Desc). unwrap_or o closed) there

change_0 : change_of 0 (record { before = root_alone; entry = opens }) ≡ []
change_0 = ap (λ o. cond {A = List FileChange} (is_number 0 (file_of o)) [] []) nothing_there

change_1 : change_of 0 (record { before = made; entry = writes }) ≡ change.Written 0 (codes "aaaa") ∷ []
change_1 = ap (λ (d : Desc). cond (is_number 0 d.file) (written_at (place_of d (content made.bytes d.file)) (codes "aaaa")) []) desc_made

change_3 : change_of 0 (record { before = written; entry = writes_anew }) ≡ change.Written 0 (codes "bb") ∷ []
change_3 = ap (λ (d : Desc). cond (is_number 0 d.file) (change.Written 0 (codes "bb") ∷ []) []) desc_written

abbrev changes : List FileChange
changes = change.Written 0 (codes "aaaa") ∷ change.Written 0 (codes "bb") ∷ []

row : IsFileRow root_alone (history_of session) 0 [] changes 1
row = record {
  opened = opening_is;
  changed = ap (flat_map (change_of 0)) (steps_walked root_alone session worked) ∙ (λ i. change_0 i ++ (change_1 i ++ ([] ++ (change_3 i ++ []))));
  counted = ap (before_last (syncs_file 0) (λ s. length (change_of 0 s))) (steps_walked root_alone session worked)
      ∙ (λ i. let b = (is_number 0 (desc_written i).file || false) || false in cond b (length (change_0 i) + cond b (length (change_1 i) + 0) 0) 0);
}

names_are : name_changes root_alone (history_of session) ≡ names_of made ∷ []
names_are = ap (flat_map names_by) (steps_walked root_alone session worked) ∙ (λ i. cond (is_none (nothing_there i)) (names_of (made_is i).0 ∷ []) [] ++ [])

fsynced : (file : ℕ) → is_fsynced file root_alone (history_of session) ≡ eqb 0 file
fsynced file = ap (list_any (is_fsync_of file)) (steps_walked root_alone session worked) ∙ (λ i. is_number file (desc_written i).file || false) ∙ or_false (eqb 0 file)

-- ---- what a crash may leave: the bytes that were synced, each of the first two as it was or as it was written anew

abbrev pub IsOldOrNew : List ℕ → Type 0
IsOldOrNew bytes = AreOneOfEach ((97 ∷ 98 ∷ []) ∷ (97 ∷ 98 ∷ []) ∷ (97 ∷ []) ∷ (97 ∷ []) ∷ []) bytes

two_more : (bytes : List ℕ) → AreOneOfEach ((98 ∷ []) ∷ (98 ∷ []) ∷ (97 ∷ []) ∷ (97 ∷ []) ∷ []) bytes → IsOldOrNew bytes
two_more [] are = absurd are
two_more (a ∷ []) are = absurd are.1
two_more (a ∷ b ∷ bytes) are = (inr are.0, (inr are.1.0, are.1.1))

pub rewritten_bytes_show_old_or_new : (tree : PathNodes) → IsExplained tree root_alone (history_of session) → (bytes : List ℕ) × HasFile tree (codes "/f") bytes × IsOldOrNew bytes
rewritten_bytes_show_old_or_new tree is =
    let there = file_is_there (history_of session) changes 1 row names_are fsynced tree is in (there.0, there.1, by there.0 there.2.count there.2.covers there.2.shown)
  where
    by : (bytes : List ℕ) (count : ℕ) → 1 ≤ count → IsShown [] changes count bytes → IsOldOrNew bytes
    by bytes zero covers shown = absurd (omega arith)
    by bytes (suc zero) covers shown = shown_options [] changes 1 bytes shown
    by bytes (suc (suc zero)) covers shown = two_more bytes (shown_options [] changes 2 bytes shown)
    by bytes (suc (suc (suc n))) covers shown = absurd (omega (arith, shown.made))

-- And each of these may be left.
pub old_or_new_bytes_are_explained : (bytes : List ℕ) → IsOldOrNew bytes → IsExplained (with_file (codes "/f") bytes) root_alone (history_of session)
old_or_new_bytes_are_explained bytes are =
    file_is_explained (history_of session) changes 1 row names_are fsynced bytes
    (record { count = 1; covers = omega arith; shown = options_shown [] changes 1 (omega arith) bytes are })

-- One of the two may be new, and the other old;
pub half_of_a_write_is_explained : IsExplained (with_file (codes "/f") (codes "baaa")) root_alone (history_of session)
half_of_a_write_is_explained = old_or_new_bytes_are_explained (codes "baaa") (inr (inl refl), (inl refl, (inl refl, (inl refl, tt))))

-- what was synced and isn't written anew stands,
pub other_bytes_are_not_explained : IsExplained (with_file (codes "/f") (codes "bbba")) root_alone (history_of session) → ⊥
other_bytes_are_not_explained is = by there.0 same there.2
  where
    there : (bytes : List ℕ) × HasFile (with_file (codes "/f") (codes "bbba")) (codes "/f") bytes × IsOldOrNew bytes
    there = rewritten_bytes_show_old_or_new (with_file (codes "/f") (codes "bbba")) is

    same : codes "bbba" ≡ there.0
    same = let e = sym (file_is (codes "bbba")) ∙ there.1 in cc

    one : IsOneOf (97 ∷ []) 98 → ⊥
    one (inl e) = omega (arith, e)
    one (inr h) = h

    by : (bytes : List ℕ) → codes "bbba" ≡ bytes → IsOldOrNew bytes → ⊥
    by [] e are = are
    by (a ∷ []) e are = are.1
    by (a ∷ b ∷ []) e are = are.1.1
    by (a ∷ b ∷ c ∷ bytes) e are = let third : 98 ≡ c = cc in one (subst (IsOneOf (97 ∷ [])) (sym third) are.1.1.0)

-- and all of it is there.
pub fewer_bytes_are_not_explained : IsExplained (with_file (codes "/f") (codes "bb")) root_alone (history_of session) → ⊥
fewer_bytes_are_not_explained is = by there.0 same there.2
  where
    there : (bytes : List ℕ) × HasFile (with_file (codes "/f") (codes "bb")) (codes "/f") bytes × IsOldOrNew bytes
    there = rewritten_bytes_show_old_or_new (with_file (codes "/f") (codes "bb")) is

    same : codes "bb" ≡ there.0
    same = let e = sym (file_is (codes "bb")) ∙ there.1 in cc

    by : (bytes : List ℕ) → codes "bb" ≡ bytes → IsOldOrNew bytes → ⊥
    by [] e are = are
    by (a ∷ []) e are = are.1
    by (a ∷ b ∷ []) e are = are.1.1
    by (a ∷ b ∷ c ∷ bytes) e are = omega (arith, ap length e)
