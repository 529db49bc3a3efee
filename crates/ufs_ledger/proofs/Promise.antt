-- How the promise is kept, as blocks are written, as transactions are committed and as entries are drawn.
use Rattle.std.proofs.Common.{◌≡◌, ℕ, ◌+◌, ◌*◌, ◌<◌, ◌≤◌, ◌⊎◌, inl, inr, List, [], ◌∷◌, ◌++◌, length, Bool, true, false, cond, ◌&&◌, Option, Some, ap, sym, refl, ◌∙◌, subst, arith, length-append}
use Rattle.std.specs.Prelude.{◌==◌, ◌/◌, ◌%◌, if◌then◌else◌}
use Rattle.std.specs.List.{slice_get}
use Rattle.std.proofs.lemmas.Bool.Decides.{nat_tests}
use Rattle.ufs_disk.specs.Disk.{Cell, possible}
use Rattle.ufs_layout.specs.declared.geometry.Geometry.{Geometry}
use Rattle.ufs_model.specs.PosixTree.{PosixTree, IsTree}
use Rattle.ufs_model.specs.FileBytes.{bytes_of}
use Rattle.ufs_model.specs.Laws.{KeepsTrees}
use Rattle.ufs_model.specs.History.{IsLegalFrom, IsReplyTo, goes_on, tree_after}
use Rattle.ufs_model.proofs.Facts.Histories.{tree_after-push}
use Rattle.ufs_model.specs.declared.data.Entry.{Entry}
use Rattle.ufs_crash_laws.specs.FileChanges.{all_changed, byte_at, MayShow}
use Rattle.ufs_crash_laws.specs.Steps.{is_served}
use Rattle.ufs_crash_laws.specs.Changes.{NameState, names_of, changes_of, change_of, changes_names, names_by, name_changes, names_after}
use Rattle.ufs_crash_laws.specs.Stored.{IsNamed}
use Rattle.ufs_crash_laws.proofs.Facts.Shows.{may_show_more, may_show_now, bytes_after-append, bytes_after_all}
use Rattle.ufs_crash_laws.specs.Steps.{next_step}
use Rattle.ufs_crash_laws.proofs.Facts.Histories.{changes_of-push, name_changes-push, names_after-append}
use Rattle.ufs_crash_laws.proofs.Facts.Entries.{next_rises}
use Rattle.ufs_crash_laws.proofs.Facts.Contents.{unborn_still}
use Rattle.ufs_crash_laws.proofs.Facts.Sessions.{tree_after_is, names_last, front_legal, last_replied}
use Rattle.ufs_crash_laws.specs.Explained.{IsAckCovered}
use Rattle.std.proofs.lemmas.Bool.{cases_lt}
use Rattle.ufs_crash_laws.proofs.Facts.Explains.{covering-push}
use Rattle.ufs_crash_laws.proofs.Facts.Ends.{covering_more}
use Rattle.ufs_crash_laws.proofs.Facts.Stores.{named_before, unborn_changes}
use Rattle.ufs_crash_laws.specs.declared.data.FileChange.{FileChange}
use Rattle.ufs_ledger.specs.Ledger.{HasByte, Stand}
use Rattle.ufs_ledger.specs.Changes.{rewritten}
use Rattle.ufs_ledger.specs.Kept.{Numbers, IsNumberedBy, Shape, shape_of, MayHave, AlwaysShows, IsStandKept}
use Rattle.ufs_ledger.specs.Laws.{StandsOn}

-- ---- one file

-- fewer contents
fewer : (blocks others : ℕ → Cell) (shape : Shape) (opening : List ℕ) (changes : List FileChange) (count : ℕ)
    → ((block place byte : ℕ) → HasByte (possible (others block)) place byte → HasByte (possible (blocks block)) place byte) → AlwaysShows blocks shape opening changes count → AlwaysShows others shape opening changes count
fewer blocks others shape opening changes count less always = record {
  made = always.made;
  size = always.size;
  each = λ place byte under may. always.each place byte under (record { block = may.block; there = may.there; has = less may.block (place % 4096) byte may.has });
}

has_either : (xs ys : List (List ℕ)) (place byte : ℕ) → HasByte (xs ++ ys) place byte → HasByte xs place byte ⊎ HasByte ys place byte
has_either [] ys place byte is = inr is
has_either (x ∷ xs) ys place byte (inl e) = inl (inl e)
has_either (x ∷ xs) ys place byte (inr is) = by (has_either xs ys place byte is)
  where
    by : HasByte xs place byte ⊎ HasByte ys place byte → HasByte (x ∷ xs) place byte ⊎ HasByte ys place byte
    by (inl a) = inl (inr a)
    by (inr b) = inr b

-- a block is written with what the file has there
rewrites : (blocks : ℕ → Cell) (block : ℕ) (bytes : List ℕ) (shape : Shape) (opening : List ℕ) (changes : List FileChange) (count : ℕ)
    → ((place : ℕ) → slice_get shape.holds place ≡ Some block → (at : ℕ) → at < 4096 → 4096 * place + at < shape.size → byte_at bytes at ≡ byte_at (all_changed opening changes) (4096 * place + at))
    → AlwaysShows blocks shape opening changes count → AlwaysShows (rewritten block bytes blocks) shape opening changes count
rewrites blocks block bytes shape opening changes count now always = record {
  made = always.made;
  size = always.size;
  each = λ place byte under may. by place byte under may.block may.there (may.block == block) refl may.has;
}
  where
    of : (place byte k : ℕ) → place < shape.size → slice_get shape.holds (place / 4096) ≡ Some k → k ≡ block → HasByte (possible (blocks k)) (place % 4096) byte ⊎ HasByte (bytes ∷ []) (place % 4096) byte → MayShow opening changes count place byte
    of place byte k under there same (inl old) = always.each place byte under (record { block = k; there = there; has = old })
    of place byte k under there same (inr (inl is)) =
        let split : 4096 * (place / 4096) + place % 4096 ≡ place = omega arith in
        let in_it : (place % 4096) < 4096 = omega arith in
        let written = now (place / 4096) (there ∙ ap Some same) (place % 4096) in_it (subst (λ p. p < shape.size) (sym split) under) in
        may_show_now opening changes count place byte always.made (is ∙ written ∙ ap (byte_at (all_changed opening changes)) split)
    of place byte k under there same (inr (inr none)) = absurd none

    by : (place byte : ℕ) → place < shape.size → (k : ℕ) → slice_get shape.holds (place / 4096) ≡ Some k → (b : Bool) → (k == block) ≡ b
        → HasByte (possible (if b then record { older = possible (blocks k); seen = bytes } else blocks k)) (place % 4096) byte → MayShow opening changes count place byte
    by place byte under k there true e has =
        let same : k ≡ block = grind (arith, nat_tests, e) in
        of place byte k under there same (has_either (possible (blocks k)) (bytes ∷ []) (place % 4096) byte has)
    by place byte under k there false e has = always.each place byte under (record { block = k; there = there; has = has })

-- the file changes further
shows_more : (blocks : ℕ → Cell) (shape : Shape) (opening : List ℕ) (changes more : List FileChange) (count : ℕ) → AlwaysShows blocks shape opening changes count → AlwaysShows blocks shape opening (changes ++ more) count
shows_more blocks shape opening changes more count always = record {
  made = omega (arith, always.made, length-append changes more);
  size = always.size ∙ ap length (sym (bytes_after-append opening changes more count always.made));
  each = λ place byte under may. may_show_more opening changes more count place byte (always.each place byte under may);
}

-- blocks that show what the file has now
pub shows_now : (blocks : ℕ → Cell) (shape : Shape) (opening : List ℕ) (changes : List FileChange) → shape.size ≡ length (all_changed opening changes)
    → ((place byte : ℕ) → place < shape.size → MayHave blocks shape place byte → byte ≡ byte_at (all_changed opening changes) place) → AlwaysShows blocks shape opening changes (length changes)
shows_now blocks shape opening changes size now = record {
  made = omega arith;
  size = size ∙ ap length (sym (bytes_after_all opening changes));
  each = λ place byte under may. may_show_now opening changes (length changes) place byte (omega arith) (now place byte under may);
}

-- a file that isn't there
shows_nothing : (blocks : ℕ → Cell) → AlwaysShows blocks (record { size = 0; holds = [] }) [] [] 0
shows_nothing blocks = record { made = omega arith; size = refl; each = λ place byte under may. absurd (omega (arith, under)) }

-- ---- the promise

module _ (g : Geometry) (blocks : ℕ → Cell) (s : Stand) (start : PosixTree) (history : List Entry) (names : ℕ) (files : ℕ → ℕ) (n : Numbers) (kept : IsStandKept g blocks s start history names files n) where
  abbrev Shows : List FileChange → ℕ → Type 0
  Shows changes file = AlwaysShows blocks (shape_of s.catalog (n.inode file)) (bytes_of start.bytes file) changes (files file)

  pub fewer_kept : (others : ℕ → Cell) → ((block place byte : ℕ) → HasByte (possible (others block)) place byte → HasByte (possible (blocks block)) place byte) → IsStandKept g others s start history names files n
  fewer_kept others less = record {
    stored = record {
      made = kept.stored.made;
      paths = kept.stored.paths;
      inodes = kept.stored.inodes;
      unheld = kept.stored.unheld;
      shown = λ count file from to named. fewer blocks others (shape_of s.catalog (n.inode file)) (bytes_of start.bytes file) (changes_of file start history) (files file) less (kept.stored.shown count file from to named);
      fresh = kept.stored.fresh;
    };
    covers = kept.covers;
  }

  pub writing_kept : (block : ℕ) (bytes : List ℕ)
      → ((file place : ℕ) → slice_get (shape_of s.catalog (n.inode file)).holds place ≡ Some block → (at : ℕ) → at < 4096 → 4096 * place + at < (shape_of s.catalog (n.inode file)).size
      → byte_at bytes at ≡ byte_at (all_changed (bytes_of start.bytes file) (changes_of file start history)) (4096 * place + at))
      → IsStandKept g (rewritten block bytes blocks) s start history names files n
  writing_kept block bytes now = record {
    stored = record {
      made = kept.stored.made;
      paths = kept.stored.paths;
      inodes = kept.stored.inodes;
      unheld = kept.stored.unheld;
      shown = λ count file from to named. rewrites blocks block bytes (shape_of s.catalog (n.inode file)) (bytes_of start.bytes file) (changes_of file start history) (files file) (now file) (kept.stored.shown count file from to named);
      fresh = kept.stored.fresh;
    };
    covers = kept.covers;
  }

  pub commit_kept : KeepsTrees → IsTree start → IsLegalFrom 0 start history → (t : Stand) (more : ℕ) (others : ℕ → ℕ) (m : Numbers) → StandsOn g blocks s t start history names more files others n m → IsStandKept g blocks t start history more others m
  commit_kept keeps is legal t more others m on = record {
    stored = record {
      made = on.made;
      paths = on.paths;
      inodes = on.inodes;
      unheld = on.unheld;
      shown = λ count file from to named. by count file from to named (on.each count file from to named);
      fresh = on.fresh;
    };
    covers = covering_more keeps start is history legal names more files others on.later on.made on.rises kept.covers;
  }
    where
      by : (count file : ℕ) → more ≤ count → count ≤ length (name_changes start history) → IsNamed (names_after start history count).paths file
          → ((others file ≡ files file) × (shape_of t.catalog (m.inode file) ≡ shape_of s.catalog (n.inode file)))
          ⊎ AlwaysShows blocks (shape_of t.catalog (m.inode file)) (bytes_of start.bytes file) (changes_of file start history) (others file)
          → AlwaysShows blocks (shape_of t.catalog (m.inode file)) (bytes_of start.bytes file) (changes_of file start history) (others file)
      by count file from to named (inl same) =
          subst (λ (x : ℕ × Shape). AlwaysShows blocks x.1 (bytes_of start.bytes file) (changes_of file start history) x.0) (λ i. (sym same.0 i, sym same.1 i))
          (kept.stored.shown count file (omega (arith, from, on.later)) to named)
      by count file from to named (inr shown) = shown

  pub entry_kept : KeepsTrees → IsTree start → (entry : Entry) → IsLegalFrom 0 start (history ++ entry ∷ []) → IsAckCovered start history entry names files → IsStandKept g blocks s start (history ++ entry ∷ []) names files n
  entry_kept keeps is entry legal acked = record {
    stored = record {
      made = omega (arith, kept.stored.made, longer);
      paths = subst (λ (x : NameState). IsNumberedBy s.catalog n x.paths) (sym (names_after-append start history (entry ∷ []) names kept.stored.made)) kept.stored.paths;
      inodes = kept.stored.inodes;
      unheld = kept.stored.unheld;
      shown = λ count file from to named. by count file from to named (cases_lt (length (name_changes start history)) count);
      fresh = λ file above.
          let later = ap (λ (t : PosixTree). t.next) (tree_after-push start history entry) in
          let rises = next_rises (tree_after start history) entry replied in
          kept.stored.fresh file (omega (arith, above, later, rises));
    };
    covers = covering-push start history entry names files kept.covers kept.stored.made acked;
  }
    where
      before : IsLegalFrom 0 start history
      before = front_legal 0 start history (entry ∷ []) legal

      replied : IsReplyTo (tree_after start history) entry
      replied = last_replied 0 start history entry legal

      longer : length (name_changes start (history ++ entry ∷ [])) ≡ length (name_changes start history) + length (names_by (next_step start history entry))
      longer = ap length (name_changes-push start history entry) ∙ length-append (name_changes start history) (names_by (next_step start history entry))

      at_most : (b : Bool) → length (cond b (names_of (goes_on (tree_after start history) entry) ∷ []) []) ≤ 1
      at_most true = omega arith
      at_most false = omega arith

      one : length (names_by (next_step start history entry)) ≤ 1
      one = at_most (is_served entry.reply && changes_names (tree_after start history) entry.op)

      goes : (file : ℕ) → Shows (changes_of file start history) file → Shows (changes_of file start (history ++ entry ∷ [])) file
      goes file shown =
          subst (λ changes. Shows changes file) (sym (changes_of-push file start history entry))
          (shows_more blocks (shape_of s.catalog (n.inode file)) (bytes_of start.bytes file) (changes_of file start history) (change_of file (next_step start history entry)) (files file) shown)

      -- it is named in the tree before, or new
      by_name : (file : ℕ) → IsNamed (tree_after start history).paths file ⊎ (file ≡ (tree_after start history).next) → Shows (changes_of file start (history ++ entry ∷ [])) file
      by_name file (inl named) =
          goes file (kept.stored.shown (length (name_changes start history)) file kept.stored.made (omega arith) (subst (λ (x : NameState). IsNamed x.paths file) (sym (names_last start history before)) named))
      by_name file (inr new) =
          let low : (tree_after start history).next ≤ file = omega (arith, new) in
          let unborn = unborn_changes keeps 0 start is history before file low in
          let still : changes_of file start (history ++ entry ∷ []) ≡ [] = changes_of-push file start history entry ∙ (λ i. unborn.1 i ++ unborn_still (tree_after start history) (tree_after_is keeps 0 start is history before) entry file low i) in
          let none = kept.stored.fresh file low in
          subst (λ (x : Option ℕ × List ℕ × List FileChange × ℕ). AlwaysShows blocks (shape_of s.catalog x.0) x.1 x.2 x.3)
          (λ i. (sym none.1 i, sym unborn.0 i, sym still i, sym none.0 i)) (shows_nothing blocks)

      by : (count file : ℕ) → names ≤ count → count ≤ length (name_changes start (history ++ entry ∷ [])) → IsNamed (names_after start (history ++ entry ∷ []) count).paths file
          → (length (name_changes start history) < count) ⊎ (count ≤ length (name_changes start history)) → Shows (changes_of file start (history ++ entry ∷ [])) file
      by count file from to named (inr old) = goes file (kept.stored.shown count file from old (subst (λ (x : NameState). IsNamed x.paths file) (names_after-append start history (entry ∷ []) count old) named))
      by count file from to named (inl more) =
          let last : count ≡ length (name_changes start (history ++ entry ∷ [])) = omega (arith, longer, one, to, more) in
          by_name file (named_before (tree_after start history) entry replied file
          (subst (λ (x : NameState). IsNamed x.paths file) (ap (names_after start (history ++ entry ∷ [])) last ∙ names_last start (history ++ entry ∷ []) legal ∙ ap names_of (tree_after-push start history entry)) named))
