-- What a store does, step by step: each leaves the promise kept.
use Rattle.std.proofs.Common.{◌≡◌, ◌≤◌, ◌<◌, ℕ, ◌⊎◌, inl, inr, List, [], ◌∷◌, ◌++◌, length, ap, sym, refl, ◌∙◌, subst, arith}
use Rattle.ufs_model.specs.PosixTree.{PosixTree, IsTree}
use Rattle.ufs_model.specs.FileBytes.{bytes_of}
use Rattle.ufs_model.specs.Laws.{KeepsTrees}
use Rattle.ufs_model.specs.Start.{PathNodes}
use Rattle.ufs_model.specs.History.{IsLegalFrom, tree_after}
use Rattle.ufs_model.proofs.Facts.Histories.{tree_after-push}
use Rattle.ufs_model.specs.declared.data.Entry.{Entry}
use Rattle.ufs_crash_laws.specs.FileChanges.{all_changed, byte_at, IsShown}
use Rattle.ufs_crash_laws.specs.Changes.{changes_of, name_changes, names_after}
use Rattle.ufs_crash_laws.specs.Explained.{IsTreeWith, IsExplained, IsAckCovered}
use Rattle.ufs_crash_laws.specs.Stored.{IsNamed, IsKept}
use Rattle.ufs_crash_laws.proofs.Facts.Shows.{shown_now, shown_written_back}
use Rattle.ufs_crash_laws.proofs.Facts.Entries.{next_rises}
use Rattle.ufs_crash_laws.proofs.Facts.Explains.{explained_by, covering-push}
use Rattle.ufs_crash_laws.proofs.Facts.Ends.{covering_more}
use Rattle.ufs_crash_laws.proofs.Facts.Sessions.{last_replied}
use Rattle.ufs_crash_laws.proofs.Facts.Stores.{stored_opens, stored_names, stored_file, stored_others, stored_start, stored-push}

-- An image with these names and files is explained.
pub kept_explained : (start : PosixTree) (history : List Entry) (names : ℕ) (files : ℕ → ℕ) (content : ℕ → List ℕ) (tree : PathNodes) → IsKept start history names files content
    → IsTreeWith (λ file bytes. bytes ≡ content file) (names_after start history names).paths tree → IsExplained tree start history
kept_explained start history names files content tree kept opens = explained_by start history names files tree kept.covers (stored_opens start history names files content tree kept.stored opens)

-- An entry is drawn, and what it acknowledges is covered.
pub kept-push : KeepsTrees → (start : PosixTree) → IsTree start → (history : List Entry) (entry : Entry) → IsLegalFrom 0 start (history ++ entry ∷ []) → (names : ℕ) (files : ℕ → ℕ) (content : ℕ → List ℕ)
    → IsAckCovered start history entry names files → IsKept start history names files content → IsKept start (history ++ entry ∷ []) names files content
kept-push keeps start is history entry legal names files content acked kept = record {
  stored =
      let new = kept.fresh (tree_after start history).next (omega arith) in
      stored-push keeps start is history entry legal names files content new.0 new.1 kept.stored;
  covers = covering-push start history entry names files kept.covers kept.stored.made acked;
  fresh = λ file above.
      let later = ap (λ (t : PosixTree). t.next) (tree_after-push start history entry) in
      let rises = next_rises (tree_after start history) entry (last_replied 0 start history entry legal) in
      kept.fresh file (omega (arith, above, later, rises));
}

module _ (start : PosixTree) (history : List Entry) (names : ℕ) (files : ℕ → ℕ) (content : ℕ → List ℕ) (kept : IsKept start history names files content) where
  -- other numbers and contents in one file that is made
  one_file : (one : ℕ) → one < (tree_after start history).next → (others : ℕ → ℕ) (after : ℕ → List ℕ) → ((file : ℕ) → (file ≡ one) ⊎ ((files file ≡ others file) × (content file ≡ after file)))
      → files one ≤ others one → IsShown (bytes_of start.bytes one) (changes_of one start history) (others one) (after one) → IsKept start history names others after
  one_file one made others after apart more shown = record {
    stored = stored_file start history names files others content after one apart shown kept.stored;
    covers = record {
      synced = kept.covers.synced;
      born = kept.covers.born;
      each = λ file. let before = kept.covers.each file in let up = grows file (apart file) in omega (arith, before, up);
    };
    fresh = λ file above. at file above (apart file) (kept.fresh file above);
  }
    where
      grows : (file : ℕ) → (file ≡ one) ⊎ ((files file ≡ others file) × (content file ≡ after file)) → files file ≤ others file
      grows file (inl e) = subst (λ f. files f ≤ others f) (sym e) more
      grows file (inr same) = omega (arith, same.0)

      at : (file : ℕ) → (tree_after start history).next ≤ file → (file ≡ one) ⊎ ((files file ≡ others file) × (content file ≡ after file)) → (files file ≡ 0) × (content file ≡ []) → (others file ≡ 0) × (after file ≡ [])
      at file above (inl e) none = absurd (omega (arith, above, e, made))
      at file above (inr same) none = (sym same.0 ∙ none.0, sym same.1 ∙ none.1)

  -- Places of a file are written back: each shows what it showed, or what the file has now.
  pub kept_written_back : (one : ℕ) → one < (tree_after start history).next → (after : ℕ → List ℕ) → ((file : ℕ) → (file ≡ one) ⊎ (content file ≡ after file))
      → IsShown (bytes_of start.bytes one) (changes_of one start history) (files one) (content one) → length (after one) ≡ length (content one)
      → ((place : ℕ) → place < length (after one) → (byte_at (after one) place ≡ byte_at (content one) place) ⊎ (byte_at (after one) place ≡ byte_at (all_changed (bytes_of start.bytes one) (changes_of one start history)) place))
      → IsKept start history names files after
  kept_written_back one made after apart shown size back =
      one_file one made files after (λ file. by file (apart file)) (omega arith) (shown_written_back (bytes_of start.bytes one) (changes_of one start history) (files one) (content one) (after one) shown size back)
    where
      by : (file : ℕ) → (file ≡ one) ⊎ (content file ≡ after file) → (file ≡ one) ⊎ ((files file ≡ files file) × (content file ≡ after file))
      by file (inl e) = inl e
      by file (inr same) = inr (refl, same)

  -- A file is committed: it shows all its changes.
  pub kept_committed_file : (one : ℕ) → one < (tree_after start history).next → (others : ℕ → ℕ) (after : ℕ → List ℕ) → ((file : ℕ) → (file ≡ one) ⊎ ((files file ≡ others file) × (content file ≡ after file)))
      → files one ≤ length (changes_of one start history) → others one ≡ length (changes_of one start history) → after one ≡ all_changed (bytes_of start.bytes one) (changes_of one start history) → IsKept start history names others after
  kept_committed_file one made others after apart below all now =
      one_file one made others after apart (omega (arith, below, all))
      (subst (λ (x : ℕ × List ℕ). IsShown (bytes_of start.bytes one) (changes_of one start history) x.0 x.1) (λ i. (sym all i, sym now i)) (shown_now (bytes_of start.bytes one) (changes_of one start history)))

  -- The names are committed, up to some of their changes.
  pub kept_committed_names : KeepsTrees → IsTree start → IsLegalFrom 0 start history → (more : ℕ) → names ≤ more → more ≤ length (name_changes start history) → IsKept start history more files content
  kept_committed_names keeps is legal more le made = record {
    stored = stored_names start history names more files content le made kept.stored;
    covers = covering_more keeps start is history legal names more files files le made (λ file. omega arith) kept.covers;
    fresh = kept.fresh;
  }

  -- Files that no names have from the stored ones on, which were dropped or are open without a name, may count as committed
  -- further, and their blocks may get other bytes.
  pub kept_unnamed : (others : ℕ → ℕ) (after : ℕ → List ℕ)
      → ((count file : ℕ) → names ≤ count → count ≤ length (name_changes start history) → IsNamed (names_after start history count).paths file → (files file ≡ others file) × (content file ≡ after file))
      → ((file : ℕ) → files file ≤ others file) → ((file : ℕ) → (tree_after start history).next ≤ file → (others file ≡ 0) × (after file ≡ [])) → IsKept start history names others after
  kept_unnamed others after same grows fresh = record {
    stored = stored_others start history names files others content after same kept.stored;
    covers = record { synced = kept.covers.synced; born = kept.covers.born; each = λ file. let before = kept.covers.each file in let up = grows file in omega (arith, before, up) };
    fresh = fresh;
  }

-- before any entry
pub kept_start : (start : PosixTree) (content : ℕ → List ℕ) → ((file : ℕ) → IsNamed start.paths file → content file ≡ bytes_of start.bytes file) → ((file : ℕ) → start.next ≤ file → content file ≡ [])
    → IsKept start [] 0 (λ _. 0) content
kept_start start content same none = record {
  stored = stored_start start content same;
  covers = record { synced = omega arith; born = λ file e. cc; each = λ file. omega arith };
  fresh = λ file above. (refl, none file above);
}
