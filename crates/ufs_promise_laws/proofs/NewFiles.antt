-- An entry of the names, and files that are new by it.
use Rattle.std.proofs.Common.{◌≡◌, ℕ, inl, inr, List, [], ◌∷◌, ◌++◌, Option, Some, None, ap, sym, refl, ◌∙◌, subst}
use Rattle.std.specs.Prelude.{unwrap_or}
use Rattle.ufs_dirs.proofs.BlockLemmas.{distinct_none}
use Rattle.std.specs.FinMap as map
use Rattle.ufs_bitmap.specs.Blocks.{BlockSet}
use Rattle.ufs_bitmap.proofs.TakingLemmas.{has-none}
use Rattle.ufs_file.specs.Hand.{FileState, IsFileOf}
use Rattle.ufs_image.specs.Catalog.{IsInode}
use Rattle.ufs_layout.specs.InodeForm.{InodeForm}
use Rattle.ufs_layout.specs.Superblock.{geometry_of}
use Rattle.ufs_layout.specs.declared.geometry.Geometry.{Geometry}
use Rattle.ufs_ledger.specs.Kept.{Counts, Numbers}
use Rattle.ufs_ledger.specs.Laws.{EntriesKeep}
use Rattle.ufs_ledger.specs.Ledger.{Ledger}
use Rattle.ufs_model.specs.FileBytes.{bytes_of}
use Rattle.ufs_model.specs.History.{IsLegal, tree_after}
use Rattle.ufs_model.specs.PosixTree.{PosixTree}
use Rattle.ufs_model.specs.declared.data.Entry.{Entry}
use Rattle.ufs_promise_laws.proofs.Forms.{form_here}
use Rattle.ufs_names.specs.Calls.{no_bytes}
use Rattle.ufs_crash_laws.specs.Explained.{IsAckCovered}
use Rattle.ufs_file_commits.specs.State.{CommitState, IsNoted, state_of, whole_of}
use Rattle.ufs_promise_laws.specs.Laws.{IsNewFile, IsWholeIn, StaysOrNew}
use Rattle.ufs_promise_laws.specs.Parts.{Parts, committed_as, durable_in}
use Rattle.ufs_promise_laws.specs.Stored.{AreNamesStored, ArePartsOf, AreSpaced, IsFileWhole, IsStored, empty_form}
use Rattle.ufs_promise_laws.proofs.Entries.{counted_still, ledger_kept}
use Rattle.ufs_promise_laws.proofs.Whole.{tree_has_none}

empty_whole : (l : Ledger) (numbers : Numbers) (file inode : ℕ) → numbers.inode file ≡ None → IsInode (geometry_of l.superblock) inode → IsFileWhole l numbers (state_of (no_bytes file inode) (committed_as (no_bytes file inode)))
empty_whole l numbers file inode unborn inside =
    let form = form_here l.now.catalog inode empty_form in
    record {
      noted = record { inode = refl; runs = refl; size = refl; marks = refl; apart = record { absent = λ b is. (let clash = sym is ∙ has-none b in absurd cc); once = distinct_none }; held = refl; written = λ place on. on };
      once = distinct_none;
      own = λ place block at. (let gone = at in absurd cc);
      stored = inr (
        unborn,
        record {
          in_range = inside;
          kind = ap (λ (f : InodeForm). f.kind) form;
          size = ap (λ (f : InodeForm). f.size) form;
          extents = ap (λ (f : InodeForm). f.extents) form;
          blocks = λ place block at. (let gone = at in absurd cc);
          clean = λ place block at off. (let gone = at in absurd cc);
        },
      );
    }

-- which it is with the bytes of any tree that may have it
new_whole : (t : PosixTree) (l : Ledger) (numbers : Numbers) (p : Parts) (file : ℕ) (f : FileState) → (f.file ≡ file) × IsFileOf f t → IsNewFile l numbers p f → IsWholeIn t l numbers p file f
new_whole t l numbers p file f of new =
    (subst IsNoted (sym same) empty.noted, subst (IsFileWhole l numbers) (sym (λ i. whole_of (none i) (same i))) empty)
  where
    empty : IsFileWhole l numbers (state_of (no_bytes f.file f.inode) (committed_as (no_bytes f.file f.inode)))
    empty = empty_whole l numbers f.file f.inode new.unborn new.in_range

    same : durable_in p.commits f ≡ state_of (no_bytes f.file f.inode) (committed_as (no_bytes f.file f.inode))
    same = ap (λ (o : Option CommitState). state_of f (unwrap_or o (committed_as f))) new.unknown ∙ ap (λ (h : FileState). state_of h (committed_as h)) new.empty

    none : bytes_of t.bytes file ≡ []
    none = tree_has_none t file f of (ap (λ (h : FileState). h.content.bytes) new.empty)

pub name_entry_kept : (g : Geometry) → EntriesKeep g → (l : Ledger) (u : BlockSet) (start : PosixTree) (history : List Entry) (entry : Entry) (k : Counts) (p next : Parts) → geometry_of l.superblock ≡ g
    → IsLegal start (history ++ entry ∷ []) → IsAckCovered start history entry k.names k.files → ArePartsOf next (tree_after start (history ++ entry ∷ []))
    → AreNamesStored l k.numbers next.fresh next.names → ((file : ℕ) (f : FileState) → map.get next.files file ≡ Some f → StaysOrNew (tree_after start history) (tree_after start (history ++ entry ∷ [])) l k.numbers p next file f) → AreSpaced l u k.numbers next
    → IsStored l u start history k p → IsStored l u start (history ++ entry ∷ []) k next
name_entry_kept g keeps l u start history entry k p next same legal ack parts names files spaced st = record {
  tree = st.tree;
  legal = legal;
  kept = ledger_kept g keeps l start history entry k k same st.tree legal ack ack st.kept;
  parts = parts;
  names = names;
  counted = counted_still start history entry k st.kept.here.stored.made st.counted;
  noted = λ file f here. (by file f here (files file f here)).0;
  each = λ file f here. (by file f here (files file f here)).1;
  spaced = spaced;
}
  where
    by : (file : ℕ) (f : FileState) → map.get next.files file ≡ Some f → StaysOrNew (tree_after start history) (tree_after start (history ++ entry ∷ [])) l k.numbers p next file f → IsWholeIn (tree_after start (history ++ entry ∷ [])) l k.numbers next file f
    by file f here (inl was) = (
      subst IsNoted (sym was.1) (st.noted file f was.0),
      subst (IsFileWhole l k.numbers) (sym (λ i. whole_of (unwrap_or (was.2 i) []) (was.1 i))) (st.each file f was.0),
    )
    by file f here (inr (inl new)) = new_whole (tree_after start (history ++ entry ∷ [])) l k.numbers next file f (parts.files file f here) new
    by file f here (inr (inr whole)) = whole
