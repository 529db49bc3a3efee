-- What is known as committed, on a disk whose counts have it.
use Rattle.std.proofs.Common.{◌≡◌, ◌⊎◌, ℕ, ◌<◌, ◌≤◌, ◌||◌, inl, inr, Bool, true, false, List, length, is_some, sym, refl, subst, arith}
use Rattle.std.specs.FinMap as map
use Rattle.ufs_bitmap.specs.Blocks.{BlockSet}
use Rattle.ufs_ledger.specs.Kept.{Counts}
use Rattle.ufs_ledger.specs.Ledger.{Ledger}
use Rattle.ufs_model.specs.PosixTree.{PosixTree}
use Rattle.ufs_model.specs.declared.data.Entry.{Entry}
use Rattle.ufs_crash_laws.specs.Changes.{name_changes, names_after}
use Rattle.ufs_crash_laws.specs.Laws.{NamesGoByChanges}
use Rattle.ufs_store.specs.State.{StoreState}
use Rattle.ufs_promise_laws.specs.Known.{Covers, IsDiskKept, IsKeptGoing, IsKeptStopped, Known, nothing_known, with_names_known}
use Rattle.ufs_promise_laws.specs.Laws.{all_named, with_names_committed}
use Rattle.ufs_promise_laws.specs.OnDisk.{HasNames, HasStoppedBy, IsGoing, IsOnDisk}
use Rattle.ufs_promise_laws.specs.Parts.{Parts}
use Rattle.ufs_promise_laws.specs.Stored.{IsStored}
use Rattle.ufs_promise_laws.proofs.Births.{born_by_all}
use Rattle.ufs_promise_laws.proofs.Numbered.{born_now, has_inode}

-- ---- nothing

pub nothing_covered : (start : PosixTree) (history : List Entry) (k : Counts) → k.names ≤ length (name_changes start history) → Covers start history k nothing_known
nothing_covered start history k made = record { made = made; names = omega arith; files = λ file. omega arith; born = λ file is. (let off = is in absurd cc) }

pub nothing_going : (s : StoreState) (start : PosixTree) (history : List Entry) (p : Parts) → IsGoing s start history p → IsKeptGoing s start history p nothing_known
nothing_going s start history p go = record { going = go; covers = nothing_covered start history go.counts go.stored.kept.here.stored.made; numbered = λ file is live. (let off = is in absurd cc) }

-- ---- a store that stops

pub stopped_known : (s : StoreState) (start : PosixTree) (history : List Entry) (p : Parts) (k next : Counts) (known : Known) → Covers start history k known → Covers start history next known → HasStoppedBy s start history p k next → IsKeptStopped s start history p known
stopped_known s start history p k next known now later st = record {
  stopped = st.stopped;
  now = subst (λ (c : Counts). Covers start history c known) (sym st.now) now;
  maybe = by st.maybe;
}
  where
    by : (st.stopped.maybe ≡ k) ⊎ (st.stopped.maybe ≡ next) → Covers start history st.stopped.maybe known
    by (inl is) = subst (λ (c : Counts). Covers start history c known) (sym is) now
    by (inr is) = subst (λ (c : Counts). Covers start history c known) (sym is) later

-- ---- once all names are committed

module _ (l : Ledger) (u : BlockSet) (start : PosixTree) (history : List Entry) (k : Counts) (p : Parts) (known : Known) (st : IsStored l u start history k p) (c : Covers start history k known) where
  -- what was known is known still,
  pub named_still : Covers start history (all_named start history p.names k) known
  named_still = record {
    made = omega arith;
    names = (let least = c.names in let most = c.made in omega (arith, least, most));
    files = c.files;
    born = born_by_all start history st.legal k known c;
  }

  -- and all names, with the birth of each live file
  pub named_covers : NamesGoByChanges → Covers start history (all_named start history p.names k) (with_names_known p.names (length (name_changes start history)) known)
  named_covers by = record { made = omega arith; names = omega arith; files = c.files; born = λ file is. either file (known.born file) refl (is_some (map.get p.names.held file)) refl is }
    where
      either : (file : ℕ) (a : Bool) → known.born file ≡ a → (b : Bool) → is_some (map.get p.names.held file) ≡ b → (a || b) ≡ true → file < (names_after start history (length (name_changes start history))).next
      either file true was b e is = born_by_all start history st.legal k known c file was
      either file false was true live is = born_now l u start history k p st by file (has_inode p.names file live)
      either file false was false dead is = absurd cc

-- So all names are on the disk.
pub kept_named : (s : StoreState) (start : PosixTree) (history : List Entry) (p : Parts) (known : Known) → IsKeptGoing s start history (with_names_committed p) (with_names_known p.names (length (name_changes start history)) known)
    → HasNames s start history (with_names_committed p)
kept_named s start history p known k = record { going = k.going; names = k.covers.names; numbered = λ file live. k.numbered file (either (known.born file) (is_some (map.get p.names.held file)) live) live }
  where
    either : (a b : Bool) → b ≡ true → (a || b) ≡ true
    either true b is = refl
    either false b is = is

pub on_disk_of : (s : StoreState) (start : PosixTree) (history : List Entry) (p : Parts) (known : Known) → IsDiskKept s start history p known → IsOnDisk s start history p
on_disk_of s start history p known (inl k) = inl k.going
on_disk_of s start history p known (inr k) = inr k.stopped
