-- Everything stands in the last tree.
use Rattle.std.proofs.Common.{◌∙◌, ℕ, List, [], ◌∷◌, ◌++◌, length, ap, refl, subst}
use Rattle.ufs_base.specs.Images.{Image}
use Rattle.ufs_layout.specs.declared.geometry.Geometry.{Geometry}
use Rattle.ufs_ledger.specs.Kept.{OpensExplained, paths_of}
use Rattle.ufs_model.specs.History.{IsLegal, IsPosixEntry, tree_after}
use Rattle.ufs_model.specs.PosixTree.{IsTree, PosixTree}
use Rattle.ufs_model.specs.Start.{HasContents}
use Rattle.ufs_model.specs.declared.data.Actor.TheVariants as actor
use Rattle.ufs_model.specs.declared.data.Entry.{Entry}
use Rattle.ufs_model.specs.declared.data.Op.TheVariants as op
use Rattle.ufs_model.specs.declared.data.Reply.TheVariants as reply
use Rattle.ufs_model.proofs.Facts.Histories.{legal-push, tree_after-push}
use Rattle.ufs_model.proofs.PosixReplyLemmas.{legal_entry, new_fault}
use Rattle.ufs_crash_laws.specs.Laws.{SyncsAreExact}
use Rattle.ufs_promise_laws.specs.Laws.{leaves_tree}
use Rattle.ufs_promise_laws.specs.OnDiskLaws.{AllIsSynced, OnDiskIsExplained}
use Rattle.ufs_promise_laws.proofs.Entries.{tree_left}
use Rattle.ufs_promise_laws.specs.Last.{StandsForTree, SyncedIsLast}
use Rattle.ufs_promise_laws.specs.LastLaws.{AllIsLast}

pub synced : SyncsAreExact → SyncedIsLast
synced exact tree start history entry is legal asks done explained =
    subst (λ (t : PosixTree). HasContents t tree)
    (tree_after-push start history entry ∙ tree_left (tree_after start history) entry (ap leaves_tree asks))
    ((exact start history entry tree is legal asks done).0 explained)

-- ---- a sync that may come next

-- of client 0
abbrev next_sync : List Entry → Entry
next_sync history = record { ticket = length history; client = 0; seq = 0; by = actor.Primary; op = op.Sync; reply = reply.Done }

next_is_legal : (start : PosixTree) (history : List Entry) → IsLegal start history → IsLegal start (history ++ next_sync history ∷ [])
next_is_legal start history legal =
    let t = tree_after start history in
    let is : IsPosixEntry (length history) t t (next_sync history) = record { numbered = refl; stepped = refl } in
    legal-push start history (next_sync history) legal (legal_entry (length history) t t (next_sync history) is) (new_fault (length history) t t (next_sync history) is history)

-- What the longer history explains stands for the tree.
stands : SyncedIsLast → (sectors : ℕ) (start : PosixTree) (history : List Entry) (image : Image) → IsTree start → IsLegal start (history ++ next_sync history ∷ [])
    → OpensExplained sectors start (history ++ next_sync history ∷ []) image → StandsForTree sectors (tree_after start history) image
stands last sectors start history image is legal opened = record {
  tree = opened.tree;
  opened = opened.opened;
  contents = last (paths_of opened.tree) start history (next_sync history) is legal refl refl opened.explained;
}

pub all_last : (g : Geometry) → AllIsSynced g → OnDiskIsExplained g → SyncedIsLast → AllIsLast g
all_last g acks explains last s start history p same has image left =
    let st = has.going.stored in
    let legal = next_is_legal start history st.legal in
    let on_disk = acks s start history (next_sync history) p same legal refl has in
    stands last s.sectors start history image st.tree legal (explains s start (history ++ next_sync history ∷ []) p same on_disk image left)
