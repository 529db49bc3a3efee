-- At the end every image is explained.
use Rattle.std.proofs.Common.{◌≡◌, ℕ, ◌≤◌, List, [], ◌∷◌, sym, ◌∙◌, subst, inl, inr, arith}
use Rattle.std.specs.Prelude.{take, Result, Ok}
use Rattle.ufs_image.specs.Opens.{ImageTree}
use Rattle.ufs_image.specs.Volume.{Refusal}
use Rattle.ufs_model.specs.PosixTree.{PosixTree}
use Rattle.ufs_model.specs.declared.data.Entry.{Entry}
use Rattle.ufs_crash_laws.specs.Explained.{IsExplained}
use Rattle.ufs_hand_laws.specs.Owned.{Has}
use Rattle.ufs_hand_laws.specs.Parts.{Cells, Stretch, StorePart, View, Word, Start}
use Rattle.ufs_hand_laws.specs.Explained.{AreJoined}
use Rattle.ufs_hand_laws.specs.Whole.{IsWhole}
use Rattle.ufs_hand_laws.specs.Known.{Knows}
use Rattle.ufs_hand_laws.specs.Shown.{nodes_of, ExplainsImages}
use Rattle.ufs_hand_laws.specs.ByImages.{by_images}
use Rattle.ufs_hand_laws.specs.Durable.{IsExplainedThroughout, IsStoreDurable, IsDurable}
use Rattle.ufs_hand_laws.specs.Visible.{IsDiskVisible}

-- a stretch isn't empty
joined_rise : (past : List Stretch) (mark : ℕ) → AreJoined past mark → (x : Stretch) → Has x past → x.from ≤ x.to
joined_rise [] mark j x h = absurd h
joined_rise (y ∷ past) mark j x (inl e) = subst (λ (z : Stretch). z.from ≤ z.to) (sym e) j.1
joined_rise (y ∷ past) mark j x (inr h) = joined_rise past y.from j.2 x h

one_tree : (a b : ImageTree) → ◌≡◌ {A = Result ImageTree Refusal} (Ok a) (Ok b) → a ≡ b
one_tree a b e = cc

-- the tree to which an image opens is one, whatever the number of entries
throughout : (start : PosixTree) (history : List Entry) (from to : ℕ) (cells : Cells) → from ≤ to → ((count : ℕ) → from ≤ count → count ≤ to → ExplainsImages start (take count history) cells) → IsExplainedThroughout start history from to cells
throughout start history from to cells le each image is =
    let first = each from (omega arith) le image is in (
      first.0,
      first.1,
      λ count low high.
          let other = each count low high image is in
          subst (λ t. IsExplained (nodes_of t) start (take count history)) (one_tree other.0 first.0 (sym other.1 ∙ first.1)) other.2,
    )

pub store_durable : (k : Start) (word : Word) (v : View) (u : Unit {0}) (store : StorePart) → Has (u, store) v.store → IsDiskVisible k → Knows by_images k word v → IsStoreDurable k word store
store_durable k word v u store has visible n =
    let disk = n.explained visible u store has in
    record {
      history = n.history;
      all_drawn = n.tickets;
      legal = n.legal;
      joined = disk.joined;
      marked = disk.marked;
      past = λ x h cells hc. throughout k.tree n.history x.from x.to cells (joined_rise store.past store.mark disk.joined x h) (λ count low high. disk.past x h count low high cells hc);
      now = throughout k.tree n.history store.mark word.tickets store.state disk.marked disk.now;
    }

pub durable : (k : Start) (word : Word) (v : View) (store : StorePart) → IsDiskVisible k → IsWhole by_images k word v store → IsDurable k word v store
durable k word v store visible w = record {
  history = w.history;
  all_drawn = w.all_drawn;
  legal = w.legal;
  order = w.order;
  transcripts = w.transcripts;
  merged = w.merged;
  tree = w.tree;
  files = w.files;
  joined = (w.disk visible).joined;
  marked = (w.disk visible).marked;
  past = λ x h cells hc. throughout k.tree w.history x.from x.to cells (joined_rise store.past store.mark (w.disk visible).joined x h) (λ count low high. (w.disk visible).past x h count low high cells hc);
  now = throughout k.tree w.history store.mark word.tickets store.state (w.disk visible).marked (w.disk visible).now;
}
