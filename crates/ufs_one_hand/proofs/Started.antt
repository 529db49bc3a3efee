-- What the start of a session says: its tree, in which each file has one name, and a hand that has each client once.
use Rattle.std.proofs.Common.{◌≡◌, ℕ, ◌<◌, eqb, Bool, List, Option, refl, sym, ap, ◌∙◌, subst, arith}
use Rattle.std.specs.Ordering.{ordering_reverse}
use Rattle.std.specs.declared.cmp.Ordering.{Ordering}
use Rattle.std.specs.declared.cmp.Ordering.TheVariants.{Less, Equal, Greater}
use Rattle.ufs_base.specs.declared.limits.TheConstants.{MAX_CLIENTS}
use Rattle.ufs_model.specs.Order.{path_cmp}
use Rattle.ufs_model.specs.PosixTree.{PosixTree, IsTree}
use Rattle.ufs_model.specs.Start.{IsNumberedByPath, start_of}
use Rattle.ufs_model.specs.declared.data.Entry.{Entry}
use Rattle.ufs_model.specs.declared.data.Op.{Op}
use Rattle.ufs_model.proofs.ContentLemmas.{start_is_numbered}
use Rattle.ufs_model.proofs.Facts.Orders.{path_total, path_same}
use Rattle.ufs_model.proofs.Facts.Starts.{start_is_tree}
use Rattle.ufs_hand_laws.specs.Acknowledged.{IsNamedOnce}
use Rattle.ufs_hand_laws.specs.Owned.{count}
use Rattle.ufs_hand_laws.specs.Parts.{Cells, Start, View}
use Rattle.ufs_hand_laws.specs.Whole.{idle_client, idle_asked}
use Rattle.ufs_hand_laws.proofs.First.{each_once}
use Rattle.ufs_one_hand.specs.OneHand.{HasSession, IsStart, seeing}

numbered_once : (t : PosixTree) → IsNumberedByPath t → IsNamedOnce t.paths
numbered_once t by_path p q f at too = by (path_cmp p q) refl
  where
    by : (o : Ordering) → path_cmp p q ≡ o → p ≡ q
    by Less e = let below = by_path p q f f at too e in absurd (omega (arith, below))
    by Equal e = path_same p q e
    by Greater e = let below = by_path q p f f too at (path_total.antisymm q p ∙ ap ordering_reverse e) in absurd (omega (arith, below))

module _ (k : Start) (start : IsStart k) where
  pub start_tree : IsTree k.tree
  start_tree = subst (λ (z : Start). IsTree z.tree) (sym start.is) (start_is_tree start.nodes start.paths)

  pub start_named : IsNamedOnce k.tree.paths
  start_named = subst (λ (z : Start). IsNamedOnce z.tree.paths) (sym start.is) (numbered_once (start_of start.nodes) (start_is_numbered start.nodes))

-- whatever the disk is
pub seeing_starts : (k : Start) (cells : Cells) (is_visible : Bool) → IsStart k → IsStart (seeing k cells is_visible)
seeing_starts k cells is_visible start = record {
  nodes = start.nodes;
  cells = cells;
  is_visible = is_visible;
  paths = start.paths;
  few = start.few;
  is = ap (λ (z : Start). seeing z cells is_visible) start.is;
}

module _ (k : Start) (history : List Entry) (asked : Option (ℕ × Op)) (v : View) (h : HasSession k history asked v) (client : ℕ) (low : client < MAX_CLIENTS) where
  pub one_client : count eqb client v.clients ≡ 1
  one_client = h.all_clients client ∙ ap (λ (z : Start). count eqb client z.view.clients) h.start.is ∙ each_once (λ _. idle_client) MAX_CLIENTS 0 client (omega arith) (omega arith)

  pub one_asked : count eqb client v.asked ≡ 1
  one_asked = h.all_asked client ∙ ap (λ (z : Start). count eqb client z.view.asked) h.start.is ∙ each_once (λ _. idle_asked) MAX_CLIENTS 0 client (omega arith) (omega arith)
