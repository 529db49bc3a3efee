-- A hand knows by its own view what it comes from.
use Rattle.std.proofs.Common.{◌≡◌, ℕ, ◌≤◌, List, length, sym, ap, subst, arith}
use mathlib.Core.Option.{some}
use lib.ListN.{get_elem?}
use Rattle.ufs_model.specs.Touched.{holds}
use Rattle.ufs_model.specs.History.{tree_after}
use Rattle.ufs_model.specs.Laws.{KeepsTrees}
use Rattle.ufs_hand_laws.specs.Covers.{IsBornBy}
use Rattle.ufs_hand_laws.specs.Owned.{Has}
use Rattle.ufs_hand_laws.specs.Parts.{NamesPart, StorePart, View, Word, Start, uses, is_holder, committed}
use Rattle.ufs_hand_laws.specs.Explained.{Showing, IsDiskExplained}
use Rattle.ufs_hand_laws.specs.Sound.{IsSound}
use Rattle.ufs_hand_laws.specs.Legal.{FitsNames}
use Rattle.ufs_hand_laws.specs.Known.{IsStoredFile, Knows}
use Rattle.ufs_hand_laws.proofs.Owning.{total_at}
use Rattle.ufs_hand_laws.proofs.Exchange.{names_are, store_is}
use Rattle.ufs_hand_laws.proofs.Lists.{take_whole}
use Rattle.ufs_hand_laws.proofs.Explaining.{disk_explained}

pub knows : KeepsTrees → (S : Showing) (k : Start) (word : Word) (views : List View) (i : ℕ) (v : View) → IsSound S k word views → get_elem? views i ≡ some v → Knows S k word v
knows keeps S k word views i v o at = record {
  history = o.history;
  tickets = o.tickets_once.tickets;
  legal = o.legal.legal;
  tree = o.legal.tree;
  is_in = record {
    clients = λ c p x. o.legal.clients c p (o.one_hand.clients.agree i v at c p x);
    files = λ g p x. (o.legal.files g p (o.one_hand.files.agree i v at g p x)).bytes;
    paths = λ u n x. subst (λ (q : NamesPart). q.paths ≡ (tree_after k.tree o.history).paths) (names_here u n x) o.legal.names.paths;
    next = λ u n x. subst (λ (q : NamesPart). q.next ≡ (tree_after k.tree o.history).next) (names_here u n x) o.legal.names.next;
    holds = λ u n x c g. subst (λ (q : NamesPart). is_holder q.holds c g ≡ holds (tree_after k.tree o.history).fds c g) (names_here u n x) (o.holds c g);
  };
  entries = λ c p x. o.tickets_once.entries c p (o.one_hand.clients.agree i v at c p x);
  files = λ g p x. o.legal.files g p (o.one_hand.files.agree i v at g p x);
  names = λ u n x. subst (FitsNames k.tree o.history) (names_here u n x) o.legal.names;
  covers = λ g p x. o.committed_numbers.covers g p (o.one_hand.files.agree i v at g p x);
  asked = λ c a p x y. o.asked.kept c a p (o.one_hand.asked.agree i v at c a x) (o.one_hand.clients.agree i v at c p y);
  blocks = λ b. let t = total_at (uses b) views i v at in let s = o.blocks_apart.same b in let m = o.blocks_apart.once b in omega arith;
  shows = λ visible u s x. subst (λ (z : StorePart). S.Shows k.tree o.history (committed z) z.names z.paths z.state) (store_here u s x)
      (subst (λ h. S.Shows k.tree h (committed o.world.store) o.world.store.names o.world.store.paths o.world.store.state) (take_whole word.tickets o.history (sym o.tickets_once.tickets)) ((o.explained visible).now word.tickets (o.explained visible).marked (omega arith)));
  explained = λ visible u s x. subst (IsDiskExplained S k word o.history) (store_here u s x) (disk_explained keeps S k word views o visible);
  births = λ u s f x. subst (λ (z : StorePart). 1 ≤ committed z f → IsBornBy k.tree o.history f z.names) (store_here u s x) (o.committed_numbers.after_birth f);
  stored = λ u s g x has y.
      let there = o.one_hand.files.agree i v at g x y in
      subst (λ (z : StorePart). IsStoredFile k z g x) (store_here u s has) (record {
        kept = λ bs b ext h. o.committed_held.live g bs b x ext h there;
        made = let a = (o.committed_numbers.files g).made in let f = ap length (o.legal.files g x there).changes in omega arith;
        known = o.committed_numbers.known g x there;
        on_disk = λ visible. o.disk_bytes visible g x there;
      });
  stored_names = λ u w s p has y.
      subst (λ (z : StorePart). (z.names ≤ length p.changes) × (p.known ≤ z.names)) (store_here u s has)
      (subst (λ (q : NamesPart). (o.world.store.names ≤ length q.changes) × (q.known ≤ o.world.store.names)) (names_here w p y)
      ((let a = o.committed_numbers.names.made in let f = ap length o.legal.names.changes in omega arith), o.committed_numbers.names_known));
  seen = o.clock.seen i v at;
}
  where
    names_here : (u : Unit {0}) (n : NamesPart) → Has (u, n) v.names → o.world.names ≡ n
    names_here u n x = names_are views i v v at o.world o.one_hand u n x

    store_here : (u : Unit {0}) (s : StorePart) → Has (u, s) v.store → o.world.store ≡ s
    store_here u s x = store_is views i v v at o.world o.one_hand u s x
