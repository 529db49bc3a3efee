-- The hand ends the session, where no file is apart, and knows how many entries there are.
use Rattle.std.proofs.Common.{◌≡◌, ℕ, ◌≤◌, ◌||◌, true, eqb, List, [], ◌∷◌, length, Option, None, is_some, sym, refl, ap, ◌∙◌, subst, inl, inr, ⊎_elim, arith}
use native.Mathlib.Decide.{dec_le}
use Rattle.std.specs.List.{list_any}
use Rattle.std.specs.Ordering.{nat_cmp}
use Rattle.std.specs.FinMap as fin
use Rattle.ufs_model.specs.PosixTree.{PosixTree, IsTree, is_node_of}
use Rattle.ufs_model.specs.History.{tree_after, entries_of}
use Rattle.ufs_model.specs.declared.data.Entry.{Entry}
use Rattle.ufs_model.proofs.Facts.Held.{open_by}
use Rattle.ufs_hand_laws.specs.Draws.{IsIn}
use Rattle.ufs_hand_laws.specs.Owned.{one, Has, count}
use Rattle.ufs_hand_laws.specs.Parts.{Cells, ClientPart, Start, StorePart, Stretch, View}
use Rattle.ufs_hand_laws.specs.Whole.{HoldsAll, IsMerge}
use Rattle.ufs_hand_laws.proofs.Keys.{itself, alike}
use Rattle.ufs_hand_laws.proofs.Owning.{has_count, count_has}
use Rattle.ufs_hand_laws.specs.Durable.{IsDurable, IsExplainedThroughout}
use Rattle.ufs_hand_laws.specs.Explained.{AreJoined}
use Rattle.ufs_hand_laws.specs.Visible.{IsDiskVisible}
use Rattle.ufs_hand.specs.Session.{KnowsAll, word_of}
use Rattle.ufs_one_hand.specs.Apart.{HasEachFile}
use Rattle.ufs_one_hand.specs.OneHand.{HasSession, IsStampedIn}
use Rattle.ufs_one_hand.specs.Drawn.{IsExplainedAtStamps}
use Rattle.ufs_one_hand.proofs.Counting.{none_of, numbered, one_list, same_length_all}

module _ (k : Start) (history : List Entry) (v : View) (h : HasSession k history None v) where
  module _ (t : PosixTree) (is : IsTree t) (within : IsIn v t) where
    has_names : Has {A = Unit {0} × Rattle.ufs_hand_laws.specs.Parts.NamesPart} (tt, h.names) v.names
    has_names = subst (Has {A = Unit {0} × Rattle.ufs_hand_laws.specs.Parts.NamesPart} (tt, h.names)) (sym h.has_names) (inl refl)

    -- whichever tree the parts are of, it has the same files
    same_live : (f : ℕ) → is_some (fin.get t.bytes f) ≡ is_some (fin.get (tree_after k.tree history).bytes f)
    same_live f =
        is.live f
        ∙ (λ j. list_any (is_node_of f) (fin.values ((sym (within.paths tt h.names has_names) ∙ h.names_at.paths) j)) || open_by t.fds (tree_after k.tree history).fds f (λ c. sym (within.holds tt h.names has_names c f) ∙ h.names_at.holds c f) j)
        ∙ sym (h.tree.live f)

    files_here : HasEachFile k history v fin.empty → (f : ℕ) → is_some (fin.get t.bytes f) ≡ true → 1 ≤ count eqb f v.files
    files_here each f there = let n = each.here f in let z : one (is_some (fin.get fin.empty f)) ≡ 0 = ap (λ (x : Option View). one (is_some x)) (fin.get-empty nat_cmp f) in let o : one (is_some (fin.get (tree_after k.tree history).bytes f)) ≡ 1 = ap one (sym (same_live f) ∙ there) in omega (arith, n, z, o)

  pub holds_all : HasEachFile k history v fin.empty → HoldsAll k v
  holds_all each = record {
    clients = λ c. let e = h.all_clients c in omega (arith, e);
    names = h.names;
    has_names = h.has_names;
    store = h.store;
    has_store = h.has_store;
    files = λ t is within. files_here t is within each;
  }

  -- a history that has each client's entries as the hand has them is this one
  same_entries : (other : List Entry) → ((c : ℕ) (p : ClientPart) → Has (c, p) v.clients → p.entries ≡ entries_of c other) → IsMerge v other → (c : ℕ) → entries_of c other ≡ entries_of c history
  same_entries other transcripts merged c = by (dec_le 1 (count eqb c v.clients))
    where
      by : Dec (1 ≤ count eqb c v.clients) → entries_of c other ≡ entries_of c history
      by (yes l) = let p = has_count eqb itself alike c v.clients l in sym (transcripts c p.0 p.1) ∙ (h.clients c p.0 p.1).entries
      by (no n) =
          none_of c other (λ e a s. let p = merged.from e a in n (subst (λ x. 1 ≤ count eqb x v.clients) s (count_has eqb itself alike e.client p.0 v.clients p.1)))
          ∙ sym (none_of c history (λ e a s. n (subst (λ x. 1 ≤ count eqb x v.clients) s (h.theirs e a))))

  pub all_drawn : (tickets clock : ℕ) → KnowsAll k tickets clock v → tickets ≡ length history
  all_drawn tickets clock knows = sym knows.whole.all_drawn ∙ same_length_all knows.whole.history history (same_entries knows.whole.history knows.whole.transcripts knows.whole.merged)

  -- ---- each state that was stamped

  -- the stretches follow one another, up to the last stamp
  in_order : (past : List Stretch) (stamp : ℕ) → AreJoined past stamp → (x : Stretch) → Has x past → (x.from ≤ x.to) × (x.to ≤ stamp)
  in_order [] stamp joined x has = absurd has
  in_order (y ∷ past) stamp joined x (inl is) = let a = ap (λ (z : Stretch). z.from) is in let b = ap (λ (z : Stretch). z.to) is in let c = joined.0 in let d = joined.1 in (omega arith, omega arith)
  in_order (y ∷ past) stamp joined x (inr has) = let r = in_order past y.from joined.2 x has in let c = joined.0 in let d = joined.1 in let e = r.1 in (r.0, omega arith)

  module _ (tickets clock : ℕ) (knows : KnowsAll k tickets clock v) (visible : IsDiskVisible k) where
    abbrev d : IsDurable k (word_of tickets clock) v knows.store
    d = knows.durable visible

    one_history : d.history ≡ history
    one_history =
        one_list 0 d.history history (numbered 0 k.tree d.history d.legal.entries) (numbered 0 k.tree history h.legal) (d.all_drawn ∙ all_drawn tickets clock knows)
        (same_entries d.history d.transcripts d.merged)

    pub stamped_explained : (x : Cells) → IsStampedIn v.store x → IsExplainedAtStamps k.tree history x
    stamped_explained x is = ⊎_elim
        (λ (e : x ≡ knows.store.state).
        let l = d.marked in let n = all_drawn tickets clock knows in
        (knows.store.mark, tickets, l, (omega arith), subst (λ (g : List Entry). IsExplainedThroughout k.tree g knows.store.mark tickets x) one_history (subst (IsExplainedThroughout k.tree d.history knows.store.mark tickets) (sym e) d.now)))
        (λ (y : (s : Stretch) × Has s knows.store.past × Has x s.states).
        let o = in_order knows.store.past knows.store.mark d.joined y.0 y.1 in let l = d.marked in let n = all_drawn tickets clock knows in let m = o.1 in
        (y.0.from, y.0.to, o.0, (omega arith), subst (λ (g : List Entry). IsExplainedThroughout k.tree g y.0.from y.0.to x) one_history (d.past y.0 y.1 x y.2)))
        (subst (λ (ss : List (Unit {0} × StorePart)). IsStampedIn ss x) knows.has_store is)
