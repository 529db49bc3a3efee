-- After a mark each state of the disk is explained.
use Rattle.std.proofs.Common.{◌≡◌, ℕ, ◌≤◌, List, ◌∷◌, ◌++◌, length, Option, None, refl, sym, ap, ◌∙◌, subst, ⊎_elim, arith}
use Rattle.std.specs.Prelude.{take}
use Rattle.ufs_model.specs.PosixTree.{Paths}
use Rattle.ufs_model.specs.History.{tree_after}
use Rattle.ufs_hand_laws.specs.Owned.{Has}
use Rattle.ufs_crash_laws.specs.Changes.{changes_of, name_changes}
use Rattle.ufs_crash_laws.proofs.Facts.Histories.{changes_of-append, name_changes-append}
use Rattle.ufs_hand_laws.specs.Parts.{Cells, Stretch, committed}
use Rattle.ufs_hand_laws.specs.Explained.{AreJoined, AreStatesExplained}
use Rattle.ufs_hand_laws.specs.Marks.{HadChanges, HasChanges, IsBeginningKnown, IsQuiet, IsTurn}
use Rattle.ufs_hand_laws.proofs.Lists.{take_whole, front_same, take_front, take_more}
use Rattle.ufs_hand_laws.proofs.Explaining.{explains_cut}
use Rattle.ufs_hand_laws.proofs.Covering.{changes_front, names_front}
use Rattle.ufs_hand_laws.specs.Visible.{IsDiskVisible}
use Rattle.ufs_hand_laws.proofs.Mark.Setting.{Mark, remaking}

module _ (mark : Mark) where
  open mark use {keeps, S, k, word, views, i, v, w, o, at, m}
  open remaking mark use {remade, single_files, r, names_are_kept, file_case, file_present}

  -- ---- the disk

  abbrev n : ℕ
  n = word.tickets

  all_history : take n o.history ≡ o.history
  all_history = take_whole n o.history (sym o.tickets_once.tickets)

  quiet_visible : IsDiskVisible k → IsQuiet o.world.store remade.store → AreStatesExplained S k word o.history remade.store
  quiet_visible visible q = record {
    marked = let a = q.mark in let b = (o.explained visible).marked in omega arith;
    lent = λ g c x. subst (λ z. c ≤ length (changes_of g k.tree (take z o.history))) (sym q.mark) ((o.explained visible).lent g c (subst (Has (g, c)) q.lent x));
    lent_names = subst (λ z. remade.store.lent_names ≤ length (name_changes k.tree (take z o.history))) (sym q.mark) (let a = (o.explained visible).lent_names in let b = q.lent_names in omega arith);
    now = λ j low high. shown_by j ((o.explained visible).now j (let a = q.mark in omega arith) high);
    ended = λ x h. let a = (o.explained visible).ended x (subst (Has x) q.past h) in let b = q.mark in omega arith;
    joined = subst (λ (z : List Stretch × ℕ). AreJoined z.0 z.1) (λ l. (sym q.past l, sym q.mark l)) (o.explained visible).joined;
    past = λ x h. (o.explained visible).past x (subst (Has x) q.past h);
  }
    where
      shown_by : (j : ℕ) → S.Shows k.tree (take j o.history) (committed o.world.store) o.world.store.names o.world.store.paths o.world.store.state → S.Shows k.tree (take j o.history) (committed remade.store) remade.store.names remade.store.paths remade.store.state
      shown_by j x = subst (λ (z : (ℕ → ℕ) × ℕ × Option Paths × Cells). S.Shows k.tree (take j o.history) z.0 z.1 z.2 z.3) (λ l. ((λ g. sym (q.files g) l), sym q.names l, sym q.paths l, sym q.state l)) x

  -- the parts lent since the last mark had their changes already then
  had : IsDiskVisible k → (j : ℕ) → o.world.store.mark ≤ j → HadChanges k v o.world.store o.world.names (take j o.history)
  had visible j low = record {
    files = λ g x h lent.
        let fits = (o.legal.files g x (o.one_hand.files.agree i v at g x h)).changes in
        let at_mark = (o.explained visible).lent g (length x.changes) lent in
        let front = take_more o.world.store.mark j o.history low in
        let a = changes_front k.tree (take o.world.store.mark o.history) front.0 g in
        let b = ap (λ z. length (changes_of g k.tree z)) front.1 in
        let rest = take_front j o.history in
        let all : changes_of g k.tree o.history ≡ changes_of g k.tree (take j o.history) ++ changes_of g (tree_after k.tree (take j o.history)) rest.0 = ap (λ z. changes_of g k.tree z) rest.1 ∙ changes_of-append g k.tree (take j o.history) rest.0 in
        let c = ap length fits in let d = ap length all in
        front_same (changes_of g k.tree (take j o.history)) (changes_of g (tree_after k.tree (take j o.history)) rest.0) (omega arith) ∙ sym all ∙ sym fits;
    names = λ lent.
        let fits = o.legal.names.changes in
        let at_mark = (o.explained visible).lent_names in
        let front = take_more o.world.store.mark j o.history low in
        let a = names_front k.tree (take o.world.store.mark o.history) front.0 in
        let b = ap (λ z. length (name_changes k.tree z)) front.1 in
        let rest = take_front j o.history in
        let all : name_changes k.tree o.history ≡ name_changes k.tree (take j o.history) ++ name_changes (tree_after k.tree (take j o.history)) rest.0 = ap (λ z. name_changes k.tree z) rest.1 ∙ name_changes-append k.tree (take j o.history) rest.0 in
        let c = ap length fits in let d = ap length all in
        front_same (name_changes k.tree (take j o.history)) (name_changes (tree_after k.tree (take j o.history)) rest.0) (omega arith) ∙ sym all ∙ sym fits;
  }

  -- the first entries of the history of the state
  beginning : (from j : ℕ) → from ≤ j → IsBeginningKnown k v from n (take j o.history)
  beginning from j low = record {
    history = o.history;
    legal = o.legal.legal;
    all = o.tickets_once.tickets;
    low = λ e h. (o.tickets_once.there e h).0;
    entries = λ c p x. o.tickets_once.entries c p (o.one_hand.clients.agree i v at c p x);
    count = j;
    least = low;
    is = refl;
  }

  has : HasChanges k v o.world.names o.history
  has = record { files = λ g x h. sym (o.legal.files g x (o.one_hand.files.agree i v at g x h)).changes; names = sym o.legal.names.changes }

  abbrev last : IsTurn S k n v o.world.store remade.store o.world.names → Stretch
  last q = record { states = o.world.store.state ∷ q.through; from = o.world.store.mark; to = n }

  turn_visible : IsDiskVisible k → IsTurn S k n v o.world.store remade.store o.world.names → AreStatesExplained S k word o.history remade.store
  turn_visible visible q = record {
    marked = let a = q.mark in omega arith;
    lent = λ g c x.
        let y = q.lent g c x in
        let fits = ap length (o.legal.files g y.0 (o.one_hand.files.agree i v at g y.0 y.1)).changes in
        subst (λ z. c ≤ length (changes_of g k.tree z)) (sym (ap (λ z. take z o.history) q.mark ∙ all_history)) (let l = y.2 in omega arith);
    lent_names = subst (λ z. remade.store.lent_names ≤ length (name_changes k.tree z)) (sym (ap (λ z. take z o.history) q.mark ∙ all_history)) (let l = q.lent_names in let f = ap length o.legal.names.changes in omega arith);
    now = λ j low high.
        let is : j ≡ n = (let a = q.mark in omega arith) in
        let h : take j o.history ≡ o.history = ap (λ z. take z o.history) is ∙ all_history in
        subst (λ z. S.Shows k.tree z (committed remade.store) remade.store.names remade.store.paths remade.store.state) (sym h)
        (q.end visible o.history (subst (IsBeginningKnown k v n n) all_history (beginning n n (omega arith))) has (subst (λ z. S.Shows k.tree z (committed o.world.store) o.world.store.names o.world.store.paths o.world.store.state) all_history ((o.explained visible).now n (o.explained visible).marked (omega arith))));
    ended = λ x h. ⊎_elim (λ (e : x ≡ last q). let a = ap (λ (z : Stretch). z.to) e in let b = q.mark in omega arith)
        (λ (y : Has x o.world.store.past). let a = (o.explained visible).ended x y in let b = q.mark in let c = (o.explained visible).marked in omega arith) (subst (Has x) q.past h);
    joined = subst (λ z. AreJoined z remade.store.mark) (sym q.past) (sym q.mark, (o.explained visible).marked, (o.explained visible).joined);
    past = λ x h. ⊎_elim (λ (e : x ≡ last q). subst (λ (z : Stretch). (j : ℕ) → z.from ≤ j → j ≤ z.to → (d : Cells) → Has d z.states → S.Explains k.tree (take j o.history) d) (sym e)
        (λ j low high d hd. ⊎_elim
        (λ (y : d ≡ o.world.store.state). subst (λ z. S.Explains k.tree (take j o.history) z) (sym y) (explains_cut keeps S k word views o j o.world.store.paths o.world.store.state ((o.explained visible).now j low high)))
        (λ (y : Has d q.through). explains_cut keeps S k word views o j None d (q.inside visible (take j o.history) (beginning o.world.store.mark j low) (had visible j low) ((o.explained visible).now j low high) d y)) hd))
        (λ (y : Has x o.world.store.past). (o.explained visible).past x y) (subst (Has x) q.past h);
  }

  pub explained_remade : IsDiskVisible k → AreStatesExplained S k word o.history remade.store
  explained_remade visible = ⊎_elim (quiet_visible visible) (turn_visible visible) r.shown
