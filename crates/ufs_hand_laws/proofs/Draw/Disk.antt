-- After a draw the states of the disk show the history.
use Rattle.std.proofs.Common.{◌≡◌, ℕ, suc, ◌≤◌, [], ◌∷◌, length, sym, subst, arith, length-append}
use native.Mathlib.Decide.{dec_le}
use Rattle.std.specs.Prelude.{take}
use Rattle.ufs_crash_laws.specs.Changes.{changes_of, name_changes}
use Rattle.ufs_hand_laws.specs.Parts.{committed}
use Rattle.ufs_hand_laws.specs.Explained.{AreStatesExplained}
use Rattle.ufs_hand_laws.proofs.Lists.{take_push, take_whole}
use Rattle.ufs_hand_laws.proofs.Draw.Cases.{store_same}
use Rattle.ufs_hand_laws.proofs.Draw.History.{legal_after}
use Rattle.ufs_hand_laws.proofs.Draw.Setting.{Draw, outcome}
use Rattle.ufs_hand_laws.specs.Visible.{IsDiskVisible}

module _ (draw : Draw) where
  open draw use {keeps, S, k, word, o}
  open outcome draw use {e, next_world, longer, next_word}

  -- ---- the disk

  same_take : (n : ℕ) → n ≤ word.tickets → take n longer ≡ take n o.history
  same_take n le = take_push n o.history e (let a = o.tickets_once.tickets in omega arith)

  pub explained_after : IsDiskVisible k → AreStatesExplained S k next_word longer next_world.store
  explained_after visible = subst (AreStatesExplained S k next_word longer) (sym (store_same draw)) (record {
    marked = let a = (o.explained visible).marked in omega arith;
    lent = λ g n x. subst (λ h. n ≤ length (changes_of g k.tree h)) (sym (same_take o.world.store.mark (o.explained visible).marked)) ((o.explained visible).lent g n x);
    lent_names = subst (λ h. o.world.store.lent_names ≤ length (name_changes k.tree h)) (sym (same_take o.world.store.mark (o.explained visible).marked)) (o.explained visible).lent_names;
    now = λ n low high. now_at n low (dec_le n word.tickets) high;
    ended = (o.explained visible).ended;
    joined = (o.explained visible).joined;
    past = λ x h n low high c hc.
        let a = (o.explained visible).ended x h in let b = (o.explained visible).marked in
        subst (λ t. S.Explains k.tree t c) (sym (same_take n (omega arith))) ((o.explained visible).past x h n low high c hc);
  })
    where
      now_at : (n : ℕ) → o.world.store.mark ≤ n → Dec (n ≤ word.tickets) → n ≤ suc word.tickets → S.Shows k.tree (take n longer) (committed o.world.store) o.world.store.names o.world.store.paths o.world.store.state
      now_at n low (yes le) high = subst (λ t. S.Shows k.tree t (committed o.world.store) o.world.store.names o.world.store.paths o.world.store.state) (sym (same_take n le)) ((o.explained visible).now n low le)
      now_at n low (no le) high =
          let all : take n longer ≡ longer = take_whole n longer (length_is n (omega arith)) in
          let was : take word.tickets o.history ≡ o.history = take_whole word.tickets o.history (sym o.tickets_once.tickets) in
          subst (λ t. S.Shows k.tree t (committed o.world.store) o.world.store.names o.world.store.paths o.world.store.state) (sym all)
          (S.more keeps k.tree o.history e (committed o.world.store) o.world.store.names o.world.store.paths o.world.store.state o.legal.start (legal_after draw) (λ g. (o.committed_numbers.files g).made)
          (subst (λ t. S.Shows k.tree t (committed o.world.store) o.world.store.names o.world.store.paths o.world.store.state) was ((o.explained visible).now word.tickets (o.explained visible).marked (omega arith))))
        where
          length_is : (n : ℕ) → n ≡ suc word.tickets → n ≡ length longer
          length_is n is = let a = length-append o.history (e ∷ []) in let b = o.tickets_once.tickets in omega arith
