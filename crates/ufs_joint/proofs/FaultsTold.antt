-- What hands were told of faults, while their views change.
use Rattle.std.proofs.Common.{◌≡◌, ◌≢◌, ℕ, ◌+◌, ◌≤◌, ◌<◌, ◌⊎◌, inl, inr, ⊎_elim, Bool, true, false, cond, eqb, eqb-true, eq-eqb, ne_eqb, List, [], ◌∷◌, ◌++◌, set, Option, Some, None, sym, refl, ap, ◌∙◌, arith}
use mathlib.Core.Option.{some}
use native.Mathlib.Decide.{ℕ_discrete, dec_le}
use lib.ListN.{get_elem?}
use Rattle.atomic_table.proofs.Lists.{set_else}
use Rattle.ufs_model.specs.declared.data.Entry.{Entry}
use Rattle.ufs_model.specs.declared.data.Excuse.TheVariants as excuse
use Rattle.ufs_model.specs.declared.data.PartName.{PartName}
use Rattle.ufs_model.specs.declared.data.Reply.{Reply}
use Rattle.ufs_model.specs.declared.data.Reply.TheVariants as reply
use Rattle.ufs_crash_laws.specs.Changes.{asks_commit}
use Rattle.ufs_hand_laws.specs.Draws.{left_faults}
use Rattle.ufs_hand_laws.specs.FaultsOnce.{tells, told}
use Rattle.ufs_hand_laws.specs.Owned.{Has, less, one, times, total}
use Rattle.ufs_hand_laws.specs.Parts.{either}
use Rattle.ufs_hand_laws.proofs.Owning.{all_set, all_split, change_total, has_append, join_total, split_total, total_at, total_set, weigh_append}
use Rattle.ufs_joint.specs.Cells.{Start, StoreCell, View, both_of, given_of, kept_of, spent}
use Rattle.ufs_joint.specs.Faults.{AreFaultsOnce, IsOfSession, IsStopOf, IsStopSince, faults_in}
use Rattle.ufs_joint.specs.Turns.{AreFaultsTold}

-- ---- lists of faults

pub times_both : (n : ℕ) (xs ys : List ℕ) → times n (xs ++ ys) ≡ times n xs + times n ys
times_both n [] ys = omega arith
times_both n (x ∷ xs) ys = let r = times_both n xs ys in omega (arith, r)

times_less : (n b : ℕ) (bs : List ℕ) → 1 ≤ times b bs → times n (less b bs) + one (eqb b n) ≡ times n bs
times_less n b [] l = absurd (omega arith)
times_less n b (y ∷ bs) l = at (eqb b y) refl l (times_less n b bs)
  where
    swap : eqb b n ≡ eqb n b
    swap = by (ℕ_discrete b n)
      where
        by : Dec (b ≡ n) → eqb b n ≡ eqb n b
        by (yes s) = eq-eqb b n s ∙ sym (eq-eqb n b (sym s))
        by (no s) = ne_eqb b n s ∙ sym (ne_eqb n b (λ t. s (sym t)))

    at : (t : Bool) → eqb b y ≡ t → 1 ≤ one t + times b bs → (1 ≤ times b bs → times n (less b bs) + one (eqb b n) ≡ times n bs) → times n (cond t bs (y ∷ less b bs)) + one (eqb b n) ≡ one (eqb n y) + times n bs
    at true e k r = let s : one (eqb b n) ≡ one (eqb n y) = ap one swap ∙ ap (λ z. one (eqb n z)) (eqb-true b y e) in omega arith
    at false e k r = let i = r (omega arith) in omega arith

-- one that excuses an entry is told to no hand any more
faults_left : (r : Reply) (fs : List ℕ) (n : ℕ) → ((b : ℕ) → r ≡ reply.Excused (excuse.Device b) → 1 ≤ times b fs) → times n (left_faults r fs) + one (tells n r) ≡ times n fs
faults_left (reply.Excused (excuse.Device b)) fs n l = times_less n b fs (l b refl)
faults_left (reply.Excused _) fs n l = omega arith
faults_left _ fs n l = omega arith

either_stop : (a b c : Option ℕ) (n : ℕ) → (a ≡ Some n → c ≡ Some n) → (b ≡ Some n → c ≡ Some n) → either a b ≡ Some n → c ≡ Some n
either_stop None b c n x y is = y is
either_stop (Some m) b c n x y is = x is

-- ---- the views of the same hands

module _ (k : Start) (views : List View) (h : List Entry) (s : StoreCell) (o : AreFaultsOnce k views h s) where
  abbrev IsStop : View → Type 0
  IsStop u = (n : ℕ) → u.stop ≡ Some n → s.stop ≡ Some n

  -- of a store with the same count, which stopped alike
  pub faults_stay : (t : StoreCell) → t.faults ≡ s.faults → t.stop ≡ s.stop → AreFaultsOnce k views h t
  faults_stay t same stop = record {
    rose = let a = o.rose in omega (arith, a, same);
    halts = λ n is. halts_still n (o.halts n (sym stop ∙ is));
    once = o.once;
    answered = λ n l. (let a = o.answered n l in let b = a.answered in record { later = a.later; answered = omega (arith, b, same); below = a.below });
    stops = λ j u there n is. stop ∙ o.stops j u there n is;
    stopped = λ e n has is. stop ∙ o.stopped e n has is;
    committed = λ e n has asks is. stop ∙ o.committed e n has asks is;
    asked = o.asked;
  }
    where
      halts_still : (n : ℕ) → IsStopOf k s n → IsStopOf k t n
      halts_still n (inl first) = inl first
      halts_still n (inr x) = inr (record { rose = x.rose; counted = (let a = x.counted in omega (arith, a, same)); within = x.within })

  module _ (i : ℕ) (v : View) (at : get_elem? views i ≡ some v) where
    -- a hand goes on that was told no more
    pub faults_same : (w : View) → w.faults ≡ v.faults → w.stop ≡ v.stop → AreFaultsOnce k (set views i w) h s
    faults_same w same stop = record {
      rose = o.rose;
      halts = o.halts;
      once = λ n. let a = all n in let b = o.once n in omega (arith, a, b);
      answered = λ n l. o.answered n (let a = all n in omega (arith, a, l));
      stops = all_set IsStop views i w o.stops (λ n is. o.stops i v at n (sym stop ∙ is));
      stopped = o.stopped;
      committed = o.committed;
      asked = o.asked;
    }
      where
        all : (n : ℕ) → total (λ (u : View). times n u.faults) (set views i w) ≡ total (λ (u : View). times n u.faults) views
        all n = change_total (λ (u : View). times n u.faults) views i v w at (ap (times n) same)

    pub faults_split : (p : PartName) → AreFaultsOnce k (set views i (kept_of p v) ++ given_of p v ∷ []) h s
    faults_split p = record {
      rose = o.rose;
      halts = o.halts;
      once = λ n. let a = all n in let b = o.once n in omega (arith, a, b);
      answered = λ n l. o.answered n (let a = all n in omega (arith, a, l));
      stops = all_split IsStop views i (kept_of p v) (given_of p v) o.stops (o.stops i v at) (o.stops i v at);
      stopped = o.stopped;
      committed = o.committed;
      asked = o.asked;
    }
      where
        all : (n : ℕ) → total (λ (u : View). times n u.faults) (set views i (kept_of p v) ++ given_of p v ∷ []) ≡ total (λ (u : View). times n u.faults) views
        all n = split_total (λ (u : View). times n u.faults) views i v (kept_of p v) (given_of p v) at (omega arith)

    pub faults_join : (j : ℕ) (u : View) → j ≢ i → get_elem? (set views i (both_of v u)) j ≡ some u → AreFaultsOnce k (set (set views i (both_of v u)) j spent) h s
    faults_join j u ne there = record {
      rose = o.rose;
      halts = o.halts;
      once = λ n. let a = all n in let b = o.once n in omega (arith, a, b);
      answered = λ n l. o.answered n (let a = all n in omega (arith, a, l));
      stops = all_set IsStop (set views i (both_of v u)) j spent (all_set IsStop views i (both_of v u) o.stops (λ n is. either_stop v.stop u.stop s.stop n (o.stops i v at n) (o.stops j u was n) is)) (λ n is. cc);
      stopped = o.stopped;
      committed = o.committed;
      asked = o.asked;
    }
      where
        was : get_elem? views j ≡ some u
        was = sym (set_else views i j (both_of v u) ne) ∙ there

        all : (n : ℕ) → total (λ (x : View). times n x.faults) (set (set views i (both_of v u)) j spent) ≡ total (λ (x : View). times n x.faults) views
        all n = join_total (λ (x : View). times n x.faults) views i j v u (both_of v u) spent at there (let t = times_both n v.faults u.faults in omega arith)

    -- No entry is excused by a fault that the hand was told.
    pub untold : (n : ℕ) → 1 ≤ times n v.faults → told n h ≡ 0
    untold n l = let a = total_at (λ (u : View). times n u.faults) views i v at in let b = o.once n in omega (arith, a, b, l)

    -- ---- an entry is drawn

    pub faults_drawn : (w : View) (e : Entry) → w.faults ≡ left_faults e.reply v.faults → w.stop ≡ v.stop → ((n : ℕ) → e.reply ≡ reply.Excused (excuse.Device n) → 1 ≤ times n v.faults)
        → ((n : ℕ) → e.reply ≡ reply.Excused (excuse.Stopped n) → v.stop ≡ Some n)
        → ((n : ℕ) → asks_commit e.op ≡ true → e.reply ≡ reply.Excused (excuse.Device n) → v.stop ≡ Some n)
        → ((n : ℕ) → e.reply ≡ reply.Excused (excuse.Stopped n) → asks_commit e.op ≡ true) → AreFaultsOnce k (set views i w) (h ++ e ∷ []) s
    faults_drawn w e left stop device stopped at_commit asks = record {
      rose = o.rose;
      halts = o.halts;
      once = λ n. let a = all n in let b = o.once n in omega (arith, a, b);
      answered = λ n l. o.answered n (let a = all n in omega (arith, a, l));
      stops = all_set IsStop views i w o.stops (λ n is. o.stops i v at n (sym stop ∙ is));
      stopped = λ x n has is. ⊎_elim (λ a. o.stopped x n a is) (⊎_elim (λ (a : x ≡ e). o.stops i v at n (stopped n (ap (λ (y : Entry). y.reply) (sym a) ∙ is))) (λ none. absurd none)) (has_append x h (e ∷ []) has);
      committed = λ x n has by is. ⊎_elim (λ a. o.committed x n a by is)
          (⊎_elim (λ (a : x ≡ e). o.stops i v at n (at_commit n (ap (λ (y : Entry). asks_commit y.op) (sym a) ∙ by) (ap (λ (y : Entry). y.reply) (sym a) ∙ is))) (λ none. absurd none))
          (has_append x h (e ∷ []) has);
      asked = λ x n has is. ⊎_elim (λ a. o.asked x n a is)
          (⊎_elim (λ (a : x ≡ e). ap (λ (y : Entry). asks_commit y.op) a ∙ asks n (ap (λ (y : Entry). y.reply) (sym a) ∙ is)) (λ none. absurd none))
          (has_append x h (e ∷ []) has);
    }
      where
        all : (n : ℕ) → total (λ (u : View). times n u.faults) (set views i w) + told n (h ++ e ∷ []) ≡ total (λ (u : View). times n u.faults) views + told n h
        all n =
            let a = total_set (λ (u : View). times n u.faults) views i v w at in
            let b = faults_left e.reply v.faults n device in
            let c = ap (times n) left in
            let d = weigh_append (λ (x : Entry). one (tells n x.reply)) h (e ∷ []) in
            omega arith

    -- ---- a turn ends

    pub faults_told : (w : View) (t : StoreCell) (fresh : List ℕ) → w.faults ≡ fresh ++ v.faults → w.stop ≡ t.stop → AreFaultsTold s t fresh → AreFaultsOnce k (set views i w) h t
    faults_told w t fresh same stop may = record {
      rose = let a = o.rose in let b = may.rise in omega (arith, a, b);
      halts = λ n is. ⊎_elim (λ had. kept n (o.halts n had)) (λ now. inr (since n now)) (may.halts n is);
      once = λ n. by_once n (dec_le 1 (times n fresh));
      answered = λ n l. by_answered n l (dec_le 1 (times n fresh));
      stops = all_set (λ (u : View). (n : ℕ) → u.stop ≡ Some n → t.stop ≡ Some n) views i w (λ j u there n is. may.stopped n (o.stops j u there n is)) (λ n is. sym stop ∙ is);
      stopped = λ e n has is. may.stopped n (o.stopped e n has is);
      committed = λ e n has by is. may.stopped n (o.committed e n has by is);
      asked = o.asked;
    }
      where
        all : (n : ℕ) → total (λ (u : View). times n u.faults) (set views i w) ≡ total (λ (u : View). times n u.faults) views + times n fresh
        all n =
            let a = total_set (λ (u : View). times n u.faults) views i v w at in
            let b = ap (times n) same in let c = times_both n fresh v.faults in
            omega (arith, a, b, c)

        -- the count doesn't fall
        kept : (n : ℕ) → IsStopOf k s n → IsStopOf k t n
        kept n (inl first) = inl first
        kept n (inr x) = inr (record { rose = x.rose; counted = (let a = x.counted in let b = x.within in let c = may.rise in omega (arith, a, b, c)); within = x.within })

        since : (n : ℕ) → IsStopSince s.faults t.faults n → IsStopSince (faults_in k.view.store) t.faults n
        since n x = record { rose = ⊎_elim (λ l. (let a = o.rose in let b = x.within in inl (omega (arith, a, b, l)))) (λ e. inr e) x.rose; counted = x.counted; within = x.within }

        -- one that is new was told to nobody
        none : (n : ℕ) → 1 ≤ times n fresh → total (λ (u : View). times n u.faults) views + told n h ≡ 0
        none n l = by (dec_le 1 (total (λ (u : View). times n u.faults) views + told n h))
          where
            by : Dec (1 ≤ total (λ (u : View). times n u.faults) views + told n h) → total (λ (u : View). times n u.faults) views + told n h ≡ 0
            by (yes m) = let a = (o.answered n m).answered in let b = (may.new n l).0 in absurd (omega (arith, a, b))
            by (no m) = omega (arith, m)

        by_once : (n : ℕ) → Dec (1 ≤ times n fresh) → total (λ (u : View). times n u.faults) (set views i w) + told n h ≤ 1
        by_once n (yes l) = let a = all n in let b = none n l in let c = may.once n in omega (arith, a, b, c)
        by_once n (no l) = let a = all n in let b = o.once n in omega (arith, a, b, l)

        by_answered : (n : ℕ) → 1 ≤ total (λ (u : View). times n u.faults) (set views i w) + told n h → Dec (1 ≤ times n fresh) → IsOfSession k t n
        by_answered n m (yes l) = (let a = o.rose in let b = may.new n l in let c = b.0 in let d = b.2 in record { later = omega (arith, a, c, d); answered = b.1; below = b.2 })
        by_answered n m (no l) = (let a = all n in let b = o.answered n (omega (arith, a, l, m)) in let c = b.answered in let d = may.rise in let e = b.below in record { later = b.later; answered = omega (arith, c, d, e); below = b.below })
