-- After a draw each fault excuses one entry, the clock is true, and an asked client is answered.
use Rattle.std.proofs.Common.{◌≡◌, ℕ, suc, ◌+◌, ◌≤◌, ◌≢◌, ◌⊎◌, Bool, true, false, cond, eqb, eqb-true, eq-eqb, ne_eqb, List, [], ◌∷◌, ◌++◌, set, Some, None, sym, refl, ap, ◌∙◌, subst, inl, inr, ⊎_elim, arith}
use Rattle.std.specs.FinMap as fin
use native.Mathlib.Decide.{ℕ_discrete}
use Rattle.ufs_model.specs.declared.data.Entry.{Entry}
use Rattle.ufs_model.specs.declared.data.Excuse.TheVariants as excuse
use Rattle.ufs_model.specs.declared.data.Reply.{Reply}
use Rattle.ufs_model.specs.declared.data.Reply.TheVariants as reply
use Rattle.ufs_hand_laws.specs.Owned.{one, Has, times}
use Rattle.ufs_hand_laws.specs.Owned.{less}
use Rattle.ufs_hand_laws.specs.Parts.{Shortage, AskedPart, ClientPart, NamesPart, View}
use Rattle.ufs_hand_laws.specs.FaultsOnce.{AreFaultsOnce, told, tells}
use Rattle.ufs_hand_laws.specs.ClockTrue.{IsClockTrue}
use Rattle.ufs_hand_laws.specs.Asked.{IsAskedTrue, IsStill, IsAnswered}
use Rattle.ufs_hand_laws.specs.Draws.{left_faults}
use Rattle.ufs_hand_laws.proofs.Owning.{total_set, all_set, weigh_append, same_some, none_some}
use Rattle.ufs_hand_laws.proofs.Draw.Setting.{Draw, outcome, self_there}
use Rattle.ufs_hand_laws.proofs.Draw.Cases.{client_case, names_case, asked_same, store_same, last_in}

times_less : (n b : ℕ) (bs : List ℕ) → 1 ≤ times b bs → times n (less b bs) + one (eqb b n) ≡ times n bs
times_less n b [] l = absurd (omega arith)
times_less n b (y ∷ bs) l = at (eqb b y) refl l (times_less n b bs)
  where
    swap : eqb b n ≡ eqb n b
    swap = by (ℕ_discrete b n)
      where
        by : Dec (b ≡ n) → eqb b n ≡ eqb n b
        by (yes s) = eq-eqb b n s ∙ sym (eq-eqb n b (sym s))
        by (no s) = ne_eqb b n s ∙ sym (ne_eqb n b (λ t. s (sym t)))

    at : (t : Bool) → eqb b y ≡ t → 1 ≤ one t + times b bs → (1 ≤ times b bs → times n (less b bs) + one (eqb b n) ≡ times n bs) → times n (cond t bs (y ∷ less b bs)) + one (eqb b n) ≡ one (eqb n y) + times n bs
    at true e k r = let s : one (eqb b n) ≡ one (eqb n y) = ap one swap ∙ ap (λ z. one (eqb n z)) (eqb-true b y e) in omega arith
    at false e k r = let i = r (omega arith) in omega arith

faults_left : (r : Reply) (fs : List ℕ) (n : ℕ) → ((b : ℕ) → r ≡ reply.Excused (excuse.Device b) → 1 ≤ times b fs) → times n (left_faults r fs) + one (tells n r) ≡ times n fs
faults_left (reply.Excused (excuse.Device b)) fs n l = times_less n b fs (l b refl)
faults_left (reply.Excused _) fs n l = omega arith
faults_left _ fs n l = omega arith

module _ (draw : Draw) where
  open draw use {word, views, i, v, f, l, o, at, m}
  open outcome draw use {e, w, next_world, longer, next_word}

  -- ---- faults, clock and asked requests

  told_push : (n : ℕ) → told n longer ≡ told n o.history + one (tells n f.reply)
  told_push n = weigh_append (λ (x : Entry). one (tells n x.reply)) o.history (e ∷ []) ∙ omega arith

  pub faults_after : AreFaultsOnce (set views i w) longer next_world.store
  faults_after = subst (AreFaultsOnce (set views i w) longer) (sym (store_same draw)) (record {
    single = o.faults_once.single;
    device = λ n.
        let a = total_set (λ (u : View). times n u.faults) views i v w at in let b = faults_left f.reply v.faults n m.device in
        let c = told_push n in let z = o.faults_once.device n in omega arith;
    stops = all_set (λ (u : View). (n : ℕ) → u.stop ≡ Some n → o.world.store.stop ≡ Some n) views i w o.faults_once.stops (o.faults_once.stops i v at);
    stopped = λ x n h is. ⊎_elim (λ a. o.faults_once.stopped x n a is)
        (λ (s : x ≡ e). o.faults_once.stops i v at n (m.stopped n (ap (λ (y : Entry). y.reply) (sym s) ∙ is))) ((last_in draw) x h);
    shortages = all_set (λ (u : View). (x : Shortage) → Has x u.shortages → Has x o.world.store.shortages) views i w o.faults_once.shortages (λ x z. absurd z);
    short = λ x need had h is. ⊎_elim (λ a. o.faults_once.short x need had a is)
        (λ (s : x ≡ e). let y = m.short need had (ap (λ (y : Entry). y.reply) (sym s) ∙ is) in (y.0, o.faults_once.shortages i v at y.0 y.1, y.2)) ((last_in draw) x h);
  })

  pub clock_after : IsClockTrue next_word (set views i w) next_world
  clock_after = record {
    word_is = ⊎_elim (λ x. ap (λ (z : NamesPart). z.clock) x.1) (λ x. ap (λ (z : NamesPart). z.clock) x.2 ∙ ap (λ (z : NamesPart). z.clock) x.3) (names_case draw) ∙ o.clock.word_is;
    seen = all_set (λ (u : View). (u.seen ≤ suc word.tickets) × (u.clock ≤ word.clock)) views i w
        (λ j u x. let a = o.clock.seen j u x in (omega (arith, a.0), a.1)) (let a = o.clock.seen i v at in (omega arith, a.1));
  }

  answered : (a : AskedPart) (y p : ClientPart) → y ≡ m.self → p ≡ record y { entries = y.entries ++ e ∷ []; fds = l.fds; asked = None } → a.tickets ≤ word.tickets → IsStill a y ⊎ IsAnswered a y → IsAnswered a p
  answered a y p is go le (inl s) = record {
    entry = e;
    entries = ap (λ (z : ClientPart). z.entries) go ∙ ap (λ es. es ++ e ∷ []) s.entries;
    asked = sym s.asked ∙ ap (λ (z : ClientPart). z.asked) is ∙ m.asked;
    later = le;
    others = λ n ne. ap (λ (z : ClientPart). fin.get z.fds n) go ∙ m.others n ne ∙ ap (λ (z : ClientPart). fin.get z.fds n) (sym is) ∙ ap (λ z. fin.get z n) s.fds;
    done = ap (λ (z : ClientPart). z.asked) go;
  }
  answered a y p is go le (inr s) = let n : None ≡ Some f.op = sym s.done ∙ ap (λ (z : ClientPart). z.asked) is ∙ m.asked in absurd (none_some f.op n)

  pub asked_after : IsAskedTrue next_word next_world
  asked_after = record {
    seen = λ c a is. let b = o.asked.seen c a ((asked_same draw) c a is) in omega arith;
    kept = λ c a p ia ip. ⊎_elim
        (λ (x : (y : ClientPart) × (o.world.client c ≡ Some y) × (f.client ≡ c) × (p ≡ record y { entries = y.entries ++ e ∷ []; fds = l.fds; asked = None })).
        let a' = (asked_same draw) c a ia in
        let same : x.0 ≡ m.self = same_some x.0 m.self (sym x.1 ∙ ap o.world.client (sym x.2) ∙ (self_there draw)) in
        inr (answered a x.0 p same x.3 (o.asked.seen c a a') (o.asked.kept c a x.0 a' x.1)))
        (λ (x : (f.client ≢ c) × (o.world.client c ≡ Some p)). o.asked.kept c a p ((asked_same draw) c a ia) x.1)
        ((client_case draw) c p ip);
    copies = λ c a p ia ip. ⊎_elim
        (λ (x : (y : ClientPart) × (o.world.client c ≡ Some y) × (f.client ≡ c) × (p ≡ record y { entries = y.entries ++ e ∷ []; fds = l.fds; asked = None })).
        let r = o.asked.copies c a x.0 ((asked_same draw) c a ia) x.1 in (r.0, ap (λ (z : ClientPart). z.copies) x.3 ∙ r.1))
        (λ (x : (f.client ≢ c) × (o.world.client c ≡ Some p)). o.asked.copies c a p ((asked_same draw) c a ia) x.1)
        ((client_case draw) c p ip);
  }
