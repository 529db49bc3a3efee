-- Each step of a hand keeps the table's rule.
use Rattle.std.proofs.Common.{◌≡◌, ℕ, zero, suc, ◌+◌, ◌*◌, ◌/◌, ◌%◌, ◌^◌, ◌<◌, ◌≤◌, cond, eq-eqb, ne_eqb, List, [], ◌∷◌, length, set, sym, refl, ap, ◌∙◌, subst, inl, inr, arith, mod-eq_of_lt}
use Rattle.std.specs.Prelude.{slice_index, slice_set}
use Rattle.std.proofs.Math.Nat.{add-mul-mod_self_right}
use native.Mathlib.Decide.{ℕ_discrete}
use mathlib.Core.Option.{some}
use lib.ListN.{get_elem?}
use Rattle.atomic_table.specs.Table.{Me, keeps, Allows, Splits, Joins}
use Rattle.ufs_model.specs.Laws.{KeepsTrees, Locality, MakesOneFile}
use Rattle.ufs_model.specs.History.{entries_of}
use Rattle.ufs_model.specs.declared.data.Op.{Op}
use Rattle.ufs_model.specs.declared.data.Entry.{Entry}
use Rattle.ufs_model.specs.declared.data.Lease.{Lease}
use Rattle.ufs_model.specs.declared.data.PartName.{PartName}
use Rattle.ufs_hand_laws.specs.declared.fresh.Fresh.{Fresh}
use Rattle.ufs_hand_laws.specs.Owned.{Has}
use Rattle.ufs_hand_laws.specs.Parts.{NamesPart, View, Word, Start, kept_of, given_of, both_of, spent}
use Rattle.ufs_hand_laws.specs.Explained.{Showing}
use Rattle.ufs_hand_laws.specs.Sound.{IsSound}
use Rattle.ufs_hand_laws.specs.Draws.{Leaves, drawn, MayDraw}
use Rattle.ufs_hand_laws.specs.Marks.{MayAsk, asking, MayRemake}
use Rattle.ufs_hand_laws.specs.Clock.{looked, ticked}
use Rattle.ufs_hand_laws.specs.Leasing.{MayGrant, granting, MayGiveBack, giving_back}
use Rattle.ufs_hand_laws.specs.Rule.{clock_step, word_number, word_at, IsRuled, KnowsTickets, Drew, Marked, Looked, Ticked, TickedBy, MayTick}
use Rattle.ufs_hand_laws.proofs.Apart.{split_sound, join_sound}
use Rattle.ufs_hand_laws.proofs.Drawn.{draw_sound}
use Rattle.ufs_hand_laws.proofs.Marking.{remake_sound}
use Rattle.ufs_hand_laws.proofs.Asking.{ask_sound}
use Rattle.ufs_hand_laws.proofs.Leasing.{grant_sound, give_back_sound}
use Rattle.ufs_hand_laws.proofs.Clock.Setting.{was}
use Rattle.ufs_hand_laws.proofs.Clocking.{look_sound, tick_sound}

-- ---- the tickets are few

abbrev pub tally : ℕ → List Entry → ℕ
tally zero h = 0
tally (suc k) h = length (entries_of k h) + tally k h

tally_room : (k : ℕ) (h : List Entry) → ((c : ℕ) → length (entries_of c h) ≤ 65536) → tally k h ≤ k * 65536
tally_room zero h r = omega arith
tally_room (suc k) h r = let i = tally_room k h r in let a = r k in omega arith

tally_skip : (k : ℕ) (e : Entry) (h : List Entry) → k ≤ e.client → tally k (e ∷ h) ≡ tally k h
tally_skip zero e h l = refl
tally_skip (suc k) e h l = let i = tally_skip k e h (omega arith) in let b : length (entries_of k (e ∷ h)) ≡ length (entries_of k h) = ap (λ b. length (cond b (e ∷ entries_of k h) (entries_of k h))) (ne_eqb e.client k (omega arith)) in omega arith

pub tally_step : (k : ℕ) (e : Entry) (h : List Entry) → e.client < k → tally k (e ∷ h) ≡ suc (tally k h)
tally_step zero e h l = absurd (omega arith)
tally_step (suc k) e h l = step_at (ℕ_discrete e.client k) (tally_step k e h)
  where
    step_at : Dec (e.client ≡ k) → (e.client < k → tally k (e ∷ h) ≡ suc (tally k h)) → tally (suc k) (e ∷ h) ≡ suc (tally (suc k) h)
    step_at (yes s) r = let i = tally_skip k e h (omega arith) in let b : length (entries_of k (e ∷ h)) ≡ suc (length (entries_of k h)) = ap (λ b. length (cond b (e ∷ entries_of k h) (entries_of k h))) (eq-eqb e.client k s) in omega arith
    step_at (no s) r = let i = r (omega arith) in let b : length (entries_of k (e ∷ h)) ≡ length (entries_of k h) = ap (λ b. length (cond b (e ∷ entries_of k h) (entries_of k h))) (ne_eqb e.client k s) in omega arith

pub tally_none : (k : ℕ) → tally k [] ≡ 0
tally_none zero = refl
tally_none (suc k) = let i = tally_none k in omega arith

tally_all : (h : List Entry) → ((e : Entry) → Has e h → e.client < 16) → tally 16 h ≡ length h
tally_all [] l = tally_none 16
tally_all (e ∷ h) l = let i = tally_all h (λ x m. l x (inr m)) in let s = tally_step 16 e h (l e (inl refl)) in omega arith

module _ (S : Showing) (k : Start) where
  pub few : (word : Word) (views : List View) → IsSound S k word views → word.tickets ≤ 1048576
  few word views o = let a = tally_room 16 o.history o.tickets_once.room in let b = tally_all o.history (λ e h. (o.tickets_once.there e h).0) in let c = o.tickets_once.tickets in omega arith

  pub tickets_of : (word : Word) → word.tickets ≤ 1048576 → word_number word % clock_step ≡ word.tickets
  tickets_of word l = add-mul-mod_self_right word.tickets word.clock clock_step ∙ mod-eq_of_lt (omega arith)

  pub clock_of : (word : Word) → word.tickets ≤ 1048576 → word_number word / clock_step ≡ word.clock
  clock_of word l = omega arith

  pub split_keeps : (i : ℕ) (p : PartName) (v : View) → Splits (IsRuled S k) i v (kept_of p v) (given_of p v)
  split_keeps i p v s h at = record { word = h.word; is = h.is; clock = h.clock; sound = split_sound S k h.word s.views i p v h.sound at }

  pub join_keeps : (i : ℕ) (v : View) (j : ℕ) (u : View) → Joins (IsRuled S k) i v j u (both_of v u) spent
  join_keeps i v j u s h at ne there = record { word = h.word; is = h.is; clock = h.clock; sound = join_sound S k h.word s.views i j v u h.sound at ne there }

  -- the history of the state, of which the hand's clients have their entries
  knows_tickets : (word : Word) (views : List View) (i : ℕ) (v : View) → IsSound S k word views → get_elem? views i ≡ some v → KnowsTickets k v word.tickets
  knows_tickets word views i v o at = record {
    history = o.history;
    legal = o.legal.legal;
    all = o.tickets_once.tickets;
    entries = λ c p x. o.tickets_once.entries c p (o.one_hand.clients.agree i v at c p x);
    low = λ e h. (o.tickets_once.there e h).0;
  }

  pub draw_keeps : KeepsTrees → Locality → MakesOneFile → (slots i : ℕ) (f : Fresh) (l : Leaves) (me : Me (Unit {0}) View) → MayDraw f me.0 l [] → Allows (IsRuled S k) slots i me 0 (λ n. (n + 1) % 2 ^ 64) (Drew k f l me)
  draw_keeps keeps' local makes slots i f l me m s h len at below =
      let n = slice_index s.words 0 in
      let is : n ≡ word_number h.word = ap (λ ws. slice_index ws 0) h.is in
      let room = few h.word s.views h.sound in
      let low = h.clock in
      let ticket : n % clock_step ≡ h.word.tickets = ap (λ x. x % clock_step) is ∙ tickets_of h.word room in
      let next : Word = record { tickets = suc h.word.tickets; clock = h.word.clock } in
      let up : (word_number h.word + 1) % 2 ^ 64 ≡ word_number next = mod-eq_of_lt (omega arith) ∙ (omega arith) in (
        drawn (n % clock_step) f l me.0,
        keeps,
        tt,
        record {
          word = next;
          is = ap (λ ws. slice_set ws 0 ((slice_index ws 0 + 1) % 2 ^ 64)) h.is ∙ ap (λ x. x ∷ []) up;
          clock = low;
          sound = subst (λ x. IsSound S k next (set s.views i (drawn x f l me.0))) (sym ticket) (draw_sound (record { keeps = keeps'; local = local; makes = makes; S = S; k = k; word = h.word; views = s.views; i = i; v = me.0; f = f; l = l; known = []; live = λ x none. absurd none; o = h.sound; at = at; m = m }));
        },
        (refl, subst (λ x. me.0.seen ≤ x) (sym ticket) (h.sound.clock.seen i me.0 at).0, subst (KnowsTickets k me.0) (sym ticket) (knows_tickets h.word s.views i me.0 h.sound at)),
      )

  -- an event whose view afterwards is sound by whatever the tickets are keeps the rule
  event_keeps : (slots i : ℕ) (w : ℕ → View) (me : Me (Unit {0}) View)
      → ((word : Word) (views : List View) → IsSound S k word views → get_elem? views i ≡ some me.0 → IsSound S k word (set views i (w word.tickets))) → Allows (IsRuled S k) slots i me 0 (λ n. n) (Marked k w me)
  event_keeps slots i w me sound s h len at below =
      let n = slice_index s.words 0 in
      let is : n ≡ word_number h.word = ap (λ ws. slice_index ws 0) h.is in
      let ticket : n % clock_step ≡ h.word.tickets = ap (λ x. x % clock_step) is ∙ tickets_of h.word (few h.word s.views h.sound) in (
        w (n % clock_step),
        keeps,
        tt,
        record {
          word = h.word;
          is = ap (λ ws. slice_set ws 0 (slice_index ws 0)) h.is;
          clock = h.clock;
          sound = subst (λ x. IsSound S k h.word (set s.views i (w x))) (sym ticket) (sound h.word s.views h.sound at);
        },
        (refl, subst (λ x. me.0.seen ≤ x) (sym ticket) (h.sound.clock.seen i me.0 at).0, subst (KnowsTickets k me.0) (sym ticket) (knows_tickets h.word s.views i me.0 h.sound at)),
      )

  -- whatever the tickets are when it is marked
  pub mark_keeps : KeepsTrees → (slots i : ℕ) (w : ℕ → View) (me : Me (Unit {0}) View) → ((tickets : ℕ) → MayRemake S k tickets me.0 (w tickets)) → Allows (IsRuled S k) slots i me 0 (λ n. n) (Marked k w me)
  mark_keeps keeps' slots i w me m = event_keeps slots i w me (λ word views o at. remake_sound keeps' S k word views i me.0 (w word.tickets) o at (m word.tickets))

  pub ask_keeps : (slots i : ℕ) (c : ℕ) (r : Op) (me : Me (Unit {0}) View) → (m : MayAsk c me.0) → Allows (IsRuled S k) slots i me 0 (λ n. n) (Marked k (λ t. asking t c r m.copies m.self me.0) me)
  ask_keeps slots i c r me m = event_keeps slots i (λ t. asking t c r m.copies m.self me.0) me (λ word views o at. ask_sound S k word views i me.0 c r o at m)

  pub grant_keeps : (slots i : ℕ) (l : Lease) (me : Me (Unit {0}) View) → MayGrant l me.0 → Allows (IsRuled S k) slots i me 0 (λ n. n) (Marked k (λ t. granting t l me.0) me)
  grant_keeps slots i l me m = event_keeps slots i (λ t. granting t l me.0) me (λ word views o at. grant_sound S k word views i me.0 o at l m)

  pub give_back_keeps : (slots i : ℕ) (p : PartName) (c : ℕ) (me : Me (Unit {0}) View) → MayGiveBack p c me.0 → Allows (IsRuled S k) slots i me 0 (λ n. n) (Marked k (λ t. giving_back t p c me.0) me)
  give_back_keeps slots i p c me m = event_keeps slots i (λ t. giving_back t p c me.0) me (λ word views o at. give_back_sound S k word views i me.0 o at p c m)

  -- the word that is read
  word_is : (word : Word) (views : List View) (n : ℕ) → IsSound S k word views → n ≡ word_number word → word_at n ≡ word
  word_is word views n o is =
      let room = few word views o in
      let tickets : n % clock_step ≡ word.tickets = ap (λ x. x % clock_step) is ∙ tickets_of word room in
      let clock : n / clock_step ≡ word.clock = ap (λ x. x / clock_step) is ∙ clock_of word room in
      λ j. record { tickets = tickets j; clock = clock j }

  pub look_keeps : (slots i : ℕ) (me : Me (Unit {0}) View) → Allows (IsRuled S k) slots i me 0 (λ n. n) (Looked me)
  look_keeps slots i me s h len at below =
      let n = slice_index s.words 0 in
      let is : n ≡ word_number h.word = ap (λ ws. slice_index ws 0) h.is in
      let read = word_is h.word s.views n h.sound is in (
        looked (word_at n) me.0,
        keeps,
        tt,
        record {
          word = h.word;
          is = ap (λ ws. slice_set ws 0 (slice_index ws 0)) h.is;
          clock = h.clock;
          sound = subst (λ (x : Word). IsSound S k h.word (set s.views i (looked x me.0))) (sym read) (look_sound S k h.word s.views i me.0 h.sound at);
        },
        (refl, subst (λ (x : Word). (me.0.seen ≤ x.tickets) × (me.0.clock ≤ x.clock)) (sym read) (h.sound.clock.seen i me.0 at)),
      )

  abbrev first_names : NamesPart → List (Unit {0} × NamesPart) → NamesPart
  first_names d [] = d
  first_names d (x ∷ xs) = x.1

  one_names : (v : View) (p q : NamesPart) → v.names ≡ (tt, p) ∷ [] → v.names ≡ (tt, q) ∷ [] → p ≡ q
  one_names v p q a b = ap (first_names p) (sym a ∙ b)

  -- the names have the clock, so the hand knows that there is room
  pub tick_keeps : (slots i by : ℕ) (me : Me (Unit {0}) View) → MayTick by me.0 → Allows (IsRuled S k) slots i me 0 (λ n. (n + by * clock_step) % 2 ^ 64) (Ticked by me)
  tick_keeps slots i by me may s h len at below =
      let n = slice_index s.words 0 in
      let is : n ≡ word_number h.word = ap (λ ws. slice_index ws 0) h.is in
      let read = word_is h.word s.views n h.sound is in
      let room = few h.word s.views h.sound in
      let there : h.word.clock ≡ may.names.clock = sym h.sound.clock.word_is ∙ ap (λ (p : NamesPart). p.clock) (was S k h.word s.views i me.0 h.sound at by may.names may.has) in
      let low = may.room in
      let next : Word = record { tickets = h.word.tickets; clock = h.word.clock + by } in
      let up : (word_number h.word + by * clock_step) % 2 ^ 64 ≡ word_number next = mod-eq_of_lt (omega arith) ∙ (omega arith) in (
        ticked (word_at n) by may.names me.0,
        keeps,
        tt,
        record {
          word = next;
          is = ap (λ ws. slice_set ws 0 ((slice_index ws 0 + by * clock_step) % 2 ^ 64)) h.is ∙ ap (λ x. x ∷ []) up;
          clock = omega arith;
          sound = subst (λ (x : Word). IsSound S k next (set s.views i (ticked x by may.names me.0))) (sym read) (tick_sound S k h.word s.views i me.0 h.sound at by may.names may.has);
        },
        (
          λ p has. subst (TickedBy by me n (ticked (word_at n) by may.names me.0, me.1)) (one_names me.0 may.names p may.has has) (refl, ap (λ (x : Word). x.clock) read ∙ there),
          refl,
          subst (λ (x : Word). (me.0.seen ≤ x.tickets) × (me.0.clock ≤ x.clock)) (sym read) (h.sound.clock.seen i me.0 at),
        ),
      )
