-- A draw that rests on a lease keeps the rule, where the word is still the one in which the lease lives.
use Rattle.std.proofs.Common.{◌≡◌, ◌⊎◌, ℕ, zero, suc, ◌+◌, ◌/◌, ◌%◌, ◌^◌, ◌<◌, ◌≤◌, Bool, true, false, eqb, eqb-true, List, [], ◌∷◌, set, sym, refl, ap, ◌∙◌, subst, inl, inr, arith, mod-eq_of_lt}
use Rattle.std.proofs.lemmas.Bool.{eqb-false}
use Rattle.std.specs.Prelude.{slice_index, slice_set}
use mathlib.Core.Option.{some, some-injective}
use lib.ListN.{get_elem?}
use prog.Atomic.{either}
use Rattle.atomic_table.specs.Table.{State, Act, Me, Valid, keeps, carried_after, stepped, Allows}
use Rattle.ufs_model.specs.Laws.{KeepsTrees, Locality, MakesOneFile}
use Rattle.ufs_model.specs.PosixTree.{PosixTree}
use Rattle.ufs_model.specs.declared.data.Lease.{Lease}
use Rattle.ufs_model.specs.declared.data.PartName.{PartName}
use Rattle.ufs_model.specs.declared.data.PartName.TheVariants as name
use Rattle.ufs_hand_laws.specs.declared.fresh.Fresh.{Fresh}
use Rattle.ufs_hand_laws.specs.Clock.{looked}
use Rattle.ufs_hand_laws.specs.Draws.{Leaves, IsIn, DrawsOn, MayDraw, drawn}
use Rattle.ufs_hand_laws.specs.Explained.{Showing}
use Rattle.ufs_hand_laws.specs.LeasesTrue.{IsListedIn}
use Rattle.ufs_hand_laws.specs.Owned.{Has}
use Rattle.ufs_hand_laws.specs.Parts.{ClientPart, View, Word, Start, HoldsPart}
use Rattle.ufs_hand_laws.specs.Rule.{clock_step, word_number, IsRuled, IsSeenBy, DrewAt}
use Rattle.ufs_hand_laws.specs.Sound.{IsSound}
use Rattle.ufs_hand_laws.proofs.Drawn.{draw_sound}
use Rattle.ufs_hand_laws.proofs.Ruling.{few, tickets_of, clock_of}

-- ---- a hand that has looked

module _ (word : Word) (v : View) where
  abbrev w : View
  w = looked word v

  holds_still : (p : PartName) → HoldsPart p v → HoldsPart p w
  holds_still (name.Client c) h = h
  holds_still (name.Asked c) h = h
  holds_still (name.File g) h = h
  holds_still name.Names h = h
  holds_still name.Store h = h

  listed_before : (x : Lease) (p : PartName) → IsListedIn w x p → IsListedIn v x p
  listed_before x (name.File g) h = h
  listed_before x name.Names h = h
  listed_before x (name.Client c) h = h
  listed_before x (name.Asked c) h = h
  listed_before x name.Store h = h

  is_in : (t : PosixTree) → IsIn w t → IsIn v t
  is_in t z = record { clients = z.clients; files = z.files; paths = z.paths; next = z.next; holds = z.holds }

  draws_on : (f : Fresh) (self : ClientPart) (l : Leaves) (t : PosixTree) → v.clock ≤ word.clock → DrawsOn f self v l t → DrawsOn f self w l t
  draws_on f self l t before d = record {
    replied = d.replied;
    touched = λ e p h. still p (d.touched e p h);
    fds = d.fds;
    bytes = d.bytes;
    files = d.files;
    paths = d.paths;
    next = d.next;
    holds = d.holds;
    names = d.names;
    own = d.own;
    other = d.other;
    single = d.single;
    leases = λ x h live. d.leases x (listed_before x x.part h) (omega arith);
    own_leases = λ x h live. d.own_leases x h (omega arith);
    synced = d.synced;
    synced_names = d.synced_names;
    synced_birth = d.synced_birth;
  }
    where
      still : {A : Type 0} (p : PartName) → HoldsPart p v ⊎ A → HoldsPart p w ⊎ A
      still p (inl h) = inl (holds_still p h)
      still p (inr a) = inr a

  -- what may be drawn may be drawn after a look
  pub looked_may_draw : (f : Fresh) (l : Leaves) (known : List Lease) → v.clock ≤ word.clock → MayDraw f v l known → MayDraw f w l known
  looked_may_draw f l known before m = record {
    self = m.self;
    client = m.client;
    low = m.low;
    seq = m.seq;
    asked = m.asked;
    on = λ t is within live. draws_on f m.self l t before (m.on t is (is_in t within) live);
    copies = m.copies;
    names = m.names;
    others = m.others;
    blocks = m.blocks;
    dropped = m.dropped;
    kept = m.kept;
    loaded = m.loaded;
    device = m.device;
    stopped = m.stopped;
    short = m.short;
  }

-- ---- the draw

set_back : (views : List View) (i : ℕ) (v : View) → get_elem? views i ≡ some v → set views i v ≡ views
set_back [] i v at = refl
set_back (x ∷ xs) zero v at = ap (λ y. y ∷ xs) (sym (some-injective x v at))
set_back (x ∷ xs) (suc i) v at = ap (λ l. x ∷ l) (set_back xs i v at)

module _ (keeps' : KeepsTrees) (local : Locality) (makes : MakesOneFile) (S : Showing) (k : Start) (i old new : ℕ) (f : Fresh) (l : Leaves) (x : Lease) (me : Me (Unit {0}) View)
    (m : MayDraw f me.0 l (x ∷ [])) (live : old / clock_step < x.until) (up : new ≡ (old + 1) % 2 ^ 64) where
  module _ (s : State (Unit {0}) View) (h : IsRuled S k s) (at : get_elem? s.views i ≡ some me.0) where
    abbrev n : ℕ
    n = slice_index s.words 0

    abbrev After : ℕ → View → Type 0
    After word v = IsRuled S k (record { words = slice_set s.words 0 word; homes = s.homes; views = slice_set s.views i v })

    found : n ≡ word_number h.word
    found = ap (λ ws. slice_index ws 0) h.is

    drawn_at : n ≡ old → After new (drawn (old % clock_step) f l me.0)
    drawn_at same =
        let room = few S k h.word s.views h.sound in
        let low = h.clock in
        let old_is : old ≡ word_number h.word = sym same ∙ found in
        let ticket : old % clock_step ≡ h.word.tickets = ap (λ y. y % clock_step) old_is ∙ tickets_of S k h.word room in
        let clock : old / clock_step ≡ h.word.clock = ap (λ y. y / clock_step) old_is ∙ clock_of S k h.word room in
        let next : Word = record { tickets = suc h.word.tickets; clock = h.word.clock } in
        let fits : (word_number h.word + 1) % 2 ^ 64 ≡ word_number next = mod-eq_of_lt (omega arith) ∙ (omega arith) in
        record {
          word = next;
          is = ap (λ ws. slice_set ws 0 new) h.is ∙ ap (λ y. y ∷ []) (up ∙ ap (λ y. (y + 1) % 2 ^ 64) old_is ∙ fits);
          clock = low;
          sound = subst (λ y. IsSound S k next (set s.views i (drawn y f l me.0))) (sym ticket)
              (draw_sound (record { keeps = keeps'; local = local; makes = makes; S = S; k = k; word = h.word; views = s.views; i = i; v = me.0; f = f; l = l; known = x ∷ []; live = lives clock; o = h.sound; at = at; m = m }));
        }
      where
        lives : old / clock_step ≡ h.word.clock → (y : Lease) → Has y (x ∷ []) → h.word.clock < y.until
        lives c y (inl e) = subst (λ (z : Lease). h.word.clock < z.until) (sym e) (omega arith)
        lives c y (inr e) = absurd e

    stays_at : After n me.0
    stays_at = record {
      word = h.word;
      is = ap (λ ws. slice_set ws 0 (slice_index ws 0)) h.is;
      clock = h.clock;
      sound = subst (IsSound S k h.word) (sym (set_back s.views i me.0 at)) h.sound;
    }

    -- the word that is found isn't from before what the hand has seen
    seen_by : IsSeenBy n me.0
    seen_by =
        let room = few S k h.word s.views h.sound in
        let ticket : n % clock_step ≡ h.word.tickets = ap (λ y. y % clock_step) found ∙ tickets_of S k h.word room in
        let clock : n / clock_step ≡ h.word.clock = ap (λ y. y / clock_step) found ∙ clock_of S k h.word room in
        let seen = h.sound.clock.seen i me.0 at in
        (subst (λ y. me.0.seen ≤ y) (sym ticket) seen.0, subst (λ y. me.0.clock ≤ y) (sym clock) seen.1)

    abbrev Goes : ℕ → Type 0
    Goes word = (w : View) × (a : Act (Unit {0})) × Valid s.homes me.1 a × IsRuled S k (stepped s 0 word i me.1 w a) × DrewAt old f l me n (w, carried_after me.1 a)

    goes : (b : Bool) → eqb n old ≡ b → Goes (either b new n)
    goes true e = let same = eqb-true n old e in (drawn (old % clock_step) f l me.0, keeps, tt, drawn_at same, ((λ _. refl), (λ ne. absurd (ne same))))
    goes false e = (me.0, keeps, tt, stays_at, ((λ same. absurd (eqb-false n old e same)), (λ _. (refl, seen_by))))

  pub local_keeps : (slots : ℕ) → Allows (IsRuled S k) slots i me 0 (λ n. either (eqb n old) new n) (DrewAt old f l me)
  local_keeps slots s h len at below = goes s h at (eqb (slice_index s.words 0) old) refl
