-- A split and a join keep the sound state.
use Rattle.std.proofs.Common.{◌≡◌, ℕ, ◌+◌, ◌≤◌, ◌≢◌, Bool, true, false, cond, eqb, leb, List, [], ◌∷◌, ◌++◌, set, Option, Some, None, sym, refl, ◌∙◌, ⊎_elim, arith}
use mathlib.Core.Option.{some}
use lib.ListN.{get_elem?}
use Rattle.atomic_table.proofs.Lists.{set_else}
use Rattle.ufs_model.specs.declared.data.PartName.{PartName}
use Rattle.ufs_model.specs.declared.data.Entry.{Entry}
use Rattle.ufs_hand_laws.specs.Owned.{Has, times}
use Rattle.ufs_hand_laws.specs.Parts.{View, World, Word, Start, Shortage, StorePart, only_one, kept_of, given_of, both_of, spent, later, either, uses, file_uses, pool_uses, names_uses, store_uses, is_client, is_asked, is_file, is_names, is_store}
use Rattle.ufs_hand_laws.specs.Sound.{IsSound}
use Rattle.ufs_hand_laws.specs.OneHand.{IsHeld}
use Rattle.ufs_hand_laws.specs.FaultsOnce.{AreFaultsOnce}
use Rattle.ufs_hand_laws.specs.ClockTrue.{IsClockTrue}
use Rattle.ufs_hand_laws.specs.Explained.{Showing}
use Rattle.ufs_hand_laws.proofs.Owning.{cut_holds, join_holds, weigh_cut, weigh_append, split_total, join_total, all_set, all_split, has_append}
use Rattle.ufs_hand_laws.proofs.Keys.{itself, alike, one_itself, one_alike}

uses_cut : (p : PartName) (v : View) (b : ℕ) → uses b (kept_of p v) + uses b (given_of p v) ≡ uses b v
uses_cut p v b =
    let f = weigh_cut (is_file p) (file_uses b) v.files in
    let q = weigh_cut (is_file p) (pool_uses b) v.pools in
    let n = weigh_cut (is_names p) (names_uses b) v.names in
    let s = weigh_cut (is_store p) (store_uses b) v.store in
    omega arith

uses_both : (v u : View) (b : ℕ) → uses b (both_of v u) + uses b spent ≡ uses b v + uses b u
uses_both v u b =
    let f = weigh_append (file_uses b) v.files u.files in
    let q = weigh_append (pool_uses b) v.pools u.pools in
    let n = weigh_append (names_uses b) v.names u.names in
    let s = weigh_append (store_uses b) v.store u.store in
    omega arith

times_append : (b : ℕ) (xs ys : List ℕ) → times b (xs ++ ys) ≡ times b xs + times b ys
times_append b [] ys = omega arith
times_append b (x ∷ xs) ys = let i = times_append b xs ys in omega arith

later_le : (a b n : ℕ) → a ≤ n → b ≤ n → later a b ≤ n
later_le a b n x y = at (leb a b)
  where
    at : (t : Bool) → cond t b a ≤ n
    at true = y
    at false = x

either_is : (a b c : Option ℕ) (n : ℕ) → ((m : ℕ) → a ≡ Some m → c ≡ Some m) → ((m : ℕ) → b ≡ Some m → c ≡ Some m) → either a b ≡ Some n → c ≡ Some n
either_is None b c n x y e = y n e
either_is (Some a) b c n x y e = x n e

module _ (S : Showing) (k : Start) (word : Word) (views : List View) where
  held_split : (G : World) (i : ℕ) (p : PartName) (v : View) → get_elem? views i ≡ some v → IsHeld views G → IsHeld (set views i (kept_of p v) ++ given_of p v ∷ []) G
  held_split G i p v at h = record {
    clients = cut_holds eqb itself alike (λ (u : View). u.clients) G.client (is_client p) views i v (kept_of p v) (given_of p v) at h.clients refl refl;
    asked = cut_holds eqb itself alike (λ (u : View). u.asked) G.asked (is_asked p) views i v (kept_of p v) (given_of p v) at h.asked refl refl;
    files = cut_holds eqb itself alike (λ (u : View). u.files) G.file (is_file p) views i v (kept_of p v) (given_of p v) at h.files refl refl;
    pools = cut_holds eqb itself alike (λ (u : View). u.pools) G.pool (is_file p) views i v (kept_of p v) (given_of p v) at h.pools refl refl;
    names = cut_holds only_one one_itself one_alike (λ (u : View). u.names) (λ _. Some G.names) (is_names p) views i v (kept_of p v) (given_of p v) at h.names refl refl;
    store = cut_holds only_one one_itself one_alike (λ (u : View). u.store) (λ _. Some G.store) (is_store p) views i v (kept_of p v) (given_of p v) at h.store refl refl;
  }

  held_join : (G : World) (i j : ℕ) (v u : View) → get_elem? views i ≡ some v → j ≢ i → get_elem? (set views i (both_of v u)) j ≡ some u → IsHeld views G → IsHeld (set (set views i (both_of v u)) j spent) G
  held_join G i j v u at ne there h = record {
    clients = join_holds eqb itself alike (λ (u : View). u.clients) G.client views i j v u (both_of v u) spent at ne there h.clients refl refl;
    asked = join_holds eqb itself alike (λ (u : View). u.asked) G.asked views i j v u (both_of v u) spent at ne there h.asked refl refl;
    files = join_holds eqb itself alike (λ (u : View). u.files) G.file views i j v u (both_of v u) spent at ne there h.files refl refl;
    pools = join_holds eqb itself alike (λ (u : View). u.pools) G.pool views i j v u (both_of v u) spent at ne there h.pools refl refl;
    names = join_holds only_one one_itself one_alike (λ (u : View). u.names) (λ _. Some G.names) views i j v u (both_of v u) spent at ne there h.names refl refl;
    store = join_holds only_one one_itself one_alike (λ (u : View). u.store) (λ _. Some G.store) views i j v u (both_of v u) spent at ne there h.store refl refl;
  }

  faults_split : (h : List Entry) (s : StorePart) (i : ℕ) (p : PartName) (v : View) → get_elem? views i ≡ some v → AreFaultsOnce views h s → AreFaultsOnce (set views i (kept_of p v) ++ given_of p v ∷ []) h s
  faults_split h s i p v at f = record {
    single = f.single;
    device = λ n. let a = split_total (λ (u : View). times n u.faults) views i v (kept_of p v) (given_of p v) at (omega arith) in let b = f.device n in omega arith;
    stops = all_split (λ (u : View). (n : ℕ) → u.stop ≡ Some n → s.stop ≡ Some n) views i (kept_of p v) (given_of p v) f.stops (f.stops i v at) (f.stops i v at);
    stopped = f.stopped;
    shortages = all_split (λ (u : View). (x : Shortage) → Has x u.shortages → Has x s.shortages) views i (kept_of p v) (given_of p v) f.shortages (f.shortages i v at) (λ x e. absurd e);
    short = f.short;
  }

  faults_join : (h : List Entry) (s : StorePart) (i j : ℕ) (v u : View) → get_elem? views i ≡ some v → j ≢ i → get_elem? (set views i (both_of v u)) j ≡ some u → AreFaultsOnce views h s → AreFaultsOnce (set (set views i (both_of v u)) j spent) h s
  faults_join h s i j v u at ne there f =
      let there' : get_elem? views j ≡ some u = sym (set_else views i j (both_of v u) ne) ∙ there in
      record {
        single = f.single;
        device = λ n. let a = join_total (λ (u : View). times n u.faults) views i j v u (both_of v u) spent at there (let t = times_append n v.faults u.faults in omega arith) in let b = f.device n in omega arith;
        stops = all_set (λ (u : View). (n : ℕ) → u.stop ≡ Some n → s.stop ≡ Some n) (set views i (both_of v u)) j spent
            (all_set (λ (u : View). (n : ℕ) → u.stop ≡ Some n → s.stop ≡ Some n) views i (both_of v u) f.stops (λ n e. either_is v.stop u.stop s.stop n (f.stops i v at) (f.stops j u there') e))
            (λ n e. cc);
        stopped = f.stopped;
        shortages = all_set (λ (u : View). (x : Shortage) → Has x u.shortages → Has x s.shortages) (set views i (both_of v u)) j spent
            (all_set (λ (u : View). (x : Shortage) → Has x u.shortages → Has x s.shortages) views i (both_of v u) f.shortages (λ x e. ⊎_elim (f.shortages i v at x) (f.shortages j u there' x) (has_append x v.shortages u.shortages e)))
            (λ x e. absurd e);
        short = f.short;
      }

  clock_split : (G : World) (i : ℕ) (p : PartName) (v : View) → get_elem? views i ≡ some v → IsClockTrue word views G → IsClockTrue word (set views i (kept_of p v) ++ given_of p v ∷ []) G
  clock_split G i p v at c = record {
    word_is = c.word_is;
    seen = all_split (λ (u : View). (u.seen ≤ word.tickets) × (u.clock ≤ word.clock)) views i (kept_of p v) (given_of p v) c.seen (c.seen i v at) (c.seen i v at);
  }

  clock_join : (G : World) (i j : ℕ) (v u : View) → get_elem? views i ≡ some v → j ≢ i → get_elem? (set views i (both_of v u)) j ≡ some u → IsClockTrue word views G → IsClockTrue word (set (set views i (both_of v u)) j spent) G
  clock_join G i j v u at ne there c =
      let there' : get_elem? views j ≡ some u = sym (set_else views i j (both_of v u) ne) ∙ there in
      let a = c.seen i v at in let b = c.seen j u there' in
      record {
        word_is = c.word_is;
        seen = all_set (λ (u : View). (u.seen ≤ word.tickets) × (u.clock ≤ word.clock)) (set views i (both_of v u)) j spent
            (all_set (λ (u : View). (u.seen ≤ word.tickets) × (u.clock ≤ word.clock)) views i (both_of v u) c.seen (later_le v.seen u.seen word.tickets a.0 b.0, later_le v.clock u.clock word.clock a.1 b.1))
            (omega arith, omega arith);
      }

  pub split_sound : (i : ℕ) (p : PartName) (v : View) → IsSound S k word views → get_elem? views i ≡ some v → IsSound S k word (set views i (kept_of p v) ++ given_of p v ∷ [])
  split_sound i p v o at = record {
    history = o.history;
    world = o.world;
    one_hand = held_split o.world i p v at o.one_hand;
    parts = o.parts;
    tickets_once = o.tickets_once;
    legal = o.legal;
    leases_true = o.leases_true;
    blocks_apart = record { same = λ b. split_total (uses b) views i v (kept_of p v) (given_of p v) at (uses_cut p v b) ∙ o.blocks_apart.same b; once = o.blocks_apart.once };
    committed_held = o.committed_held;
    committed_numbers = o.committed_numbers;
    disk_bytes = o.disk_bytes;
    holds = o.holds;
    explained = o.explained;
    faults_once = faults_split o.history o.world.store i p v at o.faults_once;
    clock = clock_split o.world i p v at o.clock;
    asked = o.asked;
  }

  pub join_sound : (i j : ℕ) (v u : View) → IsSound S k word views → get_elem? views i ≡ some v → j ≢ i → get_elem? (set views i (both_of v u)) j ≡ some u → IsSound S k word (set (set views i (both_of v u)) j spent)
  join_sound i j v u o at ne there = record {
    history = o.history;
    world = o.world;
    one_hand = held_join o.world i j v u at ne there o.one_hand;
    parts = o.parts;
    tickets_once = o.tickets_once;
    legal = o.legal;
    leases_true = o.leases_true;
    blocks_apart = record { same = λ b. join_total (uses b) views i j v u (both_of v u) spent at there (uses_both v u b) ∙ o.blocks_apart.same b; once = o.blocks_apart.once };
    committed_held = o.committed_held;
    committed_numbers = o.committed_numbers;
    disk_bytes = o.disk_bytes;
    holds = o.holds;
    explained = o.explained;
    faults_once = faults_join o.history o.world.store i j v u at ne there o.faults_once;
    clock = clock_join o.world i j v u at ne there o.clock;
    asked = o.asked;
  }
