-- A hand whose parts are replaced by others: what all hands have then.
use Rattle.std.proofs.Common.{◌≡◌, ℕ, ◌+◌, ◌≤◌, ◌⊎◌, cond, eqb, leb, List, set, Option, Some, None, unwrap_or, sym, refl, ap, ◌∙◌, subst, inl, inr, arith, le-leb}
use mathlib.Core.Option.{some}
use native.Mathlib.Decide.{dec_le}
use lib.ListN.{get_elem?}
use Rattle.ufs_hand_laws.specs.Owned.{present, Has, count, Held, find, replaced}
use Rattle.ufs_hand_laws.specs.Parts.{View, World, NamesPart, StorePart, only_one}
use Rattle.ufs_hand_laws.specs.OneHand.{IsHeld}
pub use Rattle.ufs_hand_laws.specs.Marks.{value_after}
use Rattle.ufs_hand_laws.proofs.Owning.{replace_holds, once_in, present_find, has_find, has_count, same_some}
use Rattle.ufs_hand_laws.proofs.Keys.{itself, alike, one_itself, one_alike}

abbrev pub world_after : View → View → World → World
world_after v w G = record {
  client = replaced eqb v.clients w.clients G.client;
  asked = replaced eqb v.asked w.asked G.asked;
  file = replaced eqb v.files w.files G.file;
  pool = replaced eqb v.pools w.pools G.pool;
  names = value_after w.names G.names;
  store = value_after w.store G.store;
}

-- the same parts have their names in both, but files
pub record KeepsNames (v w : View) : Type 0 where
  pub clients : (n : ℕ) → count eqb n w.clients ≡ count eqb n v.clients
  pub asked : (n : ℕ) → count eqb n w.asked ≡ count eqb n v.asked
  pub pools : (n : ℕ) → count eqb n w.pools ≡ count eqb n v.pools
  pub names : (n : Unit {0}) → count only_one n w.names ≡ count only_one n v.names
  pub store : (n : Unit {0}) → count only_one n w.store ≡ count only_one n v.store

module _ {D : Type 0} where
  some_of : (o : Option D) (d : D) → present o ≡ 1 → o ≡ Some (unwrap_or o d)
  some_of None d e = absurd (omega arith)
  some_of (Some x) d e = refl

  none_of : (o : Option D) → present o ≡ 0 → o ≡ None
  none_of None e = refl
  none_of (Some x) e = absurd (omega arith)

  value_else : (ps : List (Unit {0} × D)) (d : D) → count only_one tt ps ≡ 0 → value_after ps d ≡ d
  value_else ps d z = let p = present_find only_one one_itself one_alike tt ps (omega arith) in let n = none_of (find only_one tt ps) (omega arith) in ap (λ o. unwrap_or o d) n

  pub value_is : (ps : List (Unit {0} × D)) (d x : D) → count only_one tt ps ≤ 1 → Has (tt, x) ps → value_after ps d ≡ x
  value_is ps d x l h = ap (λ o. unwrap_or o d) (has_find only_one one_itself one_alike tt x ps l h)

  -- the hand has it, or it is as before
  pub value_case : (ps : List (Unit {0} × D)) (d : D) → count only_one tt ps ≤ 1 → ((count only_one tt ps ≡ 0) × (value_after ps d ≡ d)) ⊎ ((x : D) × Has (tt, x) ps × (value_after ps d ≡ x))
  value_case ps d l = by (dec_le 1 (count only_one tt ps))
    where
      by : Dec (1 ≤ count only_one tt ps) → ((count only_one tt ps ≡ 0) × (value_after ps d ≡ d)) ⊎ ((x : D) × Has (tt, x) ps × (value_after ps d ≡ x))
      by (yes m) = let x = has_count only_one one_itself one_alike tt ps m in inr (x.0, x.1, value_is ps d x.0 l x.1)
      by (no m) = inl (omega arith, value_else ps d (omega arith))

  one_replaced : (old new : List (Unit {0} × D)) (d : D) → count only_one tt new ≤ 1 → count only_one tt new ≡ count only_one tt old → replaced only_one old new (λ _. Some d) tt ≡ Some (value_after new d)
  one_replaced old new d l c = by (dec_le 1 (count only_one tt new))
    where
      by : Dec (1 ≤ count only_one tt new) → replaced only_one old new (λ _. Some d) tt ≡ Some (value_after new d)
      by (yes m) =
          let p = present_find only_one one_itself one_alike tt new l in
          ap (λ b. cond b (find only_one tt new) (Some d)) (le-leb 1 (count only_one tt old + count only_one tt new) (omega arith)) ∙ some_of (find only_one tt new) d (omega arith)
      by (no m) =
          let z : count only_one tt old + count only_one tt new ≡ 0 = omega arith in
          ap (λ n. cond (leb 1 n) (find only_one tt new) (Some d)) z ∙ ap Some (sym (value_else new d (omega arith)))

module _ (views : List View) (i : ℕ) (v w : View) (at : get_elem? views i ≡ some v) (G : World) (h : IsHeld views G) where
  single_of : {D : Type 0} (parts : View → List (ℕ × D)) (F : ℕ → Option D) → Held eqb parts views F → ((n : ℕ) → count eqb n (parts w) ≡ count eqb n (parts v)) → (n : ℕ) → count eqb n (parts w) ≤ 1
  single_of parts F held c n = let a = once_in eqb itself alike parts F views i v at held n in let b = c n in omega arith

  pub names_single : KeepsNames v w → count only_one tt w.names ≤ 1
  names_single c = let a = once_in only_one one_itself one_alike (λ (u : View). u.names) (λ _. Some G.names) views i v at h.names tt in let b = c.names tt in omega arith

  pub store_single : KeepsNames v w → count only_one tt w.store ≤ 1
  store_single c = let a = once_in only_one one_itself one_alike (λ (u : View). u.store) (λ _. Some G.store) views i v at h.store tt in let b = c.store tt in omega arith

  pub clients_single : KeepsNames v w → (n : ℕ) → count eqb n w.clients ≤ 1
  clients_single c = single_of (λ (u : View). u.clients) G.client h.clients c.clients

  pub asked_single : KeepsNames v w → (n : ℕ) → count eqb n w.asked ≤ 1
  asked_single c = single_of (λ (u : View). u.asked) G.asked h.asked c.asked

  pub kind_exchanged : {D : Type 0} (parts : View → List (ℕ × D)) (F : ℕ → Option D) → Held eqb parts views F → ((n : ℕ) → count eqb n (parts w) ≡ count eqb n (parts v)) → Held eqb parts (set views i w) (replaced eqb (parts v) (parts w) F)
  kind_exchanged parts F held c = replace_holds eqb itself alike parts F views i v w at held (single_of parts F held c) (λ n z l. let b = c n in absurd (omega arith))

  pub one_exchanged : {D : Type 0} (parts : View → List (Unit {0} × D)) (d : D) → Held only_one parts views (λ _. Some d) → ((n : Unit {0}) → count only_one n (parts w) ≡ count only_one n (parts v)) → Held only_one parts (set views i w) (λ _. Some (value_after (parts w) d))
  one_exchanged parts d held c =
      let s = once_in only_one one_itself one_alike parts (λ _. Some d) views i v at held tt in let b = c tt in
      subst (Held only_one parts (set views i w)) (λ j u. one_replaced (parts v) (parts w) d (omega arith) (c tt) j)
      (replace_holds only_one one_itself one_alike parts (λ _. Some d) views i v w at held (λ n. let a = once_in only_one one_itself one_alike parts (λ _. Some d) views i v at held n in let b = c n in omega arith) (λ n z l. let b = c n in absurd (omega arith)))

  pub held_exchange : KeepsNames v w → ((g : ℕ) → count eqb g w.files ≤ 1) → ((g : ℕ) → count eqb g v.files ≡ 0 → 1 ≤ count eqb g w.files → G.file g ≡ None) → IsHeld (set views i w) (world_after v w G)
  held_exchange c single fresh = record {
    clients = kind_exchanged (λ (u : View). u.clients) G.client h.clients c.clients;
    asked = kind_exchanged (λ (u : View). u.asked) G.asked h.asked c.asked;
    files = replace_holds eqb itself alike (λ (u : View). u.files) G.file views i v w at h.files single fresh;
    pools = kind_exchanged (λ (u : View). u.pools) G.pool h.pools c.pools;
    names = one_exchanged (λ (u : View). u.names) G.names h.names c.names;
    store = one_exchanged (λ (u : View). u.store) G.store h.store c.store;
  }

  -- what a hand says of the names and the store is so
  pub names_are : (u : Unit {0}) (n : NamesPart) → Has (u, n) v.names → G.names ≡ n
  names_are u n x = same_some G.names n (h.names.agree i v at u n x)

  pub store_is : (u : Unit {0}) (s : StorePart) → Has (u, s) v.store → G.store ≡ s
  store_is u s x = same_some G.store s (h.store.agree i v at u s x)
