-- Free blocks that go between the pools and the store keep the sound state: all of them stay the same.
use Rattle.std.proofs.Common.{◌≡◌, ℕ, ◌≤◌, ◌⊎◌, inl, inr, ⊎_elim, true, false, eqb, List, set, Some, sym, refl, ap, ◌∙◌, subst, arith}
use mathlib.Core.Option.{some}
use native.Mathlib.Decide.{dec_le}
use lib.ListN.{get_elem?}
use Rattle.std.specs.FinSet as setof
use Rattle.ufs_bitmap.specs.Blocks.{BlockSet}
use Rattle.ufs_hand_laws.specs.Owned.{Has, count, replaced}
use Rattle.ufs_hand_laws.specs.Parts.{only_one}
use Rattle.ufs_hand_laws.proofs.Keys.{alike, itself}
use Rattle.ufs_hand_laws.proofs.Owning.{all_set, has_count, replaced_back, replaced_else, replaced_here, replaced_present, same_holds, same_some}
use Rattle.ufs_store.specs.State.{geometry_of_store}
use Rattle.ufs_joint.specs.Cells.{Start, StoreCell, View, Word, World, store_of}
use Rattle.ufs_joint.specs.Laws.{BlocksMoveKeeps}
use Rattle.ufs_joint.specs.Moves.{IsIn, MayMoveBlocks, blocks_moved, with_unassigned}
use Rattle.ufs_joint.specs.Sound.{IsDiskSound, IsHeld, IsSound}
use Rattle.ufs_joint.specs.Whole.{AreFreeIn, ArePoolsApart, IsFreeIn}
use Rattle.ufs_joint.proofs.Blocks.{not_in, pooled_back, pooled_here}
use Rattle.ufs_joint.proofs.Exchange.{kind_exchanged, one_exchanged, single_of, store_is}
use Rattle.ufs_joint.proofs.FaultsTold.{faults_same, faults_stay}
use Rattle.ufs_joint.proofs.Parting.{own_alone}

module _ (k : Start) (word : Word) (views : List View) (i : ℕ) (v : View) (was : StoreCell) (pools : List (ℕ × BlockSet)) (free : BlockSet) (o : IsSound k word views) (at : get_elem? views i ≡ some v) (m : MayMoveBlocks v was pools free) where
  abbrev G : World
  G = o.world

  abbrev w : View
  w = blocks_moved pools free was v

  it_is : G.store ≡ was
  it_is = store_is views i v v at G o.one_hand tt was (subst (Has (tt, was)) (sym m.has_store) (inl refl))

  abbrev next : World
  next = record { client = G.client; asked = G.asked; file = G.file; pool = replaced eqb v.pools pools G.pool; names = G.names; store = with_unassigned free was }

  single : (n : ℕ) → count eqb n pools ≤ 1
  single n = single_of views i v w at (λ (u : View). u.pools) G.pool o.one_hand.pools m.same_pools n

  pool_case : (n : ℕ) (s : BlockSet) → next.pool n ≡ Some s → Has (n, s) pools ⊎ ((count eqb n v.pools ≡ 0) × (count eqb n pools ≡ 0) × (G.pool n ≡ Some s))
  pool_case n s is = replaced_back eqb itself alike v.pools pools G.pool single n s is

  unassigned_is : (b : ℕ) → setof.contains G.store.unassigned.free b ≡ setof.contains was.unassigned.free b
  unassigned_is b = ap (λ (s : StoreCell). setof.contains s.unassigned.free b) it_is

  -- what the hand has
  own_in : (b : ℕ) → IsIn v.pools was.unassigned.free b → IsFreeIn G b
  own_in b (inl is) = inl (unassigned_is b ∙ is)
  own_in b (inr is) = let r = pooled_back v.pools b is in inr (r.0, r.1, o.one_hand.pools.agree i v at r.0 r.1 r.2, r.3)

  own_next : (b : ℕ) → IsIn pools free b → IsFreeIn next b
  own_next b (inl is) = inl is
  own_next b (inr is) = let r = pooled_back pools b is in inr (r.0, r.1, replaced_here eqb itself alike v.pools pools G.pool single r.0 r.1 r.2, r.3)

  free_then : AreFreeIn next o.free
  free_then = record { back = λ b is. back b (o.free_in.back b is); here = here }
    where
      back : (b : ℕ) → IsFreeIn G b → IsFreeIn next b
      back b (inl is) = own_next b (m.to b (inl (sym (unassigned_is b) ∙ is)))
      back b (inr p) = by (dec_le 1 (count eqb p.0 v.pools))
        where
          by : Dec (1 ≤ count eqb p.0 v.pools) → IsFreeIn next b
          by (yes l) =
              let has = has_count eqb itself alike p.0 v.pools l in
              let same : has.0 ≡ p.1 = same_some has.0 p.1 (sym (o.one_hand.pools.agree i v at p.0 has.0 has.1) ∙ p.2) in
              own_next b (m.to b (inr (pooled_here v.pools p.0 has.0 b has.1 (subst (λ (s : BlockSet). setof.contains s b ≡ true) (sym same) p.3))))
          by (no l) =
              let none : count eqb p.0 v.pools ≡ 0 = omega (arith, l) in
              inr (p.0, p.1, replaced_else eqb itself alike v.pools pools G.pool p.0 none (let s = m.same_pools p.0 in omega (arith, s, none)) ∙ p.2, p.3)

      here : (b : ℕ) → IsFreeIn next b → setof.contains o.free b ≡ true
      here b (inl is) = o.free_in.here b (own_in b (m.from b (inl is)))
      here b (inr p) = ⊎_elim
          (λ h. o.free_in.here b (own_in b (m.from b (inr (pooled_here pools p.0 p.1 b h p.3)))))
          (λ (h : (count eqb p.0 v.pools ≡ 0) × (count eqb p.0 pools ≡ 0) × (G.pool p.0 ≡ Some p.1)). o.free_in.here b (inr (p.0, p.1, h.2, p.3)))
          (pool_case p.0 p.1 p.2)

  -- a block of another's pool is none of the hand's
  not_own : (n : ℕ) (s : BlockSet) (b : ℕ) → G.pool n ≡ Some s → count eqb n v.pools ≡ 0 → setof.contains s b ≡ true → IsIn v.pools was.unassigned.free b → ⊥
  not_own n s b is none has (inl there) = (let off = o.pools_apart.store n s b is has in let same = unassigned_is b in let clash : true ≡ false = sym there ∙ sym same ∙ off in absurd cc)
  not_own n s b is none has (inr there) = (let c = own_alone views i v at G o.one_hand o.free o.free_in o.pools_apart n s b is has there in absurd (omega (arith, c, none)))

  apart_then : ArePoolsApart next
  apart_then = record {
    pools = λ a c one other b here there is also. by a c one other b (pool_case a one here) (pool_case c other there) is also;
    store = λ a s b here is. ⊎_elim
        (λ h. m.off_store b (pooled_here pools a s b h is))
        (λ (h : (count eqb a v.pools ≡ 0) × (count eqb a pools ≡ 0) × (G.pool a ≡ Some s)). not_in free b (λ there. not_own a s b h.2 h.0 is (m.from b (inl there))))
        (pool_case a s here);
  }
    where
      by : (a c : ℕ) (one other : BlockSet) (b : ℕ) → Has (a, one) pools ⊎ ((count eqb a v.pools ≡ 0) × (count eqb a pools ≡ 0) × (G.pool a ≡ Some one)) → Has (c, other) pools ⊎ ((count eqb c v.pools ≡ 0) × (count eqb c pools ≡ 0) × (G.pool c ≡ Some other))
          → setof.contains one b ≡ true → setof.contains other b ≡ true → a ≡ c
      by a c one other b (inl h) (inl g) is also = m.apart a c one other b h g is also
      by a c one other b (inl h) (inr g) is also = absurd (not_own c other b g.2 g.0 also (m.from b (inr (pooled_here pools a one b h is))))
      by a c one other b (inr h) (inl g) is also = absurd (not_own a one b h.2 h.0 is (m.from b (inr (pooled_here pools c other b g also))))
      by a c one other b (inr h) (inr g) is also = o.pools_apart.pools a c one other b h.2 g.2 is also

  held_then : IsHeld (set views i w) next
  held_then = record {
    clients = same_holds eqb (λ (u : View). u.clients) G.client views i v w at refl o.one_hand.clients;
    asked = same_holds eqb (λ (u : View). u.asked) G.asked views i v w at refl o.one_hand.asked;
    files = same_holds eqb (λ (u : View). u.files) G.file views i v w at refl o.one_hand.files;
    pools = kind_exchanged views i v w at (λ (u : View). u.pools) G.pool o.one_hand.pools m.same_pools;
    names = same_holds only_one (λ (u : View). u.names) (λ _. Some G.names) views i v w at refl o.one_hand.names;
    store = one_exchanged views i v w at (λ (u : View). u.store) G.store o.one_hand.store (λ u. ap (count only_one u) (sym m.has_store));
  }

  -- the same world, but for pools and what is unassigned
  abbrev moved_world : StoreCell → World
  moved_world s = record { client = G.client; asked = G.asked; file = G.file; pool = replaced eqb v.pools pools G.pool; names = G.names; store = with_unassigned free s }

  disk_then : k.is_visible ≡ true → IsDiskSound k word o.history next o.parts o.free
  disk_then visible = subst (λ (s : StoreCell). IsDiskSound k word o.history (moved_world s) o.parts o.free) it_is
      (let d = o.disk visible in record {
        kept = d.kept;
        told = record { files = d.told.files; within = d.told.within; names = d.told.names; names_within = d.told.names_within };
        since = λ j from low. let s = d.since j from low in record { parts = s.parts; freed = s.freed; kept = s.kept; sound = s.sound; pool = s.pool; fewer = s.fewer; files = s.files; names = s.names };
        past = record { upto = d.past.upto; joined = d.past.joined; stamped = d.past.stamped; within = d.past.within; each = d.past.each; ended = d.past.ended };
      })

  moves_sound : IsSound k word (set views i w)
  moves_sound = record {
    history = o.history;
    world = next;
    parts = o.parts;
    free = o.free;
    picks = o.picks;
    one_hand = held_then;
    stay = record { clients = o.stay.clients; asked = o.stay.asked; pools = λ n. replaced_present eqb itself alike (λ (u : View). u.pools) G.pool views i v w at o.one_hand.pools n (m.same_pools n) ∙ o.stay.pools n };
    tickets_once = o.tickets_once;
    asked = record { seen = o.asked.seen; kept = o.asked.kept };
    seen = all_set (λ (u : View). u.seen ≤ word.tickets) views i w o.seen (o.seen i v at);
    faults_once = faults_same k views o.history (with_unassigned free was) (faults_stay k views o.history G.store o.faults_once (with_unassigned free was) (ap (λ (s : StoreCell). s.faults) (sym it_is)) (ap (λ (s : StoreCell). s.stop) (sym it_is))) i v at w refl refl;
    parts_in = record { files = o.parts_in.files; commits = o.parts_in.commits; names = o.parts_in.names; pool = o.parts_in.pool };
    free_in = free_then;
    pools_apart = apart_then;
    server = o.server;
    none_lost = o.none_lost;
    formed = ap (λ (s : StoreCell). geometry_of_store (store_of s)) (sym it_is) ∙ o.formed;
    begun = o.begun;
    may_begin = o.may_begin;
    served = o.served;
    leads = λ start b. record { legal = (o.leads start b).legal; clients = (o.leads start b).clients; parts = (o.leads start b).parts; away = (o.leads start b).away };
    unread = o.unread;
    disk = disk_then;
  }

pub blocks_move_keeps : BlocksMoveKeeps
blocks_move_keeps k word views i v was pools free o at m = moves_sound k word views i v was pools free o at m
