-- What no hand can do.
use Rattle.std.proofs.Common.{◌≡◌, ℕ, suc, ◌+◌, ◌≤◌, ◌<◌, ◌≢◌, Bool, true, false, cond, eqb, List, [], ◌∷◌, length, Option, Some, None, sym, refl, ap, ◌∙◌, subst, inl, inr, ⊎_elim, arith}
use Rattle.std.specs.Prelude.{slice_get}
use mathlib.Core.Option.{some}
use lib.ListN.{get_elem?}
use Rattle.ufs_model.specs.PosixTree.{PosixTree}
use Rattle.ufs_model.specs.History.{IsLegalFrom, goes_on}
use Rattle.ufs_model.specs.declared.data.Entry.{Entry}
use Rattle.ufs_model.specs.declared.data.PartName.TheVariants as part
use Rattle.ufs_hand_laws.specs.Owned.{one, Has, Held, count, without, present}
use Rattle.ufs_hand_laws.specs.Parts.{View, Word, Start, kept_of, only_one, uses, committed, is_client, is_asked, is_file, is_names, is_store}
use Rattle.ufs_hand_laws.specs.Explained.{Showing}
use Rattle.ufs_hand_laws.specs.Sound.{IsSound}
use Rattle.ufs_hand_laws.specs.Refused.{DrawsNeedTheirParts, SplitsLeaveNone, SentPartsAreNotDrawnOn, PartsStandOnce, BlocksStandOnce, SyncsNeedCommits, KnownIsCommitted, IsDrawnIn, TicketsStandOnce, ClosesNeedAll}
use Rattle.ufs_hand_laws.proofs.Owning.{total_two, same_some}
use Rattle.ufs_hand_laws.proofs.Exchange.{store_is}
use Rattle.ufs_hand_laws.proofs.Ending.{mine_has}

pub draws_need : DrawsNeedTheirParts
draws_need f v l known t p m is within live served touched there goes =
    ⊎_elim (λ h. h) (λ o. absurd (⊎_elim there goes o)) ((m.on t is within live).touched served p touched)

-- ---- what a split leaves

module _ {K D : Type 0} (same : K → K → Bool) (q : K → Bool) (n : K) (is : (m : K) → q m ≡ same n m) where
  none_left : (ps : List (K × D)) → count same n (without q ps) ≡ 0
  none_left [] = refl
  none_left (p ∷ ps) = by (q p.0) (is p.0) (none_left ps)
    where
      by : (b : Bool) → b ≡ same n p.0 → count same n (without q ps) ≡ 0 → count same n (cond b (without q ps) (p ∷ without q ps)) ≡ 0
      by true e rest = rest
      by false e rest = let z : one (same n p.0) ≡ 0 = ap one (sym e) in omega (arith, z, rest)

pub splits_leave_none : SplitsLeaveNone
splits_leave_none (part.Client c) v h = let z = none_left eqb (is_client (part.Client c)) c (λ m. refl) v.clients in omega (arith, h, z)
splits_leave_none (part.Asked c) v h = let z = none_left eqb (is_asked (part.Asked c)) c (λ m. refl) v.asked in omega (arith, h, z)
splits_leave_none (part.File f) v h = let z = none_left eqb (is_file (part.File f)) f (λ m. refl) v.files in omega (arith, h, z)
splits_leave_none part.Names v h = let z = none_left only_one (is_names part.Names) tt (λ m. refl) v.names in omega (arith, h, z)
splits_leave_none part.Store v h = let z = none_left only_one (is_store part.Store) tt (λ m. refl) v.store in omega (arith, h, z)

pub sent_not_drawn : SentPartsAreNotDrawnOn
sent_not_drawn f v l known t p m is within live served touched there goes = splits_leave_none p v (draws_need f (kept_of p v) l known t p m is within live served touched there goes)

-- ---- each part and block once

at_most : {D : Type 0} (o : Option D) → present o ≤ 1
at_most None = omega arith
at_most (Some d) = omega arith

twice : {K D : Type 0} (same : K → K → Bool) (parts : View → List (K × D)) (views : List View) (G : K → Option D) (n : K) (i j : ℕ) (v u : View)
    → Held same parts views G → get_elem? views i ≡ some v → get_elem? views j ≡ some u → i ≢ j → 1 ≤ count same n (parts v) → 1 ≤ count same n (parts u) → ⊥
twice same parts views G n i j v u h at there ne a b =
    let two = total_two (λ w. count same n (parts w)) views i j v u at there (λ e. ne (sym e)) in let o = h.once n in let m = at_most (G n) in omega arith

pub parts_once : (S : Showing) → PartsStandOnce S
parts_once S k word views i j v u (part.Client c) o at there ne a b = twice eqb (λ (w : View). w.clients) views o.world.client c i j v u o.one_hand.clients at there ne a b
parts_once S k word views i j v u (part.Asked c) o at there ne a b = twice eqb (λ (w : View). w.asked) views o.world.asked c i j v u o.one_hand.asked at there ne a b
parts_once S k word views i j v u (part.File f) o at there ne a b = twice eqb (λ (w : View). w.files) views o.world.file f i j v u o.one_hand.files at there ne a b
parts_once S k word views i j v u part.Names o at there ne a b = twice only_one (λ (w : View). w.names) views (λ _. Some o.world.names) tt i j v u o.one_hand.names at there ne a b
parts_once S k word views i j v u part.Store o at there ne a b = twice only_one (λ (w : View). w.store) views (λ _. Some o.world.store) tt i j v u o.one_hand.store at there ne a b

pub blocks_once : (S : Showing) → BlocksStandOnce S
blocks_once S k word views b o = let a = o.blocks_apart.same b in let c = o.blocks_apart.once b in omega arith

-- ---- what is committed

pub syncs_need : (S : Showing) → SyncsNeedCommits S
syncs_need S k word views i v f l known t g x o at m is within live done syncs has =
    let p = (m.on t is within live).synced done g syncs in
    let same = same_some p.0 x (sym (o.one_hand.files.agree i v at g p.0 p.1) ∙ o.one_hand.files.agree i v at g x has) in
    subst (λ (z : Rattle.ufs_hand_laws.specs.Parts.FilePart). length z.changes ≤ z.known) same p.2

pub known_committed : (S : Showing) → KnownIsCommitted S
known_committed S k word views i j v u g x w s o at there has store =
    subst (λ (z : Rattle.ufs_hand_laws.specs.Parts.StorePart). x.known ≤ committed z g) (store_is views j u u there o.world o.one_hand w s store)
    (o.committed_numbers.known g x (o.one_hand.files.agree i v at g x has))

-- ---- tickets

-- an entry stands at its ticket's place
placed : (h : List Entry) (n : ℕ) (t : PosixTree) (e : Entry) → IsLegalFrom n t h → Has e h → (m : ℕ) × (e.ticket ≡ n + m) × (m < length h) × (slice_get h m ≡ Some e)
placed [] n t e legal has = absurd has
placed (x ∷ h) n t e legal (inl is) = (0, (let a = ap (λ (y : Entry). y.ticket) is in let b = legal.0.numbered in omega arith), omega arith, ap Some (sym is))
placed (x ∷ h) n t e legal (inr has) = let r = placed h (n + 1) (goes_on t x) e legal.1 has in (suc r.0, (let a = r.1 in omega arith), (let a = r.2 in omega arith), r.3)

pub tickets_once : (S : Showing) (k : Start) (word : Word) (views : List View) → IsSound S k word views → TicketsStandOnce word views
tickets_once S k word views o = record {
  below = λ e d. let p = found e d in let a = p.1 in let b = p.2 in let c = o.tickets_once.tickets in omega arith;
  one = λ d e x y same.
      let p = found d x in let q = found e y in
      same_some d e (sym p.3 ∙ ap (slice_get o.history) (let a = p.1 in let b = q.1 in omega arith) ∙ q.3);
}
  where
    found : (e : Entry) → IsDrawnIn views e → (m : ℕ) × (e.ticket ≡ 0 + m) × (m < length o.history) × (slice_get o.history m ≡ Some e)
    found e d = placed o.history 0 k.tree e o.legal.legal.entries (mine_has d.client e o.history (subst (Has e) (o.tickets_once.entries d.client d.part (o.one_hand.clients.agree d.seat d.view d.at d.client d.part d.there)) d.entry))

-- ---- the end

pub closes_need : ClosesNeedAll
closes_need k v all = record {
  names = subst (λ ps. 1 ≤ count only_one tt ps) (sym all.has_names) (omega arith);
  store = subst (λ ps. 1 ≤ count only_one tt ps) (sym all.has_store) (omega arith);
  clients = λ c h. let a = all.clients c in omega (arith, a, h);
  files = λ t f is within there. all.files t is within f there;
}
