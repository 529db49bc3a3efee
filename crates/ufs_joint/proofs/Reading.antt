-- What came into memory of a file that was read further.
use Rattle.std.proofs.Common.{◌≡◌, ℕ, zero, suc, ◌+◌, ◌*◌, ◌-◌, ◌<◌, ◌⊎◌, inl, inr, Bool, true, false, min, List, [], ◌∷◌, length, Option, Some, None, sym, refl, ap, ◌∙◌, subst, arith}
use Rattle.std.specs.Prelude.{slice_get}
use Rattle.std.proofs.lemmas.Option.{slice_get-get_or, slice_get_within}
use Rattle.ufs_bytes_laws.proofs.BlockLemmas.{content_of_own, length-own, own_of_content}
use Rattle.ufs_file.specs.Content.{IsContentOf, own_bytes}
use Rattle.ufs_file.specs.Hand.{FileState}
use Rattle.ufs_file.proofs.UnreadLemmas.{content_itself}
use Rattle.ufs_model.specs.FileBytes.{bytes_of}
use Rattle.ufs_model.specs.PosixTree.{PosixTree}
use Rattle.ufs_hand_laws.specs.Owned.{Has}
use Rattle.ufs_joint.specs.FileHands.{IsFurther}
use Rattle.ufs_joint.specs.Picks.{ArePicksOnce, HasPicked, IsUnpicked, Pick, pick_at, picks_from}

module _ (file : ℕ) (bytes : List ℕ) where
  -- It is of a block that wasn't in memory and is now.
  pub record IsPickOf (was now : List Bool) (place : ℕ) (pick : Pick) : Type 0 where
    pub n : ℕ
    pub absent : slice_get was n ≡ Some false
    pub there : slice_get now n ≡ Some true
    pub is : pick ≡ pick_at file bytes (place + n)

  next : (b c : Bool) (was now : List Bool) (place : ℕ) (pick : Pick) → IsPickOf was now (place + 1) pick → IsPickOf (b ∷ was) (c ∷ now) place pick
  next b c was now place pick x = record { n = suc x.n; absent = x.absent; there = x.there; is = x.is ∙ ap (pick_at file bytes) (omega arith) }

  pick_from : (was now : List Bool) (place : ℕ) (pick : Pick) → Has pick (picks_from file bytes was now place) → IsPickOf was now place pick
  pick_from [] now place pick has = absurd has
  pick_from (b ∷ was) [] place pick has = absurd has
  pick_from (true ∷ was) (c ∷ now) place pick has = next true c was now place pick (pick_from was now (place + 1) pick has)
  pick_from (false ∷ was) (true ∷ now) place pick (inl e) = record { n = zero; absent = refl; there = refl; is = e ∙ ap (pick_at file bytes) (omega arith) }
  pick_from (false ∷ was) (true ∷ now) place pick (inr has) = next false true was now place pick (pick_from was now (place + 1) pick has)
  pick_from (false ∷ was) (false ∷ now) place pick has = next false false was now place pick (pick_from was now (place + 1) pick has)

  to_pick : (was now : List Bool) (place n : ℕ) → slice_get was n ≡ Some false → slice_get now n ≡ Some true → Has (pick_at file bytes (place + n)) (picks_from file bytes was now place)
  to_pick [] now place n off on = absurd cc
  to_pick (b ∷ was) [] place n off on = absurd cc
  to_pick (true ∷ was) (c ∷ now) place zero off on = absurd cc
  to_pick (false ∷ was) (false ∷ now) place zero off on = absurd cc
  to_pick (false ∷ was) (true ∷ now) place zero off on = inl (ap (pick_at file bytes) (omega arith))
  to_pick (true ∷ was) (c ∷ now) place (suc n) off on = subst (λ (p : ℕ). Has (pick_at file bytes p) (picks_from file bytes was now (place + 1))) (omega arith) (to_pick was now (place + 1) n off on)
  to_pick (false ∷ was) (true ∷ now) place (suc n) off on = inr (subst (λ (p : ℕ). Has (pick_at file bytes p) (picks_from file bytes was now (place + 1))) (omega arith) (to_pick was now (place + 1) n off on))
  to_pick (false ∷ was) (false ∷ now) place (suc n) off on = subst (λ (p : ℕ). Has (pick_at file bytes p) (picks_from file bytes was now (place + 1))) (omega arith) (to_pick was now (place + 1) n off on)

  -- each block once
  pub picks_once : (was now : List Bool) (place : ℕ) → ArePicksOnce (picks_from file bytes was now place)
  picks_once [] now place = tt
  picks_once (b ∷ was) [] place = tt
  picks_once (true ∷ was) (c ∷ now) place = picks_once was now (place + 1)
  picks_once (false ∷ was) (false ∷ now) place = picks_once was now (place + 1)
  picks_once (false ∷ was) (true ∷ now) place = (later, picks_once was now (place + 1))
    where
      later : IsUnpicked (picks_from file bytes was now (place + 1)) file place
      later pick has e at = let x = pick_from was now (place + 1) pick has in let y = ap (λ (q : Pick). q.place) x.is in absurd (omega (arith, at, y))

-- ---- a file that was read further

module _ (f read : FileState) (x : IsFurther f read) (file : ℕ) where
  abbrev picks : List Pick
  picks = picks_from file read.content.bytes f.content.there read.content.there 0

  -- a block of which something is said now had a mark before
  no_mark : (place : ℕ) (b : Bool) → slice_get read.content.there place ≡ Some b → slice_get f.content.there place ≡ None → ⊥
  no_mark place b is none =
      let marks = x.marks in
      let low : place < length f.content.there = omega (arith, slice_get_within read.content.there place b is, marks) in
      let both : Some _ ≡ None = sym (slice_get-get_or f.content.there place false low) ∙ none in
      absurd cc

  pub read_is : (pick : Pick) → Has pick picks → (place : ℕ) × (slice_get f.content.there place ≡ Some false) × (slice_get read.content.there place ≡ Some true) × (pick ≡ pick_at file read.content.bytes place)
  read_is pick has = let y = pick_from file read.content.bytes f.content.there read.content.there 0 pick has in (y.n, y.absent, y.there, y.is ∙ ap (pick_at file read.content.bytes) (omega arith))

  pub read_has : (place : ℕ) → slice_get f.content.there place ≡ Some false → slice_get read.content.there place ≡ Some true → Has (pick_at file read.content.bytes place) picks
  read_has place off on = subst (λ (p : ℕ). Has (pick_at file read.content.bytes p) picks) (omega arith) (to_pick file read.content.bytes f.content.there read.content.there 0 place off on)

  pub as_long : (place : ℕ) → length (own_bytes read.content.bytes place) ≡ length (own_bytes f.content.bytes place)
  as_long place = length-own read.content.bytes place ∙ ap (λ (n : ℕ). min 4096 (n - 4096 * place)) x.still ∙ sym (length-own f.content.bytes place)

  -- What isn't in memory now wasn't before, and wasn't read.
  pub was_absent : (place : ℕ) → slice_get read.content.there place ≡ Some false → slice_get f.content.there place ≡ Some false
  was_absent place off = by (slice_get f.content.there place) refl
    where
      by : (o : Option Bool) → slice_get f.content.there place ≡ o → slice_get f.content.there place ≡ Some false
      by (Some false) is = is
      by (Some true) is = (let both : Some true ≡ Some false = sym (x.kept place is) ∙ off in absurd cc)
      by None is = absurd (no_mark place false off is)

  pub unpicked : (place : ℕ) → slice_get read.content.there place ≡ Some false → IsUnpicked picks file place
  unpicked place off pick has e at =
      let y = read_is pick has in
      let same : y.0 ≡ place = sym (ap (λ (q : Pick). q.place) y.3) ∙ at in
      let both : Some true ≡ Some false = sym y.2 ∙ ap (slice_get read.content.there) same ∙ off in
      absurd cc

  -- A tree that may have the file may have it as it was read, where it has what was read.
  pub content_read : (bytes : List ℕ) → IsContentOf f.content bytes → ((place : ℕ) → slice_get f.content.there place ≡ Some false → slice_get read.content.there place ≡ Some true → own_bytes bytes place ≡ own_bytes read.content.bytes place) → IsContentOf read.content bytes
  content_read bytes may fresh = content_of_own read.content bytes (may.long ∙ sym x.still) (λ place there. same place (slice_get f.content.there place) refl there)
    where
      same : (place : ℕ) (o : Option Bool) → slice_get f.content.there place ≡ o → slice_get read.content.there place ≡ Some true → own_bytes bytes place ≡ own_bytes read.content.bytes place
      same place (Some true) had there = own_of_content f.content bytes may place had ∙ sym (own_of_content f.content read.content.bytes (x.fewer read.content.bytes (content_itself read.content)) place had)
      same place (Some false) had there = fresh place had there
      same place None had there = absurd (no_mark place true there had)
