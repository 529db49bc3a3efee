-- What is still to be dealt, behind one that was.
use Rattle.std.proofs.Common.{◌≡◌, ◌≢◌, ◌⊎◌, inl, inr, ⊎_elim, ℕ, zero, suc, ◌+◌, ◌<◌, ◌≤◌, Bool, true, false, cond, eqb, List, [], ◌∷◌, ◌++◌, length, slice_get, None, Some, is_some, ap, sym, refl, ◌∙◌, subst, arith}
use Rattle.std.specs.FinMap as fin
use Rattle.ufs_bitmap.specs.Blocks.{BlockSet}
use Rattle.ufs_joint.specs.FirstHand.{pool_of}
use Rattle.std.specs.Prelude.{IsSome}
use Rattle.ufs_dealt.specs.Dealt.{values_in, values_of}
use Rattle.ufs_file_commits.specs.State.{DurableState}
use Rattle.ufs_primary.specs.OfHeld.{under_numbers}
use Rattle.ufs_primary.specs.OfHome.{AreAway, put_all}
use Rattle.ufs_primary.specs.OfHome.{Places, file_here, in_place, with_place}
use Rattle.ufs_primary.proofs.OfHome.{all_here, has_counted}
use Rattle.ufs_primary.proofs.OfHome.{one_or_other, put_else, put_here}
use Rattle.ufs_primary.specs.OfNoted.{KnownFile}
use Rattle.ufs_joint.specs.Cells.{FileCell, View}
use Rattle.ufs_joint.specs.Whole.{no_blocks}
use Rattle.ufs_dealt.specs.First.{OthersStayIdle}
use Rattle.ufs_caller.specs.Callers.{Caller}
use Rattle.ufs_rounds.specs.Dealing.{AreBare, AreIdleFrom, ArePoolsFrom, HaveAskedNothing}
use Rattle.ufs_hand_laws.specs.Owned.{Has, count, without}
use Rattle.ufs_hand_laws.proofs.Keys.{alike, itself}
use Rattle.ufs_hand_laws.proofs.Owning.{has_count}

-- ---- another name stays

pub has_without : {D : Type 0} (n m : ℕ) (x : D) (ps : List (ℕ × D)) → (n ≡ m → ⊥) → Has {A = ℕ × D} (m, x) ps → Has {A = ℕ × D} (m, x) (without (eqb n) ps)
has_without n m x [] apart has = absurd has
has_without {D} n m x (p ∷ ps) apart has = by (eqb n p.0) refl has (has_without n m x ps apart)
  where
    by : (b : Bool) → eqb n p.0 ≡ b → ((m, x) ≡ p) ⊎ Has {A = ℕ × D} (m, x) ps → (Has {A = ℕ × D} (m, x) ps → Has {A = ℕ × D} (m, x) (without (eqb n) ps)) → Has {A = ℕ × D} (m, x) (cond b (without (eqb n) ps) (p ∷ without (eqb n) ps))
    by true is (inl same) rest = absurd (apart (alike n p.0 is ∙ sym (ap (λ (q : ℕ × D). q.0) same)))
    by true is (inr there) rest = rest there
    by false is (inl same) rest = inl same
    by false is (inr there) rest = inr (rest there)

-- no two servers' pools have one number
pools_differ : (one other workers : ℕ) → workers ≤ 8 → one ≤ workers → other ≤ workers → one < other → pool_of one ≡ pool_of other → ⊥
pools_differ one other workers few low low' less same = omega (arith, few, low, low', less, same)

pub pools_further : (first workers : ℕ) (v : View) → workers ≤ 8 → first ≤ workers → ArePoolsFrom first workers v → ArePoolsFrom (suc first) workers (record v { pools = without (eqb (pool_of first)) v.pools })
pools_further first workers v few low pools server over within =
    has_without (pool_of first) (pool_of server) no_blocks v.pools
    (pools_differ first server workers few low within (omega (arith, over)))
    (pools server (omega (arith, over)) within)

-- one more pool without a block
pub bare_push : (pools : List BlockSet) (pool : BlockSet) → AreBare pools → pool ≡ no_blocks → AreBare (pools ++ pool ∷ [])
bare_push [] pool bare is = (is, tt)
bare_push (p ∷ pools) pool bare is = (bare.0, bare_push pools pool bare.1 is)

-- ---- files in their places

-- each of these files is in its place
pub home_here : (p : Places) (cs : List FileCell) → AreAway p cs → (f : ℕ) → 1 ≤ count eqb f (under_numbers cs) → IsSome (file_here (put_all p cs) f)
home_here p cs away f some =
    let it = has_counted f cs some in
    ap is_some (ap (file_here (put_all p cs)) (sym it.2) ∙ all_here p cs away.once it.0 it.1)

-- a place more leaves the others as they are
pub still_empty : (p : Places) (f g : ℕ) → fin.get p g ≡ Some None → fin.get (with_place p f) g ≡ Some None
still_empty p f g at = by (is_some (fin.get p f))
  where
    here : (g ≡ f) ⊎ (g ≢ f) → fin.get (fin.insert p f None) g ≡ Some None
    here (inl same) = ap (fin.get (fin.insert p f None)) same ∙ put_here p f None
    here (inr other) = put_else p f None g other ∙ at

    by : (b : Bool) → fin.get (cond b p (fin.insert p f None)) g ≡ Some None
    by true = at
    by false = here (one_or_other f g)

pub none_here_still : (p : Places) (f : ℕ) → ((g : ℕ) → file_here p g ≡ None) → (g : ℕ) → file_here (with_place p f) g ≡ None
none_here_still p f none g = by (is_some (fin.get p f))
  where
    here : (g ≡ f) ⊎ (g ≢ f) → file_here (fin.insert p f None) g ≡ None
    here (inl same) = ap (file_here (fin.insert p f None)) same ∙ ap in_place (put_here p f None)
    here (inr other) = ap in_place (put_else p f None g other) ∙ none g

    by : (b : Bool) → file_here (cond b p (fin.insert p f None)) g ≡ None
    by true = none g
    by false = here (one_or_other f g)

-- who has what stands in a list stands at a place of it
pub placed_at : {A : Type 0} (xs : List A) (x : A) → Has x xs → (i : ℕ) × (slice_get xs i ≡ Some x)
placed_at [] x has = absurd has
placed_at (y ∷ xs) x (inl is) = (zero, ap Some (sym is))
placed_at (y ∷ xs) x (inr has) = let r = placed_at xs x has in (suc r.0, r.1)

-- ---- files by their cells

in_values : (cells : List (ℕ × FileCell)) (n : ℕ) (c : FileCell) → Has {A = ℕ × FileCell} (n, c) cells → Has {A = ℕ × DurableState} (n, c.value) (values_in cells)
in_values [] n c has = absurd has
in_values (d ∷ cells) n c (inl is) = inl (ap (λ (q : ℕ × FileCell). (q.0, q.1.value)) is)
in_values (d ∷ cells) n c (inr has) = inr (in_values cells n c has)

of_values : (files : List KnownFile) (n : ℕ) (x : DurableState) → Has {A = ℕ × DurableState} (n, x) (values_of files) → (k : KnownFile) × Has k files × (k.hand.file ≡ n)
of_values [] n x has = absurd has
of_values (k ∷ files) n x (inl is) = (k, inl refl, sym (ap (λ (q : ℕ × DurableState). q.0) is))
of_values (k ∷ files) n x (inr has) = let r = of_values files n x has in (r.0, inr r.1, r.2)

-- the file under that number
pub file_of : (cells : List (ℕ × FileCell)) (files : List KnownFile) → values_in cells ≡ values_of files → (n : ℕ) → 1 ≤ count eqb n cells → (k : KnownFile) × Has k files × (k.hand.file ≡ n)
file_of cells files same n some =
    let it = has_count eqb itself alike n cells some in
    of_values files n it.0.value (subst (Has {A = ℕ × DurableState} (n, it.0.value)) same (in_values cells n it.0 it.1))

-- ---- one more that takes part

pub none_numbered : {A : Type 0} (number : A → ℕ) (first : ℕ → ℕ) → (i : ℕ) (y : A) → slice_get [] i ≡ Some y → number y ≡ first i
none_numbered number first i y at = (let none : None ≡ Some y = at in absurd cc)

pub get_push : {A : Type 0} (xs : List A) (x : A) (i : ℕ) (y : A) → slice_get (xs ++ x ∷ []) i ≡ Some y → (slice_get xs i ≡ Some y) ⊎ ((i ≡ length xs) × (x ≡ y))
get_push [] x zero y at = inr (refl, (let e = at in cc))
get_push [] x (suc i) y at = (let none : None ≡ Some y = at in absurd cc)
get_push (z ∷ xs) x zero y at = inl at
get_push (z ∷ xs) x (suc i) y at = ⊎_elim (λ there. inl there) (λ (h : (i ≡ length xs) × (x ≡ y)). inr (ap suc h.0, h.1)) (get_push xs x i y at)

pub numbers_push : {A : Type 0} (number : A → ℕ) (first : ℕ → ℕ) (xs : List A) (x : A) → ((i : ℕ) (y : A) → slice_get xs i ≡ Some y → number y ≡ first i) → number x ≡ first (length xs)
    → (i : ℕ) (y : A) → slice_get (xs ++ x ∷ []) i ≡ Some y → number y ≡ first i
numbers_push number first xs x all is i y at =
    ⊎_elim (all i y) (λ (h : (i ≡ length xs) × (x ≡ y)). ap number (sym h.1) ∙ is ∙ ap first (sym h.0)) (get_push xs x i y at)

-- one more client that has asked nothing
pub nothing_push : (clients : List Caller) (c : Caller) → HaveAskedNothing clients → c.told ≡ [] → c.errand ≡ None → c.hints ≡ [] → HaveAskedNothing (clients ++ c ∷ [])
nothing_push [] c nothing told errand hints = ((told, errand, hints), tt)
nothing_push (d ∷ clients) c nothing told errand hints = (nothing.0, nothing_push clients c nothing.1 told errand hints)

-- the next clients are idle still
pub idle_further : OthersStayIdle → (first count : ℕ) (v : View) → AreIdleFrom first count v → AreIdleFrom (suc first) count (record v { clients = without (eqb first) v.clients; asked = without (eqb first) v.asked })
idle_further others first count v idle client over low = others v first client (λ (same : first ≡ client). (let o = over in omega (arith, same, o))) (idle client (omega (arith, over)) low)
