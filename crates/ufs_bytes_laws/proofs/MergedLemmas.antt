-- Bytes in which some blocks are another list's.
use Rattle.std.proofs.Common.{◌≡◌, ℕ, zero, suc, ◌-◌, ◌*◌, ◌≤◌, ◌<◌, ◌⊎◌, inl, inr, ◌&&◌, not, Bool, true, false, cond, Option, Some, None, List, [], ◌∷◌, ◌++◌, drop, length, min, take, ap, sym, refl, ◌∙◌, arith, length-append}
use Rattle.std.specs.Prelude.{slice_get, if◌then◌else◌}
use Rattle.std.proofs.lemmas.Bool.{cases_lt}
use Rattle.std.proofs.lemmas.List.{append-nil, drop_at, length-drop, length-take, nil_from_length, take_all, take_at}
use Rattle.ufs_base.specs.declared.sizes.TheConstants.{BLOCK}
use Rattle.ufs_file.specs.Content.{own_bytes}
use Rattle.ufs_bytes_laws.proofs.BlockLemmas.{length-own, own_determine, own_next, own_past}

-- the blocks with a mark are the fresh bytes', the others the old ones
abbrev pub merged : List Bool → (fresh old : List ℕ) → List ℕ
merged [] fresh old = old
merged (b ∷ bs) fresh old = take BLOCK (if b then fresh else old) ++ merged bs (drop BLOCK fresh) (drop BLOCK old)

-- Each marked block has as many own bytes in both.
abbrev pub AreAsMany : List Bool → (fresh old : List ℕ) → Type 0
AreAsMany marks fresh old = (place : ℕ) → slice_get marks place ≡ Some true → length (own_bytes fresh place) ≡ length (own_bytes old place)

pub many_as_long : (marks : List Bool) (fresh old : List ℕ) → length fresh ≡ length old → AreAsMany marks fresh old
many_as_long marks fresh old same place is = length-own fresh place ∙ ap (λ n. min 4096 (n - 4096 * place)) same ∙ sym (length-own old place)

many_next : (b : Bool) (marks : List Bool) (fresh old : List ℕ) → AreAsMany (b ∷ marks) fresh old → AreAsMany marks (drop 4096 fresh) (drop 4096 old)
many_next b marks fresh old many place is = ap (λ l. length l) (own_next fresh place) ∙ many (suc place) is ∙ sym (ap (λ l. length l) (own_next old place))

-- the first block has as many bytes as it had
first_long : (b : Bool) (marks : List Bool) (fresh old : List ℕ) → AreAsMany (b ∷ marks) fresh old → length (take 4096 (cond b fresh old)) ≡ min 4096 (length old)
first_long true marks fresh old many = many zero refl ∙ length-take 4096 old
first_long false marks fresh old many = length-take 4096 old

pub length-merged : (marks : List Bool) (fresh old : List ℕ) → AreAsMany marks fresh old → length (merged marks fresh old) ≡ length old
length-merged [] fresh old many = refl
length-merged (b ∷ marks) fresh old many =
    let first : List ℕ = take 4096 (cond b fresh old) in
    let rest : List ℕ = merged marks (drop 4096 fresh) (drop 4096 old) in
    let long : length rest ≡ length old - 4096 = length-merged marks (drop 4096 fresh) (drop 4096 old) (many_next b marks fresh old many) ∙ length-drop 4096 old in
    length-append first rest ∙ omega (arith, long, first_long b marks fresh old many)

-- the own bytes at a place with this mark
abbrev chosen : Option Bool → (fresh old : List ℕ) → ℕ → List ℕ
chosen (Some true) fresh old place = own_bytes fresh place
chosen (Some false) fresh old place = own_bytes old place
chosen None fresh old place = own_bytes old place

chosen_next : (o : Option Bool) (fresh old : List ℕ) (place : ℕ) → chosen o (drop 4096 fresh) (drop 4096 old) place ≡ chosen o fresh old (suc place)
chosen_next (Some true) fresh old place = own_next fresh place
chosen_next (Some false) fresh old place = own_next old place
chosen_next None fresh old place = own_next old place

chosen_past : (o : Option Bool) (fresh old : List ℕ) (place : ℕ) → length old ≤ 4096 * place → (o ≡ Some true → length (own_bytes fresh place) ≡ length (own_bytes old place)) → chosen o fresh old place ≡ []
chosen_past (Some true) fresh old place past many = nil_from_length (own_bytes fresh place) (many refl ∙ ap (λ l. length l) (own_past old place past))
chosen_past (Some false) fresh old place past many = own_past old place past
chosen_past None fresh old place past many = own_past old place past

-- a first block is whole, or nothing stands behind it
own_first : (xs ys : List ℕ) → length xs ≤ 4096 → (4096 ≤ length xs) ⊎ (length ys ≡ 0) → take 4096 (xs ++ ys) ≡ xs
own_first xs ys few (inl full) = take_at xs ys 4096 (omega (arith, few, full))
own_first xs ys few (inr nothing) = ap (λ l. take 4096 (xs ++ l)) (nil_from_length ys nothing) ∙ ap (take 4096) (append-nil xs) ∙ take_all 4096 xs few

merged_own : (marks : List Bool) (fresh old : List ℕ) → AreAsMany marks fresh old → (place : ℕ) → own_bytes (merged marks fresh old) place ≡ chosen (slice_get marks place) fresh old place
merged_own [] fresh old many place = refl
merged_own (b ∷ marks) fresh old many zero =
    let first : List ℕ = take 4096 (cond b fresh old) in
    let rest : List ℕ = merged marks (drop 4096 fresh) (drop 4096 old) in
    let size = first_long b marks fresh old many in
    own_first first rest (omega (arith, size)) (whole (cases_lt (length old) 4096)) ∙ at b
  where
    whole : (length old < 4096) ⊎ (4096 ≤ length old) → (4096 ≤ length (take 4096 (cond b fresh old))) ⊎ (length (merged marks (drop 4096 fresh) (drop 4096 old)) ≡ 0)
    whole (inl less) = inr (length-merged marks (drop 4096 fresh) (drop 4096 old) (many_next b marks fresh old many) ∙ omega (arith, less, length-drop 4096 old))
    whole (inr full) = inl (omega (arith, full, first_long b marks fresh old many))

    at : (c : Bool) → take 4096 (cond c fresh old) ≡ chosen (Some c) fresh old zero
    at true = refl
    at false = refl
merged_own (b ∷ marks) fresh old many (suc place) = by (merged_own marks (drop 4096 fresh) (drop 4096 old) (many_next b marks fresh old many) place) (cases_lt (length old) 4096)
  where
    first : List ℕ
    first = take 4096 (cond b fresh old)

    rest : List ℕ
    rest = merged marks (drop 4096 fresh) (drop 4096 old)

    by : own_bytes (merged marks (drop 4096 fresh) (drop 4096 old)) place ≡ chosen (slice_get marks place) (drop 4096 fresh) (drop 4096 old) place → (length old < 4096) ⊎ (4096 ≤ length old)
        → own_bytes (merged (b ∷ marks) fresh old) (suc place) ≡ chosen (slice_get marks place) fresh old (suc place)
    by later (inl less) =
        own_past (merged (b ∷ marks) fresh old) (suc place) (omega (arith, less, length-merged (b ∷ marks) fresh old many))
        ∙ sym (chosen_past (slice_get marks place) fresh old (suc place) (omega (arith, less)) (many (suc place)))
    by later (inr full) =
        sym (own_next (merged (b ∷ marks) fresh old) place)
        ∙ ap (λ l. own_bytes l place) (drop_at first rest 4096 (omega (arith, full, first_long b marks fresh old many)))
        ∙ later ∙ chosen_next (slice_get marks place) fresh old place

-- ---- the own bytes of each block

module _ (marks : List Bool) (fresh old : List ℕ) (many : AreAsMany marks fresh old) where
  pub merged_marked : (place : ℕ) → slice_get marks place ≡ Some true → own_bytes (merged marks fresh old) place ≡ own_bytes fresh place
  merged_marked place is = merged_own marks fresh old many place ∙ ap (λ o. chosen o fresh old place) is

  pub merged_else : (place : ℕ) → (slice_get marks place ≡ Some true → ⊥) → own_bytes (merged marks fresh old) place ≡ own_bytes old place
  merged_else place not = merged_own marks fresh old many place ∙ by (slice_get marks place) not
    where
      by : (o : Option Bool) → (o ≡ Some true → ⊥) → chosen o fresh old place ≡ own_bytes old place
      by (Some true) not = absurd (not refl)
      by (Some false) not = refl
      by None not = refl

-- Where the marked blocks have the old ones' own bytes nothing changes.
pub merged_same : (marks : List Bool) (fresh old : List ℕ) → ((place : ℕ) → slice_get marks place ≡ Some true → own_bytes fresh place ≡ own_bytes old place) → merged marks fresh old ≡ old
merged_same marks fresh old same =
    own_determine (merged marks fresh old) old (length-merged marks fresh old many) (λ place.
    merged_own marks fresh old many place ∙ by place (slice_get marks place) (same place))
  where
    many : AreAsMany marks fresh old
    many place is = ap (λ l. length l) (same place is)

    by : (place : ℕ) (o : Option Bool) → (o ≡ Some true → own_bytes fresh place ≡ own_bytes old place) → chosen o fresh old place ≡ own_bytes old place
    by place (Some true) same = same refl
    by place (Some false) same = refl
    by place None same = refl

-- ---- which blocks came into memory

-- a mark where there was none
abbrev pub newly : (before after : List Bool) → List Bool
newly [] after = []
newly (b ∷ before) [] = []
newly (b ∷ before) (c ∷ after) = (c && not b) ∷ newly before after

pub newly_from : (before after : List Bool) (place : ℕ) → slice_get (newly before after) place ≡ Some true → (slice_get before place ≡ Some false) × (slice_get after place ≡ Some true)
newly_from [] after place is = absurd cc
newly_from (b ∷ before) [] place is = absurd cc
newly_from (true ∷ before) (true ∷ after) zero is = absurd cc
newly_from (true ∷ before) (false ∷ after) zero is = absurd cc
newly_from (false ∷ before) (true ∷ after) zero is = (refl, refl)
newly_from (false ∷ before) (false ∷ after) zero is = absurd cc
newly_from (b ∷ before) (c ∷ after) (suc place) is = newly_from before after place is

pub newly_to : (before after : List Bool) (place : ℕ) → slice_get before place ≡ Some false → slice_get after place ≡ Some true → slice_get (newly before after) place ≡ Some true
newly_to [] after place was is = absurd cc
newly_to (b ∷ before) [] place was is = absurd cc
newly_to (b ∷ before) (c ∷ after) zero was is = let e : b ≡ false = cc in let f : c ≡ true = cc in λ i. Some (f i && not (e i))
newly_to (b ∷ before) (c ∷ after) (suc place) was is = newly_to before after place was is
