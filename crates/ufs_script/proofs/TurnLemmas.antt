-- Schedule words: what is printed of one is read as that word, and what is read is a turn that the script has.
use Rattle.std.proofs.Common.{◌≡◌, ◌≢◌, ℕ, ◌<◌, ◌≤◌, ◌+◌, ◌-◌, ◌^◌, List, [], ◌∷◌, ◌++◌, length, length-append, take, drop, get_or, drop-cons, suc, map, refl, Bool, true, false, Bor, Option, Some, None, Result, Ok, Err, cond, ◌∙◌, sym, ap, subst, inl, inr, arith}
use Rattle.std.specs.Prelude.{◌==◌, ◌&&◌, ◌||◌, IfErr, IfOk, codes, nat_le, nat_lt, slice_index}
use Rattle.std.specs.Fmt.{decimal}
use Rattle.std.specs.Option.{ok_or}
use Rattle.std.specs.Str.{bytes_eq}
use Rattle.std.specs.List.{AllByRecursion, AllPass, fold, list_any, position, position_or_len}
use Rattle.std.proofs.lemmas.Bool.{and_from, and_parts, cond_both, le-leb, leb-true, lt-leb, lt-ltb, ltb-true, or_parts}
use Rattle.std.proofs.lemmas.List.{drop_all, drop_more, get_or_append_left, get_or-append_right}
use Rattle.std.proofs.lemmas.List.Elements.{All-append, All-cons}
use Rattle.std.proofs.lemmas.List.Sums.{position_or_len_is}
use Rattle.std.proofs.Math.Seq.{take-append_seam, drop-append-add}
use Rattle.ufs_model.proofs.Facts.Histories.{all-push}
use Rattle.ufs_script.specs.declared.fault.Cause.{Cause}
use Rattle.ufs_script.specs.declared.fault.Cause.TheVariants as cause
use Rattle.ufs_script.specs.declared.lists.ScheduleWord.{ScheduleWord}
use Rattle.ufs_script.specs.declared.lists.ScheduleWord.TheVariants as turn
use Rattle.ufs_script.specs.Words.{is_digit, number_of, path_of}
use Rattle.ufs_script.specs.Requests.{IsCauseOf, and_then}
use Rattle.ufs_script.specs.Schedule.{HasNoPlan, IsTurn, limited, max_words, move_of, number_within, turn_by, turn_of, turns_of, with_turn, within}
use Rattle.ufs_script.specs.Spelling.{HasPath, is_inside, path_text, turn_text}
use Rattle.ufs_script.proofs.InsideLemmas.{Free, IsWord, decimal_word, free_of, literal, path_word}
use Rattle.ufs_script.proofs.NumberLemmas.{decimal_digits, number_back}
use Rattle.ufs_script.proofs.SpellingLemmas.{path_back}

-- ---- printed and read

-- a word of a letter and what follows it
letter_word : (letter : ℕ) → is_inside letter ≡ true → (text : List ℕ) → AllPass is_inside text → IsWord (letter ∷ text)
letter_word letter on text all = record { some = omega arith; inside = All-cons (λ x. is_inside x ≡ true) letter text on all }

pub turn_word : (clients workers : ℕ) (word : ScheduleWord) → IsTurn clients workers word → HasPath word → clients ≤ 16 → workers ≤ 8 → IsWord (turn_text word)
turn_word clients workers (turn.Client k) h path few most =
    let below : k < clients = h in
    letter_word 99 refl (decimal k) (decimal_word k (omega arith)).inside
turn_word clients workers (turn.Worker k) h path few most =
    let below : k ≤ workers = h.1 in
    letter_word 119 refl (decimal k) (decimal_word k (omega arith)).inside
turn_word clients workers turn.Primary h path few most = literal (codes "p") refl refl
turn_word clients workers (turn.Ticks n) h path few most =
    let below : n ≤ 65535 = h.1 in
    letter_word 116 refl (decimal n) (decimal_word n (omega arith)).inside
turn_word clients workers (turn.Move path' to) h path few most =
    let below : to ≤ workers = h in
    letter_word 109 refl (decimal to ++ 58 ∷ path_text path')
    (All-append (λ x. is_inside x ≡ true) (decimal to) (58 ∷ path_text path') (decimal_word to (omega arith)).inside
    (All-cons (λ x. is_inside x ≡ true) 58 (path_text path') refl (path_word path' path).inside))
turn_word clients workers turn.Plan h path few most = literal (codes "l") refl refl

-- the first such byte behind a text without any
place_behind : (c : ℕ) (front more : List ℕ) → Free c front → (c == c) ≡ true → position (λ b. b == c) (front ++ c ∷ more) ≡ Some (length front)
place_behind c front more free same =
    let all = front ++ c ∷ more in
    let long : length front < length all = omega (arith, length-append front (c ∷ more)) in
    let first : (k : ℕ) → k < length front → (get_or all k 0 == c) ≡ false = λ k h. ap (λ b. b == c) (get_or_append_left front (c ∷ more) 0 k h) ∙ free k 0 h in
    let none : length front - length front ≡ 0 = omega arith in
    let here : get_or all (length front) 0 ≡ c = get_or-append_right front (c ∷ more) (length front) (length front) 0 refl (omega arith) ∙ ap (λ i. get_or (c ∷ more) i 0) none in
    let there : length front < length all → (get_or all (length front) 0 == c) ≡ true = λ h. ap (λ b. b == c) here ∙ same in
    let at : position_or_len (λ b. b == c) all ≡ length front = position_or_len_is (λ b. b == c) all (length front) 0 (omega arith) first there in
    ap (λ i. cond (nat_lt i (length all)) (Some i) None) at
    ∙ ap (λ b. cond b (Some (length front)) None) (lt-ltb (length front) (length all) long)

within_back : (first end : ℕ) (text : List ℕ) (n : ℕ) → number_of text ≡ Some n → first ≤ n → n < end → number_within first end text ≡ Ok n
within_back first end text n is least below =
    ap (λ o. ok_or (within first end o) cause.BadNumber) is
    ∙ ap (λ b. ok_or (cond b (Some n) None) cause.BadNumber) (and_from (nat_le first n) (nat_lt n end) (le-leb first n least) (lt-ltb n end below))

pub turn_back : (clients workers : ℕ) (word : ScheduleWord) → IsTurn clients workers word → HasPath word → clients ≤ 16 → workers ≤ 8 → turn_of clients workers (turn_text word) ≡ Ok word
turn_back clients workers (turn.Client k) h path few most =
    let below : k < clients = h in
    ap (λ r. and_then r (λ n. Ok (turn.Client n))) (within_back 0 clients (decimal k) k (number_back k (omega arith)) (omega arith) below)
turn_back clients workers (turn.Worker k) h path few most =
    let least : 1 ≤ k = h.0 in
    let below : k ≤ workers = h.1 in
    ap (λ r. and_then r (λ n. Ok (turn.Worker n))) (within_back 1 (workers + 1) (decimal k) k (number_back k (omega arith)) least (omega arith))
turn_back clients workers turn.Primary h path few most = refl
turn_back clients workers (turn.Ticks n) h path few most =
    let least : 1 ≤ n = h.0 in
    let below : n ≤ 65535 = h.1 in
    ap (λ r. and_then r (λ k. Ok (turn.Ticks k))) (within_back 1 65536 (decimal n) n (number_back n (omega arith)) least (omega arith))
turn_back clients workers (turn.Move path' to) h path few most =
    let below : to ≤ workers = h in
    let front : List ℕ = decimal to in
    let text : List ℕ = front ++ 58 ∷ path_text path' in
    let short : to < 10 ^ 18 = omega arith in
    ap (move_of workers text) (place_behind 58 front (path_text path') (free_of 58 is_digit refl front (decimal_digits to short)) refl)
    ∙ ap (λ number. and_then (number_within 0 (workers + 1) number) (λ k. Ok (turn.Move (path_of (drop (length front + 1) text)) k))) (take-append_seam front (58 ∷ path_text path'))
    ∙ ap (λ rest. and_then (number_within 0 (workers + 1) front) (λ k. Ok (turn.Move (path_of rest) k))) (drop-append-add front (58 ∷ path_text path') 1)
    ∙ ap (λ r. and_then r (λ k. Ok (turn.Move (path_of (path_text path')) k))) (within_back 0 (workers + 1) front to (number_back to short) (omega arith) (omega arith))
    ∙ ap (λ p. Ok (turn.Move p to)) (path_back path' path)
turn_back clients workers turn.Plan h path few most = refl

-- a word that begins with `m`
pub move_by : (clients workers : ℕ) (word : List ℕ) → 1 ≤ length word → slice_index word 0 ≡ 109 → turn_by clients workers word ≡ move_of workers (drop 1 word) (position (λ b. b == 58) (drop 1 word))
move_by clients workers [] some is = absurd (omega arith)
move_by clients workers (b ∷ text) some is = ap (λ (letter : ℕ). turn_by clients workers (letter ∷ text)) is

-- ---- what a word gives

pub and_then_ok : {A B : Type 0} (r : Result A Cause) (next : A → Result B Cause) (y : B) → and_then r next ≡ Ok y → (x : A) × (r ≡ Ok x) × (next x ≡ Ok y)
and_then_ok (Ok x) next y e = (x, refl, e)
and_then_ok (Err c) next y e = cc

-- a number that is read is within its bounds
pub within_ok : (first end : ℕ) (text : List ℕ) (n : ℕ) → number_within first end text ≡ Ok n → (first ≤ n) × (n < end)
within_ok first end text n e = at (number_of text) e
  where
    by : (m : ℕ) (b : Bool) → (nat_le first m && nat_lt m end) ≡ b → ok_or (cond b (Some m) None) cause.BadNumber ≡ Ok n → (first ≤ n) × (n < end)
    by m true is e =
        let same : m ≡ n = cc in
        let both = and_parts (nat_le first m) (nat_lt m end) is in
        subst (λ (k : ℕ). (first ≤ k) × (k < end)) same (leb-true first m both.0, ltb-true m end both.1)
    by m false is e = cc

    at : (o : Option ℕ) → ok_or (within first end o) cause.BadNumber ≡ Ok n → (first ≤ n) × (n < end)
    at None e = cc
    at (Some m) e = by m (nat_le first m && nat_lt m end) refl e

module _ (clients workers : ℕ) where
  -- a turn that the script has, and no plan but by its own word
  abbrev IsGiven : Bool → Result ScheduleWord Cause → Type 0
  IsGiven plan r = (t : ScheduleWord) → r ≡ Ok t → IsTurn clients workers t × (plan ≡ false → t ≢ turn.Plan)

  given : (plan : Bool) (word : ScheduleWord) → IsTurn clients workers word → (plan ≡ false → word ≢ turn.Plan) → IsGiven plan (Ok word)
  given plan word h other t e =
      let same : word ≡ t = cc in
      subst (λ (w : ScheduleWord). IsTurn clients workers w × (plan ≡ false → w ≢ turn.Plan)) same (h, other)

  refused : (plan : Bool) (c : Cause) → IsGiven plan (Err c)
  refused plan c t e = cc

  move_given : (plan : Bool) (text : List ℕ) (o : Option ℕ) → IsGiven plan (move_of workers text o)
  move_given plan text None t e = cc
  move_given plan text (Some colon) t e =
      let x = and_then_ok (number_within 0 (workers + 1) (take colon text)) (λ to. Ok (turn.Move (path_of (drop (colon + 1) text)) to)) t e in
      let below : x.0 < workers + 1 = (within_ok 0 (workers + 1) (take colon text) x.0 x.1).1 in
      given plan (turn.Move (path_of (drop (colon + 1) text)) x.0) (omega arith) (λ off is. cc) t x.2

  letter_given : (plan : Bool) (word : List ℕ) → IsGiven plan (turn_by clients workers word)
  letter_given plan [] = refused plan cause.BadWord
  letter_given plan (letter ∷ text) =
      cond_both (letter == 99) _ _ (IsGiven plan)
      (λ is t e.
      let x = and_then_ok (number_within 0 clients text) (λ k. Ok (turn.Client k)) t e in
      given plan (turn.Client x.0) (within_ok 0 clients text x.0 x.1).1 (λ off is. cc) t x.2)
      (λ is. cond_both (letter == 119) _ _ (IsGiven plan)
      (λ is t e.
      let x = and_then_ok (number_within 1 (workers + 1) text) (λ k. Ok (turn.Worker k)) t e in
      let both = within_ok 1 (workers + 1) text x.0 x.1 in
      let below : x.0 < workers + 1 = both.1 in
      given plan (turn.Worker x.0) (both.0, omega arith) (λ off is. cc) t x.2)
      (λ is. cond_both (letter == 116) _ _ (IsGiven plan)
      (λ is t e.
      let x = and_then_ok (number_within 1 65536 text) (λ n. Ok (turn.Ticks n)) t e in
      let both = within_ok 1 65536 text x.0 x.1 in
      let below : x.0 < 65536 = both.1 in
      given plan (turn.Ticks x.0) (both.0, omega arith) (λ off is. cc) t x.2)
      (λ is. cond_both (letter == 109) _ _ (IsGiven plan)
      (λ is. move_given plan text (position (λ b. b == 58) text))
      (λ is. refused plan cause.BadWord))))

  word_given : (word : List ℕ) → IsGiven (bytes_eq word (codes "l")) (turn_of clients workers word)
  word_given word =
      cond_both (bytes_eq word (codes "p")) _ _ (IsGiven (bytes_eq word (codes "l")))
      (λ is. given (bytes_eq word (codes "l")) turn.Primary tt (λ off same. cc))
      (λ is. cond_both (bytes_eq word (codes "l")) _ _ (IsGiven (bytes_eq word (codes "l")))
      (λ is. given (bytes_eq word (codes "l")) turn.Plan tt (λ off same. let no : true ≡ false = sym is ∙ off in cc))
      (λ is. letter_given (bytes_eq word (codes "l")) word))

  -- ---- the words of a line

  pub turns_stay : (c : Cause) (words : List (List ℕ)) → fold (with_turn clients workers) (Err c) words ≡ Err c
  turns_stay c [] = refl
  turns_stay c (word ∷ words) = turns_stay c words

  -- a refused word refuses all
  pub word_refused : (words : List (Bor (List ℕ))) (i : ℕ) (d : Bor (List ℕ)) (turns : List ScheduleWord) (c : Cause) → i < length words → turn_of clients workers (get_or words i d).now ≡ Err c
      → fold (with_turn clients workers) (Ok turns) (map (λ w. w.now) (drop i words)) ≡ Err c
  word_refused words i d turns c h refused' =
      ap (λ ws. fold (with_turn clients workers) (Ok turns) (map (λ (w : Bor (List ℕ)). w.now) ws)) (drop-cons words i d h)
      ∙ ap (λ r. fold (with_turn clients workers) (and_then r (λ t. Ok (turns ++ t ∷ []))) (map (λ (w : Bor (List ℕ)). w.now) (drop (suc i) words))) refused'
      ∙ turns_stay c (map (λ (w : Bor (List ℕ)). w.now) (drop (suc i) words))

  -- a word that is read is one turn more
  pub word_read : (words : List (Bor (List ℕ))) (i : ℕ) (d : Bor (List ℕ)) (turns : List ScheduleWord) (t : ScheduleWord) → i < length words → turn_of clients workers (get_or words i d).now ≡ Ok t
      → fold (with_turn clients workers) (Ok (turns ++ t ∷ [])) (map (λ w. w.now) (drop (i + 1) words)) ≡ fold (with_turn clients workers) (Ok turns) (map (λ w. w.now) (drop i words))
  word_read words i d turns t h read =
      sym (ap (λ ws. fold (with_turn clients workers) (Ok turns) (map (λ (w : Bor (List ℕ)). w.now) ws)) (drop_more words i d h)
      ∙ ap (λ r. fold (with_turn clients workers) (and_then r (λ t'. Ok (turns ++ t' ∷ []))) (map (λ (w : Bor (List ℕ)). w.now) (drop (i + 1) words))) read)

  -- behind the last word
  pub words_end : (words : List (Bor (List ℕ))) (i : ℕ) (turns : List ScheduleWord) → length words ≤ i → fold (with_turn clients workers) (Ok turns) (map (λ w. w.now) (drop i words)) ≡ Ok turns
  words_end words i turns past = ap (λ ws. fold (with_turn clients workers) (Ok turns) (map (λ (w : Bor (List ℕ)). w.now) ws)) (drop_all i words past)

  abbrev AreGiven : List (List ℕ) → List ScheduleWord → List ScheduleWord → Type 0
  AreGiven words turns all = AllByRecursion (IsTurn clients workers) all × (list_any (λ word. bytes_eq word (codes "l")) words ≡ false → HasNoPlan turns → HasNoPlan all)

  pub turns_given : (words : List (List ℕ)) (turns all : List ScheduleWord) → AllByRecursion (IsTurn clients workers) turns → turns_of clients workers turns words ≡ Ok all → AreGiven words turns all
  turns_given [] turns all are e =
      let same : turns ≡ all = cc in
      subst (AreGiven [] turns) same (are, λ none before. before)
  turns_given (word ∷ words) turns all are e = at (turn_of clients workers word) refl e (λ more are' e'. turns_given words more all are' e')
    where
      at : (r : Result ScheduleWord Cause) → turn_of clients workers word ≡ r → fold (with_turn clients workers) (and_then r (λ t. Ok (turns ++ t ∷ []))) words ≡ Ok all
          → ((more : List ScheduleWord) → AllByRecursion (IsTurn clients workers) more → turns_of clients workers more words ≡ Ok all → AreGiven words more all)
          → AreGiven (word ∷ words) turns all
      at (Err c) is e later = let no : Err c ≡ Ok all = sym (turns_stay c words) ∙ e in cc
      at (Ok t) is e later =
          let here = word_given word t is in
          let next = later (turns ++ t ∷ []) (all-push (IsTurn clients workers) turns t are here.0) e in (
            next.0,
            λ none before.
                let both = or_parts (bytes_eq word (codes "l")) (list_any (λ w. bytes_eq w (codes "l")) words) none in
                next.1 both.1 (all-push (λ w. w ≢ turn.Plan) turns t before (here.1 both.0)),
          )

-- these turns, and no more than there may be
abbrev AreFew : Result (List ScheduleWord) Cause → List ScheduleWord → Type 0
AreFew r all = (r ≡ Ok all) × (length all ≤ max_words)

pub limited_ok : (r : Result (List ScheduleWord) Cause) (all : List ScheduleWord) → limited r ≡ Ok all → AreFew r all
limited_ok (Err c) all e = cc
limited_ok (Ok turns) all e = by (nat_le (length turns) max_words) refl e
  where
    by : (b : Bool) → nat_le (length turns) max_words ≡ b → cond b (Ok turns) (Err cause.TooMany) ≡ Ok all → AreFew (Ok turns) all
    by true is e = let same : turns ≡ all = cc in (e, subst (λ (l : List ScheduleWord). length l ≤ max_words) same (leb-true (length turns) max_words is))
    by false is e = cc

-- ---- causes

pub limited_cause : (r : Result (List ScheduleWord) Cause) (c : Cause) → IsCauseOf r c → IsCauseOf (limited r) c
limited_cause r c (inl memory) = inl memory
limited_cause r c (inr is) = inr (ap limited is)

pub limited_few : (r : Result (List ScheduleWord) Cause) (all : List ScheduleWord) → r ≡ Ok all → length all ≤ max_words → limited r ≡ Ok all
limited_few r all is few = ap limited is ∙ ap (λ b. cond b (Ok all) (Err cause.TooMany)) (le-leb (length all) max_words few)

pub limited_many : (r : Result (List ScheduleWord) Cause) (all : List ScheduleWord) → r ≡ Ok all → max_words < length all → limited r ≡ Err cause.TooMany
limited_many r all is many = ap limited is ∙ ap (λ b. cond b (Ok all) (Err cause.TooMany)) (lt-leb (length all) max_words many)

pub limited_if : (all r : Result (List ScheduleWord) Cause) (count : ℕ) → IfOk r (λ l. all ≡ Ok l) → IfOk r (λ l. length l ≡ count) → count ≤ max_words → IfOk r (λ l. limited all ≡ Ok l)
limited_if all (Ok l) count is long few = limited_few all l is (omega (arith, long, few))
limited_if all (Err c) count is long few = tt

pub limited_unless : (all r : Result (List ScheduleWord) Cause) → IfErr r (IsCauseOf all) → IfErr r (IsCauseOf (limited all))
limited_unless all (Ok l) is = tt
limited_unless all (Err c) is = limited_cause all c is

-- the first word that is refused tells the cause of all
pub first_cause : (clients workers : ℕ) (words : List (Bor (List ℕ))) (i : ℕ) (d : Bor (List ℕ)) (turns : List ScheduleWord) (c : Cause) → i < length words → IsCauseOf (turn_of clients workers (get_or words i d).now) c
    → IsCauseOf (fold (with_turn clients workers) (Ok turns) (map (λ w. w.now) (drop i words))) c
first_cause clients workers words i d turns c h (inl memory) = inl memory
first_cause clients workers words i d turns c h (inr is) = inr (word_refused clients workers words i d turns c h is)

-- ---- plans

pub plans_alike : (words : List (Bor (List ℕ))) → list_any (λ w. bytes_eq w.now (codes "l")) words ≡ list_any (λ word. bytes_eq word (codes "l")) (map (λ w. w.now) words)
plans_alike [] = refl
plans_alike (word ∷ words) = ap (λ b. bytes_eq word.now (codes "l") || b) (plans_alike words)
