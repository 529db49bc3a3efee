-- What the sink got where text waits, and where that is written.
use Rattle.std.proofs.Common.{◌≡◌, ℕ, List, [], ◌++◌, Option, ap, sym, subst, refl, ◌∙◌, append_assoc}
use Rattle.std.proofs.lemmas.List.{append-nil}
use Rattle.std.specs.Io.KnownBytes.{Appends}
use Rattle.ufs_print.specs.Pieces.{GotFront, GotLines, IsPassed, PutLines}
use Rattle.ufs_print.proofs.WriteLemmas.{IsEnded, appends_both, appends_none, ended_both, front_behind, front_longer, front_of_front, got_behind}

-- it all waits
pub waits : (held : Option (List ℕ)) (text : List ℕ) → IsPassed held held text text
waits held text = ([], appends_none held, refl)

-- the first of it was written, and the last waits
pub last_waits : (old new : Option (List ℕ)) (first last : List ℕ) → Appends old new first → IsPassed old new last (first ++ last)
last_waits old new first last wrote = (first, wrote, refl)

-- all of it was written
pub both_written : (old mid new : Option (List ℕ)) (first last : List ℕ) → Appends old mid first → Appends mid new last → IsPassed old new [] (first ++ last)
both_written old mid new first last wrote more = (first ++ last, appends_both old mid new first last wrote more, append-nil (first ++ last))

-- what waits is written
pub flushed : (old mid new : Option (List ℕ)) (waiting text : List ℕ) → IsPassed old mid waiting text → Appends mid new waiting → Appends old new text
flushed old mid new waiting text p wrote = subst (Appends old new) p.2 (appends_both old mid new p.0 waiting p.1 wrote)

-- a front of it is
pub flushed_front : (old mid new : Option (List ℕ)) (waiting text : List ℕ) → IsPassed old mid waiting text → GotFront mid new waiting → GotFront old new text
flushed_front old mid new waiting text p got = subst (GotFront old new) p.2 (got_behind old mid new p.0 waiting p.1 got)

-- ---- lines that began to be put where nothing waited, and what waits in the end is written

module _ (old mid new : Option (List ℕ)) (first waiting lines : List ℕ) (none : first ≡ []) where
  behind_none : (text : List ℕ) → first ++ text ≡ text
  behind_none text = ap (λ l. l ++ text) none

  pub all_out : IsPassed old mid waiting (first ++ lines) → Appends mid new waiting → Appends old new lines
  all_out p wrote = subst (Appends old new) (behind_none lines) (flushed old mid new waiting (first ++ lines) p wrote)

  pub front_out : IsPassed old mid waiting (first ++ lines) → GotFront mid new waiting → GotFront old new lines
  front_out p got = subst (GotFront old new) (behind_none lines) (flushed_front old mid new waiting (first ++ lines) p got)

  -- the sink failed before that
  pub front_before : GotFront old new (first ++ lines) → GotFront old new lines
  front_before got = subst (GotFront old new) (behind_none lines) got

  -- there was no memory for one
  pub lines_out : PutLines old mid waiting first lines → Appends mid new waiting → GotLines old new lines
  lines_out p wrote = (p.0, p.1, subst (Appends old new) (behind_none p.0) (flushed old mid new waiting (first ++ p.0) p.2 wrote))

  pub front_of_lines_out : PutLines old mid waiting first lines → GotFront mid new waiting → GotFront old new lines
  front_of_lines_out p got =
      let part = subst (GotFront old new) (behind_none p.0) (flushed_front old mid new waiting (first ++ p.0) p.2 got) in
      (part.0, front_of_front part.0 p.0 lines part.1 p.1.front_is, part.2)

module _ (old mid new : Option (List ℕ)) (first second third : List ℕ) (text : List ℕ) (wrote : IsPassed old mid second (first ++ text)) where
  joined_up : (more : List ℕ) → wrote.0 ++ (second ++ more) ≡ first ++ (text ++ more)
  joined_up more = sym (append_assoc wrote.0 second more) ∙ ap (λ l. l ++ more) wrote.2 ∙ append_assoc first text more

  -- more text behind it
  pub passed_both : (more : List ℕ) → IsPassed mid new third (second ++ more) → IsPassed old new third (first ++ (text ++ more))
  passed_both more p = (wrote.0 ++ p.0, appends_both old mid new wrote.0 p.0 wrote.1 p.1, append_assoc wrote.0 p.0 third ∙ ap (λ l. wrote.0 ++ l) p.2 ∙ joined_up more)

  pub front_passed : (more : List ℕ) → GotFront mid new (second ++ more) → GotFront old new (first ++ (text ++ more))
  front_passed more got =
      (wrote.0 ++ got.0, subst (λ (whole : List ℕ). (rest : List ℕ) × ((wrote.0 ++ got.0) ++ rest ≡ whole)) (joined_up more) (front_behind wrote.0 got.0 (second ++ more) got.1), appends_both old mid new wrote.0 got.0 wrote.1 got.2)

  pub lines_passed : (more : List ℕ) → IsEnded text → PutLines mid new third second more → PutLines old new third first (text ++ more)
  lines_passed more ended got =
      (text ++ got.0, record { front_is = front_behind text got.0 more got.1.front_is; ended = ended_both text got.0 ended got.1.ended }, passed_both got.0 got.2)

-- a front of what is longer
pub front_more : (old new : Option (List ℕ)) (first text more : List ℕ) → GotFront old new (first ++ text) → GotFront old new (first ++ (text ++ more))
front_more old new first text more got = subst (GotFront old new) (append_assoc first text more) (got.0, front_longer got.0 (first ++ text) more got.1, got.2)

pub lines_more : (old new : Option (List ℕ)) (waiting first text more : List ℕ) → PutLines old new waiting first text → PutLines old new waiting first (text ++ more)
lines_more old new waiting first text more got = (got.0, record { front_is = front_longer got.0 text more got.1.front_is; ended = got.1.ended }, got.2)

-- nothing was put
pub no_lines : (old mid new : Option (List ℕ)) (first second third text more : List ℕ) → IsEnded text → IsPassed old mid second (first ++ text) → new ≡ mid → third ≡ second → PutLines old new third first (text ++ more)
no_lines old mid new first second third text more ended wrote kept waits =
    (text, record { front_is = (more, refl); ended = ended }, subst (λ (o : Option (List ℕ)). IsPassed old o third (first ++ text)) (sym kept) (subst (λ (w : List ℕ). IsPassed old mid w (first ++ text)) (sym waits) wrote))
