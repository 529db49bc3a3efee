-- Letters as they are kept and sent.
use Rattle.std.proofs.Common.{◌≡◌, ◌+◌, ◌-◌, ℕ, suc, inl, inr, List, [], ◌∷◌, ◌++◌, length, set, slice_get, Option, Some, None, is_some, Result, Ok, Err, MatchResult, refl, sym, ap, ◌∙◌, subst, arith}
use Rattle.std.specs.Prelude.{IfSome, unwrap_or}
use Rattle.std.proofs.lemmas.List.{length-set}
use Rattle.ufs_joint.specs.Cells.{FileCell}
use Rattle.ufs_msg.specs.declared.letter.Letter.{Letter}
use Rattle.ufs_msg.specs.declared.letter.Letter.TheVariants as letter
use Rattle.ufs_msg.proofs.Places.{set_same}
use Rattle.ufs_owner.specs.Owners.{Files}
use Rattle.ufs_home.specs.Letters.{Boxes, LettersGo, Mailed, RingsGo, is_file, letter_of, mailed, number_in, posted}

-- ---- one letter

pub parcel_is : (m : Mailed) (c : FileCell) → letter.Parcel c ≡ letter_of m → inl c ≡ m
parcel_is (inl d) c is = ap inl (same c d is)
  where
    same : (c d : FileCell) → ◌≡◌ {A = Letter FileCell} (letter.Parcel c) (letter.Parcel d) → c ≡ d
    same c d is = cc
parcel_is (inr f) c is = absurd cc

pub recall_is : (m : Mailed) (file : ℕ) → letter.Recall file ≡ letter_of m → inr file ≡ m
recall_is (inl d) file is = absurd cc
recall_is (inr f) file is = ap inr (same file f is)
  where
    same : (c d : ℕ) → ◌≡◌ {A = Letter FileCell} (letter.Recall c) (letter.Recall d) → c ≡ d
    same c d is = cc

pub number_mailed : (file : ℕ) (o : Option FileCell) → IfSome o (λ c. c.value.file.file ≡ file) → number_in (mailed file o) ≡ file
number_mailed file None is = refl
number_mailed file (Some c) is = is

pub file_mailed : (file : ℕ) (o : Option FileCell) → is_file (mailed file o) ≡ is_some o
file_mailed file None = refl
file_mailed file (Some c) = refl

pub with_parcel : (file : ℕ) (c d : FileCell) → mailed file (Some c) ≡ inl d → c ≡ d
with_parcel file c d is = cc

-- ---- the letters to a worker

module _ {E : Type 0} where
  pub posted_there : (boxes : Boxes) (worker : ℕ) (letter : Mailed) (was is : List Mailed) (r : Result (Unit {0}) (E × Mailed)) → slice_get boxes (worker - 1) ≡ Some was
      → MatchResult r (λ _. is ≡ was ++ letter ∷ []) (λ x. (x.1 ≡ letter) × (is ≡ was))
      → MatchResult r (λ _. set boxes (worker - 1) is ≡ posted boxes worker letter) (λ x. (x.1 ≡ letter) × (set boxes (worker - 1) is ≡ boxes))
  posted_there boxes worker letter was is (Ok u) at h = ap (λ (ms : List Mailed). set boxes (worker - 1) ms) (h ∙ ap (λ (o : Option (List Mailed)). unwrap_or o [] ++ letter ∷ []) (sym at))
  posted_there boxes worker letter was is (Err x) at h = (h.0, ap (λ (ms : List Mailed). set boxes (worker - 1) ms) h.1 ∙ set_same boxes (worker - 1) was at)

pub posted_length : (boxes : Boxes) (worker : ℕ) (letter : Mailed) → length (posted boxes worker letter) ≡ length boxes
posted_length boxes worker letter = length-set boxes (worker - 1) _

-- ---- the letters to one worker more

module _ {Q : Type 0} (sends : ℕ → Q → Mailed → Q → Type 0) (same : Q → Q → Type 0) (full : Q → ℕ → Type 0) where
  pub next_box : (place w : ℕ) → w ≡ place → (old mid : Boxes) (owners had then : Files) (p r q : Q) (was is : List Mailed) → RingsGo sends same full place old mid owners had p r → slice_get mid place ≡ Some was
      → LettersGo (sends (place + 1)) same (λ t. full t (place + 1)) was is had then r q → RingsGo sends same full (place + 1) old (set mid w is) owners then p q
  next_box place w at old mid owners had then p r q was is before stood go =
      let e : suc place ≡ place + 1 = omega arith in
      let m : suc place - 1 ≡ place = omega arith in
      subst (λ (n : ℕ). RingsGo sends same full n old (set mid w is) owners then p q) e (
        mid,
        had,
        r,
        before,
        record {
          was = was;
          is = is;
          stood = ap (slice_get mid) m ∙ stood;
          stands = ap (λ (n : ℕ). set mid n is) (at ∙ sym m);
          go = subst (λ (n : ℕ). LettersGo (sends n) same (λ t. full t n) was is had then r q) (sym e) go;
        },
      )
