-- Writes, one after the other, and fronts of what is to be written.
use Rattle.std.proofs.Common.{◌≡◌, ◌⊎◌, inl, inr, ℕ, List, [], ◌∷◌, ◌++◌, Option, Some, None, ap, sym, subst, refl, ◌∙◌, append_assoc, take, drop}
use Rattle.std.proofs.lemmas.List.{append-nil, take-append-drop}
use Rattle.std.specs.Io.KnownBytes.{Appends, Keeps}
use Rattle.ufs_print.specs.Pieces.{GotFront}
use Rattle.ufs_print.specs.Lines.{line, IsFront}

pub appends_both : (a b c : Option (List ℕ)) (xs ys : List ℕ) → Appends a b xs → Appends b c ys → Appends a c (xs ++ ys)
appends_both None b c xs ys p q = tt
appends_both (Some a) None c xs ys p q = absurd p
appends_both (Some a) (Some b) None xs ys p q = absurd q
appends_both (Some a) (Some b) (Some c) xs ys p q = q ∙ ap (λ zs. zs ++ ys) p ∙ append_assoc a xs ys

pub appends_none : (a : Option (List ℕ)) → Appends a a []
appends_none None = tt
appends_none (Some a) = sym (append-nil a)

pub front_all : (xs : List ℕ) → IsFront xs xs
front_all xs = ([], append-nil xs)

pub front_none : (xs : List ℕ) → IsFront [] xs
front_none xs = (xs, refl)

pub front_taken : (n : ℕ) (xs : List ℕ) → IsFront (take n xs) xs
front_taken n xs = (drop n xs, take-append-drop n xs)

-- behind the same bytes
pub front_behind : (before front whole : List ℕ) → IsFront front whole → IsFront (before ++ front) (before ++ whole)
front_behind before front whole is = (is.0, append_assoc before front is.0 ∙ ap (λ w. before ++ w) is.1)

-- of something longer
pub front_longer : (front whole more : List ℕ) → IsFront front whole → IsFront front (whole ++ more)
front_longer front whole more is = (is.0 ++ more, sym (append_assoc front is.0 more) ∙ ap (λ w. w ++ more) is.1)

pub got_behind : (old mid new : Option (List ℕ)) (before whole : List ℕ) → Appends old mid before → GotFront mid new whole → GotFront old new (before ++ whole)
got_behind old mid new before whole wrote got = (before ++ got.0, front_behind before got.0 whole got.1, appends_both old mid new before got.0 wrote got.2)

pub got_longer : (old new : Option (List ℕ)) (whole more : List ℕ) → GotFront old new whole → GotFront old new (whole ++ more)
got_longer old new whole more got = (got.0, front_longer got.0 whole more got.1, got.2)

pub appends_kept : (a b c : Option (List ℕ)) (xs : List ℕ) → Appends a b xs → Keeps b c → Appends a c xs
appends_kept None b c xs p q = tt
appends_kept (Some a) None c xs p q = absurd p
appends_kept (Some a) (Some b) None xs p q = absurd q
appends_kept (Some a) (Some b) (Some c) xs p q = q ∙ p

-- a front of a front
pub front_of_front : (a b c : List ℕ) → IsFront a b → IsFront b c → IsFront a c
front_of_front a b c p q = (p.0 ++ q.0, sym (append_assoc a p.0 q.0) ∙ ap (λ w. w ++ q.0) p.1 ∙ q.1)

-- ---- whole lines

-- nothing, or a last line
abbrev pub IsEnded : List ℕ → Type 0
IsEnded text = (text ≡ []) ⊎ ((before : List ℕ) × (text ≡ line before))

pub ended_both : (xs ys : List ℕ) → IsEnded xs → IsEnded ys → IsEnded (xs ++ ys)
ended_both xs ys first (inl none) = subst IsEnded (sym (ap (λ (l : List ℕ). xs ++ l) none ∙ append-nil xs)) first
ended_both xs ys first (inr last) = inr (xs ++ last.0, ap (λ (l : List ℕ). xs ++ l) last.1 ∙ sym (append_assoc xs last.0 (10 ∷ [])))
