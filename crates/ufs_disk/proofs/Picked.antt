-- The image that a number names.
use Rattle.std.proofs.Common.{◌≡◌, inl, inr, ℕ, zero, suc, ◌+◌, ◌*◌, ◌/◌, ◌%◌, ◌≤◌, ◌<◌, List, [], ◌∷◌, ◌++◌, length, take, get_or, refl, sym, ◌∙◌, ap, subst, arith, append_assoc, length-append}
use Rattle.std.proofs.lemmas.List.{take_at, drop_all}
use Rattle.std.proofs.lemmas.Bool.{cases_lt}
use Rattle.ufs_disk.specs.Disk.{Cell, State, IsAmong, IsImage, IsWhole, possible}
use Rattle.ufs_disk.specs.Bytes.{image_of}
use Rattle.ufs_disk.specs.Calls.{picked}
use Rattle.ufs_disk.proofs.Flat.{drop_front}

pub some_possible : (cell : Cell) (contents : List (List ℕ)) → possible cell ≡ contents → 0 < length contents
some_possible cell contents is = omega (arith, ap length is, length-append cell.older (cell.seen ∷ []))

-- one sector more of it
pub picked_more : (st : State) (left sector n m : ℕ) (image : List ℕ) (more : List (List ℕ)) → n ≡ suc m → more ≡ possible (st sector)
    → (image ++ get_or more (left % length more) []) ++ picked st (left / length more) (sector + 1) m ≡ image ++ picked st left sector n
picked_more st left sector n m image more is same =
    ap (λ (l : List (List ℕ)). (image ++ get_or l (left % length l) []) ++ picked st (left / length l) (sector + 1) m) same
    ∙ append_assoc image (get_or (possible (st sector)) (left % length (possible (st sector))) []) (picked st (left / length (possible (st sector))) (sector + 1) m)
    ∙ ap (λ k. image ++ picked st left sector k) (sym is)

pub get_any : (xs : List (List ℕ)) (i : ℕ) (d e : List ℕ) → i < length xs → get_or xs i d ≡ get_or xs i e
get_any [] i d e lt = absurd (omega arith)
get_any (x ∷ xs) zero d e lt = refl
get_any (x ∷ xs) (suc i) d e lt = get_any xs i d e (omega arith)

get_among : (xs : List (List ℕ)) (i : ℕ) (d : List ℕ) → i < length xs → IsAmong xs (get_or xs i d)
get_among [] i d lt = absurd (omega arith)
get_among (x ∷ xs) zero d lt = inl refl
get_among (x ∷ xs) (suc i) d lt = inr (get_among xs i d (omega arith))

-- it is made of whole sectors, and each has a possible content
module _ (size : ℕ) (st : State) (whole : IsWhole size st) where
  abbrev choice : ℕ → ℕ → List ℕ
  choice pick sector = get_or (possible (st sector)) (pick % length (possible (st sector))) []

  choice_among : (pick sector : ℕ) → IsAmong (possible (st sector)) (choice pick sector)
  choice_among pick sector = get_among (possible (st sector)) (pick % length (possible (st sector))) [] (omega (arith, some_possible (st sector) (possible (st sector)) refl))

  choice_long : (pick sector : ℕ) → sector < size → length (choice pick sector) ≡ 512
  choice_long pick sector lt = (whole.within sector lt (choice pick sector) (choice_among pick sector)).sized

  length-picked : (n pick sector : ℕ) → sector + n ≤ size → length (picked st pick sector n) ≡ 512 * n
  length-picked zero pick sector fits = refl
  length-picked (suc n) pick sector fits =
      let rest = picked st (pick / length (possible (st sector))) (sector + 1) n in
      omega (arith, length-append (choice pick sector) rest, choice_long pick sector (omega arith), length-picked n (pick / length (possible (st sector))) (sector + 1) (omega arith))

  picked_within : (n pick sector i : ℕ) → sector + n ≤ size → i < n → IsAmong (possible (st (sector + i))) (image_of (picked st pick sector n) i)
  picked_within zero pick sector i fits lt = absurd (omega arith)
  picked_within (suc n) pick sector zero fits lt =
      let rest = picked st (pick / length (possible (st sector))) (sector + 1) n in
      let is : image_of (choice pick sector ++ rest) 0 ≡ choice pick sector = take_at (choice pick sector) rest 512 (choice_long pick sector (omega arith)) in
      let at : sector + 0 ≡ sector = omega arith in
      subst (λ (b : List ℕ). IsAmong (possible (st (sector + 0))) b) (sym is) (subst (λ (k : ℕ). IsAmong (possible (st k)) (choice pick sector)) (sym at) (choice_among pick sector))
  picked_within (suc n) pick sector (suc i) fits lt =
      let rest = picked st (pick / length (possible (st sector))) (sector + 1) n in
      let is : image_of (choice pick sector ++ rest) (suc i) ≡ image_of rest i = ap (take 512) (drop_front (choice pick sector) rest (512 * suc i) (512 * i) (omega (arith, choice_long pick sector (omega arith)))) in
      let at : sector + suc i ≡ sector + 1 + i = omega arith in
      subst (λ (b : List ℕ). IsAmong (possible (st (sector + suc i))) b) (sym is)
      (subst (λ (k : ℕ). IsAmong (possible (st k)) (image_of rest i)) (sym at) (picked_within n (pick / length (possible (st sector))) (sector + 1) i (omega arith) (omega arith)))

  -- so it is an image
  pub picked_is_image : (pick : ℕ) → IsImage st (image_of (picked st pick 0 size))
  picked_is_image pick sector = elim (cases_lt sector size) [
    | inl lt ↦ subst (λ (k : ℕ). IsAmong (possible (st k)) (image_of (picked st pick 0 size) sector)) (omega arith) (picked_within size pick 0 sector (omega arith) lt)
    | inr ge ↦
        let none : image_of (picked st pick 0 size) sector ≡ [] = ap (take 512) (drop_all (512 * sector) (picked st pick 0 size) (omega (arith, length-picked size pick 0 (omega arith)))) in
        subst (λ (l : List (List ℕ)). IsAmong l (image_of (picked st pick 0 size) sector)) (sym (whole.beyond sector (omega arith))) (inl none)
  ]
