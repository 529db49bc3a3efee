-- Images of a disk before and after a call.
use Rattle.std.proofs.Common.{◌≡◌, ◌≢◌, ◌⊎◌, inl, inr, ⊎_elim, ◌/◌, ◌≤◌, ◌<◌, length, arith, ℕ, zero, suc, ◌+◌, List, [], ◌∷◌, ◌++◌, get_or, refl, sym, ◌∙◌, ap, subst}
use Rattle.std.proofs.lemmas.List.{take_all, append-nil}
use Rattle.std.proofs.lemmas.Bool.{cases_eq, eq-eqb, ne_eqb}
use Rattle.std.specs.Prelude.{if◌then◌else◌, ◌==◌}
use Rattle.ufs_base.specs.Images.{Image}
use Rattle.ufs_disk.specs.Disk.{Cell, State, IsAmong, IsImage, IsSettled, possible, seen, Leaves, put, put_all, Mixes, IsMixedFrom, pieces, sectors_of, bytes_from}
use Rattle.ufs_disk.specs.Calls.{give, settled}

pub if_eq : {A : Type 0} (k s : ℕ) (x y : A) → k ≡ s → (if k == s then x else y) ≡ x
if_eq k s x y is = ap (λ b. if b then x else y) (eq-eqb k s is)

pub if_ne : {A : Type 0} (k s : ℕ) (x y : A) → k ≢ s → (if k == s then x else y) ≡ y
if_ne k s x y ne = ap (λ b. if b then x else y) (ne_eqb k s ne)

pub among_append : (xs : List (List ℕ)) (y bytes : List ℕ) → IsAmong (xs ++ y ∷ []) bytes → IsAmong xs bytes ⊎ (bytes ≡ y)
among_append [] y bytes (inl is) = inr is
among_append [] y bytes (inr none) = absurd none
among_append (x ∷ xs) y bytes (inl is) = inl (inl is)
among_append (x ∷ xs) y bytes (inr rest) = ⊎_elim (λ left. inl (inr left)) (λ is. inr is) (among_append xs y bytes rest)

pub among_last : (xs : List (List ℕ)) (y : List ℕ) → IsAmong (xs ++ y ∷ []) y
among_last [] y = inl refl
among_last (x ∷ xs) y = inr (among_last xs y)

-- a disk as it reads is one of its images
pub seen_is_image : (state : State) → IsImage state (seen state)
seen_is_image state sector = among_last (state sector).older (state sector).seen

-- a disk on which nothing is pending has one image
pub only_image : (d image : Image) → ((sector : ℕ) → IsAmong (d sector ∷ []) (image sector)) → image ≡ d
only_image d image left = λ i k. at k i
  where
    at : (k : ℕ) → image k ≡ d k
    at k = elim (left k) [ inl is ↦ is | inr none ↦ absurd none ]

-- after a barrier a crash leaves what a read gives
pub settled_leaves : (state : State) → IsSettled (settled state)
settled_leaves state image left = only_image (seen state) image left

pub settled_leaves_no_more : (state : State) → Leaves (IsImage state) (settled state)
settled_leaves_no_more state image left = subst (IsImage state) (sym (settled_leaves state image left)) (seen_is_image state)

-- in front of the sectors that are put, behind them, and in them
pub put_all_below : (ps : List (List ℕ)) (s k : ℕ) (d : Image) → k < s → put_all s ps d k ≡ d k
put_all_below [] s k d lt = refl
put_all_below (p ∷ ps) s k d lt = put_all_below ps (s + 1) k (put s p d) (omega arith) ∙ if_ne k s p (d k) (omega arith)

pub put_all_above : (ps : List (List ℕ)) (s k : ℕ) (d : Image) → s + length ps ≤ k → put_all s ps d k ≡ d k
put_all_above [] s k d le = refl
put_all_above (p ∷ ps) s k d le = put_all_above ps (s + 1) k (put s p d) (omega arith) ∙ if_ne k s p (d k) (omega arith)

pub put_all_within : (ps : List (List ℕ)) (s i : ℕ) (d : Image) → i < length ps → put_all s ps d (s + i) ≡ get_or ps i []
put_all_within [] s i d lt = absurd (omega arith)
put_all_within (p ∷ ps) s zero d lt = put_all_below ps (s + 1) (s + 0) (put s p d) (omega arith) ∙ if_eq (s + 0) s p (d (s + 0)) (omega arith)
put_all_within (p ∷ ps) s (suc i) d lt =
    let more : s + suc i ≡ s + 1 + i = omega arith in
    ap (put_all (s + 1) ps (put s p d)) more ∙ put_all_within ps (s + 1) i (put s p d) (omega arith)

-- of images that agree in a sector
pub put_all_same : (ps : List (List ℕ)) (s k : ℕ) (d e : Image) → d k ≡ e k → put_all s ps d k ≡ put_all s ps e k
put_all_same [] s k d e same = same
put_all_same (p ∷ ps) s k d e same = put_all_same ps (s + 1) k (put s p d) (put s p e) (ap (λ (x : List ℕ). if k == s then p else x) same)

pub put_same : (s : ℕ) (p : List ℕ) (d : Image) → put s p d s ≡ p
put_same s p d = if_eq s s p (d s) refl

pub put_other : (s k : ℕ) (p : List ℕ) (d : Image) → k ≢ s → put s p d k ≡ d k
put_other s k p d ne = if_ne k s p (d k) ne

-- with none of the pieces, and with all of them
pub mixes_none : (one other : Image) → Mixes one other one
mixes_none one other k = inl refl

pub mixes_all : (one other image : Image) → image ≡ other → Mixes one other image
mixes_all one other image is k = inr (ap (λ (d : Image). d k) is)

-- one piece more, which isn't put
pub mixes_without : (s : ℕ) (p : List ℕ) (ps : List (List ℕ)) (d image : Image) → Mixes d (put_all (s + 1) ps d) image → Mixes d (put_all s (p ∷ ps) d) image
mixes_without s p ps d image mixed k = elim (mixed k) [
  | inl is ↦ inl is
  | inr is ↦ elim (cases_eq k s) [
    | inl here ↦ inl (is ∙ put_all_below ps (s + 1) k d (omega arith))
    | inr ne ↦ inr (is ∙ put_all_same ps (s + 1) k d (put s p d) (sym (put_other s k p d ne)))
  ]
]

-- one piece more, which is put
pub mixes_with : (s : ℕ) (p : List ℕ) (ps : List (List ℕ)) (d image : Image) → Mixes (put s p d) (put_all (s + 1) ps (put s p d)) image → Mixes d (put_all s (p ∷ ps) d) image
mixes_with s p ps d image mixed k = elim (mixed k) [
  | inl is ↦ elim (cases_eq k s) [
    | inl here ↦ inr (is ∙ sym (put_all_below ps (s + 1) k (put s p d) (omega arith)))
    | inr ne ↦ inl (is ∙ put_other s k p d ne)
  ]
  | inr is ↦ inr is
]

-- the first piece isn't put, or it is
pub mixes_first : (s : ℕ) (p : List ℕ) (ps : List (List ℕ)) (d image : Image) → Mixes d (put_all s (p ∷ ps) d) image
    → Mixes d (put_all (s + 1) ps d) image ⊎ Mixes (put s p d) (put_all (s + 1) ps (put s p d)) image
mixes_first s p ps d image mixed = elim (mixed s) [
  | inl is ↦ inl (λ k. elim (mixed k) [
    | inl same ↦ inl same
    | inr new ↦ elim (cases_eq k s) [
      | inl here ↦ inl (ap image here ∙ is ∙ ap d (sym here))
      | inr ne ↦ inr (new ∙ put_all_same ps (s + 1) k (put s p d) d (put_other s k p d ne))
    ]
  ])
  | inr is ↦ inr (λ k. elim (mixed k) [
    | inl same ↦ elim (cases_eq k s) [
      | inl here ↦ inr (ap image here ∙ is ∙ ap (put_all s (p ∷ ps) d) (sym here))
      | inr ne ↦ inl (same ∙ sym (put_other s k p d ne))
    ]
    | inr new ↦ inr new
  ])
]

-- a mix of one piece has it or not
pub mixes_one : (s : ℕ) (p : List ℕ) (d image : Image) → Mixes d (put_all s (p ∷ []) d) image → (image ≡ d) ⊎ (image ≡ put s p d)
mixes_one s p d image mixed = ⊎_elim
    (λ (without : Mixes d d image). inl (λ i k. agreed d without k i))
    (λ (with : Mixes (put s p d) (put s p d) image). inr (λ i k. agreed (put s p d) with k i))
    (mixes_first s p [] d image mixed)
  where
    agreed : (e : Image) → Mixes e e image → (k : ℕ) → image k ≡ e k
    agreed e same k = ⊎_elim (λ is. is) (λ is. is) (same k)

-- a call that left the disk as it was
pub unmixed : (s : ℕ) (ps : List (List ℕ)) (state : State) → Leaves (IsMixedFrom s ps state) state
unmixed s ps state image left = record { before = image; left = left; mixed = mixes_none image (put_all s ps image) }

-- a write after a call that left no more than before
pub mixed_fewer : (s : ℕ) (ps : List (List ℕ)) (old mid : State) → Leaves (IsImage old) mid → (image : Image) → IsMixedFrom s ps mid image → IsMixedFrom s ps old image
mixed_fewer s ps old mid fewer image from = record { before = from.before; left = fewer from.before from.left; mixed = from.mixed }

-- one sector is one piece
pub one_piece : (bytes : List ℕ) → length bytes ≡ 512 → sectors_of bytes ≡ bytes ∷ []
one_piece bytes is =
    ap (λ n. pieces (n / 512) bytes) is ∙ ap (λ (b : List ℕ). b ∷ []) (take_all 512 bytes (omega arith))

-- after a write of one sector, an image is one from before it, or one from before it with that sector put
pub mixed_one : (s : ℕ) (bytes : List ℕ) (state : State) (image : Image) → length bytes ≡ 512 → IsMixedFrom s (sectors_of bytes) state image
    → (before : Image) × IsImage state before × ((image ≡ before) ⊎ (image ≡ put s bytes before))
mixed_one s bytes state image size from =
    let mixed : Mixes from.before (put_all s (bytes ∷ []) from.before) image =
    subst (λ (ps : List (List ℕ)). Mixes from.before (put_all s ps from.before) image) (one_piece bytes size) from.mixed in
    (from.before, from.left, mixes_one s bytes from.before image mixed)

pub put_one : (s : ℕ) (bytes : List ℕ) (d : Image) → length bytes ≡ 512 → put_all s (sectors_of bytes) d ≡ put s bytes d
put_one s bytes d size = ap (λ (ps : List (List ℕ)). put_all s ps d) (one_piece bytes size)

-- what a read of one sector gives
pub read_one : (d : Image) (s : ℕ) (buf bytes : List ℕ) → length buf ≡ 512 → bytes ≡ bytes_from d s (length buf / 512) → bytes ≡ d s
read_one d s buf bytes size is = is ∙ ap (λ n. bytes_from d s (n / 512)) size ∙ append-nil (d s)

-- after one sector was given a content, an image is one from before it, or one from before it with that content put there
pub image_of_give : (sector : ℕ) (bytes : List ℕ) (state : State) (image : Image) → IsImage (give sector bytes state) image
    → (d : Image) × IsImage state d × ((image ≡ d) ⊎ (image ≡ put sector bytes d))
image_of_give sector bytes state image left =
    let here : IsAmong (possible (state sector) ++ bytes ∷ []) (image sector) =
    subst (λ (c : Cell). IsAmong (possible c) (image sector)) (if_eq sector sector (record { older = possible (state sector); seen = bytes }) (state sector) refl) (left sector) in
    ⊎_elim
    (λ old. (image, elsewhere image (λ k ne. refl) old, inl refl))
    (λ is. (put sector (seen state sector) image, elsewhere (put sector (seen state sector) image) (λ k ne. sym (if_ne k sector _ _ ne)) kept, inr (back is)))
    (among_append (possible (state sector)) bytes (image sector) here)
  where
    elsewhere : (d : Image) → ((k : ℕ) → k ≢ sector → image k ≡ d k) → IsAmong (possible (state sector)) (d sector) → IsImage state d
    elsewhere d same old k = elim (cases_eq k sector) [
      | inl is ↦ subst (λ (n : ℕ). IsAmong (possible (state n)) (d n)) (sym is) old
      | inr ne ↦ subst (λ (b : List ℕ). IsAmong (possible (state k)) b) (same k ne)
          (subst (λ (c : Cell). IsAmong (possible c) (image k)) (if_ne k sector (record { older = possible (state k); seen = bytes }) (state k) ne) (left k))
    ]

    kept : IsAmong (possible (state sector)) (put sector (seen state sector) image sector)
    kept = subst (λ (b : List ℕ). IsAmong (possible (state sector)) b) (sym (if_eq sector sector _ _ refl)) (seen_is_image state sector)

    back_at : image sector ≡ bytes → (k : ℕ) → image k ≡ put sector bytes (put sector (seen state sector) image) k
    back_at is k = elim (cases_eq k sector) [
      | inl same ↦ ap image same ∙ is ∙ sym (if_eq k sector _ _ same)
      | inr ne ↦ sym (if_ne k sector _ _ ne ∙ if_ne k sector _ _ ne)
    ]

    back : image sector ≡ bytes → image ≡ put sector bytes (put sector (seen state sector) image)
    back is = λ i k. back_at is k i
