-- Some sectors of one disk are written on another.
use Rattle.std.proofs.Common.{◌≡◌, ◌≤◌, ◌<◌, ◌+◌, ◌-◌, ◌*◌, ◌/◌, ℕ, zero, suc, List, ◌++◌, length, take, drop, length-append, length-drop, sym, ◌∙◌, ap, subst, arith}
use Rattle.std.specs.Prelude.{Result, Ok, Err, IfErr, IfOk, OnOk}
use Rattle.std.proofs.lemmas.List.{take_at, length-take-le}
use Rattle.ufs_base.specs.Images.{Image}
use Rattle.ufs_disk.specs.Disk.{State, IsImage, IsSettled, IsWhole, Leaves, bytes_from, overwritten, put_all, sectors_of, seen}
use Rattle.ufs_disk.specs.Moments.{Moments, reads}
use Rattle.ufs_disk.proofs.Flat.{drop_front, length-pieces, pieces_at}
use Rattle.ufs_disk.proofs.Images.{put_all_below, put_all_within, seen_is_image}

piece_is : (d : Image) (s n : ℕ) → ((i : ℕ) → i < n → length (d (s + i)) ≡ 512) → (i : ℕ) → i < n → take 512 (drop (512 * i) (bytes_from d s n)) ≡ d (s + i)
piece_is d s zero long i less = absurd (omega (arith, less))
piece_is d s (suc n) long zero less =
    let here : length (d s) ≡ 512 = subst (λ m. length (d m) ≡ 512) (omega arith) (long 0 (omega arith)) in
    take_at (d s) (bytes_from d (s + 1) n) 512 here ∙ ap d (omega arith)
piece_is d s (suc n) long (suc i) less =
    let here : length (d s) ≡ 512 = subst (λ m. length (d m) ≡ 512) (omega arith) (long 0 (omega arith)) in
    let moved : (k : ℕ) → s + suc k ≡ s + 1 + k = λ k. omega arith in
    ap (take 512) (drop_front (d s) (bytes_from d (s + 1) n) (512 * suc i) (512 * i) (omega (arith, here)))
    ∙ piece_is d (s + 1) n (λ k lt. subst (λ m. length (d m) ≡ 512) (moved k) (long (suc k) (omega (arith, lt)))) i (omega (arith, less))
    ∙ ap d (sym (moved i))

-- each sector of a disk is 512 bytes
pub long_within : (size : ℕ) (state : State) → IsWhole size state → (k : ℕ) → k < size → length (seen state k) ≡ 512
long_within size state whole k lt = (whole.within k lt (seen state k) (seen_is_image state k)).sized

-- what was read there is what stands there
pub copied_within : (d e : Image) (s n : ℕ) (bytes : List ℕ) → bytes ≡ bytes_from d s n → length bytes / 512 ≡ n → ((i : ℕ) → i < n → length (d (s + i)) ≡ 512)
    → (k : ℕ) → s ≤ k → k < s + n → overwritten s bytes e k ≡ d k
copied_within d e s n bytes is sized long k from_ to =
    let i : ℕ = k - s in
    let at : k ≡ s + i = omega (arith, from_) in
    let less : i < n = omega (arith, from_, to) in
    let lessb : i < length bytes / 512 = omega (arith, less, sized) in
    ap (put_all s (sectors_of bytes) e) at
    ∙ put_all_within (sectors_of bytes) s i e (subst (λ m. i < m) (sym (length-pieces (length bytes / 512) bytes)) lessb)
    ∙ pieces_at (length bytes / 512) i bytes lessb
    ∙ ap (λ bs. take 512 (drop (512 * i) bs)) is
    ∙ piece_is d s n long i less
    ∙ ap d (sym at)

pub before_within : (e : Image) (s : ℕ) (bytes : List ℕ) (k : ℕ) → k < s → overwritten s bytes e k ≡ e k
before_within e s bytes k lt = put_all_below (sectors_of bytes) s k e lt

-- a settled disk that rests stays so
pub settled_rests : (old new : Moments) → reads new ≡ reads old → Leaves (IsImage old.state) new.state → IsSettled old.state → IsSettled new.state
settled_rests old new same leaves settled image left = settled image (leaves image left) ∙ sym same

pub on_ok : {T E : Type 0} (result : Result T E) (P : Type 0) → P → OnOk result P
on_ok (Ok value) P is = is
on_ok (Err fault) P is = tt

pub ok_both : {T E : Type 0} (result : Result T E) (P Q R : Type 0) → (P → Q → R) → OnOk result P → OnOk result Q → OnOk result R
ok_both (Ok value) P Q R f p q = f p q
ok_both (Err fault) P Q R f p q = tt

pub ok_map : {T E : Type 0} (result : Result T E) (P Q : Type 0) → (P → Q) → OnOk result P → OnOk result Q
ok_map (Ok value) P Q f p = f p
ok_map (Err fault) P Q f p = tt

pub if_ok : {T E : Type 0} (result : Result T E) (P : T → Type 0) → ((value : T) → P value) → IfOk result P
if_ok (Ok value) P f = f value
if_ok (Err fault) P f = tt

pub err_map : {T E : Type 0} (result : Result T E) (P Q : E → Type 0) → ((fault : E) → P fault → Q fault) → IfErr result P → IfErr result Q
err_map (Ok value) P Q f is = tt
err_map (Err fault) P Q f is = f fault is

pub ok_with : {T E : Type 0} (result : Result T E) (P Q : T → Type 0) → ((value : T) → P value → Q value) → IfOk result P → IfOk result Q
ok_with (Ok value) P Q f is = f value is
ok_with (Err fault) P Q f is = tt

-- the front of some bytes was written anew
pub same_length : (front bytes : List ℕ) (n size : ℕ) → length bytes ≡ size → length front ≡ length (take n bytes) → n ≤ size → length (front ++ drop n bytes) ≡ size
same_length front bytes n size sized is le =
    let taken : length (take n bytes) ≡ n = length-take-le n bytes (omega (arith, sized, le)) in
    length-append front (drop n bytes) ∙ omega (arith, sized, is, taken, le, length-drop n bytes)
