-- Parts of bytes with zeros behind them.
use Rattle.std.proofs.Common.{◌≡◌, ℕ, ◌+◌, ◌-◌, ◌*◌, ◌/◌, ◌%◌, ◌<◌, ◌≤◌, inl, inr, min, Bool, cond, Result, Ok, is_ok, List, [], ◌++◌, length, take, drop, replicate, ap, sym, refl, ◌∙◌, subst, arith, append_assoc, length-append, length-drop}
use Rattle.std.proofs.lemmas.Bool.{cases_lt}
use Rattle.std.proofs.lemmas.List.{append-nil, drop-append-le, drop-replicate, drop_all, length-replicate, length-take-le, replicate-append-replicate, take-append-le, take-replicate, take_all, take_at}
use Rattle.std.proofs.Math.Seq.{drop-append-add, take-append-add}
use Rattle.ufs_disk.specs.Bytes.{image_of}
use Rattle.ufs_disk.specs.Disk.{bytes_from, overwritten}
use Rattle.ufs_disk.proofs.Flat.{image_overwritten, read_flat}
use Rattle.ufs_base.specs.Images.{IsBytes}
use Rattle.ufs_disk.specs.Whole.{drop_small, take_small}
use Rattle.ufs_front.specs.Padded.{padded, padded_length, padded_sized, padded_small, small_before}

padded_is : (count : ℕ) (bytes : List ℕ) → padded count bytes ≡ bytes ++ replicate (count - length bytes) 0
unfolding padded
padded_is count bytes = refl

-- ---- more zeros

more : (bytes : List ℕ) (a b all : ℕ) → a + b ≡ all → (bytes ++ replicate a 0) ++ replicate b 0 ≡ bytes ++ replicate all 0
more bytes a b all is =
    append_assoc bytes (replicate a 0) (replicate b 0)
    ∙ ap (λ (z : List ℕ). bytes ++ z) (replicate-append-replicate a b 0 ∙ ap (λ (k : ℕ). replicate k 0) is)

pub padded_more : (m n : ℕ) (bytes : List ℕ) → m ≤ n → padded n (padded m bytes) ≡ padded n bytes
unfolding padded
padded_more m n bytes fits =
    let long = length-append bytes (replicate (m - length bytes) 0) in
    let own = length-replicate {A = ℕ} (m - length bytes) 0 in
    more bytes (m - length bytes) (n - length {A = ℕ} (bytes ++ replicate (m - length bytes) 0)) (n - length bytes) (omega (arith, long, own, fits))

pub padded_enough : (count : ℕ) (bytes : List ℕ) → count ≤ length bytes → padded count bytes ≡ bytes
unfolding padded
padded_enough count bytes enough =
    let none : count - length bytes ≡ 0 = omega (arith, enough) in
    ap (λ (k : ℕ). bytes ++ replicate k 0) none ∙ append-nil bytes

-- ---- a part that is written

written_before : (at e : ℕ) (p bytes z : List ℕ) → at ≤ length p → e ≤ length p → (take at p ++ (bytes ++ drop e p)) ++ z ≡ take at (p ++ z) ++ (bytes ++ drop e (p ++ z))
written_before at e p bytes z first last =
    append_assoc (take at p) (bytes ++ drop e p) z
    ∙ ap (λ (l : List ℕ). take at p ++ l) (append_assoc bytes (drop e p) z)
    ∙ (λ i. sym (take-append-le at p z first) i ++ (bytes ++ sym (drop-append-le e p z last) i))

written_length : (at : ℕ) (p bytes : List ℕ) → at + length bytes ≤ length p → length (take at p ++ (bytes ++ drop (at + length bytes) p)) ≡ length p
written_length at p bytes fits =
    let one = length-append (take at p) (bytes ++ drop (at + length bytes) p) in
    let two = length-append bytes (drop (at + length bytes) p) in
    let three = length-take-le at p (omega (arith, fits)) in
    let four = length-drop (at + length bytes) p in
    omega (arith, one, two, three, four, fits)

pub put_length : (at : ℕ) (held bytes new : List ℕ) → new ≡ take at (padded (at + length bytes) held) ++ (bytes ++ drop (at + length bytes) (padded (at + length bytes) held))
    → length new ≡ length held + (at + length bytes - length held)
put_length at held bytes new is =
    let long = padded_length (at + length bytes) held in
    ap (λ (l : List ℕ). length l) is ∙ written_length at (padded (at + length bytes) held) bytes (omega (arith, long)) ∙ long

pub put_small : (at : ℕ) (held bytes new : List ℕ) → IsBytes held → IsBytes bytes → new ≡ take at (padded (at + length bytes) held) ++ (bytes ++ drop (at + length bytes) (padded (at + length bytes) held)) → IsBytes new
put_small at held bytes new old small is =
    let e : ℕ = at + length bytes in
    let before : List ℕ = padded e held in
    let all : IsBytes before = padded_small e held old in
    subst IsBytes (sym is) (small_before (take at before) (bytes ++ drop e before) (take_small at before all) (small_before bytes (drop e before) small (drop_small e before all)))

-- the same among all of them
pub put_padded : (n at : ℕ) (held bytes new : List ℕ) → at + length bytes ≤ n → new ≡ take at (padded (at + length bytes) held) ++ (bytes ++ drop (at + length bytes) (padded (at + length bytes) held))
    → padded n new ≡ take at (padded n held) ++ (bytes ++ drop (at + length bytes) (padded n held))
put_padded n at held bytes new fits is =
    let e : ℕ = at + length bytes in
    let before : List ℕ = padded e held in
    let long : length before ≡ length held + (e - length held) = padded_length e held in
    let z : List ℕ = replicate (n - length before) 0 in
    let sized : length new ≡ length before = ap (λ (l : List ℕ). length l) is ∙ written_length at before bytes (omega (arith, long)) in
    let whole : before ++ z ≡ padded n held = sym (padded_is n before) ∙ padded_more e n held fits in
    let same : padded n new ≡ (take at before ++ (bytes ++ drop e before)) ++ z = padded_is n new ∙ (λ i. is i ++ replicate (n - sized i) 0) in
    same ∙ written_before at e before bytes z (omega (arith, long)) (omega (arith, long)) ∙ ap (λ (w : List ℕ). take at w ++ (bytes ++ drop e w)) whole

-- ---- a part that is read

-- so many of them are left
read_front : (m : ℕ) (rest : List ℕ) (k : ℕ) → m ≤ length rest + k → take m (rest ++ replicate k 0) ≡ padded m (take m rest)
read_front m rest k fits = elim (cases_lt (length rest) m) [
  | inl few ↦ (let j : ℕ = m - length rest in
      let all : take m rest ≡ rest = take_all m rest (omega (arith, few)) in
      ap (λ (i : ℕ). take i (rest ++ replicate k 0)) (omega (arith, few)) ∙ take-append-add rest (replicate k 0) j
      ∙ ap (λ (l : List ℕ). rest ++ l) (take-replicate j k 0 (omega (arith, few, fits)))
      ∙ sym (padded_is m rest) ∙ ap (padded m) (sym all))
  | inr many ↦ take-append-le m rest (replicate k 0) many ∙ sym (padded_enough m (take m rest) (let long = length-take-le m rest many in omega (arith, long)))
]

pub read_padded : (m at n : ℕ) (bytes : List ℕ) → at + m ≤ n → take m (drop at (padded n bytes)) ≡ padded m (take m (drop at bytes))
read_padded m at n bytes fits = elim (cases_lt (length bytes) at) [
  | inl behind ↦ (let j : ℕ = at - length bytes in
      let k : ℕ = n - length bytes in
      let none : drop at bytes ≡ [] = drop_all at bytes (omega (arith, behind)) in
      ap (λ (l : List ℕ). take m (drop at l)) (padded_is n bytes)
      ∙ ap (λ (i : ℕ). take m (drop i (bytes ++ replicate k 0))) (omega (arith, behind))
      ∙ ap (take m) (drop-append-add bytes (replicate k 0) j ∙ drop-replicate j k 0)
      ∙ read_front m [] (k - j) (omega (arith, behind, fits))
      ∙ ap (λ (l : List ℕ). padded m (take m l)) (sym none))
  | inr before ↦ (let left = length-drop at bytes in
      ap (λ (l : List ℕ). take m (drop at l)) (padded_is n bytes)
      ∙ ap (take m) (drop-append-le at bytes (replicate (n - length bytes) 0) before)
      ∙ read_front m (drop at bytes) (n - length bytes) (omega (arith, left, before, fits)))
]

-- what is left of them
pub left_is : (at start : ℕ) (bytes : List ℕ) → start ≡ min at (length bytes) → take (length bytes - start) (drop start bytes) ≡ drop at bytes
left_is at start bytes begins = take_all (length bytes - start) (drop start bytes) (omega (arith, length-drop start bytes)) ∙ same
  where
    same : drop start bytes ≡ drop at bytes
    same = elim (cases_lt (length bytes) at) [
      | inl behind ↦ drop_all start bytes (omega (arith, begins, behind)) ∙ sym (drop_all at bytes (omega (arith, behind)))
      | inr before ↦ ap (λ (n : ℕ). drop n bytes) (omega (arith, begins, before))
    ]

-- with zeros behind it
pub copied_out : (m k : ℕ) (there left old : List ℕ) → there ≡ left → k ≡ min (length there) m → take k (take k there ++ old) ++ replicate (m - k) 0 ≡ padded m (take m left)
copied_out m k there left old same ends =
    (λ i. (front ∙ part) i ++ replicate (m - counted i) 0) ∙ sym (padded_is m (take m left))
  where
    sized : length (take k there) ≡ k
    sized = length-take-le k there (omega (arith, ends))

    front : take k (take k there ++ old) ≡ take k there
    front = take_at (take k there) old k sized

    part : take k there ≡ take m left
    part = elim (cases_lt (length there) m) [
      | inl few ↦ take_all k there (omega (arith, ends, few)) ∙ sym (take_all m there (omega (arith, few))) ∙ ap (take m) same
      | inr many ↦ ap (λ (n : ℕ). take n there) (omega (arith, ends, many)) ∙ ap (take m) same
    ]

    counted : k ≡ length (take m left)
    counted = sym sized ∙ ap (λ (l : List ℕ). length l) part

-- ---- sectors

pub put_sectors : (sectors sector : ℕ) (held bytes new : List ℕ) → length held ≤ 512 * sectors → length bytes % 512 ≡ 0 → sector + length bytes / 512 ≤ sectors
    → new ≡ take (512 * sector) (padded (512 * sector + length bytes) held) ++ (bytes ++ drop (512 * sector + length bytes) (padded (512 * sector + length bytes) held))
    → image_of (padded (512 * sectors) new) ≡ overwritten sector bytes (image_of (padded (512 * sectors) held))
put_sectors sectors sector held bytes new within whole inside is =
    let n : ℕ = length bytes / 512 in
    let size : length bytes ≡ 512 * n = omega (arith, whole) in
    let sized = padded_sized (512 * sectors) held within in
    ap image_of (put_padded (512 * sectors) (512 * sector) held bytes new (omega (arith, size, inside)) is)
    ∙ image_overwritten (padded (512 * sectors) held) bytes sector n size (omega (arith, size, inside, sized))

pub read_sectors : (sectors sector m : ℕ) (held : List ℕ) → m % 512 ≡ 0 → sector + m / 512 ≤ sectors
    → padded m (take m (drop (512 * sector) held)) ≡ bytes_from (image_of (padded (512 * sectors) held)) sector (m / 512)
read_sectors sectors sector m held whole inside =
    let n : ℕ = m / 512 in
    let size : m ≡ 512 * n = omega (arith, whole) in
    sym (read_padded m (512 * sector) (512 * sectors) held (omega (arith, size, inside)))
    ∙ ap (λ (k : ℕ). take k (drop (512 * sector) (padded (512 * sectors) held))) size
    ∙ sym (read_flat (padded (512 * sectors) held) n sector)

-- ---- zeros that come in

-- what a call left that succeeded
pub left_by_ok : {A E : Type 0} (r : Result A E) (a : A) (now ok err : List ℕ) → now ≡ cond (is_ok r) ok err → r ≡ Ok a → now ≡ ok
left_by_ok r a now ok err is was = is ∙ ap (λ (b : Bool). cond b ok err) (ap is_ok was)

pub resized : (count len : ℕ) (bytes : List ℕ) → len ≡ length bytes → len < count → take count bytes ++ replicate (count - len) 0 ≡ padded count bytes
resized count len bytes long less = (λ i. take_all count bytes (omega (arith, long, less)) i ++ replicate (count - long i) 0) ∙ sym (padded_is count bytes)
