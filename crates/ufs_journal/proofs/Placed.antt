-- The sectors of an epoch, where one sector of the journal gets another content.
use Rattle.std.proofs.Common.{◌≡◌, ℕ, zero, suc, ◌+◌, ◌-◌, ◌*◌, ◌<◌, ◌≤◌, List, [], ◌∷◌, ◌++◌, Bool, true, false, refl, ap, ◌∙◌, arith}
use Rattle.std.specs.Prelude.{if◌then◌else◌, map, ◌==◌}
use Rattle.std.specs.List.{filter, range_with_len}
use Rattle.std.proofs.lemmas.List.{map-append}
use Rattle.std.proofs.lemmas.List.Elements.{filter-append}
use Rattle.ufs_disk.specs.Disk.{put}
use Rattle.ufs_disk.proofs.Images.{put_same, put_other}
use Rattle.ufs_layout.specs.Areas.{journal_sectors, first_of_journal}
use Rattle.ufs_base.specs.Images.{Image}
use Rattle.ufs_image.specs.Journal.{epoch_in, ReadSector, sectors_of_epoch}
use Rattle.ufs_layout.specs.JournalSector.{journal_of}
use Rattle.ufs_layout.specs.declared.geometry.Geometry.{Geometry}

pub split_range : (a k n : ℕ) → range_with_len a (k + suc n) ≡ range_with_len a k ++ (a + k) ∷ range_with_len (a + k + 1) n
split_range a zero n = let first : a ≡ a + 0 = omega arith in let length_ : 0 + suc n ≡ suc n = omega arith in ap (range_with_len a) length_ ∙ (λ i. first i ∷ range_with_len (first i + 1) n)
split_range a (suc k) n =
    let length_ : suc k + suc n ≡ suc (k + suc n) = omega arith in
    let first : a + 1 + k ≡ a + suc k = omega arith in
    ap (range_with_len a) length_ ∙ ap (λ (l : List ℕ). a ∷ l) (split_range (a + 1) k n) ∙ (λ i. a ∷ (range_with_len (a + 1) k ++ (first i) ∷ range_with_len (first i + 1) n))

abbrev pub read_at : Image → ℕ → ReadSector
read_at image s = (s, journal_of (image s))

-- what is read of some sectors
abbrev pub read_of : ℕ → Image → List ℕ → List ReadSector
read_of epoch image sectors = map (read_at image) (filter (λ s. epoch_in (image s) == epoch) sectors)

pub read_append : (epoch : ℕ) (image : Image) (ss ts : List ℕ) → read_of epoch image (ss ++ ts) ≡ read_of epoch image ss ++ read_of epoch image ts
read_append epoch image ss ts =
    ap (map (read_at image)) (filter-append (λ s. epoch_in (image s) == epoch) ss ts)
    ∙ map-append (read_at image) (filter (λ s. epoch_in (image s) == epoch) ss) (filter (λ s. epoch_in (image s) == epoch) ts)

-- of images that agree there
pub read_agree : (epoch : ℕ) (d e : Image) (a n : ℕ) → ((s : ℕ) → a ≤ s → s < a + n → d s ≡ e s) → read_of epoch d (range_with_len a n) ≡ read_of epoch e (range_with_len a n)
read_agree epoch d e a zero same = refl
read_agree epoch d e a (suc n) same =
    let here : d a ≡ e a = same a (omega arith) (omega arith) in
    let rest : read_of epoch d (range_with_len (a + 1) n) ≡ read_of epoch e (range_with_len (a + 1) n) = read_agree epoch d e (a + 1) n (λ s from under. same s (omega arith) (omega arith)) in
    by (epoch_in (d a) == epoch) (epoch_in (e a) == epoch) (ap (λ bytes. epoch_in bytes == epoch) here) (d a) (e a) here _ _ rest
  where
    by : (b c : Bool) → b ≡ c → (x y : List ℕ) → x ≡ y → (us vs : List ℕ) → map (read_at d) us ≡ map (read_at e) vs
        → map (read_at d) (if b then a ∷ us else us) ≡ map (read_at e) (if c then a ∷ vs else vs)
    by true true bc x y xy us vs rest = λ i. (a, journal_of (same a (omega arith) (omega arith) i)) ∷ rest i
    by false false bc x y xy us vs rest = rest
    by true false bc x y xy us vs rest = absurd (Rattle.std.proofs.lemmas.Bool.true≢false bc)
    by false true bc x y xy us vs rest = absurd (Rattle.std.proofs.lemmas.Bool.false≢true bc)

pub read_one : (epoch s : ℕ) (d : Image) → (epoch_in (d s) == epoch) ≡ true → read_of epoch d (s ∷ []) ≡ (s, journal_of (d s)) ∷ []
read_one epoch s d is = ap (λ b. map (read_at d) (if b then s ∷ [] else [])) is

pub read_none : (epoch s : ℕ) (d : Image) → (epoch_in (d s) == epoch) ≡ false → read_of epoch d (s ∷ []) ≡ []
read_none epoch s d is = ap (λ b. map (read_at d) (if b then s ∷ [] else [])) is

module _ (g : Geometry) (epoch place : ℕ) (within : place < g.journal) (d : Image) where
  abbrev start : ℕ
  start = 8 * first_of_journal g

  -- the sectors of the epoch in front of a place, and behind it
  abbrev pub read_front : List ReadSector
  read_front = read_of epoch d (range_with_len start place)

  abbrev pub read_behind : List ReadSector
  read_behind = read_of epoch d (range_with_len (start + place + 1) (g.journal - place - 1))

  whole : journal_sectors g ≡ range_with_len start place ++ (start + place) ∷ range_with_len (start + place + 1) (g.journal - place - 1)
  whole = let long : g.journal ≡ place + suc (g.journal - place - 1) = omega arith in ap (range_with_len start) long ∙ split_range start place (g.journal - place - 1)

  cut : (image : Image) → sectors_of_epoch g epoch image ≡ read_of epoch image (range_with_len start place)
      ++ (read_of epoch image ((start + place) ∷ []) ++ read_of epoch image (range_with_len (start + place + 1) (g.journal - place - 1)))
  cut image = ap (read_of epoch image) whole ∙ read_append epoch image (range_with_len start place) ((start + place) ∷ range_with_len (start + place + 1) (g.journal - place - 1))
      ∙ ap (λ (l : List ReadSector). read_of epoch image (range_with_len start place) ++ l) (read_append epoch image ((start + place) ∷ []) (range_with_len (start + place + 1) (g.journal - place - 1)))

  -- where the place has no sector of the epoch
  pub read_without : (epoch_in (d (start + place)) == epoch) ≡ false → sectors_of_epoch g epoch d ≡ read_front ++ read_behind
  read_without blank = cut d ∙ ap (λ (l : List ReadSector). read_front ++ (l ++ read_behind)) (read_none epoch (start + place) d blank)

  -- where it gets one
  pub read_with : (bytes : List ℕ) → (epoch_in bytes == epoch) ≡ true → sectors_of_epoch g epoch (put (start + place) bytes d) ≡ read_front ++ (start + place, journal_of bytes) ∷ read_behind
  read_with bytes is =
      let here : put (start + place) bytes d (start + place) ≡ bytes = put_same (start + place) bytes d in
      cut (put (start + place) bytes d) ∙ (λ i. read_agree epoch (put (start + place) bytes d) d start place (λ s from under. put_other (start + place) s bytes d (λ same. absurd (omega arith))) i
      ++ ((read_one epoch (start + place) (put (start + place) bytes d) (ap (λ b. epoch_in b == epoch) here ∙ is) ∙ ap (λ b. (start + place, journal_of b) ∷ []) here) i
      ++ read_agree epoch (put (start + place) bytes d) d (start + place + 1) (g.journal - place - 1) (λ s from under. put_other (start + place) s bytes d (λ same. absurd (omega arith))) i))
