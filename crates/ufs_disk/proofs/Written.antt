-- What a write leaves, sector by sector and image by image.
use Rattle.std.proofs.Common.{◌≡◌, inl, inr, ⊎_elim, ℕ, zero, suc, ◌+◌, ◌≤◌, ◌<◌, true, List, [], ◌∷◌, length, get_or, refl, sym, ◌∙◌, ap, subst, arith}
use Rattle.std.proofs.lemmas.Bool.{cases_eq}
use Rattle.ufs_base.specs.Images.{Image}
use Rattle.ufs_disk.specs.Disk.{Cell, State, IsImage, Leaves, possible, seen, put, put_all, Mixes, IsMixedFrom}
use Rattle.ufs_disk.specs.Moments.{Moments, gone_to, reads, LeavesOnly}
use Rattle.ufs_disk.specs.Calls.{give, settled, written}
use Rattle.ufs_disk.proofs.Images.{if_eq, if_ne, image_of_give, mixes_with, mixes_without, unmixed, settled_leaves_no_more}
use Rattle.ufs_disk.proofs.Runs.{started, joined, weaker}

abbrev pub given : List ℕ → Cell → Cell
given bytes cell = record { older = possible cell; seen = bytes }

-- in front of the sectors that are written, behind them, and in them
pub written_below : (ps : List (List ℕ)) (s k : ℕ) (m : Moments) → k < s → (written s ps m).state k ≡ m.state k
written_below [] s k m lt = refl
written_below (p ∷ ps) s k m lt = written_below ps (s + 1) k (gone_to (give s p m.state) m) (omega arith) ∙ if_ne k s (given p (m.state k)) (m.state k) (omega arith)

pub written_above : (ps : List (List ℕ)) (s k : ℕ) (m : Moments) → s + length ps ≤ k → (written s ps m).state k ≡ m.state k
written_above [] s k m le = refl
written_above (p ∷ ps) s k m le = written_above ps (s + 1) k (gone_to (give s p m.state) m) (omega arith) ∙ if_ne k s (given p (m.state k)) (m.state k) (omega arith)

pub written_within : (ps : List (List ℕ)) (s i k : ℕ) (m : Moments) → k ≡ s + i → i < length ps → (written s ps m).state k ≡ given (get_or ps i []) (m.state k)
written_within [] s i k m is lt = absurd (omega arith)
written_within (p ∷ ps) s zero k m is lt = written_below ps (s + 1) k (gone_to (give s p m.state) m) (omega arith) ∙ if_eq k s (given p (m.state k)) (m.state k) (omega arith)
written_within (p ∷ ps) s (suc i) k m is lt =
    written_within ps (s + 1) i k (gone_to (give s p m.state) m) (omega arith) (omega arith) ∙ ap (given (get_or ps i [])) (if_ne k s (given p (m.state k)) (m.state k) (omega arith))

-- what a read gives after a write
seen_given : (s : ℕ) (piece : List ℕ) (state : State) → seen (give s piece state) ≡ put s piece (seen state)
seen_given s piece state = λ i k. at k i
  where
    at : (k : ℕ) → seen (give s piece state) k ≡ put s piece (seen state) k
    at k = elim (cases_eq k s) [
      | inl is ↦ ap (λ (c : Cell). c.seen) (if_eq k s (given piece (state k)) (state k) is) ∙ sym (if_eq k s _ _ is)
      | inr ne ↦ ap (λ (c : Cell). c.seen) (if_ne k s (given piece (state k)) (state k) ne) ∙ sym (if_ne k s _ _ ne)
    ]

pub reads_written : (ps : List (List ℕ)) (s : ℕ) (m : Moments) → reads (written s ps m) ≡ put_all s ps (reads m)
reads_written [] s m = refl
reads_written (p ∷ ps) s m =
    reads_written ps (s + 1) (gone_to (give s p m.state) m) ∙ ap (put_all (s + 1) ps) (seen_given s p m.state)

-- an image of a write's rest, after its first sector was given, is one of the whole write
mixed_more : (s : ℕ) (p : List ℕ) (ps : List (List ℕ)) (state : State) (image : Image) → IsMixedFrom (s + 1) ps (give s p state) image → IsMixedFrom s (p ∷ ps) state image
mixed_more s p ps state image from =
    let first = image_of_give s p state from.before from.left in
    record {
      before = first.0;
      left = first.1;
      mixed = ⊎_elim
          (λ is. mixes_without s p ps first.0 image (subst (λ (d : Image). Mixes d (put_all (s + 1) ps d) image) is from.mixed))
          (λ is. mixes_with s p ps first.0 image (subst (λ (d : Image). Mixes d (put_all (s + 1) ps d) image) is from.mixed)) first.2;
    }

-- at each moment of a write a crash leaves what it might have left before, with some of the sectors written
pub written_leaves : (ps : List (List ℕ)) (s : ℕ) (m : Moments) → LeavesOnly true (IsMixedFrom s ps m.state) m (written s ps m)
written_leaves [] s m = started true (IsMixedFrom s [] m.state) m (unmixed s [] m.state)
written_leaves (p ∷ ps) s m =
    let next : Moments = gone_to (give s p m.state) m in
    let here : Leaves (IsMixedFrom s (p ∷ ps) m.state) next.state = λ image left. mixed_more s p ps m.state image (unmixed (s + 1) ps next.state image left) in
    let rest : LeavesOnly true (IsMixedFrom (s + 1) ps next.state) next (written (s + 1) ps next) = written_leaves ps (s + 1) next in
    joined true (IsMixedFrom s (p ∷ ps) m.state) m next (written (s + 1) ps next)
    (record { before = unmixed s (p ∷ ps) m.state; after = here; between = λ kept. record { inside = next.state ∷ []; whole = refl; each = (here, tt) } })
    (weaker true (IsMixedFrom (s + 1) ps next.state) (IsMixedFrom s (p ∷ ps) m.state) (mixed_more s p ps m.state) next (written (s + 1) ps next) rest)

-- at each moment of a barrier a crash leaves no more than before
pub settled_leaves_only : (m : Moments) → LeavesOnly true (IsImage m.state) m (gone_to (settled m.state) m)
settled_leaves_only m = record {
  before = λ image left. left;
  after = settled_leaves_no_more m.state;
  between = λ kept. record { inside = settled m.state ∷ []; whole = refl; each = (settled_leaves_no_more m.state, tt) };
}
