-- Trees that have what was read.
use Rattle.std.proofs.Common.{◌≡◌, ◌⊎◌, inl, inr, ℕ, zero, suc, ◌*◌, ◌-◌, ◌≤◌, ◌<◌, Bool, true, false, Some, None, List, [], ◌∷◌, ◌++◌, drop, length, min, replicate, take, ap, sym, refl, ◌∙◌, subst, arith}
use Rattle.std.specs.Prelude.{slice_get}
use Rattle.std.proofs.lemmas.List.{drop_at, length-replicate, take_all}
use Rattle.ufs_bytes_laws.specs.Alike.{AreAlike}
use Rattle.ufs_bytes_laws.proofs.BlockLemmas.{length-own, own_next}
use Rattle.ufs_bytes_laws.proofs.BlockTreeLemmas.{blocks_alike, blocks_else, blocks_marked, blocks_same, with_blocks}
use Rattle.ufs_bytes_laws.proofs.MergedLemmas.{AreAsMany}
use Rattle.ufs_bytes_laws.proofs.TreeLemmas.{itself, through}
use Rattle.ufs_file.specs.Content.{own_bytes}
use Rattle.ufs_model.specs.FileBytes.{bytes_of}
use Rattle.ufs_model.specs.PosixTree.{PosixTree}
use Rattle.ufs_hand_laws.specs.Owned.{Has}
use Rattle.ufs_joint.specs.Picks.{ArePicksOnce, HasPicked, IsUnpicked, Pick, bytes_at}

-- ---- one block

-- a mark at this place alone
abbrev mark_at : ℕ → List Bool
mark_at zero = true ∷ []
mark_at (suc n) = false ∷ mark_at n

mark_here : (n : ℕ) → slice_get (mark_at n) n ≡ Some true
mark_here zero = refl
mark_here (suc n) = mark_here n

marked_here : (n place : ℕ) → slice_get (mark_at n) place ≡ Some true → n ≡ place
marked_here zero zero is = refl
marked_here zero (suc place) is = absurd cc
marked_here (suc n) zero is = absurd cc
marked_here (suc n) (suc place) is = ap suc (marked_here n place is)

-- bytes with this block
abbrev placed : ℕ → List ℕ → List ℕ
placed zero bytes = bytes
placed (suc n) bytes = replicate 4096 0 ++ placed n bytes

placed_own : (n : ℕ) (bytes : List ℕ) → length bytes ≤ 4096 → own_bytes (placed n bytes) n ≡ bytes
placed_own zero bytes few = take_all 4096 bytes few
placed_own (suc n) bytes few =
    sym (own_next (replicate 4096 0 ++ placed n bytes) n)
    ∙ ap (λ (l : List ℕ). own_bytes l n) (drop_at (replicate 4096 0) (placed n bytes) 4096 (length-replicate {A = ℕ} 4096 0))
    ∙ placed_own n bytes few

-- As many bytes were read as the tree has there.
abbrev pub FitsIn : PosixTree → Pick → Type 0
FitsIn t pick = length pick.bytes ≡ length (bytes_at t pick.file pick.place)

few : (t : PosixTree) (pick : Pick) → FitsIn t pick → length pick.bytes ≤ 4096
few t pick fits = let long = length-own (bytes_of t.bytes pick.file) pick.place in omega (arith, fits, long)

abbrev with_pick : PosixTree → Pick → PosixTree
with_pick t pick = with_blocks t pick.file (mark_at pick.place) (placed pick.place pick.bytes)

module _ (t : PosixTree) (pick : Pick) (fits : FitsIn t pick) where
  own : own_bytes (placed pick.place pick.bytes) pick.place ≡ pick.bytes
  own = placed_own pick.place pick.bytes (few t pick fits)

  many : AreAsMany (mark_at pick.place) (placed pick.place pick.bytes) (bytes_of t.bytes pick.file)
  many place is = subst (λ (n : ℕ). length (own_bytes (placed pick.place pick.bytes) n) ≡ length (own_bytes (bytes_of t.bytes pick.file) n)) (marked_here pick.place place is) (ap (λ (l : List ℕ). length l) own ∙ fits)

  pick_alike : AreAlike t (with_pick t pick)
  pick_alike = blocks_alike t pick.file (mark_at pick.place) (placed pick.place pick.bytes) many

  pick_has : bytes_at (with_pick t pick) pick.file pick.place ≡ pick.bytes
  pick_has = blocks_marked t pick.file (mark_at pick.place) (placed pick.place pick.bytes) many pick.place (mark_here pick.place) ∙ own

  pick_else : (file place : ℕ) → (pick.file ≡ file → pick.place ≡ place → ⊥) → bytes_at (with_pick t pick) file place ≡ bytes_at t file place
  pick_else file place not = blocks_else t pick.file (mark_at pick.place) (placed pick.place pick.bytes) many file place (λ e is. not (sym e) (marked_here pick.place place is))

  -- a tree that has it already
  pick_same : bytes_at t pick.file pick.place ≡ pick.bytes → with_pick t pick ≡ t
  pick_same has = blocks_same t pick.file (mark_at pick.place) (placed pick.place pick.bytes) (λ place is.
      subst (λ (n : ℕ). own_bytes (placed pick.place pick.bytes) n ≡ own_bytes (bytes_of t.bytes pick.file) n) (marked_here pick.place place is) (own ∙ sym has))

-- ---- all of them

abbrev pub with_picks : PosixTree → List Pick → PosixTree
with_picks t [] = t
with_picks t (pick ∷ picks) = with_pick (with_picks t picks) pick

-- A tree like that one has what was read, and all else as that one has it.
pub record IsPicked (t : PosixTree) (picks : List Pick) (u : PosixTree) : Type 0 where
  pub alike : AreAlike t u
  pub has : HasPicked picks u
  pub others : (file place : ℕ) → IsUnpicked picks file place → bytes_at u file place ≡ bytes_at t file place

fits_on : (t : PosixTree) (pick : Pick) (picks : List Pick) (u : PosixTree) → IsPicked t picks u → IsUnpicked picks pick.file pick.place → FitsIn t pick → FitsIn u pick
fits_on t pick picks u is none fits = fits ∙ ap (λ (l : List ℕ). length l) (sym (is.others pick.file pick.place none))

pub picked_tree : (t : PosixTree) (picks : List Pick) → ArePicksOnce picks → ((pick : Pick) → Has pick picks → FitsIn t pick) → IsPicked t picks (with_picks t picks)
picked_tree t [] once fits = record { alike = itself t; has = λ pick none. absurd none; others = λ file place none. refl }
picked_tree t (pick ∷ picks) once fits =
    let is = picked_tree t picks once.1 (λ q h. fits q (inr h)) in
    let u = with_picks t picks in
    let fit = fits_on t pick picks u is once.0 (fits pick (inl refl)) in
    record {
      alike = through t u (with_pick u pick) is.alike (pick_alike u pick fit);
      has = λ q h. has_of is fit q h;
      others = λ file place none. pick_else u pick fit file place (λ e at. none pick (inl refl) e at) ∙ is.others file place (λ q h e at. none q (inr h) e at);
    }
  where
    has_of : IsPicked t picks (with_picks t picks) → FitsIn (with_picks t picks) pick → (q : Pick) → (q ≡ pick) ⊎ Has q picks → bytes_at (with_picks t (pick ∷ picks)) q.file q.place ≡ q.bytes
    has_of is fit q (inl e) = subst (λ (r : Pick). bytes_at (with_picks t (pick ∷ picks)) r.file r.place ≡ r.bytes) (sym e) (pick_has (with_picks t picks) pick fit)
    has_of is fit q (inr h) = pick_else (with_picks t picks) pick fit q.file q.place (λ e at. once.0 q h (sym e) (sym at)) ∙ is.has q h

-- A tree that has it all already is that tree.
pub picked_same : (t : PosixTree) (picks : List Pick) → ((pick : Pick) → Has pick picks → FitsIn t pick) → HasPicked picks t → with_picks t picks ≡ t
picked_same t [] fits has = refl
picked_same t (pick ∷ picks) fits has =
    ap (λ (u : PosixTree). with_pick u pick) (picked_same t picks (λ q h. fits q (inr h)) (λ q h. has q (inr h)))
    ∙ pick_same t pick (fits pick (inl refl)) (has pick (inl refl))
