-- After a mark a block of a file that isn't in memory has its bytes on the disk.
use Rattle.std.proofs.Common.{◌≡◌, ℕ, zero, suc, ◌≤◌, ◌≢◌, false, eqb, eq-eqb, List, [], ◌∷◌, Some, sym, ap, ◌∙◌, subst, inl, inr, ⊎_elim, arith}
use Rattle.std.specs.Prelude.{slice_get}
use mathlib.Core.Option.{some}
use lib.ListN.{get_elem?}
use Rattle.ufs_hand_laws.specs.Owned.{one, weigh, Has, count, times}
use Rattle.ufs_hand_laws.specs.Parts.{FilePart, View, uses, file_uses}
use Rattle.ufs_hand_laws.specs.DiskBytes.{HasDiskBytes, is_loaded, block_in, block_on}
use Rattle.ufs_hand_laws.proofs.Owning.{total_two, count_has, some_view}
use Rattle.ufs_hand_laws.proofs.Keys.{itself, alike}
use Rattle.ufs_hand_laws.specs.Visible.{IsDiskVisible}
use Rattle.ufs_hand_laws.proofs.Mark.Setting.{Mark, Remade, remaking}

has_weighs : {A : Type 0} (m : A → ℕ) (x : A) (xs : List A) → Has x xs → m x ≤ weigh m xs
has_weighs m x [] h = absurd h
has_weighs m x (y ∷ xs) (inl s) = let e : m x ≡ m y = ap m s in omega arith
has_weighs m x (y ∷ xs) (inr h) = let i = has_weighs m x xs h in omega arith

got_times : (bs : List ℕ) (place b : ℕ) → slice_get bs place ≡ Some b → 1 ≤ times b bs
got_times [] place b e = cc
got_times (x ∷ bs) zero b e = let s : x ≡ b = cc in let t : one (eqb b x) ≡ 1 = ap one (eq-eqb b x (sym s)) in omega arith
got_times (x ∷ bs) (suc place) b e = let i = got_times bs place b e in omega arith

-- a file of a block
-- a file of a block
used_by : (b : ℕ) (v : View) (g : ℕ) (x : FilePart) (place : ℕ) → Has (g, x) v.files → slice_get x.blocks place ≡ Some b → 1 ≤ uses b v
used_by b v g x place h e = let a = has_weighs (file_uses b) (g, x) v.files h in let t = got_times x.blocks place b e in omega arith

module _ (mark : Mark) where
  open mark use {keeps, S, k, word, views, i, v, w, o, at, m}
  open remaking mark use {remade, single_files, r, names_are_kept, file_case, file_present}

  pub disk_remade : IsDiskVisible k → HasDiskBytes remade
  disk_remade visible g y is place b there out = ⊎_elim
      (λ (c : (x : FilePart) × Has (g, x) v.files × (o.world.file g ≡ Some x) × Has (g, y) w.files × Remade x y).
      let bytes : y.bytes ≡ c.0.bytes = ap (λ (z : FilePart). z.bytes) c.4 in
      let goal : block_on remade.store.state b ≡ block_in c.0.bytes place = ⊎_elim (λ e. e)
      (λ (z : (slice_get c.0.blocks place ≡ Some b) × (is_loaded c.0 place ≡ false) × (block_on remade.store.state b ≡ block_on o.world.store.state b)). z.2 ∙ o.disk_bytes visible g c.0 c.2 place b z.0 z.1)
      ((r.disk visible).loaded g c.0 y c.1 c.3 place b there out) in
      goal ∙ ap (λ z. block_in z place) (sym bytes))
      (λ (c : (count eqb g v.files ≡ 0) × (o.world.file g ≡ Some y)).
      let s = some_view eqb itself alike (λ (u : View). u.files) o.world.file views o.one_hand.files g y c.1 in
      let ne : s.0 ≢ i = λ e. apart s.0 s.1 s.2 s.3 c.0 e in
      let two = total_two (uses b) views i s.0 v s.1 at s.2 ne in
      let one_use = used_by b s.1 g y place s.3 there in
      let sum = o.blocks_apart.same b in let most = o.blocks_apart.once b in
      (r.disk visible).disk b (omega arith) (omega arith) ∙ o.disk_bytes visible g y c.1 place b there out)
      (file_case g y is)
    where
      apart : (j : ℕ) (u : View) → get_elem? views j ≡ some u → Has (g, y) u.files → count eqb g v.files ≡ 0 → j ≡ i → ⊥
      apart j u a h z e =
          let same : u ≡ v = mathlib.Core.Option.some-injective u v (sym a ∙ ap (get_elem? views) e ∙ at) in
          let c = count_has eqb itself alike g y v.files (subst (λ (q : View). Has (g, y) q.files) same h) in absurd (omega arith)
