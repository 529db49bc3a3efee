-- The files that a hand has after an entry: those that it had and that are there still, and the one that is made.
use Rattle.std.proofs.Common.{◌≡◌, ℕ, ◌+◌, ◌⊎◌, Bool, true, false, cond, ◌&&◌, eqb, eqb-true, List, [], ◌∷◌, ◌++◌, Option, Some, is_some, unwrap_or, refl, ap, sym, ◌∙◌, inl, inr, ⊎_elim, arith}
use Rattle.std.specs.FinMap as fin
use Rattle.ufs_model.specs.FileBytes.{bytes_of}
use Rattle.ufs_model.specs.History.{IsReplyTo, goes_on}
use Rattle.ufs_model.specs.PosixTree.{PosixTree, IsTree}
use Rattle.ufs_model.specs.declared.data.Entry.{Entry}
use Rattle.ufs_model.proofs.Facts.Live.{HasBytes}
use Rattle.ufs_model.proofs.Facts.Lookups.{from_some}
use Rattle.ufs_crash_laws.specs.FileChanges.{all_changed}
use Rattle.ufs_crash_laws.proofs.Facts.Contents.{bytes_go_on, unborn_empty, unborn_still}
use Rattle.ufs_hand_laws.specs.Draws.{new_file}
use Rattle.ufs_hand_laws.specs.Owned.{one, Has, count, named}
use Rattle.ufs_hand_laws.specs.Parts.{FilePart}
use Rattle.ufs_hand_laws.proofs.Keys.{itself}
use Rattle.ufs_hand_laws.proofs.Owning.{weigh_append, has_append}
use Rattle.ufs_one_hand.specs.Drawn.{file_drawn, files_left, files_made, files_gone}

module _ (t : PosixTree) (e : Entry) where
  abbrev pub stays : ℕ → Bool
  stays f = is_some (fin.get (goes_on t e).bytes f)

  apart : (f g : ℕ) → (stays g ≡ stays f → ⊥) → eqb g f ≡ false
  apart f g ne = by (eqb g f) refl
    where
      by : (b : Bool) → eqb g f ≡ b → eqb g f ≡ false
      by true is = absurd (ne (ap stays (eqb-true g f is)))
      by false is = is

  -- ---- those that stay

  left_gone : (g : ℕ) → stays g ≡ false → (fs : List (ℕ × FilePart)) → count eqb g (files_left t e fs) ≡ 0
  left_gone g gone [] = refl
  left_gone g gone (f ∷ fs) = at (stays f.0) refl (left_gone g gone fs)
    where
      at : (b : Bool) → stays f.0 ≡ b → count eqb g (files_left t e fs) ≡ 0 → count eqb g (cond b ((f.0, file_drawn t e f.0 f.1) ∷ files_left t e fs) (files_left t e fs)) ≡ 0
      at true s i = let z : one (eqb g f.0) ≡ 0 = ap one (apart f.0 g (λ same. cc)) in omega arith
      at false s i = i

  left_here : (g : ℕ) → stays g ≡ true → (fs : List (ℕ × FilePart)) → count eqb g (files_left t e fs) ≡ count eqb g fs
  left_here g here [] = refl
  left_here g here (f ∷ fs) = at (stays f.0) refl (left_here g here fs)
    where
      at : (b : Bool) → stays f.0 ≡ b → count eqb g (files_left t e fs) ≡ count eqb g fs
          → count eqb g (cond b ((f.0, file_drawn t e f.0 f.1) ∷ files_left t e fs) (files_left t e fs)) ≡ one (eqb g f.0) + count eqb g fs
      at true s i = ap (λ n. one (eqb g f.0) + n) i
      at false s i = let z : one (eqb g f.0) ≡ 0 = ap one (apart f.0 g (λ same. cc)) in omega arith

  left_has : (g : ℕ) (q : FilePart) (fs : List (ℕ × FilePart)) → Has (g, q) (files_left t e fs) → (p : FilePart) × Has (g, p) fs × (q ≡ file_drawn t e g p) × (stays g ≡ true)
  left_has g q [] h = absurd h
  left_has g q (f ∷ fs) h = at (stays f.0) refl h (left_has g q fs)
    where
      at : (b : Bool) → stays f.0 ≡ b → Has (g, q) (cond b ((f.0, file_drawn t e f.0 f.1) ∷ files_left t e fs) (files_left t e fs))
          → (Has (g, q) (files_left t e fs) → (p : FilePart) × Has (g, p) fs × (q ≡ file_drawn t e g p) × (stays g ≡ true))
          → (p : FilePart) × Has (g, p) (f ∷ fs) × (q ≡ file_drawn t e g p) × (stays g ≡ true)
      at true s (inl is) r =
          let name : g ≡ f.0 = ap (λ (x : ℕ × FilePart). x.0) is in
          (f.1, inl (ap (λ (n : ℕ). (n, f.1)) name), ap (λ (x : ℕ × FilePart). x.1) is ∙ ap (λ (n : ℕ). file_drawn t e n f.1) (sym name), ap stays name ∙ s)
      at true s (inr x) r = let y = r x in (y.0, inr y.1, y.2, y.3)
      at false s x r = let y = r x in (y.0, inr y.1, y.2, y.3)

  -- ---- those that went

  pub gone_has : (g : ℕ) (p : FilePart) → stays g ≡ false → (fs : List (ℕ × FilePart)) → Has (g, p) fs → Has (g, []) (files_gone t e fs)
  gone_has g p gone [] h = absurd h
  gone_has g p gone (f ∷ fs) h = at (stays f.0) refl h (gone_has g p gone fs)
    where
      at : (b : Bool) → stays f.0 ≡ b → ((g, p) ≡ f) ⊎ Has (g, p) fs → (Has (g, p) fs → Has (g, []) (files_gone t e fs)) → Has (g, []) (cond b (files_gone t e fs) ((f.0, []) ∷ files_gone t e fs))
      at true s (inl is) r = let same : stays g ≡ stays f.0 = ap (λ (x : ℕ × FilePart). stays x.0) is in cc
      at true s (inr x) r = r x
      at false s (inl is) r = inl (ap (λ (x : ℕ × FilePart). (x.0, [])) is)
      at false s (inr x) r = inr (r x)

  pub gone_empty : (g : ℕ) (bs : List ℕ) (fs : List (ℕ × FilePart)) → Has (g, bs) (files_gone t e fs) → bs ≡ []
  gone_empty g bs [] h = absurd h
  gone_empty g bs (f ∷ fs) h = at (stays f.0) h (gone_empty g bs fs)
    where
      at : (b : Bool) → Has (g, bs) (cond b (files_gone t e fs) ((f.0, []) ∷ files_gone t e fs)) → (Has (g, bs) (files_gone t e fs) → bs ≡ []) → bs ≡ []
      at true x r = r x
      at false (inl is) r = ap (λ (x : ℕ × List ℕ). x.1) is
      at false (inr x) r = r x

  -- ---- one that is made

  made_count : (g : ℕ) → count eqb g (files_made t e) ≡ one (eqb g t.next && stays t.next)
  made_count g = at (stays t.next) (eqb g t.next) refl
    where
      at : (b c : Bool) → eqb g t.next ≡ c → count eqb g (cond b ((t.next, new_file) ∷ []) []) ≡ one (c && b)
      at true true is = let o : one (eqb g t.next) ≡ 1 = ap one is in omega arith
      at true false is = let o : one (eqb g t.next) ≡ 0 = ap one is in omega arith
      at false true is = refl
      at false false is = refl

  made_has : (g : ℕ) (q : FilePart) → Has (g, q) (files_made t e) → (g ≡ t.next) × (q ≡ new_file) × (stays t.next ≡ true)
  made_has g q h = at (stays t.next) refl h
    where
      at : (b : Bool) → stays t.next ≡ b → Has {A = ℕ × FilePart} (g, q) (cond b ((t.next, new_file) ∷ []) []) → (g ≡ t.next) × (q ≡ new_file) × (stays t.next ≡ true)
      at true s (inl is) = (ap (λ (x : ℕ × FilePart). x.0) is, ap (λ (x : ℕ × FilePart). x.1) is, s)
      at true s (inr x) = absurd x
      at false s x = absurd x

  -- ---- all

  -- a file after the entry is one that stays, or the one that is made
  pub file_after : (fs : List (ℕ × FilePart)) (g : ℕ) (q : FilePart) → Has (g, q) (files_left t e fs ++ files_made t e)
      → ((p : FilePart) × Has (g, p) fs × (q ≡ file_drawn t e g p) × (stays g ≡ true)) ⊎ ((g ≡ t.next) × (q ≡ new_file) × (stays t.next ≡ true))
  file_after fs g q h = ⊎_elim (λ x. inl (left_has g q fs x)) (λ x. inr (made_has g q x)) (has_append (g, q) (files_left t e fs) (files_made t e) h)

  module _ (is : IsTree t) (replied : IsReplyTo t e) (fs : List (ℕ × FilePart)) where
    pub bytes_after : (g : ℕ) (q : FilePart) → Has (g, q) (files_left t e fs ++ files_made t e) → fin.get (goes_on t e).bytes g ≡ Some q.bytes
    bytes_after g q h = ⊎_elim
        (λ (x : (p : FilePart) × Has (g, p) fs × (q ≡ file_drawn t e g p) × (stays g ≡ true)). there g x.3 ∙ ap Some (sym (ap (λ (y : FilePart). y.bytes) x.2)))
        (λ (x : (g ≡ t.next) × (q ≡ new_file) × (stays t.next ≡ true)).
        ap (fin.get (goes_on t e).bytes) x.0 ∙ there t.next x.2
        ∙ ap Some ((bytes_go_on t is e replied t.next x.2).1 ∙ (λ i. all_changed (unborn_empty t is t.next (omega arith) i) (unborn_still t is e t.next (omega arith) i)) ∙ sym (ap (λ (y : FilePart). y.bytes) x.1)))
        (file_after fs g q h)
      where
        there : (f : ℕ) → stays f ≡ true → fin.get (goes_on t e).bytes f ≡ Some (bytes_of (goes_on t e).bytes f)
        there f yes' = let x = from_some (fin.get (goes_on t e).bytes f) yes' in x.1 ∙ ap Some (sym (ap (λ (o : Option (List ℕ)). unwrap_or o []) x.1))

    -- as many of one that was there and is there still as before,
    pub still_count : (g : ℕ) → stays g ≡ true → is_some (fin.get t.bytes g) ≡ true → count eqb g (files_left t e fs ++ files_made t e) ≡ count eqb g fs
    still_count g here there =
        let sum = weigh_append (named eqb g) (files_left t e fs) (files_made t e) in
        let l = left_here g here fs in let m = made_count g in let z = old (eqb g t.next) refl in omega arith
      where
        old : (b : Bool) → eqb g t.next ≡ b → one (b && stays t.next) ≡ 0
        old true same = let l = is.numbered g there in let s = eqb-true g t.next same in absurd (omega arith)
        old false same = refl

    -- one of the one that is made,
    pub new_count : (g : ℕ) → stays g ≡ true → is_some (fin.get t.bytes g) ≡ false → count eqb g fs ≡ 0 → count eqb g (files_left t e fs ++ files_made t e) ≡ 1
    new_count g here none zero =
        let sum = weigh_append (named eqb g) (files_left t e fs) (files_made t e) in
        let l = left_here g here fs in let m = made_count g in let o = made_one (made (bytes_go_on t is e replied g here).0) in omega arith
      where
        made : HasBytes t.bytes g ⊎ (g ≡ t.next) → g ≡ t.next
        made (inl has) = let no : false ≡ true = sym none ∙ has in cc
        made (inr same) = same

        made_one : g ≡ t.next → one (eqb g t.next && stays t.next) ≡ 1
        made_one same =
            let a : eqb g t.next ≡ true = ap (eqb g) (sym same) ∙ itself g in
            let b : stays t.next ≡ true = ap stays (sym same) ∙ here in
            λ i. one (a i && b i)

    -- and none of one that isn't there
    pub gone_count : (g : ℕ) → stays g ≡ false → count eqb g (files_left t e fs ++ files_made t e) ≡ 0
    gone_count g gone =
        let sum = weigh_append (named eqb g) (files_left t e fs) (files_made t e) in
        let l = left_gone g gone fs in let m = made_count g in let z = none (eqb g t.next) refl in omega arith
      where
        none : (b : Bool) → eqb g t.next ≡ b → one (b && stays t.next) ≡ 0
        none true same = ap one (ap stays (sym (eqb-true g t.next same)) ∙ gone)
        none false same = refl
