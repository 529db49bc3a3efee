-- The lines of the entries up to one of them.
use Rattle.std.proofs.Common.{◌≡◌, ℕ, ◌+◌, ◌<◌, List, [], ◌∷◌, ◌++◌, true, false, cond, ap, sym, refl, ◌∙◌, eqb, length, take, get_or, append_assoc}
use Rattle.std.proofs.lemmas.List.{append-nil, take_more}
use Rattle.std.proofs.lemmas.List.Elements.{filter-append}
use Rattle.ufs_model.specs.History.{entries_of}
use Rattle.ufs_model.specs.declared.data.Entry.{Entry}
use Rattle.ufs_script.specs.Output.{lines_of, line_text}

abbrev pub own_line : Entry → List ℕ
own_line e = line_text e.client e.seq e.reply

lines_of-append : (xs ys : List Entry) → lines_of (xs ++ ys) ≡ lines_of xs ++ lines_of ys
lines_of-append [] ys = refl
lines_of-append (x ∷ xs) ys = ap (λ rest. own_line x ++ rest) (lines_of-append xs ys) ∙ sym (append_assoc _ (lines_of xs) (lines_of ys))

-- one entry more
module _ (client : ℕ) (h : List Entry) (i : ℕ) (e : Entry) (below : i < length h) (is : e ≡ get_or h i e) where
  more : entries_of client (take (i + 1) h) ≡ entries_of client (take i h) ++ cond (eqb e.client client) (e ∷ []) []
  more = ap (entries_of client) (take_more h i e below ∙ ap (λ x. take i h ++ x ∷ []) (sym is)) ∙ filter-append (λ e. eqb e.client client) (take i h) (e ∷ [])

  -- a client's entry adds its line
  pub with_own : eqb e.client client ≡ true → lines_of (entries_of client (take (i + 1) h)) ≡ lines_of (entries_of client (take i h)) ++ own_line e
  with_own same = ap lines_of (more ∙ ap (λ b. entries_of client (take i h) ++ cond b (e ∷ []) []) same)
      ∙ lines_of-append (entries_of client (take i h)) (e ∷ []) ∙ ap (λ l. lines_of (entries_of client (take i h)) ++ l) (append-nil (own_line e))

  -- another's adds none
  pub with_other : eqb e.client client ≡ false → lines_of (entries_of client (take (i + 1) h)) ≡ lines_of (entries_of client (take i h))
  with_other apart = ap lines_of (more ∙ ap (λ b. entries_of client (take i h) ++ cond b (e ∷ []) []) apart ∙ append-nil (entries_of client (take i h)))
