-- What is read of a source piece by piece is read of it as a whole.
use Rattle.std.proofs.Common.{◌≡◌, ◌≢◌, ℕ, ◌+◌, ◌<◌, ◌≤◌, List, [], ◌∷◌, ◌++◌, Option, Some, None, ap, sym, refl, subst, ◌∙◌, length, arith, ◌⊎◌, inl, inr, Bool, true, false, take, drop, Bor}
use Rattle.std.specs.Prelude.{◌==◌, IfSome, is_some, cond}
use Rattle.std.specs.List.{position}
use Rattle.std.specs.Io.KnownBytes.{Consumes, IsAtEnd}
use Rattle.std.proofs.KnownBytes.{Consumes-trans, Consumes-nil}
use Rattle.std.proofs.lemmas.List.{length-append, append_assoc, append-nil, take-append-drop, drop_all}
use Rattle.ufs_lines.specs.Trace.{IsFree}
use Rattle.ufs_audit.specs.Audit.{IsLine, IsEnded}
use Rattle.ufs_audit.specs.Sources.{Gives}
use Rattle.ufs_audit.specs.Ends.{IsLast, Moved, Refilled, Filled, NextLine, Reads, Passes, TextLine, Settles}
use Rattle.ufs_lines.proofs.CutLemmas.{free_append, cut_at, through, all_free, drop_twice}

pub gives_none : (a : Option (List ℕ)) (h : List ℕ) → Gives a a h h []
gives_none a h = ([], Consumes-nil a, append-nil h)

pub gives_on : (a b c : Option (List ℕ)) (h h' h'' x y : List ℕ) → Gives a b h h' x → Gives b c h' h'' y → Gives a c h h'' (x ++ y)
gives_on a b c h h' h'' x y p q = (
  p.0 ++ q.0,
  Consumes-trans a b c p.0 q.0 p.1 q.1,
  sym (append_assoc h p.0 q.0) ∙ ap (λ (l : List ℕ). l ++ q.0) p.2 ∙ append_assoc x h' q.0 ∙ ap (λ (l : List ℕ). x ++ l) q.2 ∙ sym (append_assoc x y h''),
)

pub gives_as : (a b : Option (List ℕ)) (h h' x y : List ℕ) → x ≡ y → Gives a b h h' x → Gives a b h h' y
gives_as a b h h' x y e g = subst (λ (t : List ℕ). Gives a b h h' t) e g

pub reads_none : (a : Option (List ℕ)) (h : List ℕ) (r : ℕ) → Reads a a h h r r []
reads_none a h r = record { gives = gives_none a h; counted = omega arith }

pub reads_on : (a b c : Option (List ℕ)) (h h' h'' : List ℕ) (r r' r'' : ℕ) (x y : List ℕ) → Reads a b h h' r r' x → Reads b c h' h'' r' r'' y → Reads a c h h'' r r'' (x ++ y)
reads_on a b c h h' h'' r r' r'' x y p q =
    let u = p.counted in
    let v = q.counted in
    let l = length-append x y in
    record { gives = gives_on a b c h h' h'' x y p.gives q.gives; counted = omega (arith, u, v, l) }

pub reads_as : (a b : Option (List ℕ)) (h h' : List ℕ) (r r' : ℕ) (x y : List ℕ) → x ≡ y → Reads a b h h' r r' x → Reads a b h h' r r' y
reads_as a b h h' r r' x y e g = subst (λ (t : List ℕ). Reads a b h h' r r' t) e g

pub passes_on : (a b c : Option (List ℕ)) (h h' h'' : List ℕ) (r r' : ℕ) (x : List ℕ) → Reads a b h h' r r' x → Passes b c h' h'' r' → Passes a c h h'' r
passes_on a b c h h' h'' r r' x p q =
    let u = p.counted in
    let v = q.2 in
    let l = length-append x q.0 in
    (x ++ q.0, gives_on a b c h h' h'' x q.0 p.gives q.1, omega (arith, u, v, l))

-- where the source had no more, nothing more is needed of it
pub last_none : (a b : Option (List ℕ)) (h h' x : List ℕ) → IsLast a h → Gives a b h h' x → IsLast b h' → Gives a b h h' []
last_none None b h h' x last g end = ([], tt, ap (λ (l : List ℕ). l ++ []) last.1 ∙ sym end.1)
last_none (Some xs) None h h' x last g end = absurd g.1
last_none (Some xs) (Some ys) h h' x last g end =
    let none : g.0 ≡ [] = nil_left g.0 ys (sym g.1 ∙ last.0) in
    (g.0, g.1, ap (λ (l : List ℕ). h ++ l) none ∙ append-nil h ∙ last.1 ∙ sym end.1)
  where
    nil_left : (a b : List ℕ) → a ++ b ≡ [] → a ≡ []
    nil_left [] b e = refl
    nil_left (x ∷ a) b e = cc

pub settle : (a b : Option (List ℕ)) (h h' : List ℕ) (P : List ℕ → Type 0) (x rest : List ℕ) → Settles a h P x → Gives a b h h' rest → IsLast b h'
    → (rest' : List ℕ) × Gives a b h h' rest' × (length rest' ≤ length rest) × P (x ++ rest')
settle a b h h' P x rest (inl any) g end = (rest, g, omega arith, any rest)
settle a b h h' P x rest (inr last) g end = ([], last_none a b h h' rest last.0 g end, omega arith, subst P (sym (append-nil x)) last.1)

-- ---- a line

pub record IsPartLine (old new : Option (List ℕ)) (ahead ahead' line : List ℕ) : Type 0 where
  pub gives : Gives old new ahead ahead' line
  pub free : IsLine line

pub part_none : (a : Option (List ℕ)) (h : List ℕ) → IsPartLine a a h h []
part_none a h = record { gives = gives_none a h; free = tt }

pub part_filled : (a b c : Option (List ℕ)) (h h' h'' line : List ℕ) → IsPartLine a b h h' line → Gives b c h' h'' [] → IsPartLine a c h h'' line
part_filled a b c h h' h'' line p g = record {
  gives = subst (λ (t : List ℕ). Gives a c h h'' t) (append-nil line) (gives_on a b c h h' h'' line [] p.gives g);
  free = p.free;
}

-- what was there, or was read, is there
pub filled_none : (b : Option (List ℕ)) (h : List ℕ) → h ≢ [] → Filled b b h h true
filled_none b h some = (gives_none b h, some)

pub filled_read : (b c : Option (List ℕ)) (h piece : List ℕ) (some : Bool) → h ≡ [] → Refilled b c piece some → Filled b c h piece some
filled_read b c h piece true none r = ((piece, r.0, ap (λ (l : List ℕ). l ++ piece) none), r.1)
filled_read b c h piece false none r = ((piece, r.0, ap (λ (l : List ℕ). l ++ piece) none), (r.2, r.1))

pub moved_longer : (h h'' line line' : List ℕ) → h ≢ [] → Moved h h'' line line' false → length line + 1 ≤ length line'
moved_longer [] h'' line line' some m = absurd (some refl)
moved_longer (b ∷ h) h'' line line' some m =
    let l = length-append line (b ∷ h) in
    let e = ap length m.1 in
    omega (arith, l, e)

gives_moved : (b : Option (List ℕ)) (h' h'' piece : List ℕ) → h' ≡ piece ++ h'' → Gives b b h' h'' piece
gives_moved b h' h'' piece is = ([], Consumes-nil b, append-nil h' ∙ is)

pub part_more : (a b : Option (List ℕ)) (h h' h'' line line' : List ℕ) → IsPartLine a b h h' line → Moved h' h'' line line' false → IsPartLine a b h h'' line'
part_more a b h h' h'' line line' p m = record {
  gives = gives_as a b h h'' (line ++ h') line' (sym m.1)
      (gives_on a b b h h' h'' line h' p.gives (gives_moved b h' h'' h' (sym (append-nil h') ∙ ap (λ (l : List ℕ). h' ++ l) (sym m.2))));
  free = subst IsLine (sym m.1) (free_append 10 line h' p.free m.0);
}

pub line_ended : (a b : Option (List ℕ)) (h h' h'' line line' : List ℕ) (most : ℕ) → IsPartLine a b h h' line → Moved h' h'' line line' true → NextLine a b h h'' most line'
line_ended a b h h' h'' line line' most p m = record {
  gives = gives_as a b h h'' (line ++ m.0) line' (sym m.2) (gives_on a b b h h' h'' line m.0 p.gives (gives_moved b h' h'' m.0 m.3));
  stops = inl (
    line ++ m.1.0,
    free_append 10 line m.1.0 p.free m.1.1,
    m.2 ∙ ap (λ (l : List ℕ). line ++ l) m.1.2 ∙ sym (append_assoc line m.1.0 (10 ∷ [])),
  );
}

pub line_last : (a b : Option (List ℕ)) (h h' line : List ℕ) (most : ℕ) → IsPartLine a b h h' line → h' ≡ [] → IsAtEnd b → NextLine a b h h' most line
line_last a b h h' line most p none end = record { gives = p.gives; stops = inr (inl (p.free, end, none)) }

pub line_long : (a b : Option (List ℕ)) (h h' line : List ℕ) (most : ℕ) → IsPartLine a b h h' line → most < length line → NextLine a b h h' most line
line_long a b h h' line most p long = record { gives = p.gives; stops = inr (inr (p.free, long)) }

-- ---- a line of a text with a greatest length

pub text_next : (a b : Option (List ℕ)) (h h' line : List ℕ) (room room' : ℕ) → NextLine a b h h' room line → length line ≤ room → room' + length line ≡ room → TextLine a b h h' room room' line
text_next a b h h' line room room' n fits count = record { reads = record { gives = n.gives; counted = count }; stops = at n.stops }
  where
    at : (IsEnded line ⊎ (IsLine line × IsAtEnd b × (h' ≡ [])) ⊎ (IsLine line × (room < length line))) → IsEnded line ⊎ (IsLine line × IsLast b h')
    at (inl ended) = inl ended
    at (inr (inl last)) = inr (last.0, (last.1, last.2))
    at (inr (inr long)) = let l = long.1 in absurd (omega (arith, l, fits))

pub text_long : (a b : Option (List ℕ)) (h h' line : List ℕ) (room : ℕ) → NextLine a b h h' room line → room < length line → Passes a b h h' room
text_long a b h h' line room n long = (line, n.gives, long)

-- ---- all that is left

pub record IsRestStep (a c : Option (List ℕ)) (h h'' : List ℕ) (r r' r'' : ℕ) (text : List ℕ) (more : Bool) : Type 0 where
  pub reads : Reads a c h h'' r r'' text
  pub last : more ≡ false → IsLast c h''
  pub smaller : cond more (r'' + 1) 0 < r' + 1

pub rest_step : (a b c : Option (List ℕ)) (h h' h'' : List ℕ) (r r' r'' : ℕ) (text line : List ℕ) (found : Option (Bor (List ℕ))) (more : Bool) → Reads a b h h' r r' text → TextLine b c h' h'' r' r'' line
    → IfSome found (λ front. line ≡ front.now ++ 10 ∷ []) → (found ≡ None → (front : List ℕ) → line ≡ front ++ 10 ∷ [] → ⊥) → more ≡ is_some found → IsRestStep a c h h'' r r' r'' (text ++ line) more
rest_step a b c h h' h'' r r' r'' text line None more reads t there none same = record {
  reads = reads_on a b c h h' h'' r r' r'' text line reads t.reads;
  last = λ _. at t.stops;
  smaller = subst (λ (m : Bool). cond m (r'' + 1) 0 < r' + 1) (sym same) (omega arith);
}
  where
    at : (IsEnded line ⊎ (IsLine line × IsLast c h'')) → IsLast c h''
    at (inl ended) = absurd (none refl ended.0 ended.2)
    at (inr last) = last.1
rest_step a b c h h' h'' r r' r'' text line (Some front) more reads t there none same = record {
  reads = reads_on a b c h h' h'' r r' r'' text line reads t.reads;
  last = λ bad. let no : true ≡ false = sym same ∙ bad in cc;
  smaller = subst (λ (m : Bool). cond m (r'' + 1) 0 < r' + 1) (sym same) fewer;
}
  where
    fewer : r'' + 1 < r' + 1
    fewer = let count = t.reads.counted in let long = ap length there in let l = length-append front.now (10 ∷ []) in omega (arith, count, long, l)

-- a line that ends leaves less
pub text_smaller : (b c : Option (List ℕ)) (h h' : List ℕ) (r r' : ℕ) (line line' front : List ℕ) → line ≡ front ++ 10 ∷ [] → TextLine b c h h' r r' line' → r' + length line' < r + length line
text_smaller b c h h' r r' line line' front is t = let count = t.reads.counted in let long = ap length is in let l = length-append front (10 ∷ []) in omega (arith, count, long, l)

-- ---- what is moved

pub moved_some : (at end : ℕ) (items bytes ahead line line' : List ℕ) → ahead ≡ drop at items → bytes ≡ drop at items → position (λ b. b == 10) bytes ≡ Some end → line' ≡ line ++ take (end + 1) bytes
    → Moved ahead (drop (at + (end + 1)) items) line line' true
moved_some at end items bytes ahead line line' view same found moved =
    let c = cut_at 10 bytes end found in (
      take (end + 1) bytes,
      (take end bytes, c.0, through 10 bytes end found),
      moved,
      view ∙ sym same ∙ sym (take-append-drop (end + 1) bytes) ∙ ap (λ (l : List ℕ). take (end + 1) bytes ++ l) (ap (drop (end + 1)) same ∙ drop_twice at (end + 1) items),
    )

pub moved_none : (at : ℕ) (items bytes ahead line line' : List ℕ) → ahead ≡ drop at items → bytes ≡ drop at items → position (λ b. b == 10) bytes ≡ None → line' ≡ line ++ bytes
    → Moved ahead (drop (length items) items) line line' false
moved_none at items bytes ahead line line' view same none moved =
    let is = same ∙ sym view in (
      subst IsLine is (all_free 10 bytes none),
      moved ∙ ap (λ (l : List ℕ). line ++ l) is,
      drop_all (length items) items (omega arith),
    )
