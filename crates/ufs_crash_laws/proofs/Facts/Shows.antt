-- What a file may show, as its changes go on.
use Rattle.std.proofs.Common.{◌≡◌, ◌≤◌, ◌<◌, ℕ, ◌⊎◌, inl, inr, List, [], ◌∷◌, ◌++◌, length, get_or, ap, sym, refl, ◌∙◌, subst, arith, length-append}
use Rattle.std.proofs.lemmas.List.{take-append-le, take_all, ext_get_or}
use Rattle.ufs_crash_laws.specs.FileChanges.{changed, all_changed, bytes_after, byte_at, MayShow, IsShown}
use Rattle.ufs_crash_laws.specs.declared.data.FileChange.{FileChange}

pub all_changed-append : (old : List ℕ) (changes more : List FileChange) → all_changed old (changes ++ more) ≡ all_changed (all_changed old changes) more
all_changed-append old [] more = refl
all_changed-append old (c ∷ changes) more = all_changed-append (changed old c) changes more

-- more changes leave what was after the first so many
pub bytes_after-append : (opening : List ℕ) (changes more : List FileChange) (count : ℕ) → count ≤ length changes → bytes_after opening (changes ++ more) count ≡ bytes_after opening changes count
bytes_after-append opening changes more count made = ap (all_changed opening) (take-append-le count changes more made)

pub bytes_after_all : (opening : List ℕ) (changes : List FileChange) → bytes_after opening changes (length changes) ≡ all_changed opening changes
bytes_after_all opening changes = ap (all_changed opening) (take_all (length changes) changes (omega arith))

-- ---- what a place may show

pub may_show_more : (opening : List ℕ) (changes more : List FileChange) (count place byte : ℕ) → MayShow opening changes count place byte → MayShow opening (changes ++ more) count place byte
may_show_more opening changes more count place byte may = record {
  upto = may.upto;
  later = may.later;
  made = omega (arith, may.made, length-append changes more);
  is = may.is ∙ ap (λ bytes. byte_at bytes place) (sym (bytes_after-append opening changes more may.upto may.made));
}

-- a file that shows what it had later may show it
pub may_show_earlier : (opening : List ℕ) (changes : List FileChange) (count later place byte : ℕ) → count ≤ later → MayShow opening changes later place byte → MayShow opening changes count place byte
may_show_earlier opening changes count later place byte is may = record { upto = may.upto; later = omega (arith, may.later); made = may.made; is = may.is }

pub may_show_now : (opening : List ℕ) (changes : List FileChange) (count place byte : ℕ) → count ≤ length changes → byte ≡ byte_at (all_changed opening changes) place → MayShow opening changes count place byte
may_show_now opening changes count place byte made is = record {
  upto = length changes;
  later = made;
  made = omega arith;
  is = is ∙ ap (λ bytes. byte_at bytes place) (sym (bytes_after_all opening changes));
}

-- ---- what a file shows

-- as the history goes on
pub shown_more : (opening : List ℕ) (changes more : List FileChange) (count : ℕ) (bytes : List ℕ) → IsShown opening changes count bytes → IsShown opening (changes ++ more) count bytes
shown_more opening changes more count bytes shown = record {
  made = omega (arith, shown.made, length-append changes more);
  size = shown.size ∙ ap length (sym (bytes_after-append opening changes more count shown.made));
  each = λ place below. may_show_more opening changes more count place (byte_at bytes place) (shown.each place below);
}

-- what it had after so many changes
pub shown_then : (opening : List ℕ) (changes : List FileChange) (count : ℕ) → count ≤ length changes → IsShown opening changes count (bytes_after opening changes count)
shown_then opening changes count made = record { made = made; size = refl; each = λ place below. record { upto = count; later = omega arith; made = made; is = refl } }

-- what it has now
pub shown_now : (opening : List ℕ) (changes : List FileChange) → IsShown opening changes (length changes) (all_changed opening changes)
shown_now opening changes = subst (IsShown opening changes (length changes)) (bytes_after_all opening changes) (shown_then opening changes (length changes) (omega arith))

-- With all changes it shows nothing else.
pub shown_exactly : (opening : List ℕ) (changes : List FileChange) (bytes : List ℕ) → IsShown opening changes (length changes) bytes → bytes ≡ all_changed opening changes
shown_exactly opening changes bytes shown =
    ext_get_or 0 bytes (all_changed opening changes) (shown.size ∙ ap length (bytes_after_all opening changes)) (λ place below. at place (shown.each place below))
  where
    at : (place : ℕ) → MayShow opening changes (length changes) place (byte_at bytes place) → get_or bytes place 0 ≡ get_or (all_changed opening changes) place 0
    at place may =
        let last : may.upto ≡ length changes = omega (arith, may.later, may.made) in
        may.is ∙ ap (λ count. byte_at (bytes_after opening changes count) place) last ∙ ap (λ bytes. byte_at bytes place) (bytes_after_all opening changes)

-- Some places are written back: they show what the file has now, and the others what they showed.
pub shown_written_back : (opening : List ℕ) (changes : List FileChange) (count : ℕ) (old new : List ℕ) → IsShown opening changes count old → length new ≡ length old
    → ((place : ℕ) → place < length new → (byte_at new place ≡ byte_at old place) ⊎ (byte_at new place ≡ byte_at (all_changed opening changes) place))
    → IsShown opening changes count new
shown_written_back opening changes count old new shown same back = record {
  made = shown.made;
  size = same ∙ shown.size;
  each = λ place below. at place below (back place below);
}
  where
    at : (place : ℕ) → place < length new → (byte_at new place ≡ byte_at old place) ⊎ (byte_at new place ≡ byte_at (all_changed opening changes) place) → MayShow opening changes count place (byte_at new place)
    at place below (inl kept) = subst (MayShow opening changes count place) (sym kept) (shown.each place (subst (λ n. place < n) same below))
    at place below (inr now) = may_show_now opening changes count place (byte_at new place) shown.made now
