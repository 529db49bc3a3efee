-- Which lines are those of replies.
use Rattle.std.proofs.Common.{◌≡◌, ◌≢◌, ℕ, ◌+◌, ◌-◌, ◌*◌, ◌/◌, ◌<◌, ◌≤◌, ◌^◌, List, [], ◌∷◌, ◌++◌, Option, Some, None, Ok, Err, Result, MatchResult, ap, sym, refl, subst, ◌∙◌, length, arith, ◌⊎◌, inl, inr, zero, suc, Bool, true, false, IsTrue}
use Rattle.std.specs.Prelude.{codes, ◌↔◌, IfSome, is_some}
use Rattle.std.proofs.Common.{Bor}
use Rattle.std.specs.Fmt.{decimal}
use Rattle.std.proofs.lemmas.Fmt.{decimal_injective}
use Rattle.std.proofs.lemmas.List.{append_cancel_left, append_assoc, append-nil, length-append}
use Rattle.hex.specs.Hex.{IsBytes, encode_lower, encode_with, decode_of, lower_digits}
use Rattle.hex.specs.declared.error.FromHexError.{FromHexError}
use Rattle.hex.proofs.HexLemmas.{decode_of-encode_lower, decode_of-ok, length-encode_with}
use Rattle.ufs_model.specs.ErrnoName.{errno_name}
use Rattle.ufs_model.specs.declared.data.Errno.{Errno}
use Rattle.ufs_model.specs.declared.data.Errno.TheVariants as errno
use Rattle.ufs_model.specs.declared.data.Excuse.{Excuse}
use Rattle.ufs_model.specs.declared.data.Excuse.TheVariants as excuse
use Rattle.ufs_model.specs.declared.data.Reply.{Reply}
use Rattle.ufs_model.specs.declared.data.Reply.TheVariants as reply
use Rattle.ufs_script.specs.Output.{names_text, excuse_text, reply_text, line_text}
use Rattle.ufs_script.specs.Spelling.{data_text}
use Rattle.ufs_lines.specs.Trace.{IsFree, IsTail, IsFirstWord}
use Rattle.ufs_lines.specs.Replies.{FitsReply, IsCountText, AreNames, IsNamesText, IsErrno, IsErrorText, IsReplyText, IsReplyLine}
use Rattle.ufs_lines.proofs.CutLemmas.{IsSameCut, one_word, one_last}
use Rattle.ufs_lines.proofs.WordLemmas.{decimal_free}

-- ---- numbers

abbrev pub IsNumbered : List ℕ → List ℕ → ℕ → Type 0
IsNumbered text word most = (n : ℕ) × (n ≤ most) × (text ≡ word ++ decimal n)

pub is_count : (text : List ℕ) (dir : Bool) → (IsNumbered text (codes "fd ") 4294967295 → ⊥) → (IsNumbered text (codes "n ") 4294967295 → ⊥)
    → (IsNumbered text (codes "at ") 18446744073709551615 → ⊥) → (IsNumbered text (codes "file ") 18446744073709551615 → ⊥)
    → IsTrue dir ↔ IsNumbered text (codes "dir ") 4294967295 → IsTrue dir ↔ IsCountText text
is_count text dir fd n at file is = ((λ t. inr (inr (inr (inr (is.0 t))))), λ c. go c)
  where
    go : IsCountText text → IsTrue dir
    go (inl x) = absurd (fd x)
    go (inr (inl x)) = absurd (n x)
    go (inr (inr (inl x))) = absurd (at x)
    go (inr (inr (inr (inl x)))) = absurd (file x)
    go (inr (inr (inr (inr x)))) = is.1 x

-- ---- data

some_digits : (b : ℕ) (bytes : List ℕ) → encode_lower (b ∷ bytes) ≡ [] → ⊥
unfolding encode_with
some_digits b bytes e = cc

no_dash : (b : ℕ) (bytes : List ℕ) → encode_lower (b ∷ bytes) ≡ codes "-" → ⊥
unfolding encode_with
no_dash b bytes e = let l = ap length e in omega (arith, l)

abbrev pub IsDataText : List ℕ → Type 0
IsDataText text = (bytes : List ℕ) × IsBytes bytes × (text ≡ codes "data " ++ data_text bytes)

pub data_none : (text : List ℕ) → ((rest : List ℕ) → text ≡ codes "data " ++ rest → ⊥) → IsDataText text → ⊥
data_none text none d = none (data_text d.0) d.2

pub data_dash : (text digits : List ℕ) → text ≡ codes "data " ++ digits → digits ≡ codes "-" → IsDataText text
data_dash text digits is dash = ([], (λ i. omega arith), is ∙ ap (λ (l : List ℕ). codes "data " ++ l) dash)

data_rest : (text digits : List ℕ) → text ≡ codes "data " ++ digits → (d : IsDataText text) → digits ≡ data_text d.0
data_rest text digits is d = append_cancel_left (codes "data ") digits (data_text d.0) (sym is ∙ d.2)

pub data_empty : (text digits : List ℕ) → text ≡ codes "data " ++ digits → digits ≡ [] → IsDataText text → ⊥
data_empty text digits is none d = at d.0 (sym (data_rest text digits is d) ∙ none)
  where
    at : (bytes : List ℕ) → data_text bytes ≡ [] → ⊥
    at [] e = cc
    at (b ∷ bytes) e = some_digits b bytes e

abbrev pub AreDigits : List ℕ → Type 0
AreDigits digits = (bytes : List ℕ) × IsBytes bytes × (digits ≡ encode_lower bytes)

pub data_digits : (text digits : List ℕ) → text ≡ codes "data " ++ digits → (digits ≡ [] → ⊥) → (digits ≡ codes "-" → ⊥) → AreDigits digits ↔ IsDataText text
unfolding encode_with
data_digits text digits is some other = ((λ a. on a.0 a.1 a.2), (λ d. back d.0 d.1 (data_rest text digits is d)))
  where
    on : (bytes : List ℕ) → IsBytes bytes → digits ≡ encode_lower bytes → IsDataText text
    on [] are e = absurd (some e)
    on (b ∷ bytes) are e = (b ∷ bytes, are, is ∙ ap (λ (l : List ℕ). codes "data " ++ l) e)

    back : (bytes : List ℕ) → IsBytes bytes → digits ≡ data_text bytes → AreDigits digits
    back [] are e = absurd (other e)
    back (b ∷ bytes) are e = (b ∷ bytes, are, e)

-- ---- names

names_tail : (names : List (List ℕ)) → IsTail (names_text names)
names_tail [] = tt
names_tail (name ∷ names) = refl

first_of : (xs : List ℕ) → (w : List ℕ) × (t : List ℕ) × IsFirstWord xs w t
first_of [] = ([], [], record { free = tt; follows = tt; is = refl })
first_of (x ∷ xs) = elim (Rattle.std.proofs.lemmas.Bool.cases_eq x 32) [
  | inl same ↦ ([], x ∷ xs, record { free = tt; follows = same; is = refl })
  | inr apart ↦ let rest = first_of xs in (x ∷ rest.0, rest.1, record { free = (apart, rest.2.free); follows = rest.2.follows; is = ap (λ (l : List ℕ). x ∷ l) rest.2.is })
]

pub name_more : (n : ℕ) (name word tail : List ℕ) → IsFirstWord name word tail → AreNames n tail → AreNames (n + 1) (32 ∷ name)
name_more n name word tail cut are =
    let len = are.1 in
    (word ∷ are.0, omega (arith, len), ap (λ (l : List ℕ). 32 ∷ l) (cut.is ∙ ap (λ (l : List ℕ). word ++ l) are.2))

pub name_less : (n : ℕ) (name word tail : List ℕ) → IsFirstWord name word tail → AreNames (n + 2) (32 ∷ name) → AreNames (n + 1) tail
name_less n name word tail cut are = at are.0 are.1 are.2
  where
    of : (m k : List ℕ) (ms : List (List ℕ)) → length ms ≡ n → name ≡ m ++ (32 ∷ (k ++ names_text ms)) → (w t : List ℕ) → IsFirstWord m w t → AreNames (n + 1) tail
    of m k ms len is w [] first =
        let same = one_word word w tail (32 ∷ (k ++ names_text ms)) cut.free first.free cut.follows refl
        (sym cut.is ∙ is ∙ ap (λ (l : List ℕ). l ++ (32 ∷ (k ++ names_text ms))) (first.is ∙ append-nil w)) in
        (k ∷ ms, omega (arith, len), same.more_is)
    of m k ms len is w (b ∷ t) first =
        let space : b ≡ 32 = first.follows in
        let same = one_word word w tail ((b ∷ t) ++ (32 ∷ (k ++ names_text ms))) cut.free first.free cut.follows space
        (sym cut.is ∙ is ∙ ap (λ (l : List ℕ). l ++ (32 ∷ (k ++ names_text ms))) first.is ∙ append_assoc w (b ∷ t) (32 ∷ (k ++ names_text ms))) in
        ((t ++ 32 ∷ k) ∷ ms, omega (arith, len), same.more_is ∙ (λ i. space i ∷ (t ++ (32 ∷ (k ++ names_text ms)))) ∙ ap (λ (l : List ℕ). 32 ∷ l) (sym (append_assoc t (32 ∷ k) (names_text ms))))

    at : (names : List (List ℕ)) → length names ≡ n + 2 → 32 ∷ name ≡ names_text names → AreNames (n + 1) tail
    at [] len is = cc
    at (m ∷ []) len is = absurd (omega (arith, len))
    at (m ∷ k ∷ ms) len is =
        let name_is : name ≡ m ++ (32 ∷ (k ++ names_text ms)) = cc in
        let first = first_of m in
        of m k ms (omega (arith, len)) name_is first.0 first.1 first.2

pub no_names : (n : ℕ) (text : List ℕ) → ((rest : List ℕ) → text ≡ codes " " ++ rest → ⊥) → AreNames (n + 1) text → ⊥
no_names n text none are = at are.0 are.1 are.2
  where
    at : (names : List (List ℕ)) → length names ≡ n + 1 → text ≡ names_text names → ⊥
    at [] len is = omega (arith, len)
    at (m ∷ ms) len is = none (m ++ names_text ms) is

pub one_name : (text rest : List ℕ) → text ≡ codes " " ++ rest → AreNames 1 text
one_name text rest is = (rest ∷ [], refl, is ∙ ap (λ (l : List ℕ). 32 ∷ l) (sym (append-nil rest)))

pub zero_names : (text : List ℕ) (empty : Bool) → (empty ≡ true → text ≡ []) → (text ≡ [] → empty ≡ true) → IsTrue empty ↔ AreNames 0 text
zero_names text empty on back = ((λ t. ([], refl, on t)), (λ are. back (at are.0 are.1 are.2)))
  where
    at : (names : List (List ℕ)) → length names ≡ 0 → text ≡ names_text names → text ≡ []
    at [] len is = is
    at (m ∷ ms) len is = absurd (omega (arith, len))

names_rest : (text names front rest : List ℕ) → text ≡ codes "names " ++ names → IsFirstWord names front rest → (t : IsNamesText text) → IsSameCut front rest (decimal (length t.0)) (names_text t.0)
names_rest text names front rest is word t =
    one_word front (decimal (length t.0)) rest (names_text t.0) word.free (decimal_free 32 (length t.0) (omega arith) t.1) word.follows (names_tail t.0)
    (sym word.is ∙ append_cancel_left (codes "names ") names (decimal (length t.0) ++ names_text t.0) (sym is ∙ t.2))

pub names_none : (text : List ℕ) → ((rest : List ℕ) → text ≡ codes "names " ++ rest → ⊥) → IsNamesText text → ⊥
names_none text none t = none (decimal (length t.0) ++ names_text t.0) t.2

pub names_number : (text names front rest : List ℕ) → text ≡ codes "names " ++ names → IsFirstWord names front rest → ((n : ℕ) → n < 2 ^ 64 → front ≡ decimal n → ⊥) → IsNamesText text → ⊥
names_number text names front rest is word none t = none (length t.0) t.1 (names_rest text names front rest is word t).line_is

pub names_are : (text names front rest : List ℕ) (count : ℕ) → text ≡ codes "names " ++ names → IsFirstWord names front rest → front ≡ decimal count → count < 2 ^ 64 → AreNames count rest ↔ IsNamesText text
names_are text names front rest count is word number few = (
  (λ are.
      let len = are.1 in (
        are.0,
        omega (arith, len, few),
        is ∙ ap (λ (l : List ℕ). codes "names " ++ l) (word.is ∙ (λ i. number i ++ are.2 i) ∙ ap (λ (n : ℕ). decimal n ++ names_text are.0) (sym len)),
      )),
  (λ t.
      let same = names_rest text names front rest is word t in
      (t.0, decimal_injective (length t.0) count t.1 few (sym same.line_is ∙ number), same.more_is)),
)

-- ---- errors

abbrev pub IsOneOf : List ℕ → List ℕ → List ℕ → List ℕ → List ℕ → Type 0
IsOneOf word a b c d = (word ≡ a) ⊎ (word ≡ b) ⊎ (word ≡ c) ⊎ (word ≡ d)

abbrev pub IsAny : List ℕ → Type 0
IsAny name = IsOneOf name (codes "ENOENT") (codes "EINVAL") (codes "ENAMETOOLONG") (codes "ENOTDIR")
    ⊎ IsOneOf name (codes "EEXIST") (codes "EISDIR") (codes "ENOTEMPTY") (codes "EBUSY")
    ⊎ IsOneOf name (codes "EPERM") (codes "EBADF") (codes "EMFILE") (codes "EFBIG")
    ⊎ IsOneOf name (codes "EIO") (codes "ENOSPC") (codes "ENOMEM") (codes "ENOMEM")

pub is_errno : (name : List ℕ)
    → IsErrno name ↔ (IsOneOf name (codes "ENOENT") (codes "EINVAL") (codes "ENAMETOOLONG") (codes "ENOTDIR")
    ⊎ IsOneOf name (codes "EEXIST") (codes "EISDIR") (codes "ENOTEMPTY") (codes "EBUSY")
    ⊎ IsOneOf name (codes "EPERM") (codes "EBADF") (codes "EMFILE") (codes "EFBIG")
    ⊎ IsOneOf name (codes "EIO") (codes "ENOSPC") (codes "ENOMEM") (codes "ENOMEM"))
is_errno name = ((λ e. on e), (λ e. back e))
  where
    refused : (e : Errno) → name ≡ errno_name e → IsAny name
    refused errno.Enoent is = inl (inl is)
    refused errno.Einval is = inl (inr (inl is))
    refused errno.Enametoolong is = inl (inr (inr (inl is)))
    refused errno.Enotdir is = inl (inr (inr (inr is)))
    refused errno.Eexist is = inr (inl (inl is))
    refused errno.Eisdir is = inr (inl (inr (inl is)))
    refused errno.Enotempty is = inr (inl (inr (inr (inl is))))
    refused errno.Ebusy is = inr (inl (inr (inr (inr is))))
    refused errno.Eperm is = inr (inr (inl (inl is)))
    refused errno.Ebadf is = inr (inr (inl (inr (inl is))))
    refused errno.Emfile is = inr (inr (inl (inr (inr (inl is)))))
    refused errno.Efbig is = inr (inr (inl (inr (inr (inr is)))))

    excused : (x : Excuse) → name ≡ excuse_text x → IsAny name
    excused excuse.Memory is = inr (inr (inr (inr (inr (inl is)))))
    excused (excuse.Device f) is = inr (inr (inr (inl is)))
    excused (excuse.Stopped f) is = inr (inr (inr (inl is)))
    excused (excuse.Blocks n h) is = inr (inr (inr (inr (inl is))))
    excused excuse.Inodes is = inr (inr (inr (inr (inl is))))
    excused (excuse.Extents n) is = inr (inr (inr (inr (inl is))))

    on : IsErrno name → IsAny name
    on (inl e) = refused e.0 e.1
    on (inr x) = excused x.0 x.1

    back : IsAny name → IsErrno name
    back (inl (inl is)) = inl (errno.Enoent, is)
    back (inl (inr (inl is))) = inl (errno.Einval, is)
    back (inl (inr (inr (inl is)))) = inl (errno.Enametoolong, is)
    back (inl (inr (inr (inr is)))) = inl (errno.Enotdir, is)
    back (inr (inl (inl is))) = inl (errno.Eexist, is)
    back (inr (inl (inr (inl is)))) = inl (errno.Eisdir, is)
    back (inr (inl (inr (inr (inl is))))) = inl (errno.Enotempty, is)
    back (inr (inl (inr (inr (inr is))))) = inl (errno.Ebusy, is)
    back (inr (inr (inl (inl is)))) = inl (errno.Eperm, is)
    back (inr (inr (inl (inr (inl is))))) = inl (errno.Ebadf, is)
    back (inr (inr (inl (inr (inr (inl is)))))) = inl (errno.Emfile, is)
    back (inr (inr (inl (inr (inr (inr is)))))) = inl (errno.Efbig, is)
    back (inr (inr (inr (inl is)))) = inr (excuse.Stopped 0, is)
    back (inr (inr (inr (inr (inl is))))) = inr (excuse.Inodes, is)
    back (inr (inr (inr (inr (inr (inl is)))))) = inr (excuse.Memory, is)
    back (inr (inr (inr (inr (inr (inr is)))))) = inr (excuse.Memory, is)

pub errno_last : (name : List ℕ) (last : Bool)
    → (IsOneOf name (codes "ENOENT") (codes "EINVAL") (codes "ENAMETOOLONG") (codes "ENOTDIR") → ⊥) → (IsOneOf name (codes "EEXIST") (codes "EISDIR") (codes "ENOTEMPTY") (codes "EBUSY") → ⊥)
    → (IsOneOf name (codes "EPERM") (codes "EBADF") (codes "EMFILE") (codes "EFBIG") → ⊥)
    → IsTrue last ↔ IsOneOf name (codes "EIO") (codes "ENOSPC") (codes "ENOMEM") (codes "ENOMEM") → IsTrue last ↔ IsErrno name
errno_last name last a b d is = ((λ t. (is_errno name).1 (inr (inr (inr (is.0 t))))), (λ e. go ((is_errno name).0 e)))
  where
    go : (IsOneOf name (codes "ENOENT") (codes "EINVAL") (codes "ENAMETOOLONG") (codes "ENOTDIR")
        ⊎ IsOneOf name (codes "EEXIST") (codes "EISDIR") (codes "ENOTEMPTY") (codes "EBUSY")
        ⊎ IsOneOf name (codes "EPERM") (codes "EBADF") (codes "EMFILE") (codes "EFBIG")
        ⊎ IsOneOf name (codes "EIO") (codes "ENOSPC") (codes "ENOMEM") (codes "ENOMEM")) → IsTrue last
    go (inl x) = absurd (a x)
    go (inr (inl x)) = absurd (b x)
    go (inr (inr (inl x))) = absurd (d x)
    go (inr (inr (inr x))) = is.1 x

pub error_none : (text : List ℕ) → ((rest : List ℕ) → text ≡ codes "err " ++ rest → ⊥) → IsErrorText text → ⊥
error_none text none e = none e.0 e.2

pub error_is : (text name : List ℕ) → text ≡ codes "err " ++ name → IsErrno name ↔ IsErrorText text
error_is text name is = ((λ e. (name, e, is)), (λ e. subst IsErrno (append_cancel_left (codes "err ") e.0 name (sym e.2 ∙ is)) e.1))

-- ---- any reply

pub of_error : (text : List ℕ) → IsErrorText text → IsReplyText text
of_error text e = at e.1
  where
    at : IsErrno e.0 → IsReplyText text
    at (inl x) = (reply.Refused x.0, tt, e.2 ∙ ap (λ (l : List ℕ). codes "err " ++ l) x.1)
    at (inr x) = (reply.Excused x.0, tt, e.2 ∙ ap (λ (l : List ℕ). codes "err " ++ l) x.1)

pub of_count : (text : List ℕ) → IsCountText text → IsReplyText text
of_count text (inl x) = let f = x.1 in (reply.Fd x.0, omega (arith, f), x.2)
of_count text (inr (inl x)) = let f = x.1 in (reply.Count x.0, omega (arith, f), x.2)
of_count text (inr (inr (inl x))) = let f = x.1 in (reply.At x.0, omega (arith, f), x.2)
of_count text (inr (inr (inr (inl x)))) = let f = x.1 in (reply.IsFile x.0, omega (arith, f), x.2)
of_count text (inr (inr (inr (inr x)))) = let f = x.1 in (reply.IsDir x.0, omega (arith, f), x.2)

pub of_data : (text : List ℕ) → IsDataText text → IsReplyText text
of_data text d = (reply.Got d.0, d.1, d.2)

pub of_names : (text : List ℕ) → IsNamesText text → IsReplyText text
of_names text n = (reply.Names n.0, n.1, n.2 ∙ sym (append_assoc (codes "names ") (decimal (length n.0)) (names_text n.0)))

pub only_names : (text : List ℕ) (names : Bool) → (text ≡ codes "ok" → ⊥) → (IsErrorText text → ⊥) → (IsCountText text → ⊥) → (IsDataText text → ⊥)
    → IsTrue names ↔ IsNamesText text → IsTrue names ↔ IsReplyText text
only_names text names ok error count data' is = ((λ t. of_names text (is.0 t)), (λ r. go r.0 r.1 r.2))
  where
    go : (r : Reply) → FitsReply r → text ≡ reply_text r → IsTrue names
    go reply.Done fits e = absurd (ok e)
    go (reply.Fd n) fits e = absurd (count (inl (n, omega (arith, fits), e)))
    go (reply.Count n) fits e = absurd (count (inr (inl (n, omega (arith, fits), e))))
    go (reply.At n) fits e = absurd (count (inr (inr (inl (n, omega (arith, fits), e)))))
    go (reply.Got bytes) fits e = absurd (data' (bytes, fits, e))
    go (reply.IsFile n) fits e = absurd (count (inr (inr (inr (inl (n, omega (arith, fits), e))))))
    go (reply.IsDir n) fits e = absurd (count (inr (inr (inr (inr (n, omega (arith, fits), e))))))
    go (reply.Names ns) fits e = is.1 (ns, fits, e ∙ append_assoc (codes "names ") (decimal (length ns)) (names_text ns))
    go (reply.Refused x) fits e = absurd (error (errno_name x, inl (x, refl), e))
    go (reply.Excused x) fits e = absurd (error (excuse_text x, inr (x, refl), e))

-- ---- its line

-- what stands before the reply
abbrev pub line_front : ℕ → ℕ → List ℕ
line_front client seq = (decimal client ++ 46 ∷ decimal seq) ++ codes " "

line_parts : (client seq : ℕ) (text : List ℕ) → ((decimal client ++ 46 ∷ decimal seq) ++ 32 ∷ text) ++ 10 ∷ [] ≡ line_front client seq ++ (text ++ 10 ∷ [])
line_parts client seq text =
    let front = decimal client ++ 46 ∷ decimal seq in
    append_assoc front (32 ∷ text) (10 ∷ []) ∙ sym (append_assoc front (codes " ") (text ++ 10 ∷ []))

pub line_none : (client seq : ℕ) (line : List ℕ) → ((rest : List ℕ) → line ≡ line_front client seq ++ rest → ⊥) → IsReplyLine client seq line → ⊥
line_none client seq line none l = none (reply_text l.0 ++ 10 ∷ []) (l.2 ∙ line_parts client seq (reply_text l.0))

rest_is : (client seq : ℕ) (line rest : List ℕ) → line ≡ line_front client seq ++ rest → (l : IsReplyLine client seq line) → rest ≡ reply_text l.0 ++ 10 ∷ []
rest_is client seq line rest is l = append_cancel_left (line_front client seq) rest (reply_text l.0 ++ 10 ∷ []) (sym is ∙ l.2 ∙ line_parts client seq (reply_text l.0))

pub line_last : (client seq : ℕ) (line rest : List ℕ) → line ≡ line_front client seq ++ rest → ((front : List ℕ) → rest ≡ front ++ 10 ∷ [] → ⊥) → IsReplyLine client seq line → ⊥
line_last client seq line rest is none l = none (reply_text l.0) (rest_is client seq line rest is l)

pub line_is : (client seq : ℕ) (line rest text : List ℕ) → line ≡ line_front client seq ++ rest → rest ≡ text ++ 10 ∷ [] → IsReplyText text ↔ IsReplyLine client seq line
line_is client seq line rest text is last = (
  (λ t. (t.0, t.1, is ∙ ap (λ (l : List ℕ). line_front client seq ++ l) (last ∙ ap (λ (l : List ℕ). l ++ 10 ∷ []) t.2) ∙ sym (line_parts client seq (reply_text t.0)))),
  (λ l. (l.0, l.1, one_last 10 text (reply_text l.0) (sym last ∙ rest_is client seq line rest is l))),
)

-- ---- what was decoded

abbrev pub Decoded : List ℕ → Option (List ℕ) → Type 0
Decoded digits found = MatchResult (decode_of digits) (λ bytes. found ≡ Some bytes) (λ e. found ≡ None)

-- digits of bytes are decoded to them
digits_back : (digits : List ℕ) (found : Option (List ℕ)) → Decoded digits found → (d : AreDigits digits) → found ≡ Some d.0
digits_back digits found is d =
    subst (λ (m : Result (List ℕ) FromHexError). MatchResult m (λ bytes. found ≡ Some bytes) (λ e. found ≡ None)) (ap decode_of d.2 ∙ decode_of-encode_lower d.0 d.1) is

pub digits_none : (digits : List ℕ) (found : Option (List ℕ)) → Decoded digits found → found ≡ None → AreDigits digits → ⊥
digits_none digits found is none d = let bad : None ≡ Some d.0 = sym none ∙ digits_back digits found is d in cc

pub digits_same : (digits : List ℕ) (found : Option (List ℕ)) (bytes : List ℕ) → Decoded digits found → found ≡ Some bytes → AreDigits digits → digits ≡ encode_lower bytes
digits_same digits found bytes is some d =
    let both : Some bytes ≡ Some d.0 = sym some ∙ digits_back digits found is d in
    let same : d.0 ≡ bytes = cc in
    d.2 ∙ ap encode_lower same

-- what was decoded are bytes
pub digits_bytes : (digits : List ℕ) (found : Option (List ℕ)) (bytes : List ℕ) → Decoded digits found → found ≡ Some bytes → IsBytes bytes
digits_bytes digits found bytes is some = at (decode_of digits) refl is
  where
    at : (m : Result (List ℕ) FromHexError) → decode_of digits ≡ m → MatchResult m (λ bytes. found ≡ Some bytes) (λ e. found ≡ None) → IsBytes bytes
    at (Ok out) e is = let both : Some out ≡ Some bytes = sym is ∙ some in let same : out ≡ bytes = cc in subst IsBytes same (decode_of-ok digits out e).3
    at (Err x) e is = let bad : None ≡ Some bytes = sym is ∙ some in cc

-- ---- names, one by one

pub some_names_not : (more : ℕ) (text : List ℕ) → 1 ≤ more → ((rest : List ℕ) → text ≡ codes " " ++ rest → ⊥) → AreNames more text → ⊥
some_names_not zero text some none are = absurd (omega (arith, some))
some_names_not (suc n) text some none are = let e : suc n ≡ n + 1 = omega arith in no_names n text none (subst (λ (m : ℕ). AreNames m text) e are)

pub names_step : (more : ℕ) (rest name word tail : List ℕ) → 1 < more → rest ≡ codes " " ++ name → IsFirstWord name word tail → AreNames (more - 1) tail ↔ AreNames more rest
names_step zero rest name word tail some is cut = absurd (omega (arith, some))
names_step (suc zero) rest name word tail some is cut = absurd (omega (arith, some))
names_step (suc (suc n)) rest name word tail some is cut =
    let less : suc (suc n) - 1 ≡ n + 1 = omega arith in
    let whole : suc (suc n) ≡ n + 2 = omega arith in
    let one : (n + 1) + 1 ≡ n + 2 = omega arith in (
      (λ are. subst (λ (t : List ℕ). AreNames (suc (suc n)) t) (sym is)
          (subst (λ (m : ℕ). AreNames m (32 ∷ name)) (one ∙ sym whole) (name_more (n + 1) name word tail cut (subst (λ (m : ℕ). AreNames m tail) less are)))),
      (λ are. subst (λ (m : ℕ). AreNames m tail) (sym less)
          (name_less n name word tail cut (subst (λ (m : ℕ). AreNames m (32 ∷ name)) whole (subst (λ (t : List ℕ). AreNames (suc (suc n)) t) is are)))),
    )

pub last_name : (more : ℕ) (text : List ℕ) (found : Option (Bor (List ℕ))) → more ≤ 1 → 1 ≤ more → IfSome found (λ rest. text ≡ codes " " ++ rest.now) → (found ≡ None → (rest : List ℕ) → text ≡ codes " " ++ rest → ⊥)
    → (is : Bool) → is ≡ is_some found → IsTrue is ↔ AreNames more text
last_name more text found most some there none is same =
    let e : more ≡ 1 = omega (arith, most, some) in
    subst (λ (m : ℕ). IsTrue is ↔ AreNames m text) (sym e) (at found there none same)
  where
    at : (found : Option (Bor (List ℕ))) → IfSome found (λ rest. text ≡ codes " " ++ rest.now) → (found ≡ None → (rest : List ℕ) → text ≡ codes " " ++ rest → ⊥) → is ≡ is_some found → IsTrue is ↔ AreNames 1 text
    at (Some rest) there none same = ((λ t. one_name text rest.now there), (λ are. same))
    at None there none same = ((λ t. let bad : true ≡ false = sym t ∙ same in cc), (λ are. absurd (no_names 0 text (none refl) are)))
