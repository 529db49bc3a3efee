-- What is printed of a request is read as that request.
use Rattle.std.proofs.Common.{◌≡◌, ℕ, ◌<◌, ◌≤◌, ◌+◌, ◌^◌, add-one, List, [], ◌∷◌, ◌++◌, length, refl, Bool, true, false, not, Some, Ok, cond, ◌∙◌, ap, arith}
use Rattle.std.specs.Prelude.{◌||◌, ◌==◌, ◌&&◌, codes, ℤ, pos, negsuc, neg_ℤ}
use Rattle.std.specs.Fmt.{decimal}
use Rattle.std.specs.Str.{bytes_eq}
use Rattle.std.specs.Option.{option_map}
use Rattle.std.specs.List.{list_all, AllPass, position}
use Rattle.std.proofs.lemmas.Bool.{and_parts, le-leb}
use Rattle.std.proofs.lemmas.List.Elements.{All-head}
use Rattle.hex.specs.Hex.{encode_lower, encode_with, IsBytes, is_hex_digit}
use Rattle.hex.proofs.HexLemmas.{decode_of-encode_lower}
use Rattle.ufs_model.specs.Bounds.{IsBounded}
use Rattle.ufs_model.specs.declared.data.Whence.{Whence}
use Rattle.ufs_model.specs.declared.data.Whence.TheVariants as whence
use Rattle.ufs_model.specs.declared.data.Op.{Op}
use Rattle.ufs_model.specs.declared.data.Op.TheVariants as op
use Rattle.ufs_script.specs.Words.{is_digit, path_of, number_of, signed_of, whence_of, mode_of, data_of, data_with}
use Rattle.ufs_script.specs.Requests.{flags_of, request_of}
use Rattle.ufs_script.specs.declared.verb.Verb.TheVariants as verb
use Rattle.ufs_script.specs.Spelling.{is_inside, is_path, path_text, data_text, whence_text, signed_text, mode_text, flag_words, request_words, IsShort, IsSpellable}
use Rattle.ufs_script.proofs.NumberLemmas.{number_back, count_back, decimal_digits, decimal_some}
use Rattle.ufs_script.proofs.InsideLemmas.{AreWords, literal, free_of, decimal_word, path_word, data_word, whence_word, signed_word, mode_word, flag_are, both_are, some_digits, hex_digits, nowhere}

-- ---- words

not_true : (b : Bool) → not b ≡ true → b ≡ false
not_true true h = cc
not_true false h = refl

pub path_back : (path : List ℕ) → is_path path ≡ true → path_of (path_text path) ≡ path
path_back [] h = refl
path_back (b ∷ path) h =
    ap (λ t. cond t [] (b ∷ path)) (not_true (bytes_eq (b ∷ path) (codes "\"\"")) (and_parts (list_all is_inside (b ∷ path)) _ h).1)

and_false : (t : Bool) → (t && false) ≡ false
and_false true = refl
and_false false = refl

no_dash : (b : ℕ) (bytes : List ℕ) → bytes_eq (encode_lower (b ∷ bytes)) (codes "-") ≡ false
unfolding encode_with
no_dash b bytes = and_false _

data_back : (bytes : List ℕ) → IsBytes bytes → length bytes ≤ 1048576 → data_of (data_text bytes) ≡ Some bytes
data_back [] h few = refl
data_back (b ∷ bytes) h few =
    let word = encode_lower (b ∷ bytes) in
    ap (λ t. cond t (Some []) (data_with word (position (λ c. c == 42) word))) (no_dash b bytes)
    ∙ ap (data_with word) (nowhere 42 word (free_of 42 is_hex_digit refl word (hex_digits (b ∷ bytes) h)))
    ∙ rw (le-leb 1 (length word) (some_digits b bytes), decode_of-encode_lower (b ∷ bytes) h, le-leb (length (b ∷ bytes)) 1048576 few) refl

whence_back : (w : Whence) → whence_of (whence_text w) ≡ Some w
whence_back whence.Set = refl
whence_back whence.Cur = refl
whence_back whence.End = refl

mode_back : (read write : Bool) → (read || write) ≡ true → mode_of (mode_text read write) ≡ Some (read, write)
mode_back true true h = refl
mode_back true false h = refl
mode_back false true h = refl
mode_back false false h = cc

-- a number without a sign
unsigned : (ds : List ℕ) (n : ℕ) → 1 ≤ length ds → AllPass is_digit ds → number_of ds ≡ Some n → signed_of ds ≡ Some (pos n)
unsigned [] n some digits h = absurd (omega arith)
unsigned (b ∷ ds) n some digits h =
    let no_sign : (b == 45) ≡ false = All-head (λ x. (x == 45) ≡ false) b ds (free_of 45 is_digit refl (b ∷ ds) digits) in
    ap (λ t. cond t (option_map (λ k. neg_ℤ (pos k)) (number_of ds)) (option_map pos (number_of (b ∷ ds)))) no_sign
    ∙ ap (option_map pos) h

signed_back : (by : ℤ) → IsShort by → signed_of (signed_text by) ≡ Some by
signed_back (pos n) h = unsigned (decimal n) n (decimal_some n h) (decimal_digits n h) (number_back n h)
signed_back (negsuc n) h = ap (option_map (λ k. neg_ℤ (pos k))) (number_back (n + 1) h) ∙ ap (λ k. Some (neg_ℤ (pos k))) (add-one n)

flags_back : (creat excl trunc append : Bool) → flags_of (flag_words creat (codes "creat") ++ flag_words excl (codes "excl") ++ flag_words trunc (codes "trunc") ++ flag_words append (codes "append"))
    ≡ Ok (record { creat = creat; excl = excl; trunc = trunc; append = append })
flags_back true true true true = refl
flags_back true true true false = refl
flags_back true true false true = refl
flags_back true true false false = refl
flags_back true false true true = refl
flags_back true false true false = refl
flags_back true false false true = refl
flags_back true false false false = refl
flags_back false true true true = refl
flags_back false true true false = refl
flags_back false true false true = refl
flags_back false true false false = refl
flags_back false false true true = refl
flags_back false false true false = refl
flags_back false false false true = refl
flags_back false false false false = refl

-- ---- the words of a request

pub request_are : (request : Op) → IsBounded request → IsSpellable request → AreWords (request_words request)
request_are (op.OpenFile path read write creat excl trunc append) few h = (
  literal (codes "open") refl refl,
  (
    path_word path h.0,
    (
      mode_word read write h.1,
      both_are (flag_words creat (codes "creat") ++ flag_words excl (codes "excl") ++ flag_words trunc (codes "trunc")) _
          (both_are (flag_words creat (codes "creat") ++ flag_words excl (codes "excl")) _
          (both_are (flag_words creat (codes "creat")) _ (flag_are creat (codes "creat") (literal (codes "creat") refl refl)) (flag_are excl (codes "excl") (literal (codes "excl") refl refl)))
          (flag_are trunc (codes "trunc") (literal (codes "trunc") refl refl)))
          (flag_are append (codes "append") (literal (codes "append") refl refl)),
    ),
  ),
)
request_are (op.Close fd) few h = (literal (codes "close") refl refl, (decimal_word fd h, tt))
request_are (op.Read fd n) few h = (literal (codes "read") refl refl, (decimal_word fd h, (decimal_word n (omega arith), tt)))
request_are (op.Write fd bytes) few h = (literal (codes "write") refl refl, (decimal_word fd h.0, (data_word bytes h.1, tt)))
request_are (op.Pread fd n at) few h = (literal (codes "pread") refl refl, (decimal_word fd h.0, (decimal_word n (omega arith), (decimal_word at h.1, tt))))
request_are (op.Pwrite fd bytes at) few h = (literal (codes "pwrite") refl refl, (decimal_word fd h.0, (data_word bytes h.1, (decimal_word at h.2, tt))))
request_are (op.Seek fd whence by) few h = (literal (codes "seek") refl refl, (decimal_word fd h.0, (whence_word whence, (signed_word by h.1, tt))))
request_are (op.Trunc fd size) few h = (literal (codes "trunc") refl refl, (decimal_word fd h.0, (decimal_word size h.1, tt)))
request_are (op.Fsync fd) few h = (literal (codes "fsync") refl refl, (decimal_word fd h, tt))
request_are op.Sync few h = (literal (codes "sync") refl refl, tt)
request_are (op.Mkdir path) few h = (literal (codes "mkdir") refl refl, (path_word path h, tt))
request_are (op.Rmdir path) few h = (literal (codes "rmdir") refl refl, (path_word path h, tt))
request_are (op.Unlink path) few h = (literal (codes "unlink") refl refl, (path_word path h, tt))
request_are (op.Rename from to) few h = (literal (codes "rename") refl refl, (path_word from h.0, (path_word to h.1, tt)))
request_are (op.Stat path) few h = (literal (codes "stat") refl refl, (path_word path h, tt))
request_are (op.List path) few h = (literal (codes "list") refl refl, (path_word path h, tt))

-- ---- requests

pub open_back : (path : List ℕ) (read write creat excl trunc append : Bool) → is_path path ≡ true → (read || write) ≡ true
    → request_of verb.Open (path_text path ∷ mode_text read write ∷ (flag_words creat (codes "creat") ++ flag_words excl (codes "excl") ++ flag_words trunc (codes "trunc") ++ flag_words append (codes "append")))
    ≡ Ok (op.OpenFile path read write creat excl trunc append)
open_back path read write creat excl trunc append word some =
    rw (path_back path word, mode_back read write some, flags_back creat excl trunc append) refl

pub close_back : (fd : ℕ) → fd < 10 ^ 18 → request_of verb.Close (decimal fd ∷ []) ≡ Ok (op.Close fd)
close_back fd h = rw (number_back fd h) refl

pub read_back : (fd n : ℕ) → fd < 10 ^ 18 → n ≤ 1048576 → request_of verb.Read (decimal fd ∷ decimal n ∷ []) ≡ Ok (op.Read fd n)
read_back fd n h few = rw (number_back fd h, count_back n few) refl

pub write_back : (fd : ℕ) (bytes : List ℕ) → fd < 10 ^ 18 → IsBytes bytes → length bytes ≤ 1048576 → request_of verb.Write (decimal fd ∷ data_text bytes ∷ []) ≡ Ok (op.Write fd bytes)
write_back fd bytes h all few = rw (number_back fd h, data_back bytes all few) refl

pub pread_back : (fd n at : ℕ) → fd < 10 ^ 18 → n ≤ 1048576 → at < 10 ^ 18 → request_of verb.Pread (decimal fd ∷ decimal n ∷ decimal at ∷ []) ≡ Ok (op.Pread fd n at)
pread_back fd n at h few k = rw (number_back fd h, count_back n few, number_back at k) refl

pub pwrite_back : (fd : ℕ) (bytes : List ℕ) (at : ℕ) → fd < 10 ^ 18 → IsBytes bytes → length bytes ≤ 1048576 → at < 10 ^ 18 → request_of verb.Pwrite (decimal fd ∷ data_text bytes ∷ decimal at ∷ []) ≡ Ok (op.Pwrite fd bytes at)
pwrite_back fd bytes at h all few k = rw (number_back fd h, data_back bytes all few, number_back at k) refl

pub seek_back : (fd : ℕ) (w : Whence) (by : ℤ) → fd < 10 ^ 18 → IsShort by → request_of verb.Seek (decimal fd ∷ whence_text w ∷ signed_text by ∷ []) ≡ Ok (op.Seek fd w by)
seek_back fd w by h k = rw (number_back fd h, whence_back w, signed_back by k) refl

pub trunc_back : (fd size : ℕ) → fd < 10 ^ 18 → size < 10 ^ 18 → request_of verb.Trunc (decimal fd ∷ decimal size ∷ []) ≡ Ok (op.Trunc fd size)
trunc_back fd size h k = rw (number_back fd h, number_back size k) refl

pub fsync_back : (fd : ℕ) → fd < 10 ^ 18 → request_of verb.Fsync (decimal fd ∷ []) ≡ Ok (op.Fsync fd)
fsync_back fd h = rw (number_back fd h) refl

pub mkdir_back : (path : List ℕ) → is_path path ≡ true → request_of verb.Mkdir (path_text path ∷ []) ≡ Ok (op.Mkdir path)
mkdir_back path h = ap (λ p. Ok (op.Mkdir p)) (path_back path h)

pub rmdir_back : (path : List ℕ) → is_path path ≡ true → request_of verb.Rmdir (path_text path ∷ []) ≡ Ok (op.Rmdir path)
rmdir_back path h = ap (λ p. Ok (op.Rmdir p)) (path_back path h)

pub unlink_back : (path : List ℕ) → is_path path ≡ true → request_of verb.Unlink (path_text path ∷ []) ≡ Ok (op.Unlink path)
unlink_back path h = ap (λ p. Ok (op.Unlink p)) (path_back path h)

pub rename_back : (from to : List ℕ) → is_path from ≡ true → is_path to ≡ true → request_of verb.Rename (path_text from ∷ path_text to ∷ []) ≡ Ok (op.Rename from to)
rename_back from to h k = rw (path_back from h, path_back to k) refl

pub stat_back : (path : List ℕ) → is_path path ≡ true → request_of verb.Stat (path_text path ∷ []) ≡ Ok (op.Stat path)
stat_back path h = ap (λ p. Ok (op.Stat p)) (path_back path h)

pub list_back : (path : List ℕ) → is_path path ≡ true → request_of verb.List (path_text path ∷ []) ≡ Ok (op.List path)
list_back path h = ap (λ p. Ok (op.List p)) (path_back path h)
