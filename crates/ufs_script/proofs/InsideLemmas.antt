-- Words: texts with no byte that ends a word.
use Rattle.std.proofs.Common.{◌≡◌, ℕ, ◌<◌, ◌≤◌, ◌+◌, ◌^◌, List, [], ◌∷◌, ◌++◌, length, refl, Bool, true, false, not, Some, None, cond, leb, ◌∙◌, sym, ap, inl, inr, arith}
use Rattle.std.specs.Prelude.{◌||◌, ◌==◌, codes}
use Rattle.std.specs.Fmt.{decimal}
use Rattle.std.specs.List.{list_all, position, position_or_len, All, AllPass, AllByRecursion}
use Rattle.std.proofs.lemmas.Bool.{and_parts, le-ltb}
use Rattle.std.proofs.lemmas.Bool.Decides.{eqb_tells}
use Rattle.std.proofs.lemmas.List.Elements.{All-weaker, All-cons}
use Rattle.std.proofs.lemmas.List.Sums.{AllPass-from_list_all, position_or_len_is}
use Rattle.hex.specs.Hex.{encode_lower, encode_with, is_hex_digit, IsBytes}
use Rattle.hex.proofs.HexLemmas.{decode_of-encode_lower, decode_of-ok}
use Rattle.ufs_model.specs.declared.data.Whence.{Whence}
use Rattle.ufs_model.specs.declared.data.Whence.TheVariants as whence
use Rattle.ufs_script.specs.Words.{is_blank, is_digit}
use Rattle.ufs_script.specs.Spelling.{is_inside, is_path, path_text, data_text, whence_text, signed_text, mode_text, flag_words, IsShort}
use Rattle.ufs_script.proofs.NumberLemmas.{decimal_digits, decimal_some}
use Rattle.std.specs.Prelude.{ℤ, pos, negsuc}

-- the byte isn't there
abbrev pub Free : ℕ → List ℕ → Type 0
Free c xs = All (λ x. (x == c) ≡ false) xs

differs : (c : ℕ) (p : ℕ → Bool) → p c ≡ false → (x : ℕ) → p x ≡ true → (x == c) ≡ false
differs c p off x on = elim (eqb_tells x c) [
  | inl same ↦ let e : true ≡ false = sym on ∙ ap p same.1 ∙ off in cc e
  | inr other ↦ other.0
]

pub free_of : (c : ℕ) (p : ℕ → Bool) → p c ≡ false → (xs : List ℕ) → AllPass p xs → Free c xs
free_of c p off xs all = All-weaker (λ x. p x ≡ true) (λ x. (x == c) ≡ false) (differs c p off) xs all

-- a test that no byte passes which ends a word
record Tests (p : ℕ → Bool) : Type 0 where
  space : p 32 ≡ false
  tab : p 9 ≡ false
  end : p 10 ≡ false
  return : p 13 ≡ false

inside_of : (p : ℕ → Bool) → Tests p → (x : ℕ) → p x ≡ true → is_inside x ≡ true
inside_of p tests x on = rw (differs 32 p tests.space x on, differs 9 p tests.tab x on, differs 10 p tests.end x on, differs 13 p tests.return x on) refl

all_inside : (p : ℕ → Bool) → Tests p → (xs : List ℕ) → AllPass p xs → AllPass is_inside xs
all_inside p tests xs all = All-weaker (λ x. p x ≡ true) (λ x. is_inside x ≡ true) (inside_of p tests) xs all

-- a word: some bytes, none of which ends it
pub record IsWord (word : List ℕ) : Type 0 where
  pub some : 1 ≤ length word
  pub inside : AllPass is_inside word

pub literal : (word : List ℕ) → leb 1 (length word) ≡ true → list_all is_inside word ≡ true → IsWord word
literal [] h all = cc
literal (b ∷ word) h all = record { some = omega arith; inside = AllPass-from_list_all is_inside (b ∷ word) all }

not_blank : (b : Bool) → not b ≡ true → b ≡ false
not_blank true h = cc
not_blank false h = refl

pub word_free : (word : List ℕ) → AllPass is_inside word → All (λ x. is_blank x ≡ false) word
word_free word all = All-weaker (λ x. is_inside x ≡ true) (λ x. is_blank x ≡ false) (λ x on. not_blank (is_blank x) (and_parts (not (is_blank x)) _ on).0) word all

-- ---- each kind of word

digit_tests : Tests is_digit
digit_tests = record { space = refl; tab = refl; end = refl; return = refl }

hex_tests : Tests is_hex_digit
hex_tests = record { space = refl; tab = refl; end = refl; return = refl }

pub decimal_word : (n : ℕ) → n < 10 ^ 18 → IsWord (decimal n)
decimal_word n h = record { some = decimal_some n h; inside = all_inside is_digit digit_tests (decimal n) (decimal_digits n h) }

pub path_word : (path : List ℕ) → is_path path ≡ true → IsWord (path_text path)
path_word [] h = literal (codes "\"\"") refl refl
path_word (b ∷ path) h = record { some = omega arith; inside = AllPass-from_list_all is_inside (b ∷ path) (and_parts (list_all is_inside (b ∷ path)) _ h).0 }

pub some_digits : (b : ℕ) (bytes : List ℕ) → 1 ≤ length (encode_lower (b ∷ bytes))
unfolding encode_with
some_digits b bytes = omega arith

pub hex_digits : (bytes : List ℕ) → IsBytes bytes → AllPass is_hex_digit (encode_lower bytes)
hex_digits bytes h = (decode_of-ok (encode_lower bytes) bytes (decode_of-encode_lower bytes h)).1

pub data_word : (bytes : List ℕ) → IsBytes bytes → IsWord (data_text bytes)
data_word [] h = literal (codes "-") refl refl
data_word (b ∷ bytes) h = record { some = some_digits b bytes; inside = all_inside is_hex_digit hex_tests (encode_lower (b ∷ bytes)) (hex_digits (b ∷ bytes) h) }

pub whence_word : (w : Whence) → IsWord (whence_text w)
whence_word whence.Set = literal (codes "set") refl refl
whence_word whence.Cur = literal (codes "cur") refl refl
whence_word whence.End = literal (codes "end") refl refl

pub signed_word : (by : ℤ) → IsShort by → IsWord (signed_text by)
signed_word (pos n) h = decimal_word n h
signed_word (negsuc n) h = record { some = omega arith; inside = All-cons (λ x. is_inside x ≡ true) 45 (decimal (n + 1)) refl (decimal_word (n + 1) h).inside }

pub mode_word : (read write : Bool) → (read || write) ≡ true → IsWord (mode_text read write)
mode_word true true h = literal (codes "rw") refl refl
mode_word true false h = literal (codes "r") refl refl
mode_word false true h = literal (codes "w") refl refl
mode_word false false h = cc

abbrev pub AreWords : List (List ℕ) → Type 0
AreWords words = AllByRecursion IsWord words

pub flag_are : (given : Bool) (word : List ℕ) → IsWord word → AreWords (flag_words given word)
flag_are true word h = (h, tt)
flag_are false word h = tt

pub both_are : (xs ys : List (List ℕ)) → AreWords xs → AreWords ys → AreWords (xs ++ ys)
both_are [] ys hx hy = hy
both_are (x ∷ xs) ys hx hy = (hx.0, both_are xs ys hx.1 hy)

-- ---- a byte that isn't there has no place

pub nowhere : (c : ℕ) (xs : List ℕ) → Free c xs → position (λ b. b == c) xs ≡ None
nowhere c xs free =
    let at : position_or_len (λ b. b == c) xs ≡ length xs = position_or_len_is (λ b. b == c) xs (length xs) 0 (omega arith) (λ k h. free k 0 h) (λ h. absurd (omega arith)) in
    let past : length xs ≤ position_or_len (λ b. b == c) xs = omega (arith, at) in
    ap (λ b. cond b (Some (position_or_len (λ b. b == c) xs)) None) (le-ltb _ _ past)
