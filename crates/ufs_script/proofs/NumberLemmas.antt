-- What is printed of a number is read as that number.
use Rattle.std.proofs.Common.{◌≡◌, ℕ, ◌<◌, ◌≤◌, ◌+◌, ◌-◌, ◌*◌, ◌/◌, ◌%◌, ◌^◌, List, [], ◌∷◌, ◌++◌, length, refl, true, Some, ◌∙◌, ap, arith}
use Rattle.std.specs.Fmt.{decimal}
use Rattle.std.specs.List.{list_all, AllPass}
use Rattle.std.proofs.lemmas.Bool.{le-leb}
use Rattle.std.proofs.lemmas.Fmt.{decimal_by_steps, length-decimal-le, decimal_nonempty}
use Rattle.std.proofs.lemmas.List.Folds.{list_all-append}
use Rattle.std.proofs.lemmas.List.Sums.{AllPass-from_list_all, fold-append}
use Rattle.ufs_script.specs.Words.{is_digit, value_of, number_of, count_of}

record IsRead (n : ℕ) (ds : List ℕ) : Type 0 where
  digits : list_all is_digit ds ≡ true
  value : value_of ds ≡ n

digit_test : (d : ℕ) → d < 10 → is_digit (48 + d) ≡ true
digit_test d h = grind arith

one_digit : (n : ℕ) → n < 10 → IsRead n ((48 + n) ∷ [])
one_digit n h = record {
  digits = rw (digit_test n h) refl;
  value = omega arith;
}

more_digits : (n : ℕ) (ds : List ℕ) → 10 ≤ n → IsRead (n / 10) ds → IsRead n (ds ++ ((48 + n % 10) ∷ []))
more_digits n ds h front = record {
  digits =
      let last : n % 10 < 10 = omega arith in
      list_all-append is_digit ds ((48 + n % 10) ∷ []) ∙ rw (front.digits, digit_test (n % 10) last) refl;
  value =
      let value = front.value in
      fold-append (λ n b. n * 10 + (b - 48)) 0 ds ((48 + n % 10) ∷ []) ∙ omega (arith, value);
}

decimal_read : (n : ℕ) → n < 10 ^ 18 → IsRead n (decimal n)
decimal_read n h = decimal_by_steps IsRead one_digit more_digits n (omega arith)

pub decimal_digits : (n : ℕ) → n < 10 ^ 18 → AllPass is_digit (decimal n)
decimal_digits n h = AllPass-from_list_all is_digit (decimal n) (decimal_read n h).digits

pub decimal_some : (n : ℕ) → n < 10 ^ 18 → 1 ≤ length (decimal n)
decimal_some n h = decimal_nonempty n (omega arith)

-- a number of at most 18 digits
pub number_back : (n : ℕ) → n < 10 ^ 18 → number_of (decimal n) ≡ Some n
number_back n h =
    let read = decimal_read n h in
    let digits = read.digits in
    let value = read.value in
    let some : 1 ≤ length (decimal n) = decimal_some n h in
    let few : length (decimal n) ≤ 18 = length-decimal-le 18 n (omega arith) h (omega arith) in
    is_it (decimal n) n some few digits value
  where
    is_it : (ds : List ℕ) (n : ℕ) → 1 ≤ length ds → length ds ≤ 18 → list_all is_digit ds ≡ true → value_of ds ≡ n → number_of ds ≡ Some n
    is_it ds n some few digits value = rw (le-leb 1 (length ds) some, le-leb (length ds) 18 few, digits) (ap Some value)

-- how many bytes a read asks for
pub count_back : (n : ℕ) → n ≤ 1048576 → count_of (decimal n) ≡ Some n
count_back n few =
    let short : n < 10 ^ 18 = omega arith in
    rw (number_back n short, le-leb n 1048576 few) refl
