-- What is known rises.
use Rattle.std.proofs.Common.{◌≡◌, ℕ, ◌≤◌, ◌||◌, Bool, true, false, length, is_some, refl, ap, arith}
use Rattle.std.specs.Prelude.{◌==◌, if◌then◌else◌}
use Rattle.std.specs.FinMap as map
use Rattle.std.proofs.lemmas.Bool.Decides.{nat_tests}
use Rattle.ufs_ledger.specs.Laws.{raised}
use Rattle.ufs_crash_laws.specs.Changes.{changes_of}
use Rattle.ufs_joint.specs.More.{FilesAreKnownThen, FilesKnowMore, NamesAreKnownThen, NamesKnowMore}

either_first : (a b : Bool) → a ≡ true → (a || b) ≡ true
either_first true b is = refl
either_first false b is = absurd cc

pub files_know : FilesKnowMore
files_know s start history p known file k = record { names = omega arith; files = λ other. by other (other == file) refl; born = λ other is. is }
  where
    most : known.files file ≤ length (changes_of file start history)
    most = let has = k.covers.files file in let made = k.going.stored.counted.made file in omega (arith, has, made)

    by : (other : ℕ) (b : Bool) → (other == file) ≡ b → known.files other ≤ (if b then length (changes_of file start history) else known.files other)
    by other true e =
        let same : other ≡ file = grind (arith, nat_tests, e) in
        let one : known.files other ≡ known.files file = ap known.files same in
        omega (arith, most, one)
    by other false e = omega arith

pub names_know : NamesKnowMore
names_know s start history p known n k = record {
  names = (let has = k.covers.names in let made = k.covers.made in omega (arith, has, made));
  files = λ other. omega arith;
  born = λ other is. either_first (known.born other) (is_some (map.get n.held other)) is;
}

pub files_known_then : FilesAreKnownThen
files_known_then start history known file born = record {
  changes = (let self : (file == file) ≡ true = grind (arith, nat_tests) in
      let is : raised known.files file (length (changes_of file start history)) file ≡ length (changes_of file start history) = ap (λ (b : Bool). if b then length (changes_of file start history) else known.files file) self in
      omega (arith, is));
  born = born;
}

pub names_known_then : NamesAreKnownThen
names_known_then start history known n = omega arith
