-- How much of a source is read, and how often.
use Rattle.std.proofs.Common.{◌≡◌, ℕ, ◌≤◌, ◌+◌, List, length, length-append, Option, Some, None, ap, sym, subst, ◌∙◌, arith}
use Rattle.std.specs.Option.{option_map}
use Rattle.std.specs.Io.KnownBytes.{Consumes}
use Rattle.ufs_base.specs.Faults.{raised}
use Rattle.ufs_script.specs.Reading.{TakesAtMost, MadeAtMost, ReadsEachOnce}

pub none_made : (made : Option ℕ) → MadeAtMost 0 made made
none_made None = tt
none_made (Some n) = omega arith

one_more : (count : ℕ) (a b : Option ℕ) → MadeAtMost count a b → MadeAtMost (count + 1) a (option_map raised b)
one_more count None b h = tt
one_more count (Some n) None h = tt
one_more count (Some n) (Some m) h = omega arith

pub one_read : (count : ℕ) (a b c : Option ℕ) → MadeAtMost count a b → c ≡ option_map raised b → MadeAtMost (count + 1) a c
one_read count a b c h e = subst (MadeAtMost (count + 1) a) (sym e) (one_more count a b h)

fewer : (count more : ℕ) (a b : Option ℕ) → count ≤ more → MadeAtMost count a b → MadeAtMost more a b
fewer count more None b le h = tt
fewer count more (Some n) None le h = tt
fewer count more (Some n) (Some m) le h = omega arith

pub takes_at_most : (old new : Option (List ℕ)) (text : List ℕ) → Consumes old new text → length text ≤ 16777216 + 65536 → TakesAtMost old new
takes_at_most None new text taken few = tt
takes_at_most (Some xs) None text taken few = tt
takes_at_most (Some xs) (Some ys) text taken few = let e = ap length taken ∙ length-append text ys in omega arith

pub reads_each_once : (old new : Option (List ℕ)) (text : List ℕ) (a b : Option ℕ) → Consumes old new text → MadeAtMost (length text + 1) a b → ReadsEachOnce old new a b
reads_each_once None new text a b taken made = tt
reads_each_once (Some xs) None text a b taken made = tt
reads_each_once (Some xs) (Some ys) text a b taken made = let e = ap length taken ∙ length-append text ys in fewer (length text + 1) _ a b (omega arith) made
