use Rattle.std.proofs.Common.{◌≡◌, ℕ, ◌+◌, None, Option, [], ◌∷◌, ◌++◌, List, length, get_or, replicate, take, ap, sym, ◌∙◌, arith}
use Rattle.std.proofs.lemmas.List.{length-replicate, map_more}
use Rattle.ufs_walk.specs.Walked.{Place, pairs_of}
use Rattle.ufs_walk.specs.declared.places.PathAt.{PathAt}
use Rattle.ufs_start.specs.Numbers.{after, is_dir_in, next_number, noted, numbers_from}
use Rattle.ufs_start.proofs.NumberLemmas.{after_few, inside_at, length-numbers, next_more, numbers_more}
use Rattle.ufs_start.proofs.numbers.number_places.Goals as goal

pub is_dir-requires-clause-from_one : goal.is_dir-requires-clause-from_one
is_dir-requires-clause-from_one c = (inside_at c.args.geometry.now c.args.places.now c.loop-k.k c.index-places-k.result c.loop-k-test.true c.requires.inside).from_one

pub is_dir-requires-clause-within : goal.is_dir-requires-clause-within
is_dir-requires-clause-within c =
    let most = (inside_at c.args.geometry.now c.args.places.now c.loop-k.k c.index-places-k.result c.loop-k-test.true c.requires.inside).within in
    omega (arith, most, c.requires.counted)

pub give_number-next-requires-clause-inside : goal.give_number-next-requires-clause-inside
give_number-next-requires-clause-inside c =
    let most = (inside_at c.args.geometry.now c.args.places.now c.loop-k.k c.index-places-k.result c.loop-k-test.true c.requires.inside).within in
    let none : List (Option ℕ) = replicate (c.args.geometry.now.inodes + 1) None in
    let long : length c.loop-k.files.items ≡ c.args.geometry.now.inodes + 1 =
    ap length c.loop-k.invariant.files ∙ length-numbers (is_dir_in c.args.forms.now) 0 (pairs_of (take c.loop-k.k c.args.places.now)) none ∙ length-replicate {A = Option ℕ} (c.args.geometry.now.inodes + 1) None in
    omega (arith, most, long)

pub loop-k-preserved : goal.loop-k-preserved
loop-k-preserved c =
    let dir = is_dir_in c.args.forms.now in
    let k = c.loop-k.k in
    let places = c.args.places.now in
    let p : PathAt = get_or places k c.index-places-k.result in
    let ps = pairs_of (take k places) in
    let none : List (Option ℕ) = replicate (c.args.geometry.now.inodes + 1) None in
    let more : pairs_of (take (k + 1) places) ≡ ps ++ (p.path.items, p.inode) ∷ [] = map_more {Y = Place} (λ (q : PathAt). (q.path.items, q.inode)) places k c.index-places-k.result c.loop-k-test.true in
    let at = c.is_dir.ensures in
    let few = after_few c.is_dir.result c.loop-k.next in
    record {
      files =
          c.give_number-next.ensures.files
          ∙ (λ i. noted (at i) (c.loop-k.invariant.next i) p.inode (c.loop-k.invariant.files i))
          ∙ sym (ap (λ (l : List Place). numbers_from dir 0 l none) more ∙ numbers_more dir 0 ps (p.path.items, p.inode) none);
      next =
          c.give_number-next.ensures.next
          ∙ (λ i. after (at i) (c.loop-k.invariant.next i))
          ∙ sym (ap (next_number dir 0) more ∙ next_more dir 0 ps (p.path.items, p.inode));
      few = omega (arith, c.give_number-next.ensures.next, few, c.loop-k.invariant.few);
    }
