use Rattle.std.proofs.Common.{◌≡◌, ◌+◌, List, Bool, true, false, not, Some, ap, sym, refl, ◌∙◌, subst, arith}
use Rattle.std.specs.Prelude.{IsSome}
use Rattle.std.proofs.lemmas.Bool.{true≢false}
use Rattle.std.proofs.lemmas.List.{get_or_default}
use Rattle.std.proofs.lemmas.Option.{slice_get-get_or}
use Rattle.ufs_dirs.specs.Directory.{Directory, entry_of}
use Rattle.ufs_dir_tree.specs.DirTable.{no_dir}
use Rattle.ufs_dir_tree.specs.DirEdits.{dir_in}
use Rattle.ufs_dir_tree.proofs.BareLemmas.{bare_from_count}
use Rattle.ufs_start.proofs.Reaching.{a_name}
use Rattle.ufs_start.proofs.reached.is_unreached.Goals as goal

true_of : (b : Bool) → not b ≡ false → b ≡ true
true_of true e = refl
true_of false e = absurd (true≢false e)

false_of : (b : Bool) → not b ≡ true → b ≡ false
false_of false e = refl
false_of true e = absurd (true≢false (sym e))

pub returns-clause-reached : goal.returns-clause-reached
returns-clause-reached c full name has =
    let dirs : List Directory = c.args.dirs.now in
    let d = c.index-dirs-place.result in
    let read : d ≡ dir_in dirs (c.args.place + 1) = c.index-dirs-place.is ∙ get_or_default dirs (c.args.place + 1) d no_dir (omega (arith, c.requires.counted, c.requires.within)) in
    let bare = bare_from_count d.slots (c.is_empty.ensures.0 (true_of c.is_empty.result full)) name in
    let none = ap (λ (x : Directory). entry_of x.slots name) (sym read) ∙ bare in
    let gone = subst IsSome none has in
    absurd (true≢false (sym gone))

pub returns-clause-named : goal.returns-clause-named
returns-clause-named c some =
    let dirs : List Directory = c.args.dirs.now in
    let d = c.index-dirs-place.result in
    let read : d ≡ dir_in dirs (c.args.place + 1) = c.index-dirs-place.is ∙ get_or_default dirs (c.args.place + 1) d no_dir (omega (arith, c.requires.counted, c.requires.within)) in
    let named = a_name d.slots (λ none. true≢false (sym (c.is_empty.ensures.1 none) ∙ false_of c.is_empty.result some)) in
    (named.0, subst (λ (x : Directory). IsSome (entry_of x.slots named.0)) read named.1)

pub returns-clause-unmarked : goal.returns-clause-unmarked
returns-clause-unmarked c some = slice_get-get_or c.args.marks.now c.args.place false c.requires.within ∙ ap (λ (b : Bool). Some b) c.if-marks-place.false
