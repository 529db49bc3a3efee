use Rattle.std.proofs.Common.{◌≡◌, ℕ, ◌+◌, ◌-◌, ◌<◌, List, ◌∷◌, ◌++◌, true, false, Option, Some, None, length, take, get_or, ap, sym, ◌∙◌, arith, append_assoc}
use Rattle.std.specs.Prelude.{flat_map, ◌==◌}
use Rattle.std.specs.List.{enumerate_from}
use Rattle.std.proofs.lemmas.List.{take_all}
use Rattle.ufs_layout.specs.DentryForm.{DentryForm, is_named}
use Rattle.ufs_image.specs.Nodes.{names_of}
use Rattle.ufs_walk.specs.Waits.{below_in, left}
use Rattle.ufs_walk.specs.Walked.{Place, place_and_below}
use Rattle.ufs_walk.specs.declared.turns.Waiting.{Waiting}
use Rattle.ufs_walk.proofs.Named.{so_far, skips_off, skips_free, goes_on, unnamed, with_name}
use Rattle.ufs_walk.proofs.Waits.{left_push}
use Rattle.ufs_walk.proofs.turns.push_names.Goals as goal

pub loop-back-init : goal.loop-back-init
loop-back-init c dirs index =
    let slots = c.args.slots.now in
    ap (λ (xs : List (Option DentryForm)). flat_map (place_and_below (below_in c.args.depth dirs index) c.args.path.now) (names_of (record { inode = 0; slots = enumerate_from 0 xs })) ++ left dirs index c.args.waiting.now.items)
    (take_all (length slots - 0) slots (omega arith))

pub loop-back-preserved-in_default : goal.loop-back-preserved-in_default
loop-back-preserved-in_default c dirs index =
    let slots = c.args.slots.now in
    let k = length slots - (c.loop-back.back + 1) in
    let same : length slots - 1 - c.loop-back.back ≡ k = omega arith in
    let inside : k < length slots = omega (arith, c.loop-back-test.true) in
    let counted : length slots - c.loop-back.back ≡ k + 1 = omega (arith, c.loop-back-test.true) in
    let off : None ≡ get_or slots k None = sym c.in_default.is ∙ c.index-slots-place.is ∙ (λ i. get_or slots (same i) (c.in_default.is i)) in
    let deeper = below_in c.args.depth dirs index in
    ap (λ (l : List Place). l ++ left dirs index c.loop-back.waiting.items) (sym (skips_off deeper c.args.path.now 0 slots k inside off) ∙ ap (so_far deeper c.args.path.now 0 slots k) (sym counted))
    ∙ c.loop-back.invariant dirs index

pub loop-back-preserved-then-is_empty : goal.loop-back-preserved-then-is_empty
loop-back-preserved-then-is_empty c dirs index =
    let slots = c.args.slots.now in
    let k = length slots - (c.loop-back.back + 1) in
    let d = c.in-Some.dentry in
    let same : length slots - 1 - c.loop-back.back ≡ k = omega arith in
    let inside : k < length slots = omega (arith, c.loop-back-test.true) in
    let counted : length slots - c.loop-back.back ≡ k + 1 = omega (arith, c.loop-back-test.true) in
    let there : Some d ≡ get_or slots k (Some d) = sym c.in-Some.is ∙ c.index-slots-place.is ∙ (λ i. get_or slots (same i) (c.in-Some.is i)) in
    let free : is_named d ≡ false = unnamed d.name (ap (λ (n : List ℕ). length n == 0) (sym c.name_bytes.ensures) ∙ sym c.is_empty.ensures ∙ c.if-is_empty.true) in
    let deeper = below_in c.args.depth dirs index in
    ap (λ (l : List Place). l ++ left dirs index c.loop-back.waiting.items) (sym (skips_free deeper c.args.path.now 0 slots k d inside there free) ∙ ap (so_far deeper c.args.path.now 0 slots k) (sym counted))
    ∙ c.loop-back.invariant dirs index

pub loop-back-preserved : goal.loop-back-preserved
loop-back-preserved c dirs index =
    let slots = c.args.slots.now in
    let path = c.args.path.now in
    let k = length slots - (c.loop-back.back + 1) in
    let d = c.in-Some.dentry in
    let same : length slots - 1 - c.loop-back.back ≡ k = omega arith in
    let inside : k < length slots = omega (arith, c.loop-back-test.true) in
    let counted : length slots - c.loop-back.back ≡ k + 1 = omega (arith, c.loop-back-test.true) in
    let there : Some d ≡ get_or slots k (Some d) = sym c.in-Some.is ∙ c.index-slots-place.is ∙ (λ i. get_or slots (same i) (c.in-Some.is i)) in
    let named : is_named d ≡ true = with_name d.name (ap (λ (n : List ℕ). length n == 0) (sym c.name_bytes.ensures) ∙ sym c.is_empty.ensures ∙ c.if-is_empty.false) in
    let at : c.in_ok-at.at.items ≡ path ++ 47 ∷ d.name = c.in_ok-at.ensures ∙ ap (λ (n : List ℕ). path ++ 47 ∷ n) c.name_bytes-in-loop-back.ensures in
    let inode : c.dentry.inside.inode ≡ d.inode = ap (λ (e : DentryForm). e.inode) c.dentry.view_is in
    let deeper = below_in c.args.depth dirs index in
    let old = left dirs index c.loop-back.waiting.items in
    let w : Waiting = record { path = c.in_ok-at.at; inode = c.dentry.inside.inode; depth = c.args.depth } in
    ap (λ (l : List Place). so_far deeper path 0 slots k k ++ l)
    (ap (left dirs index) c.in_ok-push.ensures.items ∙ left_push dirs index c.loop-back.waiting.items w ∙ (λ i. ((at i, inode i) ∷ deeper (at i) (inode i)) ++ old))
    ∙ sym (append_assoc (so_far deeper path 0 slots k k) ((path ++ 47 ∷ d.name, d.inode) ∷ deeper (path ++ 47 ∷ d.name) d.inode) old)
    ∙ ap (λ (l : List Place). l ++ old) (sym (goes_on deeper path 0 slots k d inside there named) ∙ ap (so_far deeper path 0 slots k) (sym counted))
    ∙ c.loop-back.invariant dirs index

pub returns : goal.returns
returns c dirs index =
    let slots = c.args.slots.now in
    let none : length slots - c.loop-back.back ≡ 0 = omega (arith, c.loop-back-test.false) in
    ap (λ n. flat_map (place_and_below (below_in c.args.depth dirs index) c.args.path.now) (names_of (record { inode = 0; slots = enumerate_from 0 (take n slots) })) ++ left dirs index c.loop-back.waiting.items) (sym none)
    ∙ c.loop-back.invariant dirs index
