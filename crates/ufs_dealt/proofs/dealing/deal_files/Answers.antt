use Rattle.std.proofs.Common.{length, arith, ◌≡◌, ℕ, List, [], ◌∷◌, ◌++◌, ap, sym, refl, ◌∙◌}
use Rattle.std.proofs.lemmas.List.{append-nil}
use Rattle.ufs_file_commits.specs.State.{DurableState}
use Rattle.ufs_held.specs.Together.{under_numbers}
use Rattle.ufs_joint.specs.Cells.{FileCell, View}
use Rattle.ufs_noted.specs.declared.known.KnownFile.{KnownFile}
use Rattle.ufs_dealt.specs.Dealt.{values_in, values_of}
use Rattle.ufs_dealt.proofs.Files.{behind_first, first_of, has_first, no_items, none_left, numbers_push}
use Rattle.ufs_dealt.proofs.dealing.deal_files.Goals as goal

pub loop-known-init : goal.loop-known-init
loop-known-init g c = record {
  here = c.requires.here ∙ ap values_of (sym c.into_iter-known-iterator.ensures.into_iter_gives.0);
  apart = c.requires.apart;
  cells = refl;
  beside = refl;
  room = (let first = ap (λ (ks : List KnownFile). length ks) c.into_iter-known-iterator.ensures.into_iter_gives.0 in let few = c.requires.room in omega (arith, first, few));
}

pub deal_file-requires-clause-has : goal.deal_file-requires-clause-has
deal_file-requires-clause-has g c =
    let l = c.loop-known in
    let known : KnownFile = c.in-Some.known in
    let rest : List KnownFile = c.next.new.self.rest.items in
    let first = first_of l.hand.files known rest (l.invariant.here ∙ ap values_of c.in-Some.ensures.steps.0) in
    (first.cell, has_first l.hand l.invariant.apart known rest first, first.value)

pub deal_file-requires-clause-apart : goal.deal_file-requires-clause-apart
deal_file-requires-clause-apart g c = c.loop-known.invariant.apart

pub push_reserved-requires : goal.push_reserved-requires
push_reserved-requires g c =
    let room = c.loop-known.invariant.room in
    let next = ap (λ (ks : List KnownFile). length ks) c.in-Some.ensures.steps.0 in
    omega (arith, room, next)

pub loop-known-preserved : goal.loop-known-preserved
loop-known-preserved g c =
    let l = c.loop-known in
    let known : KnownFile = c.in-Some.known in
    let rest : List KnownFile = c.next.new.self.rest.items in
    let first = first_of l.hand.files known rest (l.invariant.here ∙ ap values_of c.in-Some.ensures.steps.0) in
    let dealt = c.deal_file in
    let left : dealt.new.hand ≡ record l.hand { files = first.others } = dealt.ensures.left ∙ ap (λ (ps : List (ℕ × FileCell)). record l.hand { files = ps }) (behind_first l.hand l.invariant.apart known rest first) in
    let files = ap (λ (v : View). v.files) left in
    let cell : FileCell = first.cell in
    let is = dealt.ensures.cell cell (has_first l.hand l.invariant.apart known rest first) in
    let number : cell.value.file.file ≡ known.hand.file = ap (λ (x : DurableState). x.file.file) first.value in
    let room = l.invariant.room in
    let next = ap (λ (ks : List KnownFile). length ks) c.in-Some.ensures.steps.0 in
    let long = c.push_reserved.ensures.len in
    let wide = c.push_reserved.ensures.capacity in
    record {
      here = ap values_in files ∙ first.left;
      apart = dealt.ensures.apart;
      cells = (λ i. under_numbers (c.push_reserved.ensures.items i) ++ files i)
          ∙ ap (λ (d : FileCell). under_numbers (l.held.items ++ d ∷ []) ++ first.others) is
          ∙ numbers_push l.held.items cell first.others
          ∙ ap (λ (n : ℕ). under_numbers l.held.items ++ (n, cell) ∷ first.others) number
          ∙ ap (λ (ps : List (ℕ × FileCell)). under_numbers l.held.items ++ ps) (sym first.is)
          ∙ l.invariant.cells;
      beside = left ∙ ap (λ (v : View). record v { files = first.others }) l.invariant.beside ∙ ap (λ (ps : List (ℕ × FileCell)). record c.args.hand.now { files = ps }) (sym files);
      room = omega (arith, room, next, long, wide);
    }

pub returns-clause-cells : goal.returns-clause-cells
returns-clause-cells g c =
    let l = c.loop-known in
    let rest = l.known-iterator.rest in
    let none = none_left l.hand.files (l.invariant.here ∙ ap values_of (no_items rest.items (sym rest.ok.0 ∙ c.in-None.ensures.steps.0))) in
    sym (append-nil (under_numbers l.held.items)) ∙ ap (λ (ps : List (ℕ × FileCell)). under_numbers l.held.items ++ ps) (sym none) ∙ l.invariant.cells

pub returns-clause-rest : goal.returns-clause-rest
returns-clause-rest g c =
    let l = c.loop-known in
    let rest = l.known-iterator.rest in
    let none = none_left l.hand.files (l.invariant.here ∙ ap values_of (no_items rest.items (sym rest.ok.0 ∙ c.in-None.ensures.steps.0))) in
    l.invariant.beside ∙ ap (λ (ps : List (ℕ × FileCell)). record c.args.hand.now { files = ps }) none
