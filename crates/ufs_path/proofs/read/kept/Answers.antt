use Rattle.std.proofs.Common.{◌≡◌, ◌∙◌, ◌++◌, ◌∷◌, [], ap, sym, rules, tests, length, take, filter, eqb, arith, List, ℕ}
use Rattle.std.proofs.lemmas.List.{length_push, take_all}
use Rattle.std.proofs.lemmas.Iterator.Splits.{YieldsList-from_slice_split}
use Rattle.std.proofs.lemmas.Iterator.Consumers.{YieldsList-turn, YieldsList-end, YieldsList-at}
use Rattle.ufs_model.specs.Paths.{components}
use Rattle.ufs_path.specs.Texts.{joined, ends_from}
use Rattle.ufs_model.proofs.Facts.Pieces.{pieces, is_some_name}
use Rattle.ufs_path.proofs.KeptLemmas.{joined-next, ends-next, kept_of_text, components_of_whole}
use Rattle.ufs_path.proofs.read.kept.Goals as goal

pub loop-piece-preserved : goal.loop-piece-preserved
loop-piece-preserved c =
    let turn = YieldsList-turn (YieldsList-at c.into_iter-piece-iterator.ensures.into_iter_gives (YieldsList-from_slice_split _ (λ b. eqb b 47) c.args.path.now c.split-piece-items.ensures.rest c.split-piece-items.ensures.done c.split-piece-items.ensures.closure (λ x r q k. search (rules, tests)))) c.loop-piece.yielded _ c.loop-piece.yielded_by _ _ c.in-Some.piece c.in-Some.is c.next.ensures.steps in
    let next = ap (λ n. filter is_some_name (take n (pieces c.args.path.now))) (sym (length_push c.loop-piece.yielded c.in-Some.piece)) in
    record {
      bytes = c.in_ok-add_piece.ensures.bytes
          ∙ ap (λ b. b ++ joined (filter is_some_name (c.in-Some.piece.now ∷ []))) c.loop-piece.invariant.bytes
          ∙ sym (joined-next (pieces c.args.path.now) (length c.loop-piece.yielded) c.in-Some.piece.now turn.0 turn.1)
          ∙ ap joined next;
      ends = c.in_ok-add_piece.ensures.ends
          ∙ ap (λ e. e ++ ends_from (length c.loop-piece.bytes.items) (filter is_some_name (c.in-Some.piece.now ∷ []))) c.loop-piece.invariant.ends
          ∙ ap (λ (b : List ℕ). ends_from 0 (filter is_some_name (take (length c.loop-piece.yielded) (pieces c.args.path.now))) ++ ends_from (length b) (filter is_some_name (c.in-Some.piece.now ∷ []))) c.loop-piece.invariant.bytes
          ∙ sym (ends-next (pieces c.args.path.now) (length c.loop-piece.yielded) c.in-Some.piece.now turn.0 turn.1)
          ∙ ap (ends_from 0) next;
    }

pub from_parts-requires : goal.from_parts-requires
from_parts-requires c =
    let end = YieldsList-end (YieldsList-at c.into_iter-piece-iterator.ensures.into_iter_gives (YieldsList-from_slice_split _ (λ b. eqb b 47) c.args.path.now c.split-piece-items.ensures.rest c.split-piece-items.ensures.done c.split-piece-items.ensures.closure (λ x r q k. search (rules, tests)))) c.loop-piece.yielded _ c.loop-piece.yielded_by _ _ c.in-None.is c.next.ensures.steps in
    let all : take (length c.loop-piece.yielded) (pieces c.args.path.now) ≡ pieces c.args.path.now = take_all (length c.loop-piece.yielded) (pieces c.args.path.now) (omega (arith, end.1)) in
    let read : c.loop-piece.bytes.items ≡ joined (components c.args.path.now) = c.loop-piece.invariant.bytes ∙ ap (λ ps. joined (filter is_some_name ps)) all in
    kept_of_text c.args.path.now _ _ c.requires (c.in_ok-whole.ensures (components c.args.path.now) read) (c.loop-piece.invariant.ends ∙ ap (λ ps. ends_from 0 (filter is_some_name ps)) all)

pub returns : goal.returns
returns c =
    let end = YieldsList-end (YieldsList-at c.into_iter-piece-iterator.ensures.into_iter_gives (YieldsList-from_slice_split _ (λ b. eqb b 47) c.args.path.now c.split-piece-items.ensures.rest c.split-piece-items.ensures.done c.split-piece-items.ensures.closure (λ x r q k. search (rules, tests)))) c.loop-piece.yielded _ c.loop-piece.yielded_by _ _ c.in-None.is c.next.ensures.steps in
    let all : take (length c.loop-piece.yielded) (pieces c.args.path.now) ≡ pieces c.args.path.now = take_all (length c.loop-piece.yielded) (pieces c.args.path.now) (omega (arith, end.1)) in
    let read : c.loop-piece.bytes.items ≡ joined (components c.args.path.now) = c.loop-piece.invariant.bytes ∙ ap (λ ps. joined (filter is_some_name ps)) all in
    c.from_parts.ensures ∙ components_of_whole c.args.path.now _ c.requires (c.in_ok-whole.ensures (components c.args.path.now) read)
