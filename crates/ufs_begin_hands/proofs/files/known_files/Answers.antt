use Rattle.std.proofs.Common.{◌≡◌, ◌+◌, ◌++◌, ◌∷◌, [], ℕ, List, drop, is_some, map, ap, sym, ◌∙◌, append_assoc}
use Rattle.std.proofs.lemmas.List.{map-append}
use Rattle.std.specs.FinMap as fin
use Rattle.ufs_file_commits.specs.State.{DurableState, state_of}
use Rattle.ufs_file.specs.Hand.{FileState}
use Rattle.ufs_joint.specs.FirstHand.{file_first}
use Rattle.ufs_model.proofs.Facts.Lookups.{same_some}
use Rattle.ufs_noted.specs.declared.known.KnownFile.{KnownFile}
use Rattle.ufs_promise_laws.specs.Parts.{committed_as}
use Rattle.ufs_begin_hands.specs.Values.{value_of, values_first}
use Rattle.ufs_begin_hands.proofs.Knowing.{at, drop_is, first_has, number_is, rest_has, rest_other, stands}
use Rattle.ufs_begin_hands.proofs.files.known_files.Goals as goal

pub loop-file-init : goal.loop-file-init
loop-file-init c = record {
  so_far = ap (λ (xs : List KnownFile). map value_of xs ++ values_first c.args.files) c.new-known.ensures.items;
  rest = λ file f has. stands c.args.files file f has;
}

pub known_file-requires : goal.known_file-requires
known_file-requires c =
    let numbers = c.args.numbers.now in
    let i = c.loop-file.file-index in
    let low = c.loop-file-test.true in
    let e = at c.args.files numbers c.requires i low in
    ap is_some (ap (fin.get c.loop-file.files) (number_is c.args.files numbers c.requires i low) ∙ c.loop-file.invariant.rest e.0 e.1 (first_has c.args.files numbers c.requires i low))

pub loop-file-preserved : goal.loop-file-preserved
loop-file-preserved c =
    let files = c.args.files in
    let numbers = c.args.numbers.now in
    let i = c.loop-file.file-index in
    let low = c.loop-file-test.true in
    let e : ℕ × FileState = at files numbers c.requires i low in
    let k : KnownFile = c.in_ok-known_file.field-0 in
    let known : List KnownFile = c.loop-file.known.items in
    let rest : List DurableState = map (λ (q : ℕ × FileState). (file_first q.1).value) (drop (i + 1) (fin.entries files)) in
    let there = ap (fin.get c.loop-file.files) (number_is files numbers c.requires i low) ∙ c.loop-file.invariant.rest e.0 e.1 (first_has files numbers c.requires i low) in
    let hand : k.hand ≡ e.1 = same_some k.hand e.1 (sym c.in_ok-known_file.ensures.hand ∙ there) in
    let value : value_of k ≡ (file_first e.1).value = ap (state_of k.hand) c.in_ok-known_file.ensures.commits ∙ ap (λ (h : FileState). state_of h (committed_as h)) hand in
    record {
      so_far = ap (λ (xs : List KnownFile). map value_of xs ++ rest) c.in_ok-push.ensures.items
          ∙ ap (λ (l : List DurableState). l ++ rest) (map-append value_of known (k ∷ []))
          ∙ append_assoc (map value_of known) (value_of k ∷ []) rest
          ∙ ap (λ (v : DurableState). map value_of known ++ (v ∷ rest)) value
          ∙ ap (λ (l : List (ℕ × FileState)). map value_of known ++ map (λ (q : ℕ × FileState). (file_first q.1).value) l) (sym (drop_is files numbers c.requires i low))
          ∙ c.loop-file.invariant.so_far;
      rest = λ file f has. c.known_file.ensures.others file (rest_other files numbers c.requires i low file f has) ∙ c.loop-file.invariant.rest file f (rest_has files numbers c.requires i low file f has);
    }
