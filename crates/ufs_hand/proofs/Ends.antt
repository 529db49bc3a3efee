-- The first state of a table meets the rule, and the last one tells the hand with every part the whole history.
use Rattle.std.proofs.Common.{◌≡◌, ℕ, ◌/◌, ◌%◌, List, [], ◌∷◌, sym, refl, ap, ◌∙◌, subst, arith}
use mathlib.Core.Option.{some, some-injective}
use lib.ListN.{get_elem?}
use Rattle.atomic_table.specs.Table.{Final, Seen}
use Rattle.ufs_model.specs.Laws.{KeepsTrees}
use Rattle.ufs_hand_laws.specs.ByImages.{by_images}
use Rattle.ufs_hand_laws.specs.Parts.{View, Start}
use Rattle.ufs_hand_laws.specs.Rule.{clock_step, word_number, IsRuled}
use Rattle.ufs_hand_laws.specs.Whole.{HoldsAll}
use Rattle.ufs_hand_laws.proofs.Durable.{durable}
use Rattle.ufs_hand_laws.proofs.Ending.{opens, ends_whole}
use Rattle.ufs_hand_laws.proofs.Ruling.{few, tickets_of, clock_of}
use Rattle.ufs_hand.specs.Session.{CanBegin, KnowsAll, word_of, first_view}

pub begins : (k : Start) → CanBegin k → IsRuled by_images k (record { words = 0 ∷ []; homes = []; views = first_view k ∷ [] })
begins k b = record { word = word_of 0 0; is = refl; clock = omega arith; sound = opens by_images k b.names b.store b.can }

pub at_close : KeepsTrees → (k : Start) (v : View) (id : ℕ) (words : List ℕ) (slots : List (Unit {0})) (n : ℕ) → Final (Seen (IsRuled by_images k) id v) words slots → HoldsAll k v → get_elem? words 0 ≡ some n
    → KnowsAll k (n % clock_step) (n / clock_step) v
at_close keeps k v id words slots n f all at =
    let s = f.0 in
    let ruled = f.1.0 in
    let is : word_number ruled.word ≡ n = some-injective _ _ (ap (λ ws. get_elem? ws 0) (sym ruled.is ∙ f.2) ∙ at) in
    let room = few by_images k ruled.word s.views ruled.sound in
    let tickets : ruled.word.tickets ≡ n % clock_step = sym (tickets_of by_images k ruled.word room) ∙ ap (λ x. x % clock_step) is in
    let clock : ruled.word.clock ≡ n / clock_step = sym (clock_of by_images k ruled.word room) ∙ ap (λ x. x / clock_step) is in
    let whole = ends_whole keeps by_images k ruled.word s.views id v ruled.sound f.1.1 all in
    subst (λ (w : ℕ × ℕ). KnowsAll k w.0 w.1 v) (λ j. (tickets j, clock j)) (record {
      store = all.store;
      has_store = all.has_store;
      whole = whole;
      durable = λ visible. durable k ruled.word v all.store visible whole;
    })
