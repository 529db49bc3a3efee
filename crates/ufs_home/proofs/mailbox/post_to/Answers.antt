use Rattle.std.proofs.Common.{◌≡◌, ℕ, ◌-◌, MatchResult, ap, arith, get_or, set, sym, subst, ◌∙◌}
use Rattle.ufs_msg.proofs.Places.{at_place}
use Rattle.ufs_home.specs.Letters.{posted}
use Rattle.ufs_home.proofs.Posting.{posted_there}
use Rattle.ufs_home.proofs.mailbox.post_to.Goals as goal

pub returns : goal.returns
returns g c =
    let some = c.requires.0 in
    let few = c.requires.1 in
    let boxes = c.args.boxes.now.items in
    subst (λ (w : ℕ). MatchResult c.push.result (λ _. set boxes (w - 1) c.push.new.self ≡ posted boxes c.args.worker c.args.letter) (λ x. (x.1 ≡ c.args.letter) × (set boxes (w - 1) c.push.new.self ≡ boxes))) (sym c.from.ensures)
    (posted_there boxes c.args.worker c.args.letter c.index_mut.result.now c.push.new.self c.push.result
    (at_place boxes (c.args.worker - 1) c.index_mut.result.now (omega (arith, some, few)) (c.index_mut.ensures.value ∙ ap (λ (w : ℕ). get_or boxes (w - 1) c.index_mut.result.now) c.from.ensures)) c.push.ensures)
