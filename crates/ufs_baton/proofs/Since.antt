-- What the baton has seen before and behind a request that is served.
use Rattle.std.proofs.Common.{◌≡◌, ◌≤◌, ℕ, arith, subst}
use Rattle.ufs_msg.specs.Answers.{Told}
use Rattle.ufs_msg.specs.declared.answer.Answer.{Answer}
use Rattle.ufs_msg.specs.declared.answer.Answer.TheVariants as says
use Rattle.ufs_baton.specs.Baton.{IsDrawnWith, IsToldSince}

-- it was lent to the request, and followed the answer
pub drawn_with : {N : Type 0} (a : Answer N) (told : Told) (had since has : ℕ) → a ≡ says.Served told → IsToldSince since a → had ≤ since → told.hand.seen ≤ has → IsDrawnWith had has told.entry
drawn_with a told had since has is so lent followed =
    let d = subst (IsToldSince since) is so in
    let l = d.later in
    let s = d.seen in
    record { later = omega (arith, l, lent); seen = omega (arith, s, followed) }
