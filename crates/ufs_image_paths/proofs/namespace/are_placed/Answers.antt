use Rattle.std.proofs.Common.{◌≡◌, refl, subst, sym, length, arith, inl, inr, slice_get, Some}
use Rattle.std.proofs.lemmas.Bool.{cases_eq}
use Rattle.ufs_model.specs.PathEntries.{nodes_of}
use Rattle.ufs_image_paths.specs.Placed.{IsPlaced}
use Rattle.ufs_image_paths.proofs.NamespaceLemmas.{placed_all, read_at}
use Rattle.ufs_image_paths.proofs.namespace.are_placed.Goals as goal

pub loop-i-preserved : goal.loop-i-preserved
loop-i-preserved c = λ k e less at.
    let es = c.args.entries.now in
    elim (cases_eq c.loop-i.i k) [
      | inl same ↦ read_at es c.loop-i.i k c.index-entries-i.result e same at (subst (IsPlaced (nodes_of es)) c.as_slice.ensures (c.if-not-is_placed.ensures.0 refl))
      | inr apart ↦ c.loop-i.invariant k e (omega (arith, less, apart)) at
    ]

pub returns-clause-yes : goal.returns-clause-yes
returns-clause-yes c = λ _. let past = c.loop-i-test.false in placed_all c.args.entries.now c.loop-i.i (omega (arith, past)) c.loop-i.invariant
