use Rattle.std.proofs.Common.{arith, sym, ap, ◌∙◌}
use Rattle.std.specs.Option.{ok_or}
use Rattle.ufs_script.specs.declared.fault.Cause.TheVariants as cause
use Rattle.ufs_script.proofs.FoldLemmas.{flag_refused}
use Rattle.ufs_script.proofs.request.flags_of.Goals as goal

pub returns-in-None : goal.returns-in-None
returns-in-None c =
    let refused = flag_refused c.args.words.now c.loop-word.word-index _ c.loop-word.flags (omega arith) (sym c.in-None.ensures) in
    ap (λ given. ok_or given cause.BadWord) (sym refused ∙ c.loop-word.invariant)
