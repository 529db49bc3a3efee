use Rattle.std.proofs.Common.{ap, sym, ◌∙◌}
use Rattle.std.specs.Option.{option_map}
use Rattle.ufs_calls.specs.Modes.{mode_of}
use Rattle.ufs_calls.proofs.OwnLemmas.{open_is}
use Rattle.ufs_calls.proofs.own.own_refusal.Goals as goal

pub returns-in-Some : goal.returns-in-Some
returns-in-Some c = λ t client desc fd.
    let asked = sym (ap (option_map mode_of) c.in-Some.is) ∙ c.of.ensures in
    c.open_refusal.ensures ∙ open_is t client c.args.fd c.in-OpenFile.path (mode_of c.in-Some.mode) _ _ _ _ _ _ c.args.op.now c.in-OpenFile.is asked fd
