use Rattle.std.proofs.Common.{rules, Some, sym, ap, ◌∙◌, arith}
use Rattle.std.specs.Prelude.{option_map}
use Rattle.ufs_layout.specs.Words.{number_at, byte_at}
use Rattle.ufs_layout.specs.declared.records.LogRecord.TheVariants.{Place}
use Rattle.ufs_layout.proofs.Leading.{place-short, place-slot, place-read}
use Rattle.ufs_layout.proofs.record_decode.read_place.Goals as goal

pub returns-then-rest-lt70 : goal.returns-then-rest-lt70
returns-then-rest-lt70 c = place-short c.args.rest.now c.requires (omega arith)

pub returns-in_default : goal.returns-in_default
returns-in_default c = sym (place-read c.args.rest.now (search rules) c.requires (omega arith) (omega arith)
    ∙ ap (option_map (λ d. Place (number_at 4 1 c.args.rest.now) (byte_at 5 c.args.rest.now) d)) (sym c.get_dentry.ensures.value ∙ c.in_default.is))

pub returns : goal.returns
returns c = ap (λ n. Some (Place n (byte_at 5 c.args.rest.now) c.in-Some.dentry)) c.u32_at.ensures
    ∙ sym (place-read c.args.rest.now (search rules) c.requires (omega arith) (omega arith)
    ∙ ap (option_map (λ d. Place (number_at 4 1 c.args.rest.now) (byte_at 5 c.args.rest.now) d)) (sym c.get_dentry.ensures.value ∙ c.in-Some.is))
