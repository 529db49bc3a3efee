use Rattle.std.proofs.Common.{take, ap, sym, ◌∙◌, ◌∷◌, [], arith}
use Rattle.std.specs.Prelude.{◌||◌}
use Rattle.std.specs.Option.{option_map}
use Rattle.ufs_damage.specs.Meaning.{meaning}
use Rattle.ufs_damage.specs.Kinds.{earlier_damage, has_this_name, is_known, twice_damage}
use Rattle.ufs_damage.proofs.Lists.{told_numbered, take_more, any_append, or_turned}
use Rattle.ufs_damage.proofs.names.push_twice_of.Goals as goal

pub loop-place-preserved : goal.loop-place-preserved
loop-place-preserved c =
    let slots = c.args.slots.now in
    let i = c.loop-place.place in
    let slot = c.index-slots-place.result in
    let inv = c.loop-place.invariant in
    record {
      known = λ other.
          c.in_ok-damage.ensures.noted other ∙ ap (λ b. has_this_name other slot || b) (inv.known other) ∙ or_turned (has_this_name other slot) (is_known (take i slots) other)
          ∙ sym (any_append (has_this_name other) (take i slots) (slot ∷ [])) ∙ ap (λ l. is_known l other) (sym (take_more slots i slot c.loop-place-test.true c.index-slots-place.is));
      told = told_numbered (earlier_damage slots c.args.dir) 0 i slots i slot c.args.list.now c.loop-place.list c.push_some.new.self (option_map meaning c.in_ok-damage.damage) c.loop-place-test.true c.index-slots-place.is (omega arith) inv.told
          (c.in_ok-damage.ensures.told ∙ ap (λ known. twice_damage known c.args.dir i slot) (λ t other. inv.known other t)) c.in_ok-push_some.ensures;
    }
